-- How the values of a type stand in bytes, with both round trips.
use Rattle.std.specs.Prelude.{◌≡◌, ℕ, ◌^◌, ◌<◌, List, length, ℤ, FitsSigned}
use Rattle.std.specs.Int.{Width, byte_len}
use Rattle.std.specs.List.{AllByRecursion}
use mir.Val.{of_z, bits}
use Rattle.wire.specs.Bytes.{Byte, bytes, number, signed_bytes, signed_number}
use Rattle.wire.specs.Fields.{length_bytes, bytes_at_width, whole_bytes, unsigned_back, of_z_below, signed_back, signed_forth}

pub record Form (A : Type 0) : Type 1 where
  -- how many bytes
  pub wide : ℕ
  -- the values that the type can hold
  pub held : A → Type 0
  pub encoded : A → List ℕ
  pub decoded : List ℕ → A
  pub long : (v : A) → length (encoded v) ≡ wide
  pub back : (v : A) → held v → decoded (encoded v) ≡ v
  pub forth : (bs : List ℕ) → AllByRecursion Byte bs → length bs ≡ wide → encoded (decoded bs) ≡ bs

-- the numbers of this width
abbrev pub unsigned : Width → Form ℕ
unsigned w = record {
  wide = byte_len w;
  held = λ v. v < 2 ^ bits w;
  encoded = bytes (byte_len w);
  decoded = number;
  long = length_bytes (byte_len w);
  back = unsigned_back w;
  forth = bytes_at_width (byte_len w);
}

-- the signed numbers of this width
abbrev pub signed : Width → Form ℤ
signed w = record {
  wide = byte_len w;
  held = FitsSigned w;
  encoded = signed_bytes w (byte_len w);
  decoded = signed_number w;
  long = λ z. length_bytes (byte_len w) (of_z w z);
  back = λ z f. signed_back w (byte_len w) (whole_bytes w) z (of_z_below w z f) f;
  forth = signed_forth w (byte_len w) (whole_bytes w);
}
