-- Both round trips of a number and its bytes, over any width.
use Rattle.std.specs.Prelude.{◌≡◌, ℕ, zero, suc, ◌+◌, ◌*◌, ◌/◌, ◌%◌, ◌^◌, ◌<◌, ◌≤◌, List, [], ◌∷◌, length, take, drop, ℤ, FitsSigned, slice_index, refl}
use Rattle.std.proofs.Common.{sym, ap, ◌∙◌, arith, mod-eq_of_lt, mod-lt, mul_assoc, add_comm, drop-cons}
use Rattle.std.proofs.Math.Nat.{one-le-pow, pow-succ', add-mul-div_right, add-mul-mod_self_right}
use Rattle.std.proofs.Math.Facts.{Fits-of_z, Fits-lt-pow}
use Rattle.std.proofs.Math.Arith.{mod-mul, digits_lt, digits_div}
use Rattle.std.specs.Int.{Width, w8, w16, w32, w64, w128, byte_len}
use mir.Val.{to_z, of_z, bits}
use Rattle.std.specs.List.{AllByRecursion}
use Rattle.std.proofs.lemmas.List.{take_all}
use Rattle.std.proofs.lemmas.Int.{to_z-of_z, of_z-to_z}
use Rattle.wire.specs.Bytes.{Byte, bytes, number, signed_bytes, signed_number}

pub length_bytes : (n v : ℕ) → length (bytes n v) ≡ n
length_bytes zero v = refl
length_bytes (suc n) v = ap suc (length_bytes n v)

some : (n : ℕ) → 0 < 256 ^ n
some n = one-le-pow n 256 (omega arith)

-- the number of the n lowest bytes of v
pub number_bytes : (n v : ℕ) → number (bytes n v) ≡ v % 256 ^ n
number_bytes zero v = omega (arith, mod-lt v (some 0))
number_bytes (suc n) v =
    let e = mod-mul v (omega arith) (some n) in
    simp (length_bytes n v, number_bytes n v, pow-succ') (sym e)

-- a number that n bytes can hold is the number of its bytes
pub number_back : (n v : ℕ) → v < 256 ^ n → number (bytes n v) ≡ v
number_back n v h = number_bytes n v ∙ mod-eq_of_lt h

pub number_below : (bs : List ℕ) → AllByRecursion Byte bs → number bs < 256 ^ length bs
number_below [] all = omega arith
number_below (b ∷ bs) all = let l = digits_lt all.0 (number_below bs all.1) in omega (arith, pow-succ' 256 (length bs))

-- what stands above the n lowest bytes does not show in them
low_bytes : (n q m : ℕ) → bytes n (m + q * 256 ^ n) ≡ bytes n m
low_bytes zero q m = refl
low_bytes (suc n) q m =
    let up : q * 256 ^ suc n ≡ q * 256 * 256 ^ n = simp (pow-succ', mul_assoc) in
    simp (up, add-mul-div_right m (q * 256) (some n), add-mul-mod_self_right (m / 256 ^ n) q 256, low_bytes n (q * 256) m)

-- bytes are the bytes of their number
pub bytes_forth : (bs : List ℕ) → AllByRecursion Byte bs → bytes (length bs) (number bs) ≡ bs
bytes_forth [] all = refl
bytes_forth (b ∷ bs) all =
    let low : bytes (length bs) (b * 256 ^ length bs + number bs) ≡ bs = rw (add_comm (b * 256 ^ length bs) (number bs)) (low_bytes (length bs) b (number bs) ∙ bytes_forth bs all.1) in
    simp (digits_div b (number_below bs all.1), mod-eq_of_lt all.0, low)

-- the same at a stated width
pub bytes_at_width : (n : ℕ) (bs : List ℕ) → AllByRecursion Byte bs → length bs ≡ n → bytes n (number bs) ≡ bs
bytes_at_width n bs all e = ap (λ k. bytes k (number bs)) (sym e) ∙ bytes_forth bs all

-- each width is a whole number of bytes
pub whole_bytes : (w : Width) → 2 ^ bits w ≡ 256 ^ byte_len w
whole_bytes w8 = refl
whole_bytes w16 = refl
whole_bytes w32 = refl
whole_bytes w64 = refl
whole_bytes w128 = refl

-- a number that fits this width is the number of its bytes
pub unsigned_back : (w : Width) (v : ℕ) → v < 2 ^ bits w → number (bytes (byte_len w) v) ≡ v
unsigned_back w v h = number_back (byte_len w) v (let e = whole_bytes w in omega arith)

-- two's complement of a number that fits this width fits it too
pub of_z_below : (w : Width) (z : ℤ) → FitsSigned w z → of_z w z < 2 ^ bits w
of_z_below w z f = Fits-lt-pow (Fits-of_z f)

-- signed numbers: the width w has n bytes
module _ (w : Width) (n : ℕ) (whole : 2 ^ bits w ≡ 256 ^ n) where
  pub signed_back : (z : ℤ) → of_z w z < 2 ^ bits w → FitsSigned w z → signed_number w (signed_bytes w n z) ≡ z
  signed_back z h f = ap (to_z w) (number_back n (of_z w z) (omega arith)) ∙ to_z-of_z w z f

  pub signed_forth : (bs : List ℕ) → AllByRecursion Byte bs → length bs ≡ n → signed_bytes w n (signed_number w bs) ≡ bs
  signed_forth bs all e =
      let small = number_below bs all in
      let same = ap (λ k. 256 ^ k) e in
      ap (bytes n) (of_z-to_z w (number bs) (omega arith)) ∙ bytes_at_width n bs all e

-- n elements from place k on, one by one
abbrev pub spread : ℕ → ℕ → List ℕ → List ℕ
spread k zero xs = []
spread k (suc n) xs = slice_index xs k ∷ spread (suc k) n xs

pub spread_is : (k n : ℕ) (xs : List ℕ) → k + n ≤ length xs → take n (drop k xs) ≡ spread k n xs
spread_is k zero xs h = refl
spread_is k (suc n) xs h =
    let l : k < length xs = omega arith in
    ap (take (suc n)) (drop-cons xs k 0 l) ∙ ap (λ t. slice_index xs k ∷ t) (spread_is (suc k) n xs (omega arith))

-- a list of n elements
pub spread_all : (n : ℕ) (xs : List ℕ) → length xs ≡ n → xs ≡ spread 0 n xs
spread_all n xs e = sym (take_all n xs (omega arith)) ∙ spread_is 0 n xs (omega arith)
