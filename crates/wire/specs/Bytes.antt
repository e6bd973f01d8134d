-- Numbers as bytes, the highest byte first, and bytes written into a page.
use Rattle.std.specs.Prelude.{ℕ, zero, suc, ◌+◌, ◌*◌, ◌/◌, ◌%◌, ◌^◌, ◌<◌, List, [], ◌∷◌, ◌++◌, length, take, drop, ℤ, Ok, Err, Result}
use Rattle.std.specs.Int.{Width}
use Rattle.std.proofs.Common.{to_z, of_z}

-- a number that a byte can hold
abbrev pub Byte : ℕ → Type 0
Byte b = b < 256

-- the n lowest bytes of v
abbrev pub bytes : ℕ → ℕ → List ℕ
bytes zero v = []
bytes (suc n) v = (v / 256 ^ n % 256) ∷ bytes n v

-- the number in these bytes
abbrev pub number : List ℕ → ℕ
number [] = 0
number (b ∷ bs) = b * 256 ^ length bs + number bs

-- signed numbers, in two's complement of this width
abbrev pub signed_bytes : Width → ℕ → ℤ → List ℕ
signed_bytes w n z = bytes n (of_z w z)

abbrev pub signed_number : Width → List ℕ → ℤ
signed_number w bs = to_z w (number bs)

-- k bytes from a place on
abbrev pub part : ℕ → ℕ → List ℕ → List ℕ
part at k xs = take k (drop at xs)

-- the bytes of a page with bs written from a place on
abbrev pub placed : ℕ → List ℕ → List ℕ → List ℕ
placed at bs xs = take at xs ++ (bs ++ drop (at + length bs) xs)

-- the page after a call that was to write bs there: a refusal leaves it as it was
abbrev pub page_after : {A F : Type 0} → Result A F → ℕ → List ℕ → List ℕ → List ℕ
page_after (Ok _) at bs page = placed at bs page
page_after (Err _) at bs page = page
