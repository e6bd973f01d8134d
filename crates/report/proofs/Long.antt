-- How long the lines are.
use Rattle.std.proofs.Common.{◌≡◌, ℕ, ◌+◌, ◌<◌, ◌≤◌, length, ℤ, decimal, arith, lit≤, length-append, w64, SFits}
use Rattle.std.specs.Fmt.{signed_decimal}
use Rattle.std.proofs.lemmas.Fmt.{length-decimal-le, length_signed_le}
use Rattle.std.proofs.lemmas.Int.{ints}
use Rattle.refusal.specs.declared.Layer.{Layer}
use Rattle.refusal.specs.declared.Layer.TheVariants.{File, Record, Book}
use Rattle.refusal.specs.Told.{layer_of, name_of}
use Rattle.report.specs.Line.{refusal_line, account_line}

pub byte_short : (n : ℕ) → n < 256 → length (decimal n) ≤ 3
byte_short n h = length-decimal-le 3 n (omega arith) (omega arith) (omega arith)

pub signed_short : (z : ℤ) → SFits w64 z → length (signed_decimal z) ≤ 20
signed_short z f = length_signed_le 19 z (omega (arith, ints)) (omega (arith, ints))

pub name_short : (l : Layer) → length (name_of l) ≤ 6
name_short File = lit≤ tt
name_short Record = lit≤ tt
name_short Book = lit≤ tt

pub refusal_length : (p n : ℕ) → length (refusal_line p n) ≡ length (decimal p) + length (name_of (layer_of n)) + length (decimal n) + 5
refusal_length p n = simp length-append (omega arith)

pub account_length : (m : ℕ) (x y : ℤ) → length (account_line m x y) ≡ length (decimal m) + length (signed_decimal x) + length (signed_decimal y) + 5
account_length m x y = simp length-append (omega arith)

-- The line of a refusal, any number, at a place of at most 32768.
pub refusal_short : (p n : ℕ) → p ≤ 32768 → n < 256 → length (refusal_line p n) ≤ 19
refusal_short p n h k =
    let long = refusal_length p n in
    let place : length (decimal p) ≤ 5 = length-decimal-le 5 p (omega arith) (omega arith) (omega arith) in
    let name = name_short (layer_of n) in
    let number = byte_short n k in
    omega arith

-- The line of an account of any member, with any numbers of 64 bits.
pub account_short : (m : ℕ) (x y : ℤ) → m < 256 → SFits w64 x → SFits w64 y → length (account_line m x y) ≤ 48
account_short m x y h f g =
    let long = account_length m x y in
    let member = byte_short m h in
    let balance = signed_short x f in
    let charged = signed_short y g in
    omega arith
