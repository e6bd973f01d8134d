-- Division that rounds down.
use Rattle.std.proofs.Common.{◌≡◌, ℕ, ◌+◌, ◌-◌, ◌*◌, ◌^◌, ◌<◌, ◌≤◌, ℤ, pos, negsuc, ◌+ℤ◌, ◌-ℤ◌, ◌*ℤ◌, neg_ℤ, ◌≤ℤ◌, ◌<ℤ◌, ap, mul-le-mul_right, mod-lt, div-add-mod', arith, w64, SFits}
use Rattle.std.specs.Int.{int_div_euclid}
use borrow.Author.Differences.{up, down, ints}
use Rattle.std.proofs.lemmas.Nat.{mul-le}
use Rattle.std.specs.Prelude.{unsigned_abs}
use Rattle.std.proofs.lemmas.Int.{by_lt_z, unsigned_abs-mul}
use Rattle.amounts.specs.Floor.{floor_div, ceil_div, nearest, Under}
use Rattle.amounts.specs.Laws.{RoundsDown, RoundsToNearest}

-- for `omega`: q * d ≤ x < q * d + d, an integer z read as up z - down z
pub floor_is : (x : ℤ) (d : ℕ) → 0 < d → (up (floor_div x d) * d + down x ≤ up x + down (floor_div x d) * d) × (up x + down (floor_div x d) * d < up (floor_div x d) * d + d + down x)
floor_is (pos a) d h = omega (arith, div-add-mod' a d, mod-lt a h)
floor_is (negsuc a) d h = omega (arith, div-add-mod' a d, mod-lt a h)

-- the library's quotient by a number y that is d
pub euclid_is : (x y : ℤ) (d : ℕ) → y ≡ pos d → int_div_euclid x y ≡ floor_div x d
euclid_is (pos a) y d e = ap (int_div_euclid (pos a)) e
euclid_is (negsuc a) y d e = ap (int_div_euclid (negsuc a)) e

-- p * d < k * d + d gives p ≤ k
pub below_whole : (p k : ℤ) (d : ℕ) → (p *ℤ pos d) <ℤ (k *ℤ pos d +ℤ pos d) → p ≤ℤ k
below_whole p k d h = by_lt_z k p (λ l.
    let m : up k + down p + 1 ≤ up p + down k = omega (arith, ints) in
    absurd (omega (arith, ints, mul-le-mul_right d m))) (λ l. l)

pub rounds_down : RoundsDown
rounds_down x d h =
    let f = floor_is x d h in
    (omega (arith, ints), λ q l. below_whole q (floor_div x d) d (omega (arith, ints)))

pub rounds_to_nearest : RoundsToNearest
rounds_to_nearest v = rounds_down (v +ℤ pos 500) 1000 (omega arith)

-- a product of a sum: the fact on the sum goes in multiplied
pub sub_times : (a b : ℤ) (d : ℕ) → (a -ℤ b) *ℤ pos d ≡ a *ℤ pos d -ℤ b *ℤ pos d
sub_times a b d =
    let s : up (a -ℤ b) + down a + up b ≡ down (a -ℤ b) + up a + down b = omega (arith, ints) in
    let m = ap (λ n. n * d) s in
    omega (arith, ints)

neg_times : (z : ℤ) (d : ℕ) → neg_ℤ z *ℤ pos d ≡ neg_ℤ (z *ℤ pos d)
neg_times z d =
    let s : up (neg_ℤ z) + up z ≡ down (neg_ℤ z) + down z = omega (arith, ints) in
    let m = ap (λ n. n * d) s in
    omega (arith, ints)

-- x / d rounded up is not below x / d
pub ceil_above : (x : ℤ) (d : ℕ) → 0 < d → x ≤ℤ (ceil_div x d *ℤ pos d)
ceil_above x d h =
    let f = floor_is (neg_ℤ x) d h in
    let e = neg_times (floor_div (neg_ℤ x) d) d in
    omega (arith, ints)

-- what a running sum s, rounded down, gains with x is less than 1 off x / d
pub near : (s x : ℤ) (d : ℕ) → 0 < d → (((floor_div (s +ℤ x) d -ℤ floor_div s d) *ℤ pos d) <ℤ (x +ℤ pos d)) × (x <ℤ ((floor_div (s +ℤ x) d -ℤ floor_div s d) *ℤ pos d +ℤ pos d))
near s x d h =
    let f = floor_is (s +ℤ x) d h in
    let g = floor_is s d h in
    let e = sub_times (floor_div (s +ℤ x) d) (floor_div s d) d in
    omega (arith, ints)

-- so it fits 64 bits where x does: s, t, r and b are found from the equations
pub gain_fits : (s x t r b : ℤ) (d : ℕ) → r ≡ floor_div t d → b ≡ floor_div s d → t ≡ s +ℤ x → 0 < d → SFits w64 x → SFits w64 (r -ℤ b)
gain_fits s x t r b d er eb te h f =
    let n = near s x d h in
    let high = below_whole (floor_div (s +ℤ x) d -ℤ floor_div s d) (pos (2 ^ 63 - 1)) d (omega (arith, ints)) in
    let low = below_whole (negsuc (2 ^ 63 - 1)) (floor_div (s +ℤ x) d -ℤ floor_div s d) d (omega (arith, ints)) in
    let e = ap (λ z. floor_div z d) te in
    omega (arith, ints)

-- a product of two numbers with bounds
pub times_under : (x y : ℤ) (a b : ℕ) → Under a x → Under b y → Under (a * b) (x *ℤ y)
times_under x y a b h k =
    let l = mul-le (unsigned_abs x) (unsigned_abs y) a b (omega (arith, ints)) (omega (arith, ints)) in
    let e = unsigned_abs-mul x y in
    omega (arith, ints)

-- the nearest cent of a number with a bound
pub nearest_under : (v : ℤ) (b : ℕ) → Under (1000 * b) v → Under b (nearest v)
nearest_under v b h = let f = floor_is (v +ℤ pos 500) 1000 (omega arith) in omega (arith, ints)
