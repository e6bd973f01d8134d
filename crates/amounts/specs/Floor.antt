-- Division rounded to a whole number.
use Rattle.std.specs.Prelude.{ℕ, ◌/◌, ℤ, pos, negsuc, ◌+ℤ◌, neg_ℤ, ◌≤ℤ◌}

-- x / d rounded down, for d above 0 (negsuc a is -(a + 1))
abbrev pub floor_div : ℤ → ℕ → ℤ
floor_div (pos a) d = pos (a / d)
floor_div (negsuc a) d = negsuc (a / d)

-- x / d rounded up, for d above 0
abbrev pub ceil_div : ℤ → ℕ → ℤ
ceil_div x d = neg_ℤ (floor_div (neg_ℤ x) d)

-- v / 1000 rounded to the nearest whole number, an exact half going up
abbrev pub nearest : ℤ → ℤ
nearest v = floor_div (v +ℤ pos 500) 1000

-- -b ≤ z ≤ b
abbrev pub Under : ℕ → ℤ → Type 0
Under b z = ((neg_ℤ (pos b)) ≤ℤ z) × (z ≤ℤ (pos b))
