-- Cutting: exact amounts, as numerators over a common divisor d above 0, turned into whole parts.
-- The running sum is rounded down, and a part is that figure less the figure before it, which starts at 0.
use Rattle.std.specs.Prelude.{ℕ, List, [], ◌∷◌, ℤ, pos, ◌+ℤ◌, ◌-ℤ◌}
use Rattle.amounts.specs.Floor.{floor_div}

abbrev pub total : List ℤ → ℤ
total [] = pos 0
total (x ∷ xs) = x +ℤ total xs

-- the parts of xs, where the amounts before them add up to s
abbrev pub cutting_from : ℕ → ℤ → List ℤ → List ℤ
cutting_from d s [] = []
cutting_from d s (x ∷ xs) = (floor_div (s +ℤ x) d -ℤ floor_div s d) ∷ cutting_from d (s +ℤ x) xs

abbrev pub cutting : ℕ → List ℤ → List ℤ
cutting d xs = cutting_from d (pos 0) xs
