-- What rounding and cutting promise.
use Rattle.std.specs.Prelude.{◌≡◌, ℕ, ◌<◌, List, length, ℤ, pos, ◌+ℤ◌, ◌*ℤ◌, ◌≤ℤ◌, slice_index_or}
use Rattle.amounts.specs.Floor.{floor_div, ceil_div, nearest}
use Rattle.amounts.specs.Cut.{total, cutting}

-- floor_div x d is the greatest whole number not above x / d
abbrev pub RoundsDown : Type 0
RoundsDown = (x : ℤ) (d : ℕ) → 0 < d → ((floor_div x d *ℤ pos d) ≤ℤ x) × ((q : ℤ) → (q *ℤ pos d) ≤ℤ x → q ≤ℤ (floor_div x d))

-- nearest v is the greatest whole number not above (v + 500) / 1000
abbrev pub RoundsToNearest : Type 0
RoundsToNearest = (v : ℤ) → ((nearest v *ℤ pos 1000) ≤ℤ (v +ℤ pos 500)) × ((q : ℤ) → (q *ℤ pos 1000) ≤ℤ (v +ℤ pos 500) → q ≤ℤ (nearest v))

-- the parts add up to the total, rounded down
abbrev pub AddsUp : Type 0
AddsUp = (d : ℕ) (xs : List ℤ) → total (cutting d xs) ≡ floor_div (total xs) d

-- each part lies between its exact amount rounded down and rounded up
abbrev pub LiesBetween : Type 0
LiesBetween = (d : ℕ) (xs : List ℤ) (i : ℕ) → 0 < d → i < length xs → ((floor_div (slice_index_or xs i (pos 0)) d) ≤ℤ (slice_index_or (cutting d xs) i (pos 0))) × ((slice_index_or (cutting d xs) i (pos 0)) ≤ℤ (ceil_div (slice_index_or xs i (pos 0)) d))

-- a whole number not below an exact amount is not below its part, and one not above it is not above its part
abbrev pub KeepsBounds : Type 0
KeepsBounds = (d : ℕ) (xs : List ℤ) (i : ℕ) (k : ℤ) → 0 < d → i < length xs → ((slice_index_or xs i (pos 0)) ≤ℤ (k *ℤ pos d) → (slice_index_or (cutting d xs) i (pos 0)) ≤ℤ k) × ((k *ℤ pos d) ≤ℤ (slice_index_or xs i (pos 0)) → k ≤ℤ (slice_index_or (cutting d xs) i (pos 0)))

-- the parts are as many as the amounts
abbrev pub AsMany : Type 0
AsMany = (d : ℕ) (xs : List ℤ) → length (cutting d xs) ≡ length xs
