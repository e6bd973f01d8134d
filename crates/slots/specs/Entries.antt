-- The records that stand in slots: by key, by number, and by what they post.
use Rattle.std.specs.Prelude.{ℕ, ◌+◌, ◌-◌, Bool, true, false, cond, ◌&&◌, List, [], ◌∷◌, ℤ, Some, None, Option, option_map, position, ◌==◌, int_le}
use Rattle.std.specs.List.{list_any}
use Rattle.record.specs.declared.Posting.{Posting}
use Rattle.slots.specs.declared.Slot.{Slot}
use Rattle.slots.specs.declared.SlotState.{SlotState}
use Rattle.slots.specs.declared.SlotState.TheVariants.{Standing, Withdrawn}

abbrev pub stands : SlotState → Bool
stands Standing = true
stands Withdrawn = false

-- the number, counted from 1, of the first slot that passes a test
abbrev pub first_where : {R : Type 0} → (Slot R → Bool) → List (Slot R) → Option ℕ
first_where test ss = option_map (λ i. i + 1) (position test ss)

-- a standing slot with key k
abbrev pub hits : {R : Type 0} → (R → ℕ) → ℕ → Slot R → Bool
hits keyed k s = stands s.state && keyed s.item == k

-- the number of the standing record with key k
abbrev pub lookup : {R : Type 0} → (R → ℕ) → ℕ → List (Slot R) → Option ℕ
lookup keyed k ss = first_where (hits keyed k) ss

-- the record of a slot, if it stands
abbrev pub standing_in : {R : Type 0} → Slot R → Option R
standing_in s = cond (stands s.state) (Some s.item) None

-- the record of number n, counted from 1, if it stands
abbrev pub standing_at : {R : Type 0} → ℕ → List (Slot R) → Option R
standing_at n [] = None
standing_at n (s ∷ ss) = cond (n == 1) (standing_in s) (standing_at (n - 1) ss)

-- a posting of at least z to member m
abbrev pub is_such : ℕ → ℤ → Posting → Bool
is_such m z p = p.member == m && int_le z p.cents

-- some posting is such a one
abbrev pub gives : ℕ → ℤ → List Posting → Bool
gives m z ps = list_any (is_such m z) ps

-- a standing slot with such a posting
abbrev pub offers : {R : Type 0} → (R → List Posting) → ℕ → ℤ → Slot R → Bool
offers posted m z s = stands s.state && gives m z (posted s.item)
