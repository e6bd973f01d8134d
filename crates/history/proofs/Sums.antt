-- Sums of signed numbers over the members, and their bounds.
use Rattle.std.proofs.Common.{◌≡◌, ℕ, zero, suc, ◌+◌, ◌-◌, ◌*◌, ◌^◌, ◌<◌, ◌≤◌, Bool, true, false, cond, eqb, leb, List, [], ◌∷◌, ◌++◌, map, length, get_or, replicate, ℤ, pos, negsuc, ◌+ℤ◌, refl, ap, ◌∙◌, ap₂, ⊎_elim, arith}
use Rattle.std.proofs.lemmas.Int.{ints}
use Rattle.std.proofs.lemmas.List.FromFn.{get_or-map-range_with_len}
use Rattle.std.proofs.lemmas.List.{get_or-replicate}
use Rattle.std.proofs.lemmas.Bool.{eq-eqb, ne_eqb, cases_eq, and_parts, and_from, le-leb, leb-true}
use Rattle.std.specs.List.{range_with_len, AllByRecursion}
use Rattle.std.specs.Int.{saturate_to_bits}
use Rattle.amounts.specs.Cut.{total}
use Rattle.amounts.specs.Floor.{Under}
use Rattle.record.specs.declared.Posting.{Posting}
use Rattle.record.specs.Meaning.{total as posted_total, Fair}
use Rattle.record.specs.Reading.{is_member}
use Rattle.history.specs.Plain.{Entry, of_member, per_member, share, sum_of}

-- members are numbered 1 to 32
pub member_within : (m : ℕ) → is_member m ≡ true → (1 ≤ m) × (m ≤ 32)
member_within m is = let parts = and_parts (leb 1 m) (leb m 32) is in (leb-true 1 m parts.0, leb-true m 32 parts.1)

-- a member's figure in a row of all
pub of_row : (f : ℕ → ℤ) (m : ℕ) → is_member m ≡ true → of_member m (per_member f) ≡ f m
of_row f m is = let w = member_within m is in get_or-map-range_with_len f 1 32 (m - 1) m (pos 0) (omega arith) (omega arith)

-- one thing for each of 32 members
pub of_same : {X : Type 0} (x : X) (m : ℕ) → is_member m ≡ true → get_or (replicate 32 x) (m - 1) x ≡ x
of_same x m is = let w = member_within m is in get_or-replicate 32 (m - 1) x x (omega arith)

module _ (f g : ℕ → ℤ) (same : (m : ℕ) → is_member m ≡ true → f m ≡ g m) where
  same_from : (s n : ℕ) → 1 ≤ s → s + n ≤ 33 → map f (range_with_len s n) ≡ map g (range_with_len s n)
  same_from s zero low high = refl
  same_from s (suc n) low high =
      let is : is_member s ≡ true = and_from (leb 1 s) (leb s 32) (le-leb 1 s low) (le-leb s 32 (omega arith)) in
      let here = same s is in
      let rest = same_from (s + 1) n (omega arith) (omega arith) in
      cc

  -- two rows with the same figure for each member
  pub same_row : per_member f ≡ per_member g
  same_row = same_from 1 32 (omega arith) (omega arith)

-- the total of two figures for each
pub total_add : (f g : ℕ → ℤ) (ms : List ℕ) → total (map (λ m. f m +ℤ g m) ms) ≡ total (map f ms) +ℤ total (map g ms)
total_add f g [] = refl
total_add f g (m ∷ ms) = let rest = total_add f g ms in omega (arith, ints)

total_none : (ms : List ℕ) → total (map (λ _. pos 0) ms) ≡ pos 0
total_none [] = refl
total_none (m ∷ ms) = let rest = total_none ms in omega (arith, ints)

pub total_append : (xs ys : List ℤ) → total (xs ++ ys) ≡ total xs +ℤ total ys
total_append [] ys = omega (arith, ints)
total_append (x ∷ xs) ys = let rest = total_append xs ys in omega (arith, ints)

-- member a's amount c, in a row with nothing for the others
module _ (a : ℕ) (c : ℤ) where
  abbrev only : ℕ → ℤ
  only m = cond (eqb a m) c (pos 0)

  -- from a number beyond a
  none_from : (s n : ℕ) → a < s → total (map only (range_with_len s n)) ≡ pos 0
  none_from s zero past = refl
  none_from s (suc n) past =
      let rest = none_from (s + 1) n (omega arith) in
      rw (ne_eqb a s (λ e. omega arith)) (omega (arith, ints))

  -- from a number up to a
  one_from : (s n : ℕ) → s ≤ a → a < s + n → total (map only (range_with_len s n)) ≡ c
  one_from s zero low high = absurd (omega arith)
  one_from s (suc n) low high =
      ⊎_elim
      (λ (e : a ≡ s). let rest = none_from (s + 1) n (omega arith) in rw (eq-eqb a s e) (omega (arith, ints)))
      (λ (ne : a ≡ s → ⊥). let rest = one_from (s + 1) n (omega arith) (omega arith) in rw (ne_eqb a s ne) (omega (arith, ints)))
      (cases_eq a s)

-- the members' shares of some postings are all that was posted
shares : (ps : List Posting) → AllByRecursion Fair ps → total (per_member (λ m. share m ps)) ≡ posted_total ps
shares [] fair = total_none (range_with_len 1 32)
shares (p ∷ ps) fair =
    let here = fair.0 in
    total_add (only p.member p.cents) (λ m. share m ps) (range_with_len 1 32)
    ∙ ap₂ ◌+ℤ◌ (one_from p.member p.cents 1 32 here.first (omega arith)) (shares ps fair.1)

under_cond : (b : Bool) (n : ℕ) (z : ℤ) → Under n z → Under n (cond b z (pos 0))
under_cond true n z u = u
under_cond false n z u = omega (arith, ints)

-- what one posting moves a member by
pub part_under : (m : ℕ) (p : Posting) → Fair p → Under 20000000000 (cond (eqb p.member m) p.cents (pos 0))
part_under m p fair = under_cond (eqb p.member m) 20000000000 p.cents (fair.low, fair.high)

-- and what some postings do
share_under : (m : ℕ) (ps : List Posting) → AllByRecursion Fair ps → Under (length ps * 20000000000) (share m ps)
share_under m [] fair = omega (arith, ints)
share_under m (p ∷ ps) fair =
    let one = part_under m p fair.0 in
    let rest = share_under m ps fair.1 in
    omega (arith, ints)

-- what lies within 64 bits is held as it is
pub saturated_is : (z : ℤ) → Under (2 ^ 63 - 1) z → saturate_to_bits 63 z ≡ z
saturated_is (pos n) u = ap pos (let h : n < 2 ^ 63 = omega (arith, ints) in omega arith)
saturated_is (negsuc n) u = ap negsuc (let h : n < 2 ^ 63 = omega (arith, ints) in omega arith)

module _ {R : Type 0} (posted : R → List Posting) where
  pub sum_append : (m : ℕ) (es fs : List (Entry R)) → sum_of posted m (es ++ fs) ≡ sum_of posted m es +ℤ sum_of posted m fs
  sum_append m [] fs = omega (arith, ints)
  sum_append m (e ∷ es) fs = let rest = sum_append m es fs in omega (arith, ints)

module _ {R : Type 0} (posted : R → List Posting) (nought : (r : R) → posted_total (posted r) ≡ pos 0) (fair : (r : R) → AllByRecursion Fair (posted r)) where
  -- an entry moves all members by nothing in all, whether it stands or not
  entry_even : (b : Bool) (r : R) → total (per_member (λ m. cond b (share m (posted r)) (pos 0))) ≡ pos 0
  entry_even true r = shares (posted r) (fair r) ∙ nought r
  entry_even false r = total_none (range_with_len 1 32)

  -- the members' sums add up to zero
  pub sums_even : (es : List (Entry R)) → total (per_member (λ m. sum_of posted m es)) ≡ pos 0
  sums_even [] = total_none (range_with_len 1 32)
  sums_even (e ∷ es) =
      total_add (λ m. cond e.stands (share m (posted e.item)) (pos 0)) (λ m. sum_of posted m es) (range_with_len 1 32)
      ∙ ap₂ ◌+ℤ◌ (entry_even e.stands e.item) (sums_even es)

module _ {R : Type 0} (posted : R → List Posting) (few : (r : R) → length (posted r) ≤ 64) (fair : (r : R) → AllByRecursion Fair (posted r)) where
  -- each entry moves a member by no more than 64 postings do
  pub sum_under : (m : ℕ) (es : List (Entry R)) → Under (length es * (64 * 20000000000)) (sum_of posted m es)
  sum_under m [] = omega (arith, ints)
  sum_under m (e ∷ es) =
      let few-here = few e.item in
      let here = share_under m (posted e.item) (fair e.item) in
      let one = under_cond e.stands (64 * 20000000000) (share m (posted e.item)) (omega (arith, ints)) in
      let rest = sum_under m es in
      omega (arith, ints)
