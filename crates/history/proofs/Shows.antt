-- A book's slots, shown as the entries of the plain book.
use Rattle.std.proofs.Common.{◌≡◌, ℕ, zero, suc, ◌+◌, ◌-◌, ◌<◌, Bool, true, false, cond, ◌&&◌, ◌||◌, eqb, List, [], ◌∷◌, ◌++◌, map, set, Some, None, Option, option_map, sym, refl, ap, ◌∙◌, arith}
use lib.Seq.{map-set, set_at}
use Rattle.std.specs.List.{position_from}
use Rattle.std.proofs.lemmas.Iterator.Adapters.{position_from-zero}
use Rattle.std.proofs.lemmas.Bool.{eq-eqb, ne_eqb}
use Rattle.slots.specs.declared.Slot.{Slot}
use Rattle.slots.specs.declared.SlotState.{SlotState}
use Rattle.slots.specs.declared.SlotState.TheVariants.{Standing, Withdrawn}
use Rattle.slots.specs.Entries.{hits, lookup, standing_at, standing_in, stands}
use Rattle.slots.proofs.Numbers.{none_at_zero, skip}
use Rattle.history.specs.Plain.{Entry, all_standing, first_in, is_in, numbers_from, standing, standing_as, with_number, withdrawn}
use Rattle.history.specs.History.{entry_of}
use Rattle.history.proofs.Split.{Stood, changed_at}

first_cons : (b : Bool) (n : ℕ) (place : Option ℕ) (ns : List ℕ) → option_map (λ i. i + 1) place ≡ first_in ns → option_map (λ i. i + 1) (cond b (Some n) place) ≡ first_in (cond b ((n + 1) ∷ ns) ns)
first_cons true n place ns h = refl
first_cons false n place ns h = h

in_rest : (b : Bool) (n m : ℕ) (ns : List ℕ) → eqb n m ≡ false → is_in n (cond b (m ∷ ns) ns) ≡ is_in n ns
in_rest true n m ns h = ap (λ t. t || is_in n ns) h
in_rest false n m ns h = refl

in_front : (b : Bool) (n m : ℕ) (ns : List ℕ) → eqb n m ≡ true → is_in n ns ≡ false → is_in n (cond b (m ∷ ns) ns) ≡ b
in_front true n m ns h k = ap (λ t. t || is_in n ns) h
in_front false n m ns h k = k

module _ {R : Type 0} (test : Entry R → Bool) where
  -- the first slot that passes a test has the first of the numbers that pass it
  first_shown : (n : ℕ) (ss : List (Slot R)) → option_map (λ i. i + 1) (position_from (λ s. test (entry_of s)) n ss) ≡ first_in (numbers_from (n + 1) test (map entry_of ss))
  first_shown n [] = refl
  first_shown n (s ∷ ss) = first_cons (test (entry_of s)) n (position_from (λ s. test (entry_of s)) (n + 1) ss) (numbers_from (n + 1 + 1) test (map entry_of ss)) (first_shown (n + 1) ss)

  -- no number comes before the one that is counted from
  in_before : (m n : ℕ) (es : List (Entry R)) → n < m → is_in n (numbers_from m test es) ≡ false
  in_before m n [] h = refl
  in_before m n (e ∷ es) h = in_rest (test e) n m (numbers_from (m + 1) test es) (ne_eqb n m (λ z. omega arith)) ∙ in_before (m + 1) n es (omega arith)

-- whether there is a record, and it passes a test
abbrev pub and_passes : {R : Type 0} → (R → Bool) → Option R → Bool
and_passes test None = false
and_passes test (Some x) = test x

-- where a test passes the standing records that pass another, and no withdrawn one
module _ {R : Type 0} (test : Entry R → Bool) (also : R → Bool) (some : (x : R) → test (standing x) ≡ also x) (none : (x : R) → test (withdrawn (standing x)) ≡ false) where
  slot_shown : (x : R) (s : SlotState) → test (entry_of (record { item = x; state = s })) ≡ and_passes also (standing_in (record { item = x; state = s }))
  slot_shown x Standing = some x
  slot_shown x Withdrawn = none x

  -- number j is that of number n with m slots before these
  in_shown : (m n j : ℕ) (ss : List (Slot R)) → j ≡ m + n → is_in j (numbers_from (m + 1) test (map entry_of ss)) ≡ and_passes also (standing_at n ss)
  in_shown m n j [] e = refl
  in_shown m zero j (s ∷ ss) e = in_before test (m + 1) j (map entry_of (s ∷ ss)) (omega arith) ∙ ap (and_passes also) (sym (none_at_zero ss))
  in_shown m (suc zero) j (s ∷ ss) e = in_front (test (entry_of s)) j (m + 1) (numbers_from (m + 1 + 1) test (map entry_of ss)) (eq-eqb j (m + 1) (omega arith)) (in_before test (m + 1 + 1) j (map entry_of ss) (omega arith)) ∙ slot_shown s.item s.state
  in_shown m (suc (suc n)) j (s ∷ ss) e =
      in_rest (test (entry_of s)) j (m + 1) (numbers_from (m + 1 + 1) test (map entry_of ss)) (ne_eqb j (m + 1) (λ z. omega arith))
      ∙ in_shown (m + 1) (suc n) j ss (omega arith)
      ∙ ap (and_passes also) (sym (skip s ss (suc (suc n)) (suc n) refl (omega arith)))

-- whether the record of a number stands
pub stands_any : {R : Type 0} (n : ℕ) (ss : List (Slot R)) → is_in n (all_standing (map entry_of ss)) ≡ and_passes (λ _. true) (standing_at n ss)
stands_any n ss = in_shown (λ e. e.stands) (λ _. true) (λ x. refl) (λ x. refl) 0 n n ss (omega arith)

module _ {R : Type 0} (keyed : R → ℕ) (k : ℕ) where
  -- a look-up answers the first of the numbers that stand under the key
  pub looked : (ss : List (Slot R)) → lookup keyed k ss ≡ first_in (standing_as keyed k (map entry_of ss))
  looked ss = ap (option_map (λ i. i + 1)) (position_from-zero (hits keyed k) ss) ∙ first_shown (λ e. e.stands && eqb (keyed e.item) k) 0 ss

  -- whether the record of a number stands under the key
  pub stands_as : (n : ℕ) (ss : List (Slot R)) → is_in n (standing_as keyed k (map entry_of ss)) ≡ and_passes (λ x. eqb (keyed x) k) (standing_at n ss)
  stands_as n ss = in_shown (λ e. e.stands && eqb (keyed e.item) k) (λ x. eqb (keyed x) k) (λ x. refl) (λ x. refl) 0 n n ss (omega arith)

module _ {R : Type 0} where
  standing_entry : (s : SlotState) (x old : R) → Some old ≡ cond (stands s) (Some x) None → entry_of (record { item = x; state = s }) ≡ standing old
  standing_entry Standing x old h = let same : old ≡ x = cc in ap standing (sym same)
  standing_entry Withdrawn x old h = let z : ◌≡◌ {A = ℕ} 0 1 = cc in absurd (omega arith)

  -- a record that stands is the entry of its number
  pub stood : (n : ℕ) (old : R) (ss : List (Slot R)) → Some old ≡ standing_at n ss → Stood n old (map entry_of ss)
  stood n old [] h = let z : ◌≡◌ {A = ℕ} 0 1 = cc in absurd (omega arith)
  stood zero old (s ∷ ss) h = let none : standing_at 0 (s ∷ ss) ≡ None = none_at_zero ss in let z : ◌≡◌ {A = ℕ} 0 1 = cc in absurd (omega arith)
  stood (suc zero) old (s ∷ ss) h = record { front = []; back = map entry_of ss; is = ap (λ e. e ∷ map entry_of ss) (standing_entry s.state s.item old h); at = refl }
  stood (suc (suc n)) old (s ∷ ss) h =
      let rest : Stood (suc n) old (map entry_of ss) = stood (suc n) old ss (h ∙ skip s ss (suc (suc n)) (suc n) refl (omega arith)) in
      record { front = entry_of s ∷ rest.front; back = rest.back; is = ap (λ es. entry_of s ∷ es) rest.is; at = omega (arith, rest.at) }

  -- the slot of a standing record is written
  pub written : (n : ℕ) (old : R) (ss : List (Slot R)) (new : Slot R) (f : Entry R → Entry R) → Stood n old (map entry_of ss) → f (standing old) ≡ entry_of new →
      map entry_of (set ss (n - 1) new) ≡ with_number n f (map entry_of ss)
  written n old ss new f there same =
      map-set entry_of ss (n - 1) new
      ∙ ap (λ es. set es (n - 1) (entry_of new)) there.is
      ∙ set_at there.front (standing old) there.back (entry_of new) (n - 1) (omega (arith, there.at))
      ∙ ap (λ e. there.front ++ e ∷ there.back) (sym same)
      ∙ sym (changed_at n f there.front there.back (standing old) there.at)
      ∙ ap (with_number n f) (sym there.is)
