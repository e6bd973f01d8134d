-- The first slot with a posting, as a search may answer it.
use Rattle.std.proofs.Common.{◌≡◌, ℕ, zero, suc, ◌+◌, ◌<◌, ◌≤◌, ltb, Bool, true, false, cond, ◌&&◌, List, [], ◌∷◌, length, get_or, ℤ, Some, None, Ok, Option, option_map, position, sym, refl, ap, ◌∙◌, subst, ⊎_elim, arith}
use Rattle.std.specs.List.{position_or_len}
use Rattle.std.proofs.lemmas.Bool.{cases_lt, ltb-false}
use Rattle.std.proofs.lemmas.List.Quantifiers.{position-Some}
use Rattle.std.proofs.lemmas.List.Sums.{fails_before_first}
use Rattle.record.specs.declared.Posting.{Posting}
use Rattle.record.specs.Reading.{is_member}
use Rattle.slots.specs.declared.Slot.{Slot}
use Rattle.slots.specs.Entries.{first_where, gives, offers, standing_at, stands}
use Rattle.slots.proofs.Numbers.{at_place, none_at_zero, none_past}
use Rattle.whole_book.specs.Questions.{Finds}

module _ {R : Type 0} (posted : R → List Posting) (m : ℕ) (z : ℤ) where
  abbrev test : Slot R → Bool
  test = offers posted m z

  both : (b : Bool) (x : R) → (b && gives m z (posted x)) ≡ true → (cond b (Some x) None ≡ Some x) × (gives m z (posted x) ≡ true)
  both true x h = (refl, h)
  both false x h = let e : ◌≡◌ {A = ℕ} 0 1 = cc in absurd (omega arith)

  -- a standing record in a slot that does not offer the posting
  silent : (b : Bool) (y x : R) → (b && gives m z (posted y)) ≡ false → cond b (Some y) None ≡ Some x → gives m z (posted x) ≡ false
  silent true y x fails h = let same : y ≡ x = cc in ap (λ r. gives m z (posted r)) (sym same) ∙ fails
  silent false y x fails h = let e : ◌≡◌ {A = ℕ} 0 1 = cc in absurd (omega arith)

  unpassed : (b : Bool) (i : ℕ) → cond b (Some i) None ≡ None → b ≡ false
  unpassed true i h = let e : ◌≡◌ {A = ℕ} 0 1 = cc in absurd (omega arith)
  unpassed false i h = refl

  module _ (es : List (Slot R)) (d : Slot R) where
    found : (i : ℕ) → position test es ≡ Some i → (x : R) × ((standing_at (i + 1) es ≡ Some x) × (gives m z (posted x) ≡ true))
    found i h =
        let first = position-Some test es i d h in
        let s = get_or es i d in
        let f = both (stands s.state) s.item first.1 in
        let up : i + 1 ≡ suc i = omega arith in
        (s.item, (ap (λ n. standing_at n es) up ∙ at_place es i d first.0 ∙ f.0, f.1))

    none : position test es ≡ None → (j : ℕ) (x : R) → standing_at j es ≡ Some x → gives m z (posted x) ≡ false
    none h zero x there = let no = none_at_zero es in let e : ◌≡◌ {A = ℕ} 0 1 = cc in absurd (omega arith)
    none h (suc i) x there =
        let s = get_or es i d in
        let all = ltb-false (position_or_len test es) (length es) (unpassed (ltb (position_or_len test es) (length es)) _ h) in
        ⊎_elim
        (λ (within : i < length es). silent (stands s.state) s.item x (fails_before_first test es i d (omega arith)) (sym (at_place es i d within) ∙ there))
        (λ (past : length es ≤ i). let no = none_past es (suc i) (omega arith) in let e : ◌≡◌ {A = ℕ} 0 1 = cc in absurd (omega arith))
        (cases_lt i (length es))

    answered : (place o : Option ℕ) → is_member m ≡ true → position test es ≡ place → o ≡ option_map (λ i. i + 1) place → Finds posted m z es (Ok o)
    answered None o member h is = subst (λ o. Finds posted m z es (Ok o)) (sym is) (member, none h)
    answered (Some i) o member h is = let f = found i h in subst (λ o. Finds posted m z es (Ok o)) (sym is) (member, f.0, f.1)

  pub finds : (es : List (Slot R)) (o : Option ℕ) → is_member m ≡ true → o ≡ first_where test es → Finds posted m z es (Ok o)
  finds [] o member is = subst (λ o. Finds posted m z [] (Ok o)) (sym is) (member, λ j x there. let e : ◌≡◌ {A = ℕ} 0 1 = cc in absurd (omega arith))
  finds (s ∷ ss) o member is = answered (s ∷ ss) s _ o member refl is
