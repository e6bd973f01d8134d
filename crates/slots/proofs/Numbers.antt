-- The record of a number.
use Rattle.std.proofs.Common.{◌≡◌, ℕ, zero, suc, ◌-◌, ◌<◌, ◌≤◌, false, cond, eqb, List, [], ◌∷◌, length, get_or, Some, None, Option, refl, ap, ◌∙◌, ⊎_elim, arith}
use Rattle.std.proofs.lemmas.Bool.{ne_eqb, cases_lt}
use Rattle.slots.specs.declared.Slot.{Slot}
use Rattle.slots.specs.Entries.{standing_at, standing_in}

module _ {R : Type 0} where
  pub none_at_zero : (xs : List (Slot R)) → standing_at 0 xs ≡ None
  none_at_zero [] = refl
  none_at_zero (x ∷ xs) = none_at_zero xs

  pub skip : (x : Slot R) (xs : List (Slot R)) (n m : ℕ) → n ≡ suc m → 1 ≤ m → standing_at n (x ∷ xs) ≡ standing_at m xs
  skip x xs n m e h =
      let other : eqb n 1 ≡ false = ne_eqb n 1 (λ z. omega arith) in
      let less : n - 1 ≡ m = omega arith in
      ap (λ b. cond b (standing_in x) (standing_at (n - 1) xs)) other ∙ ap (λ j. standing_at j xs) less

  pub none_past : (xs : List (Slot R)) (n : ℕ) → length xs < n → standing_at n xs ≡ None
  none_past [] n h = refl
  none_past (x ∷ xs) n h = skip x xs n (n - 1) (omega arith) (omega arith) ∙ none_past xs (n - 1) (omega arith)

  pub at_place : (xs : List (Slot R)) (m : ℕ) (d : Slot R) → m < length xs → standing_at (suc m) xs ≡ standing_in (get_or xs m d)
  at_place [] m d h = absurd (omega arith)
  at_place (x ∷ xs) zero d h = refl
  at_place (x ∷ xs) (suc m) d h = skip x xs (suc (suc m)) (suc m) refl (omega arith) ∙ at_place xs m d (omega arith)

  not_none : (old : R) (o : Option R) → o ≡ None → Some old ≡ o → ⊥
  not_none old o p q = let z : ◌≡◌ {A = ℕ} 0 1 = cc in omega arith

  -- the number of a standing record is one of those in use
  pub number_within : (xs : List (Slot R)) (n : ℕ) (old : R) → Some old ≡ standing_at n xs → (1 ≤ n) × (n ≤ length xs)
  number_within xs n old h = (
    ⊎_elim (λ small. absurd (not_none old (standing_at n xs) (ap (λ j. standing_at j xs) (let e : n ≡ 0 = omega arith in e) ∙ none_at_zero xs) h)) (λ k. k) (cases_lt n 1),
    ⊎_elim (λ big. absurd (not_none old (standing_at n xs) (none_past xs n big) h)) (λ k. k) (cases_lt (length xs) n),
  )
