-- The entry of a number, between those before and after it.
use Rattle.std.proofs.Common.{◌≡◌, ℕ, ◌+◌, ◌-◌, List, [], ◌∷◌, ◌++◌, length, refl, ap, arith}
use Rattle.std.proofs.lemmas.Bool.{eq-eqb, ne_eqb}
use Rattle.history.specs.Plain.{Entry, standing, with_number}

-- the entry of number n stands, with record old
pub record Stood {R : Type 0} (n : ℕ) (old : R) (es : List (Entry R)) : Type 0 where
  pub front : List (Entry R)
  pub back : List (Entry R)
  pub is : es ≡ front ++ standing old ∷ back
  pub at : n ≡ length front + 1

-- the entry of number n, changed between those before and after it
pub changed_at : {R : Type 0} (n : ℕ) (f : Entry R → Entry R) (front back : List (Entry R)) (e : Entry R) → n ≡ length front + 1 → with_number n f (front ++ e ∷ back) ≡ front ++ f e ∷ back
changed_at n f [] back e at = rw (eq-eqb n 1 at) refl
changed_at n f (x ∷ front) back e at =
    rw (ne_eqb n 1 (λ first. omega arith)) (ap (λ es. x ∷ es) (changed_at (n - 1) f front back e (omega arith)))
