-- What is known of the record that a call is granted.
use Rattle.std.proofs.Common.{◌≡◌, ℕ, Bool, true, false, not, eqb, List, Some, None, Ok, Option, Result, refl, ap, arith}
use Rattle.slots.specs.declared.Slot.{Slot}
use Rattle.whole_book.specs.declared.register.BookState.{BookState}
use Rattle.whole_book.specs.declared.register.BookFault.{BookFault}
use Rattle.whole_book.specs.declared.register.BookFault.TheVariants.{Blank, State, OtherKey}
use Rattle.slots.specs.Entries.{standing_at}
use Rattle.whole_book.specs.Rules.{changes, correctable, of_any, of_key, provided, withdrawable}

-- a test that was passed
pub passes : {A : Type 0} (b : Bool) (e : BookFault) (a : A) (next : Result A BookFault) → Ok a ≡ provided b e next → (b ≡ true) × (Ok a ≡ next)
passes true e a next h = (refl, h)
passes false e a next h = let z : ◌≡◌ {A = ℕ} 0 1 = cc in absurd (omega arith)

module _ {R : Type 0} where
  of_any_lem : (o : Option R) (old : R) → Ok old ≡ of_any o → Some old ≡ o
  of_any_lem None old h = let z : ◌≡◌ {A = ℕ} 0 1 = cc in absurd (omega arith)
  of_any_lem (Some x) old h = let same : old ≡ x = cc in ap Some same

  of_key_lem : (keyed : R → ℕ) (k : ℕ) (o : Option R) (old : R) → Ok old ≡ of_key keyed k o → Some old ≡ o
  of_key_lem keyed k None old h = let z : ◌≡◌ {A = ℕ} 0 1 = cc in absurd (omega arith)
  of_key_lem keyed k (Some x) old h =
      let p = (passes (eqb (keyed x) k) OtherKey old (Ok x) h).1 in
      let same : old ≡ x = cc in
      ap Some same

  pub withdrawn_stands : (es : List (Slot R)) (state : BookState) (n : ℕ) (old : R) → Ok old ≡ withdrawable es state n → Some old ≡ standing_at n es
  withdrawn_stands es state n old h = of_any_lem (standing_at n es) old (passes (changes state) State old (of_any (standing_at n es)) h).1

  pub corrected_stands : (keyed : R → ℕ) (es : List (Slot R)) (state : BookState) (n : ℕ) (x old : R) → Ok old ≡ correctable keyed es state n x → Some old ≡ standing_at n es
  corrected_stands keyed es state n x old h =
      let k = keyed x in
      let keyed-yes = (passes (not (eqb k 0)) Blank old (provided (changes state) State (of_key keyed k (standing_at n es))) h).1 in
      of_key_lem keyed k (standing_at n es) old (passes (changes state) State old (of_key keyed k (standing_at n es)) keyed-yes).1
