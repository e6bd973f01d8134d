-- Each call is refused by the book as by the plain book that it shows.
use Rattle.std.proofs.Common.{◌≡◌, ℕ, ◌≤◌, Bool, true, false, cond, not, ◌||◌, eqb, ltb, List, [], ◌∷◌, map, length, ℤ, Some, None, Ok, Option, Result, sym, refl, ap, ◌∙◌}
use Rattle.std.proofs.lemmas.List.{length-map, length-take-le}
use Rattle.refusal.specs.declared.Refusal.{Refusal}
use Rattle.record.specs.declared.Posting.{Posting}
use Rattle.record.specs.Reading.{refusal_of}
use Rattle.slots.specs.declared.Slot.{Slot}
use Rattle.whole_book.specs.declared.permit.Permit.{Permit}
use Rattle.whole_book.specs.declared.register.Register.{Register}
use Rattle.whole_book.specs.declared.register.BookState.{BookState}
use Rattle.whole_book.specs.declared.register.BookState.TheVariants.{Open, Closed, Reopened}
use Rattle.whole_book.specs.declared.register.BookFault.{BookFault}
use Rattle.whole_book.specs.declared.register.BookFault.TheVariants.{Blank, State, Full, NotStanding, OtherKey, LastEdition, OtherPermit, Changed}
use Rattle.slots.specs.Entries.{standing_at}
use Rattle.whole_book.specs.Rules.{abandonable, bookable, changes, closable, correctable, fits, is_closed, is_open, is_reopened, of_any, of_key, provided, reissuable, reopenable, told_of, withdrawable}
use Rattle.slots.specs.Calls.{capacity}
use Rattle.whole_book.specs.Steps.{entries}
use Rattle.history.specs.Plain as plain
use Rattle.history.specs.Plain.{Abandons, Books, Call, Closes, Corrects, Plain, Reissues, Reopens, Withdraws, refusal, standing_as}
use Rattle.history.specs.History.{entry_of, state_of}
use Rattle.history.proofs.Shows.{and_passes, looked, stands_any, stands_as}

-- the plain book that a book shows, with the sums that were noted
abbrev pub shown : {R : Type 0} → List (Slot R) → Register → List ℤ → Plain R
shown ss b ns = record { entries = map entry_of (entries ss b); state = state_of b.state; edition = b.edition; mark = b.changed; noted = ns }

-- the refusal of a judgement
abbrev pub refused : {A : Type 0} → Result A BookFault → Option Refusal
refused r = refusal_of told_of r

-- a test that is the same in both, and what comes after it
agreed : {A : Type 0} (b c : Bool) (e : BookFault) (next : Result A BookFault) (o : Option Refusal) → b ≡ c → refused next ≡ o → refused (provided b e next) ≡ cond c o (Some (told_of e))
agreed true c e next o same rest = rw (sym same) rest
agreed false c e next o same rest = rw (sym same) refl

-- the state is told as it is in the plain book
changing : (s : BookState) → changes s ≡ (plain.is_open (state_of s) || plain.is_reopened (state_of s))
changing Open = refl
changing Closed = refl
changing Reopened = refl

opening : (s : BookState) → is_open s ≡ plain.is_open (state_of s)
opening Open = refl
opening Closed = refl
opening Reopened = refl

closing : (s : BookState) → is_closed s ≡ plain.is_closed (state_of s)
closing Open = refl
closing Closed = refl
closing Reopened = refl

reopening : (s : BookState) → is_reopened s ≡ plain.is_reopened (state_of s)
reopening Open = refl
reopening Closed = refl
reopening Reopened = refl

-- the record of a number, of any key and of one
any_agreed : {R : Type 0} (o : Option R) → refused (of_any o) ≡ cond (and_passes (λ _. true) o) None (Some (told_of NotStanding))
any_agreed None = refl
any_agreed (Some old) = refl

key_agreed : {R : Type 0} (keyed : R → ℕ) (k : ℕ) (o : Option R) → refused (of_key keyed k o) ≡ cond (and_passes (λ _. true) o) (cond (and_passes (λ x. eqb (keyed x) k) o) None (Some (told_of OtherKey))) (Some (told_of NotStanding))
key_agreed keyed k None = refl
key_agreed keyed k (Some old) = agreed _ _ OtherKey (Ok old) None refl refl

-- as many entries are shown as slots are used
pub length_shown : {R : Type 0} (ss : List (Slot R)) (b : Register) → b.used ≤ length ss → length (map entry_of (entries ss b)) ≡ b.used
length_shown ss b room = length-map (entries ss b) entry_of ∙ length-take-le b.used ss room

module _ {R : Type 0} (keyed : R → ℕ) (posted : R → List Posting) (ss : List (Slot R)) (b : Register) (ns : List ℤ) where
  -- how the plain book refuses a call
  abbrev refuses : Call R → Option Refusal
  refuses c = refusal keyed posted (capacity ss) b.number (shown ss b ns) c

  module _ (x : R) (room : b.used ≤ length ss) where
    -- ms are the numbers that stand under the key
    by_key : (ms : List ℕ) → standing_as keyed (keyed x) (map entry_of (entries ss b)) ≡ ms → refused (bookable keyed (capacity ss) b.used (entries ss b) b.state x) ≡ refuses (Books x)
    by_key [] none =
        agreed _ _ Blank _ _ refl
        (agreed _ _ State _ _ (changing b.state)
        (rw (looked keyed (keyed x) (entries ss b), none) (agreed _ _ Full (Ok tt) None (ap (λ n. ltb n (capacity ss)) (sym (length_shown ss b room))) refl)))
    by_key (m ∷ ms) some =
        agreed _ _ Blank _ _ refl
        (agreed _ _ State _ _ (changing b.state)
        (rw (looked keyed (keyed x) (entries ss b), some) refl))

    pub books : refused (bookable keyed (capacity ss) b.used (entries ss b) b.state x) ≡ refuses (Books x)
    books = by_key _ refl

  pub corrects : (n : ℕ) (x : R) → refused (correctable keyed (entries ss b) b.state n x) ≡ refuses (Corrects n x)
  corrects n x =
      agreed _ _ Blank _ _ refl
      (agreed _ _ State _ _ (changing b.state)
      (rw (stands_any n (entries ss b), stands_as keyed (keyed x) n (entries ss b)) (key_agreed keyed (keyed x) (standing_at n (entries ss b)))))

  pub withdraws : (n : ℕ) → refused (withdrawable (entries ss b) b.state n) ≡ refuses (Withdraws n)
  withdraws n = agreed _ _ State _ _ (changing b.state) (rw (stands_any n (entries ss b)) (any_agreed (standing_at n (entries ss b))))

  pub closes : refused (closable b.state) ≡ refuses Closes
  closes = agreed _ _ State (Ok tt) None (opening b.state) refl

  pub reopens : refused (reopenable b.state b.edition) ≡ refuses Reopens
  reopens = agreed _ _ State _ _ (closing b.state) (agreed _ _ LastEdition (Ok tt) None refl refl)

  pub reissues : (t : Permit) → refused (reissuable b t) ≡ refuses (Reissues t)
  reissues t = agreed _ _ State _ _ (reopening b.state) (agreed _ _ OtherPermit (Ok tt) None refl refl)

  pub abandons : (t : Permit) → refused (abandonable b t) ≡ refuses (Abandons t)
  abandons t = agreed _ _ State _ _ (reopening b.state) (agreed (fits t b) _ OtherPermit (provided (not b.changed) Changed (Ok tt)) _ refl (agreed (not b.changed) _ Changed (Ok tt) None refl refl))
