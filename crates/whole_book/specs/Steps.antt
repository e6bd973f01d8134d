-- What each call answers, and what it leaves.
use Rattle.std.specs.Prelude.{ℕ, ◌+◌, ◌-◌, Bool, true, false, List, map, take, Ok, Err, Result, slice_set}
use Rattle.record.specs.declared.Posting.{Posting}
use Rattle.ledger.specs.declared.Ledger.{Ledger}
use Rattle.ledger.specs.Moves.{new_ledger, all_posted, issued, opposite}
use Rattle.slots.specs.declared.Slot.{Slot}
use Rattle.slots.specs.Calls.{Done, capacity, standing}
use Rattle.slots.specs.declared.SlotState.TheVariants.{Withdrawn}
use Rattle.whole_book.specs.declared.permit.Permit.{Permit}
use Rattle.whole_book.specs.declared.permit.Unspent.{Unspent}
use Rattle.whole_book.specs.declared.register.Register.{Register}
use Rattle.whole_book.specs.declared.register.BookState.{BookState}
use Rattle.whole_book.specs.declared.register.BookState.TheVariants.{Open, Closed, Reopened}
use Rattle.whole_book.specs.declared.register.BookFault.{BookFault}
use Rattle.whole_book.specs.Rules.{bookable, correctable, withdrawable, closable, reopenable, reissuable, abandonable}

-- the slots that are booked
abbrev pub entries : {R : Type 0} → List (Slot R) → Register → List (Slot R)
entries ss b = take b.used ss

abbrev pub accepted : {R A E : Type 0} → A → List (Slot R) → Register → Done R Register A E
accepted a ss b = record { answer = Ok a; slots = ss; register = b }

-- a refused call leaves all as it was
abbrev pub unless_refused : {R A B E : Type 0} → (BookFault → E) → Result A BookFault → List (Slot R) → Register → (A → Done R Register B E) → Done R Register B E
unless_refused told (Err e) ss b next = record { answer = Err (told e); slots = ss; register = b }
unless_refused told (Ok a) ss b next = next a

-- a refusal by itself
abbrev pub alone : BookFault → BookFault
alone e = e

-- a refusal, with the permit that was handed in
abbrev pub unspent : Permit → BookFault → Unspent
unspent p e = record { fault = e; permit = p }

abbrev pub withdrawn : {R : Type 0} → R → Slot R
withdrawn x = record { item = x; state = Withdrawn }

-- a new book is open, has edition 0 and accounts of zeros
abbrev pub new_register : ℕ → Register
new_register number = record { number = number; edition = 0; state = Open; used = 0; changed = false; ledger = new_ledger }

-- records changed: so many slots are used now, and these are the accounts
abbrev pub changed_to : Register → ℕ → Ledger → Register
changed_to b used l = record b { used = used; changed = true; ledger = l }

abbrev pub in_state : Register → BookState → Bool → Register
in_state b state changed = record b { state = state; changed = changed }

-- a statement raises the edition, charges every member and closes the book
abbrev pub issuing : Register → Register
issuing b = record b { edition = b.edition + 1; state = Closed; ledger = issued b.ledger }

-- the accounts without some postings
abbrev pub without : Ledger → List Posting → Ledger
without l ps = all_posted l (map opposite ps)

-- booking fills the next slot, makes the record's postings, and answers its number
abbrev pub booking : {R : Type 0} → (R → ℕ) → (R → List Posting) → List (Slot R) → Register → R → Done R Register ℕ BookFault
booking keyed posted ss b x =
    unless_refused alone (bookable keyed (capacity ss) b.used (entries ss b) b.state x) ss b (λ _.
    accepted (b.used + 1)
    (slice_set ss b.used (standing x))
    (changed_to b (b.used + 1) (all_posted b.ledger (posted x))))

-- correcting takes the old record's postings back and makes the new one's
abbrev pub correcting : {R : Type 0} → (R → ℕ) → (R → List Posting) → List (Slot R) → Register → ℕ → R → Done R Register (Unit {0}) BookFault
correcting keyed posted ss b n x =
    unless_refused alone (correctable keyed (entries ss b) b.state n x) ss b (λ old.
    accepted tt
    (slice_set ss (n - 1) (standing x))
    (changed_to b b.used (all_posted (without b.ledger (posted old)) (posted x))))

-- withdrawing marks the slot, and takes the record's postings back
abbrev pub withdrawing : {R : Type 0} → (R → List Posting) → List (Slot R) → Register → ℕ → Done R Register (Unit {0}) BookFault
withdrawing posted ss b n =
    unless_refused alone (withdrawable (entries ss b) b.state n) ss b (λ old.
    accepted tt
    (slice_set ss (n - 1) (withdrawn old))
    (changed_to b b.used (without b.ledger (posted old))))

abbrev pub closing : {R : Type 0} → List (Slot R) → Register → Done R Register (Unit {0}) BookFault
closing ss b = unless_refused alone (closable b.state) ss b (λ _. accepted tt ss (issuing b))

-- the permit of this book and edition
abbrev pub permit_of : Register → Permit
permit_of b = record { number = b.number; edition = b.edition }

-- reopening hands out a permit, and from there on no record has changed yet
abbrev pub reopening : {R : Type 0} → List (Slot R) → Register → Done R Register Permit BookFault
reopening ss b = unless_refused alone (reopenable b.state b.edition) ss b (λ _. accepted (permit_of b) ss (in_state b Reopened false))

abbrev pub reissuing : {R : Type 0} → List (Slot R) → Register → Permit → Done R Register (Unit {0}) Unspent
reissuing ss b p = unless_refused (unspent p) (reissuable b p) ss b (λ _. accepted tt ss (issuing b))

-- abandoning closes without a statement
abbrev pub abandoning : {R : Type 0} → List (Slot R) → Register → Permit → Done R Register (Unit {0}) Unspent
abandoning ss b p = unless_refused (unspent p) (abandonable b p) ss b (λ _. accepted tt ss (in_state b Closed b.changed))
