-- What each call answers, and what it leaves.
use Rattle.std.specs.Prelude.{ℕ, ◌+◌, List, take, Some, None, Ok, Err, Option, slice_set}
use Rattle.record.specs.declared.Posting.{Posting}
use Rattle.ledger.specs.Moves.{new_ledger, all_posted, issued}
use Rattle.slots.specs.declared.Slot.{Slot}
use Rattle.slots.specs.Calls.{Done, capacity, standing}
use Rattle.book.specs.declared.register.Register.{Register}
use Rattle.book.specs.declared.register.BookState.TheVariants.{Open, Closed}
use Rattle.book.specs.declared.register.BookFault.{BookFault}
use Rattle.book.specs.Rules.{book_refusal, close_refusal}

-- the slots that are booked
abbrev pub entries : {R : Type 0} → List (Slot R) → Register → List (Slot R)
entries ss b = take b.used ss

-- a refused call leaves all as it was
abbrev pub outcome : {R A : Type 0} → Option BookFault → List (Slot R) → Register → A → List (Slot R) → Register → Done R Register A BookFault
outcome (Some e) ss b a ss' b' = record { answer = Err e; slots = ss; register = b }
outcome None ss b a ss' b' = record { answer = Ok a; slots = ss'; register = b' }

-- a new book is open, has edition 0 and accounts of zeros
abbrev pub new_register : ℕ → Register
new_register number = record { number = number; edition = 0; state = Open; used = 0; ledger = new_ledger }

-- booking fills the next slot, and makes the record's postings
abbrev pub booking : {R : Type 0} → (R → ℕ) → (R → List Posting) → List (Slot R) → Register → R → Done R Register ℕ BookFault
booking keyed posted ss b x =
    outcome (book_refusal keyed (capacity ss) b.used (entries ss b) b.state x) ss b
    (b.used + 1)
    (slice_set ss b.used (standing x))
    (record b { used = b.used + 1; ledger = all_posted b.ledger (posted x) })

-- closing issues a statement, which raises the edition
abbrev pub closing : {R : Type 0} → List (Slot R) → Register → Done R Register (Unit {0}) BookFault
closing ss b =
    outcome (close_refusal b.state) ss b tt ss
    (record b { edition = b.edition + 1; state = Closed; ledger = issued b.ledger })
