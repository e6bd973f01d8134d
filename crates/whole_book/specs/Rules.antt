-- When a call is refused, and as what it is told.
use Rattle.std.specs.Prelude.{◌≡◌, ℕ, Bool, true, false, cond, not, ◌&&◌, List, Some, None, Ok, Err, Option, Result, ◌==◌, nat_lt}
use Rattle.refusal.specs.declared.Refusal.{Refusal}
use Rattle.refusal.specs.Told.{detailed, plain}
use Rattle.slots.specs.declared.Slot.{Slot}
use Rattle.whole_book.specs.declared.permit.Permit.{Permit}
use Rattle.whole_book.specs.declared.register.Register.{Register}
use Rattle.whole_book.specs.declared.register.BookState.{BookState}
use Rattle.whole_book.specs.declared.register.BookState.TheVariants.{Open, Closed, Reopened}
use Rattle.whole_book.specs.declared.register.BookFault.{BookFault}
use Rattle.whole_book.specs.declared.register.BookFault.TheVariants.{Blank, State, Full, Stands, NotStanding, OtherKey, LastEdition, OtherPermit, Changed}
use Rattle.slots.specs.Entries.{lookup, standing_at}

-- what each fault is told as; 23 comes with the number of the record that stands
abbrev pub told_of : BookFault → Refusal
told_of Blank = plain 11
told_of State = plain 21
told_of Full = plain 22
told_of (Stands n) = detailed 23 n
told_of NotStanding = plain 24
told_of OtherKey = plain 25
told_of LastEdition = plain 26
told_of OtherPermit = plain 27
told_of Changed = plain 28

-- records change in an open or reopened book
abbrev pub changes : BookState → Bool
changes Open = true
changes Closed = false
changes Reopened = true

abbrev pub is_open : BookState → Bool
is_open Open = true
is_open Closed = false
is_open Reopened = false

abbrev pub is_closed : BookState → Bool
is_closed Open = false
is_closed Closed = true
is_closed Reopened = false

abbrev pub is_reopened : BookState → Bool
is_reopened Open = false
is_reopened Closed = false
is_reopened Reopened = true

-- the highest edition in a state: an open book has issued none, a reopened one can issue one more
abbrev pub ceiling : BookState → ℕ
ceiling Open = 0
ceiling Closed = 1000
ceiling Reopened = 999

-- the fault where the test fails, else what comes next
abbrev pub provided : {A : Type 0} → Bool → BookFault → Result A BookFault → Result A BookFault
provided b e next = cond b next (Err e)

abbrev pub unless_stands : {A : Type 0} → Option ℕ → Result A BookFault → Result A BookFault
unless_stands None next = next
unless_stands (Some n) next = Err (Stands n)

-- booking: 11, 21, 23, 22
abbrev pub bookable : {R : Type 0} → (R → ℕ) → ℕ → ℕ → List (Slot R) → BookState → R → Result (Unit {0}) BookFault
bookable keyed capacity used entries state x =
    provided (not (keyed x == 0)) Blank
    (provided (changes state) State
    (unless_stands (lookup keyed (keyed x) entries)
    (provided (nat_lt used capacity) Full (Ok tt))))

-- the record that stands, if it has this key
abbrev pub of_key : {R : Type 0} → (R → ℕ) → ℕ → Option R → Result R BookFault
of_key keyed k None = Err NotStanding
of_key keyed k (Some old) = provided (keyed old == k) OtherKey (Ok old)

-- correcting: 11, 21, 24, 25; else the record to be replaced
abbrev pub correctable : {R : Type 0} → (R → ℕ) → List (Slot R) → BookState → ℕ → R → Result R BookFault
correctable keyed entries state n x =
    provided (not (keyed x == 0)) Blank
    (provided (changes state) State
    (of_key keyed (keyed x) (standing_at n entries)))

abbrev pub of_any : {R : Type 0} → Option R → Result R BookFault
of_any None = Err NotStanding
of_any (Some old) = Ok old

-- withdrawing: 21, 24; else the record to be withdrawn
abbrev pub withdrawable : {R : Type 0} → List (Slot R) → BookState → ℕ → Result R BookFault
withdrawable entries state n = provided (changes state) State (of_any (standing_at n entries))

-- closing: 21
abbrev pub closable : BookState → Result (Unit {0}) BookFault
closable state = provided (is_open state) State (Ok tt)

-- reopening: 21, 26
abbrev pub reopenable : BookState → ℕ → Result (Unit {0}) BookFault
reopenable state edition = provided (is_closed state) State (provided (nat_lt edition 1000) LastEdition (Ok tt))

-- a permit of this book and edition
abbrev pub fits : Permit → Register → Bool
fits p b = p.number == b.number && p.edition == b.edition

-- the book is reopened, and the permit is its own
abbrev pub Fitting : Permit → Register → Type 0
Fitting p b = (is_reopened b.state ≡ true) × (fits p b ≡ true)

-- reissuing: 21, 27
abbrev pub reissuable : Register → Permit → Result (Unit {0}) BookFault
reissuable b p = provided (is_reopened b.state) State (provided (fits p b) OtherPermit (Ok tt))

-- abandoning: 21, 27, 28
abbrev pub abandonable : Register → Permit → Result (Unit {0}) BookFault
abandonable b p = provided (is_reopened b.state) State (provided (fits p b) OtherPermit (provided (not b.changed) Changed (Ok tt)))
