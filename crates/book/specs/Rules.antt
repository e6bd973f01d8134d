-- When a call is refused, and as what it is told.
use Rattle.std.specs.Prelude.{ℕ, Bool, true, false, cond, not, List, Some, None, Ok, Err, Option, Result, ◌==◌, nat_lt}
use Rattle.refusal.specs.declared.Refusal.{Refusal}
use Rattle.refusal.specs.Told.{detailed, plain}
use Rattle.slots.specs.declared.Slot.{Slot}
use Rattle.book.specs.declared.register.BookState.{BookState}
use Rattle.book.specs.declared.register.BookState.TheVariants.{Open, Closed}
use Rattle.book.specs.declared.register.BookFault.{BookFault}
use Rattle.book.specs.declared.register.BookFault.TheVariants.{Blank, State, Full, Stands}
use Rattle.slots.specs.Entries.{lookup}

-- what each fault is told as; 23 comes with the number of the record that stands
abbrev pub told_of : BookFault → Refusal
told_of Blank = plain 11
told_of State = plain 21
told_of Full = plain 22
told_of (Stands n) = detailed 23 n

-- records change in an open book
abbrev pub changes : BookState → Bool
changes Open = true
changes Closed = false

abbrev pub is_open : BookState → Bool
is_open Open = true
is_open Closed = false

-- the highest edition in a state: an open book has issued none, and a closed one cannot issue again
abbrev pub ceiling : BookState → ℕ
ceiling Open = 0
ceiling Closed = 1

-- the fault where the test fails, else what comes next
abbrev pub unless : Bool → BookFault → Option BookFault → Option BookFault
unless b e next = cond b next (Some e)

abbrev pub unless_stands : Option ℕ → Option BookFault → Option BookFault
unless_stands None next = next
unless_stands (Some n) next = Some (Stands n)

-- booking: 11, 21, 23, 22
abbrev pub book_refusal : {R : Type 0} → (R → ℕ) → ℕ → ℕ → List (Slot R) → BookState → R → Option BookFault
book_refusal keyed capacity used entries state x =
    unless (not (keyed x == 0)) Blank
    (unless (changes state) State
    (unless_stands (lookup keyed (keyed x) entries)
    (unless (nat_lt used capacity) Full None)))

-- a judgement: the fault, if there is one
abbrev pub judged : Option BookFault → Result (Unit {0}) BookFault
judged None = Ok tt
judged (Some e) = Err e

-- closing: 21
abbrev pub close_refusal : BookState → Option BookFault
close_refusal state = unless (is_open state) State None
