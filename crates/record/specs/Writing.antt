-- What writing a record into a page answers, and the page after it.
use Rattle.std.specs.Prelude.{ℕ, ◌+◌, cond, List, length, Ok, Err, Result, ◌==◌, nat_le}
use Rattle.refusal.specs.declared.Refusal.{Refusal}
use Rattle.refusal.specs.Told.{plain}
use Rattle.record.specs.declared.WriteFault.{WriteFault}
use Rattle.record.specs.declared.WriteFault.TheVariants.{Blank, PageTooShort}

-- first the blank record is refused, then the page that is too short
abbrev pub writes : ℕ → ℕ → ℕ → List ℕ → Result (Unit {0}) WriteFault
writes key wide at page = cond (key == 0) (Err Blank) (cond (nat_le (at + wide) (length page)) (Ok tt) (Err PageTooShort))

abbrev pub told_of : WriteFault → Refusal
told_of Blank = plain 11
told_of PageTooShort = plain 13
