-- What a search may answer, and what writing a statement answers.
use Rattle.std.specs.Prelude.{◌≡◌, ℕ, ◌+◌, true, false, cond, List, length, ℤ, Some, None, Ok, Err, Option, Result, ◌==◌, nat_le}
use Rattle.refusal.specs.declared.MemberFault.{MemberFault}
use Rattle.refusal.specs.declared.Refusal.{Refusal}
use Rattle.refusal.specs.Told.{plain}
use Rattle.record.specs.declared.Posting.{Posting}
use Rattle.record.specs.Reading.{is_member}
use Rattle.ledger.specs.Moves.{last_charges}
use Rattle.statement.specs.declared.Statement.{Statement}
use Rattle.slots.specs.declared.Slot.{Slot}
use Rattle.whole_book.specs.declared.register.Register.{Register}
use Rattle.whole_book.specs.declared.page.StatementFault.{StatementFault}
use Rattle.whole_book.specs.declared.page.StatementFault.TheVariants.{NoneYet, PageTooShort}
use Rattle.slots.specs.Entries.{gives, standing_at}

-- A search for a posting of at least z to member m answers the number of any standing record that has one, and none only where there is no such record.
abbrev pub Finds : {R : Type 0} → (R → List Posting) → ℕ → ℤ → List (Slot R) → Result (Option ℕ) MemberFault → Type 0
Finds posted m z es (Err f) = is_member m ≡ false
Finds posted m z es (Ok (Some n)) = (is_member m ≡ true) × (x : _) × ((standing_at n es ≡ Some x) × (gives m z (posted x) ≡ true))
Finds posted m z es (Ok None) = (is_member m ≡ true) × ((n : ℕ) (x : _) → standing_at n es ≡ Some x → gives m z (posted x) ≡ false)

-- the statement of the last issue
abbrev pub statement_of : Register → Statement
statement_of b = record { number = b.number; edition = b.edition; charges = last_charges b.ledger }

-- first a book without a statement is refused, then the page that is too short
abbrev pub stating : ℕ → ℕ → List ℕ → Result (Unit {0}) StatementFault
stating edition at page = cond (edition == 0) (Err NoneYet) (cond (nat_le (at + 263) (length page)) (Ok tt) (Err PageTooShort))

abbrev pub told_of_statement : StatementFault → Refusal
told_of_statement NoneYet = plain 29
told_of_statement PageTooShort = plain 13
