-- The permit that is held beside a book.
use Rattle.std.specs.Prelude.{◌≡◌, false, Some, None, Ok, Err, Option, Result, MatchOption}
use Rattle.whole_book.specs.declared.permit.Permit.{Permit}
use Rattle.whole_book.specs.declared.permit.Unspent.{Unspent}
use Rattle.whole_book.specs.declared.register.Register.{Register}
use Rattle.whole_book.specs.Rules.{Fitting, is_reopened}

-- A permit is held just while the book is reopened, and it is the book's own.
abbrev pub Held : Option Permit → Register → Type 0
Held held b = MatchOption held (is_reopened b.state ≡ false) (λ p. Fitting p b)

-- what is held after a permit was handed in: it comes back with a refusal
abbrev pub left_by : Result (Unit {0}) Unspent → Option Permit
left_by (Ok _) = None
left_by (Err u) = Some u.permit
