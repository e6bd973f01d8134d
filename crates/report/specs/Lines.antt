-- The lines of the members, added to a report one after another.
use Rattle.std.specs.Prelude.{◌≡◌, ℕ, zero, suc, ◌+◌, ◌≤◌, cond, List, [], ◌∷◌, length, Ok, Err, Result, nat_le}
use Rattle.refusal.specs.declared.MemberFault.{MemberFault}
use Rattle.refusal.specs.declared.PageFault.{PageFault}
use Rattle.refusal.specs.declared.PageFault.TheVariants.{TooShort}
use Rattle.ledger.specs.declared.Account.{Account}
use Rattle.wire.specs.Bytes.{placed}
use Rattle.std.specs.Borrow.{MutBor}
use Rattle.report.specs.Line.{shown}

-- what calls answer at the members 1 to 32 is this function
abbrev pub Tells : (ℕ → Result Account MemberFault → Type 0) → (ℕ → Result Account MemberFault) → Type 0
Tells post told = (m : ℕ) → 1 ≤ m → m ≤ 32 → (r : Result Account MemberFault) → post m r → r ≡ told m

-- the line of a member of whom this is told, and no bytes where no account is told
abbrev pub told_line : ℕ → Result Account MemberFault → List ℕ
told_line m (Ok account) = shown m account
told_line m (Err _) = []

-- the lines of n members from m on
abbrev pub members : (ℕ → Result Account MemberFault) → ℕ → ℕ → List (List ℕ)
members told m zero = []
members told m (suc n) = told_line m (told m) ∷ members told (suc m) n

-- the page and the place where its lines end, after lines were added one after another up to the first that does not
-- fit, and what that answers
abbrev pub all_added : List (List ℕ) → List ℕ → ℕ → List ℕ × (ℕ × Result (Unit {0}) PageFault)
all_added [] page end = (page, (end, Ok tt))
all_added (bs ∷ more) page end =
    cond (nat_le (end + length bs) (length page))
    (all_added more (placed end bs page) (end + length bs))
    (page, (end, Err TooShort))

-- what a call that adds these lines to a report leaves and answers, on the same page
pub record Added (lines : List (List ℕ)) (before : MutBor (List ℕ)) (end : ℕ) (after : MutBor (List ℕ)) (end' : ℕ) (answer : Result (Unit {0}) PageFault) : Type 0 where
  pub came : all_added lines before.now end ≡ (after.now, (end', answer))
  pub lent : after.ghost_name ≡ before.ghost_name
