use Rattle.std.proofs.Common.{◌≡◌, ◌-◌, ℕ}
use Rattle.std.specs.Prelude.{Result}
use Rattle.ledger.specs.declared.Account.{Account}
use Rattle.refusal.specs.declared.MemberFault.{MemberFault}
use Rattle.report.specs.Lines.{Tells, all_added, members}
use Rattle.report.proofs.Report.accounts.Given as goal

abbrev pub invariant-loop-member : goal.invariant-loop-member
invariant-loop-member g l =
    ((told : ℕ → Result Account MemberFault) → Tells (goal.F-post g l.account_of) told
    → all_added (members told 1 32) l.initial.self.page.now l.initial.self.end ≡ all_added (members told l.member (33 - l.member)) l.self.page.now l.self.end)
    × (l.self.page.ghost_name ≡ l.initial.self.page.ghost_name)
