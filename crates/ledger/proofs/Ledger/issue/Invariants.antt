use Rattle.std.proofs.Common.{◌≡◌, ◌++◌, map, take, drop}
use Rattle.ledger.specs.Moves.{charge}
use Rattle.ledger.proofs.Ledger.issue.Given as goal

abbrev pub invariant-loop-account : goal.invariant-loop-account
invariant-loop-account l = l.account-items ≡ map charge (take l.account-index l.fn.self.accounts) ++ drop l.account-index l.fn.self.accounts
