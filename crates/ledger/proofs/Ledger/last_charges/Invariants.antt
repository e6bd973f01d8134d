use Rattle.std.proofs.Common.{◌≡◌, ℕ, ◌<◌, length, get_or, pos}
use Rattle.ledger.specs.Moves.{last_charges}
use Rattle.ledger.proofs.Ledger.last_charges.Given as goal

abbrev pub invariant-loop-at : goal.invariant-loop-at
invariant-loop-at l = (l.account-items ≡ l.self.accounts) × (length l.charges ≡ 32) × ((k : ℕ) → k < l.at → get_or l.charges k (pos 0) ≡ get_or (last_charges l.self) k (pos 0))
