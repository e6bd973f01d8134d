use Rattle.std.proofs.Common.{rules, neg_ℤ}
use Rattle.ledger.proofs.Ledger.take_back.Goals as goal

pub returns : goal.returns
returns g c = c.post_each.ensures neg_ℤ (λ p cents fair called. search rules)
