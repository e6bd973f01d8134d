use Rattle.std.proofs.Common.{rules, ap, ◌∙◌}
use Rattle.std.proofs.lemmas.List.{map-id}
use Rattle.ledger.specs.Moves.{all_posted}
use Rattle.ledger.proofs.Ledger.put.Goals as goal

pub returns : goal.returns
returns g c =
    c.post_each.ensures (λ cents. cents) (λ p cents fair called. search rules)
    ∙ ap (all_posted c.args.self.now) (map-id (g.R.Record.posted c.args.item.now))
