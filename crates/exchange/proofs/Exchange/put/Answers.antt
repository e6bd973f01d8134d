use Rattle.std.proofs.Common.{rules}
use Rattle.std.proofs.lemmas.Int.{to_z-of_z}
use Rattle.exchange.specs.BytesLemmas.{overwritten}
use Rattle.exchange.proofs.Exchange.put.Goals as goal

pub returns : goal.returns
returns c = overwritten c.args.self.now c.args.part.now _ _ _ _ c.requires c.put.ensures c.put-2.ensures (search (rules, to_z-of_z)) (search (rules, to_z-of_z))
