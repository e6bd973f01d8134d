use Rattle.std.proofs.Common.{rules}
use Rattle.std.proofs.lemmas.List.Edits.{map_over_more}
use Rattle.ledger.specs.Moves.{charge}
use Rattle.ledger.proofs.Ledger.issue.Goals as goal

pub loop-account-preserved : goal.loop-account-preserved
loop-account-preserved c = search (rules, map_over_more charge)
