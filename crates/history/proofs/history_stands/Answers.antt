-- Every life stands, and every list of calls has one.
use Rattle.history.proofs.Lived.{all_lived}
use Rattle.history.proofs.Ties.{lives_stand}
use Rattle.history.proofs.history_stands.Goals as goal

pub returns : goal.returns
returns g c =
    let law = g.met.R.Record in
    (lives_stand g.R.Record.keyed g.R.Record.posted law.zero law.few law.fair, all_lived g.R.Record.keyed g.R.Record.posted)
