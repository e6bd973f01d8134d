use Rattle.std.proofs.Common.{◌≡◌, length, rules}
use Rattle.statement.proofs.Laying.{laid}
use Rattle.statement.proofs.Statement.put.Goals as goal

pub returns : goal.returns
returns c =
    let full : length c.args.self.now.charges ≡ 32 = search rules in
    laid c.args.self.now c.args.part.now _ _ _ c.requires full c.put.ensures c.put-2.ensures c.put_charges.ensures
