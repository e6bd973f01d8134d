use Rattle.std.proofs.Common.{◌≡◌, take}
use Rattle.record.proofs.Record.fill.Given as goal

abbrev pub invariant-loop-at : goal.invariant-loop-at
invariant-loop-at g l = l.list.items ≡ take l.at (g.Self.Record.posted l.self)
