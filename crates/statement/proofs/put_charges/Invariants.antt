use Rattle.std.proofs.Common.{◌≡◌, take}
use Rattle.wire.specs.Bytes.{placed}
use Rattle.statement.specs.Page.{amounts}
use Rattle.statement.proofs.put_charges.Given as goal

abbrev pub invariant-loop-at : goal.invariant-loop-at
invariant-loop-at l = l.part ≡ placed 0 (amounts (take l.at l.charges)) l.initial.part
