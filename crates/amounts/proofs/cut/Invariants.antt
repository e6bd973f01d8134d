use Rattle.std.proofs.Common.{◌≡◌, ◌*◌, ◌^◌, ◌++◌, take, drop}
use Rattle.amounts.specs.Floor.{floor_div, Under}
use Rattle.amounts.specs.Cut.{cutting_from, cutting}
use Rattle.amounts.proofs.cut.Given as goal

-- the parts so far, and then those of the amounts that are left, are the parts of all
abbrev pub invariant-loop-part : goal.invariant-loop-part
invariant-loop-part l = (take l.part-index l.parts ++ cutting_from l.divisor l.sum (drop l.part-index l.parts) ≡ cutting l.divisor l.amounts) × (l.before ≡ floor_div l.sum l.divisor) × Under (2 ^ 63 * l.part-index) l.sum
