use Rattle.std.proofs.Common.{◌≡◌}
use Rattle.whole_settle.proofs.AllCommandsDesk.clear.Given as goal

abbrev pub invariant-loop-step : goal.invariant-loop-step
invariant-loop-step g l =
    (goal.iterator-loop-step g).can_next l.step-iterator
    × (goal.iterator-loop-step g).is_finite l.step-iterator
    × (l.report.page.ghost_name ≡ l.initial.report.page.ghost_name)
