use Rattle.std.proofs.Common.{rules}
use Rattle.exchange.specs.Laws.{worth_under}
use Rattle.exchange.specs.Passing.{passing_sound}
use Rattle.exchange.proofs.Exchange.worths.Goals as goal

pub invariant_of-result : goal.invariant_of-result
invariant_of-result c =
    let e = c.args.self.now in
    let s = passing_sound e c.requires in
    let a = worth_under e.volume e.importing s.volume_high s.importing_fair in
    let b = worth_under e.volume e.exporting s.volume_high s.exporting_fair in
    record { importing_small = search rules; exporting_small = search rules; part = s.percentage_high }
