use Rattle.std.proofs.Common.{◌-ℤ◌, ◌*ℤ◌, pos, arith, w64, SFits, rules}
use borrow.Author.Differences.{ints}
use Rattle.std.proofs.lemmas.Int.{to_z-of_z, to_z_pos}
use Rattle.amounts.proofs.Floors.{times_under}
use Rattle.exchange.proofs.Worths.share.Goals as goal

pub returns : goal.returns
returns c =
    let income = c.args.self.now.importing -ℤ c.args.self.now.exporting in
    let u = times_under income (pos c.args.self.now.percentage) 19999998000 100 (omega (arith, ints)) (omega (arith, ints)) in
    let k : SFits w64 (income *ℤ pos c.args.self.now.percentage) = omega (arith, ints) in
    search (rules, to_z-of_z, to_z_pos)
