use Rattle.std.proofs.Common.{◌≡◌, ◌<◌, ℤ, length, get_or, pos, ◌+ℤ◌, ◌-ℤ◌, arith, w64, SFits, to_z, of_z, rules}
use Rattle.std.specs.Int.{w128}
use borrow.Author.Differences.{ints}
use Rattle.amounts.specs.Floor.{floor_div}
use Rattle.amounts.proofs.Floors.{euclid_is, gain_fits}
use Rattle.amounts.proofs.Cuts.{cut_more}
use Rattle.amounts.proofs.cut.Goals as goal
use Rattle.amounts.proofs.cut.Goals.{After-div_euclid-figure}

-- the running sum with this amount
abbrev sum_with : After-div_euclid-figure → ℤ
sum_with c = to_z w128 (of_z w128 (to_z w128 c.loop-part.sum-bits +ℤ to_z w128 (of_z w128 c.from-sum.result)))

figure_is : (c : After-div_euclid-figure) → c.div_euclid-figure.result ≡ floor_div (sum_with c) c.args.divisor
figure_is c = grind (arith, ints, euclid_is)

part_fits : (c : After-div_euclid-figure) → SFits w64 (c.div_euclid-figure.result -ℤ c.loop-part.before)
part_fits c =
    let fits : SFits w64 (get_or c.loop-part.parts c.loop-part.part-index (pos 0)) = search rules in
    let g = gain_fits _ (get_or c.loop-part.parts c.loop-part.part-index (pos 0)) _ _ _ c.args.divisor (figure_is c) c.loop-part.invariant.1 (omega (arith, ints)) c.requires.some fits in
    omega (arith, ints)

pub overflow_sub-part : goal.overflow_sub-part
overflow_sub-part c = let p = part_fits c in omega (arith, ints)

pub overflow_cast-part : goal.overflow_cast-part
overflow_cast-part c = let p = part_fits c in omega (arith, ints)

pub loop-part-preserved : goal.loop-part-preserved
loop-part-preserved c =
    let l : c.loop-part.part-index < length c.loop-part.parts = search rules in
    let fits : SFits w64 (get_or c.loop-part.parts c.loop-part.part-index (pos 0)) = search rules in
    let p = part_fits c in
    let figure = figure_is c in
    (cut_more c.args.divisor _ _ c.loop-part.parts c.loop-part.part-index _ _ l (omega (arith, ints)) (omega (arith, ints)) c.loop-part.invariant.0, omega (arith, ints), omega (arith, ints))
