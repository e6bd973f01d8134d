use Rattle.std.proofs.Common.{w64}
use Rattle.std.proofs.lemmas.Int.{to_z-of_z}
use Rattle.slots.proofs.Entries.number_giving.Goals as goal

pub returns : goal.returns
returns g c =
    let exact = to_z-of_z w64 c.args.cents c.ranges.cents in
    let found = c.place_giving.ensures in
    let numbered = c.numbered.ensures in
    cc
