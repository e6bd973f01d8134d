use Rattle.amounts.proofs.Floors.{rounds_down, rounds_to_nearest}
use Rattle.amounts.proofs.Cuts.{adds_up, lies_between, keeps_bounds, as_many}
use Rattle.amounts.proofs.rounding_stands.Goals as goal

pub returns : goal.returns
returns c = record { rounds = rounds_down; halves = rounds_to_nearest; adds = adds_up; between = lies_between; bounds = keeps_bounds; many = as_many }
