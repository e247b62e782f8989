use Rattle.plan_building.proofs.Halving.{half_placed}
use Rattle.plan_building.proofs.halves.plant_parts.Goals as goal

pub plant_half-requires-clause-placed : goal.plant_half-requires-clause-placed
plant_half-requires-clause-placed c =
    half_placed c.args.leaves.items c.args.unknown.now c.in_ok-unknown.unknown.items c.in_ok-unknown.ensures c.requires.placed
