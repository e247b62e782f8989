use Rattle.plan_building.proofs.halves.+plant_half.Given as goal

abbrev pub decreases-plant_half : goal.decreases-plant_half
decreases-plant_half l = l.n
