use Rattle.std.proofs.Common.{ap, map, ◌∙◌}
use Rattle.hashmap_tree.specs.Plants.{leaf_of}
use Rattle.plan_building.proofs.Halving.{items_leaves}
use Rattle.plan_building.proofs.halves.Half.split.Goals as goal

pub returns-clause-zeros : goal.returns-clause-zeros
returns-clause-zeros c =
    (ap (map leaf_of) c.in_ok-leaves.ensures.zeros ∙ items_leaves 0 c.args.self.leaves.items, c.in_ok-unknown.ensures.zeros)

pub returns-clause-ones : goal.returns-clause-ones
returns-clause-ones c =
    (ap (map leaf_of) c.in_ok-leaves.ensures.ones ∙ items_leaves 1 c.args.self.leaves.items, c.in_ok-unknown.ensures.ones)
