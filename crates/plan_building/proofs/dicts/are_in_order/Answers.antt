use Rattle.plan_building.proofs.Fitting.{admitted, not_admitted}
use Rattle.hashmap_tree.specs.MergedLaws.{merged-parts}
use Rattle.hashmap_tree.specs.Plants.{leaf_of}
use Rattle.std.proofs.Common.{map}
use Rattle.plan_building.proofs.dicts.are_in_order.Goals as goal

pub returns-then-admits : goal.returns-then-admits
returns-then-admits c =
    admitted _ _ _ c.are_entries.ensures
    ((c.admits.ensures _ (merged-parts (map leaf_of c.args.leaves.now) c.args.unknown.now).1).0 c.if-admits.true)

pub returns : goal.returns
returns c =
    not_admitted c.admits.result _ _ c.if-admits.false
    (c.admits.ensures _ (merged-parts (map leaf_of c.args.leaves.now) c.args.unknown.now).1)
