use Rattle.std.proofs.Common.{sym}
use Rattle.std.proofs.Common.{subst, ◌<◌}
use Rattle.cell_nodes.specs.Tree.{deepest}
use Rattle.cell_nodes.specs.declared.tree.Tree.{Tree}
use Rattle.building_laws.specs.RangeLaws.{hidden-below}
use Rattle.plan_building.proofs.growing.pruned.Goals as goal

pub returns-in-Ok-clause-below : goal.returns-in-Ok-clause-below
returns-in-Ok-clause-below c =
    let P : Tree → Type 0 = λ t. deepest t < 1024 in
    subst P (sym c.in-Ok.ensures.made) (hidden-below c.args.hidden c.is_hash.ensures c.requires)
