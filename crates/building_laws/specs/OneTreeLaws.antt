-- The laws of one tree.
use Rattle.typed_value.specs.Values.{most_levels, most_parts}
use Rattle.building.specs.PlainBuilder.{most_cells}
use Rattle.building_laws.specs.Laws.{OneTree, TreeIsBuilt}
use Rattle.building_laws.specs.RootLaws.{build_on, one_tree_within}

pub one_tree : OneTree
one_tree mode req schema ok t v range c d x y r k =
    one_tree_within most_levels most_parts mode req schema ok t v range c d x y
    (record { root = r.root; deep = r.deep; large = r.large }) (record { root = k.root; deep = k.deep; large = k.large })

pub tree_is_built : TreeIsBuilt
tree_is_built mode req schema ok t v range c r =
    build_on most_levels most_parts most_cells mode req schema ok t v range c r.good
    (record { root = r.reading.root; deep = r.reading.deep; large = r.reading.large }) r.small
