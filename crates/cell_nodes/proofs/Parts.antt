-- A tree and its parts.
use Rattle.cell_nodes.specs.Equations.{out-tree_of}

pub ruleset parts = (out-tree_of)
