use Rattle.std.proofs.Common.{◌≡◌, take}
use Rattle.std.specs.List.{flat_map}
use Rattle.cell_pool.specs.Visited.{trees_at}
use Rattle.bag_cells.specs.Written.{cell_bytes}
use Rattle.bag_cells.proofs.write.cell_data.Given as goal

abbrev pub invariant-cells : goal.invariant-cells
invariant-cells l =
    l.data.items ≡ flat_map (cell_bytes l.size (trees_at l.pool l.order)) (take l.i (trees_at l.pool l.order))
