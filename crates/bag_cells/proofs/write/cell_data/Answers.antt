use Rattle.std.proofs.Common.{◌∙◌, ◌≤◌, List, length, ap, arith}
use Rattle.std.specs.List.{flat_map}
use Rattle.std.proofs.lemmas.List.{take_all, length-map}
use Rattle.cell_nodes.specs.declared.tree.Tree.{Tree}
use Rattle.cell_pool.specs.Visited.{tree_at, trees_at}
use Rattle.bag_cells.specs.Written.{cell_bytes, cell_data}
use Rattle.bag_cells.proofs.Ordered.{written-more}
use Rattle.bag_cells.proofs.write.cell_data.Goals as goal

pub cells-preserved : goal.cells-preserved
cells-preserved c =
    written-more (cell_bytes c.args.size (trees_at c.args.pool.now c.args.order.now)) c.args.pool.now c.args.order.now c.cells.i c.cells.data.items
    c.push_cell.new.bytes.items (omega (arith, c.cells-test.true)) c.in_ok-push_cell.ensures c.cells.invariant

pub returns : goal.returns
unfolding cell_data
returns c =
    let order = trees_at c.args.pool.now c.args.order.now in
    let all : length order ≤ c.cells.i = omega (arith, c.cells-test.false, length-map c.args.order.now (tree_at c.args.pool.now)) in
    c.cells.invariant ∙ ap (λ (l : List Tree). flat_map (cell_bytes c.args.size (trees_at c.args.pool.now c.args.order.now)) l) (take_all c.cells.i order all)
