use Rattle.std.proofs.Common.{◌∙◌, ◌<◌, ◌++◌, ℕ, List, length, map, get_or, sym, ap, subst}
use Rattle.std.specs.Prelude.{slice_get}
use Rattle.std.specs.List.{All}
use Rattle.std.proofs.lemmas.Grind.{get_or_default_zero}
use Rattle.std.proofs.lemmas.Result.{IfOk-equal}
use Rattle.cell_nodes.specs.declared.tree.Tree.{Tree, out-Tree}
use Rattle.cell_pool.specs.Nodes.{node_tree}
use Rattle.cell_pool.specs.Visited.{trees_at}
use Rattle.bag_cells.specs.Written.{cell_bytes}
use Rattle.bag_cells.proofs.Ordered.{children-listed, node-is, places-listed, places-there}
use Rattle.bag_cells.proofs.Pushed.{cell_bytes-pushed}
use Rattle.bag_cells.proofs.write.push_cell.Goals as goal

pub push_refs-requires : goal.push_refs-requires
push_refs-requires c =
    let pool = c.args.pool.now in
    let order = c.args.order.now in
    let u = node_tree c.get-node.result.now in
    let number = c.index-order-i.is ∙ get_or_default_zero order c.args.i c.index-order-i.result c.requires.there in
    let at = ap (λ (n : ℕ). slice_get c.args.pool.now n) (sym number) ∙ c.get-node.ensures.tree in
    let stand = children-listed pool order c.args.places.now c.args.i u c.requires.listed c.requires.there at in
    let numbers = c.children.ensures ∙ c.get-node.ensures.numbers in
    subst (λ (l : List ℕ). All (λ n. n < length c.args.places.now) l) (sym numbers)
    (places-there pool order c.args.places.now (out-Tree u).children c.ordered.ensures.distinct c.requires.listed stand)

pub returns : goal.returns
returns c =
    let pool = c.args.pool.now in
    let order = c.args.order.now in
    let u = node_tree c.get-node.result.now in
    let number = c.index-order-i.is ∙ get_or_default_zero order c.args.i c.index-order-i.result c.requires.there in
    let at = ap (λ (n : ℕ). slice_get c.args.pool.now n) (sym number) ∙ c.get-node.ensures.tree in
    let stand = children-listed pool order c.args.places.now c.args.i u c.requires.listed c.requires.there at in
    let numbers = c.children.ensures ∙ c.get-node.ensures.numbers in
    let indexes =
    ap (λ (l : List ℕ). map (λ n. get_or c.args.places.now n 0) l) numbers
    ∙ places-listed pool order c.args.places.now (out-Tree u).children c.ordered.ensures.distinct c.requires.listed stand in
    IfOk-equal c.push_refs.result _ _ _ c.push_refs.ensures
    (cell_bytes-pushed c.args.size (trees_at pool order) u c.descriptor_of-first.result c.args.bytes.now.items c.push_byte.new.bytes.items c.push_byte-2.new.bytes.items
    c.push_completed.new.bytes.items c.bits.result _ c.descriptor_of-first.ensures c.bits.ensures indexes c.in_ok-push_byte.ensures c.in_ok-push_byte-2.ensures
    c.in_ok-push_completed.ensures
    ∙ ap (λ (t : Tree). c.args.bytes.now.items ++ cell_bytes c.args.size (trees_at c.args.pool.now c.args.order.now) t)
    (node-is pool order c.args.places.now c.args.i u c.requires.listed c.requires.there at))
