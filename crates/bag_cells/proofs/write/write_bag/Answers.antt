use Rattle.std.proofs.Common.{◌≡◌, ◌∙◌, ◌++◌, List, ℕ, length, ap, sym, subst, arith}
use Rattle.std.proofs.lemmas.List.{length-map}
use Rattle.cell_pool.specs.OnceLaws.{child-good}
use Rattle.cell_pool.specs.Visited.{tree_at, trees_at}
use Rattle.bag_cells.specs.Bag.{BagHolds}
use Rattle.bag_cells.specs.Listed.{EachOnce, ArePlaces, IsListed}
use Rattle.bag_cells.specs.Once.{ListsEachOnce}
use Rattle.bag_cells.specs.Written.{bag_of, cell_data}
use Rattle.bag_cells.proofs.Holds.{bag-holds, bag-once}
use Rattle.bag_cells.proofs.Ordered.{in-pool, order-once, listed, small-at}
use Rattle.bag_cells.proofs.Pushed.{bag-pushed}
use Rattle.bag_cells.proofs.write.write_bag.Goals as goal

pub places_of-requires-clause-once : goal.places_of-requires-clause-once
places_of-requires-clause-once c =
    let at = in-pool c.args.pool.now c.args.root c.requires in
    let meaning = rw at at c.in_ok-order.ensures.meaning in
    subst (λ (l : List ℕ). EachOnce l) (sym c.as_slice.ensures.value) (order-once c.args.pool.now c.in_ok-order.order.items (tree_at c.args.pool.now c.args.root) meaning)

pub cell_data-requires : goal.cell_data-requires
cell_data-requires c =
    let at = in-pool c.args.pool.now c.args.root c.requires in
    let meaning = rw at at c.in_ok-order.ensures.meaning in
    let order = c.in_ok-order.order.items in
    let places = c.in_ok-places.places.items in
    let are = subst (λ (l : List ℕ). ArePlaces c.in_ok-places.places.items l (length l)) c.as_slice.ensures.value c.in_ok-places.ensures.places in
    let whole = listed c.args.pool.now order places (tree_at c.args.pool.now c.args.root) meaning c.in_ok-order.ensures.there are (c.in_ok-places.ensures.count ∙ c.count.ensures) in
    subst (λ (l : List ℕ). IsListed c.args.pool.now l c.as_slice-3.result.now) (sym c.as_slice-2.ensures.value)
    (subst (λ (l : List ℕ). IsListed c.args.pool.now c.in_ok-order.order.items l) (sym c.as_slice-3.ensures.value) whole)

written : (c : goal.After-drop-order-2) → c.extend_from_slice.new.self.items ≡ bag_of (tree_at c.args.pool.now c.args.root)
written c =
    let at = in-pool c.args.pool.now c.args.root c.requires in
    let meaning = rw at at c.in_ok-order.ensures.meaning in
    let items = c.in_ok-order.order.items in
    let order = trees_at c.args.pool.now c.in_ok-order.order.items in
    let mapped = length-map c.in_ok-order.order.items (tree_at c.args.pool.now) in
    let shown = ap length c.as_slice-2.ensures.value in
    let content = ap length c.as_slice-4.ensures.value in
    bag-pushed (tree_at c.args.pool.now c.args.root) order c.in_ok-data.data.items c.in_ok-bytes.bytes.items c.extend_from_slice.new.self.items c.width_of-size.result
    c.len-2.result c.len-3.result c.len.result
    (c.in_ok-extend_from_slice.ensures.items ∙ ap (λ (l : List ℕ). c.in_ok-bytes.bytes.items ++ l) c.as_slice-4.ensures.value)
    c.in_ok-bytes.ensures
    (omega (arith, c.len-2.ensures, c.as_slice-2.ensures.len, shown, mapped))
    (omega (arith, c.len-3.ensures, c.as_slice-4.ensures.len, content))
    (c.in_ok-data.ensures ∙ ap (λ (l : List ℕ). cell_data c.width_of-size.result (trees_at c.args.pool.now l)) c.as_slice-2.ensures.value)
    c.width_of-size.ensures
    (omega (arith, c.len.ensures, c.as_slice-2.ensures.len, shown, mapped))
    meaning

pub returns-clause-bytes : goal.returns-clause-bytes
returns-clause-bytes c =
    let at = in-pool c.args.pool.now c.args.root c.requires in
    rw at (written c)

pub returns-clause-holds : goal.returns-clause-holds
returns-clause-holds c =
    let at = in-pool c.args.pool.now c.args.root c.requires in
    let t = tree_at c.args.pool.now c.args.root in
    rw at
    (subst (λ (l : List ℕ). BagHolds l (tree_at c.args.pool.now c.args.root)) (sym (written c))
    (bag-holds t (child-good c.args.pool.now c.args.root t c.good.ensures at) (small-at c.args.pool.now c.args.root t c.small.ensures at)))

pub returns-clause-once : goal.returns-clause-once
returns-clause-once c =
    let at = in-pool c.args.pool.now c.args.root c.requires in
    let t = tree_at c.args.pool.now c.args.root in
    rw at
    (subst (λ (l : List ℕ). ListsEachOnce l (tree_at c.args.pool.now c.args.root)) (sym (written c))
    (bag-once t (child-good c.args.pool.now c.args.root t c.good.ensures at) (small-at c.args.pool.now c.args.root t c.small.ensures at)))
