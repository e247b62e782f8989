use Rattle.std.proofs.Common.{◌∙◌, ◌++◌, ◌∷◌, [], ◌<◌, ℕ, true, false, List, length, map, get_or, set, sym, ap, subst, arith}
use Rattle.std.specs.List.{All}
use Rattle.std.proofs.lemmas.List.Elements.{All-tail}
use Rattle.cell_nodes.specs.Equations.{one_le-unfolded}
use Rattle.cell_nodes.specs.declared.tree.Tree.{Tree}
use Rattle.cell_nodes.specs.Tree.{total, unfolded}
use Rattle.cell_pool.specs.Nodes.{node_tree}
use Rattle.cell_pool.specs.Visited.{tree_at, trees_at, IsVisited}
use Rattle.cell_pool.specs.Listing.{added_all}
use Rattle.cell_pool.proofs.Visits.{children-mean, children-smaller, visited-known, visited-grown, visited-more}
use Rattle.cell_pool.proofs.order.+visit.Goals as goal

pub visit-returns-then-done-place-clause-added : goal.visit-returns-then-done-place-clause-added
visit-returns-then-done-place-clause-added t c =
    visited-known c.args.pool.now c.args.done.now c.args.numbers.now.items c.args.id c.requires.visited c.requires.there
    (ap (λ (i : ℕ). get_or c.args.done.now i false) (sym c.number-place.ensures) ∙ c.if-done-place.true)

pub visit-visit_all-requires : goal.visit-visit_all-requires
visit-visit_all-requires t c =
    let mean = children-mean c.args.pool.now c.args.id (node_tree c.get.result.now) c.children.result.now c.ordered.ensures c.get.ensures.tree
    (c.children.ensures ∙ c.get.ensures.numbers) in
    let smaller = children-smaller c.args.pool.now c.args.id c.children.result.now mean.0 in
    (omega (arith, smaller, c.decreases), (mean.1, c.requires.visited))

pub visit-returns-clause-added : goal.visit-returns-clause-added
visit-returns-clause-added t c =
    let mean = children-mean c.args.pool.now c.args.id (node_tree c.get.result.now) c.children.result.now c.ordered.ensures c.get.ensures.tree
    (c.children.ensures ∙ c.get.ensures.numbers) in
    let fresh = ap (λ (i : ℕ). get_or c.args.done.now i false) (sym c.number-place.ensures) ∙ c.if-done-place.false in
    ap (λ (l : List ℕ). trees_at c.args.pool.now l) c.in_ok-push_number.ensures
    ∙ visited-grown c.args.pool.now c.args.done.now c.args.numbers.now.items c.visit_all.new.numbers.items c.args.id c.requires.visited c.requires.there fresh
    (c.in_ok-visit_all.ensures.added ∙ ap (λ (l : List Tree). added_all (trees_at c.args.pool.now c.args.numbers.now.items) l) mean.0)

pub visit-returns-clause-visited : goal.visit-returns-clause-visited
visit-returns-clause-visited t c =
    let mean = children-mean c.args.pool.now c.args.id (node_tree c.get.result.now) c.children.result.now c.ordered.ensures c.get.ensures.tree
    (c.children.ensures ∙ c.get.ensures.numbers) in
    let fresh = ap (λ (i : ℕ). get_or c.args.done.now i false) (sym c.number-place.ensures) ∙ c.if-done-place.false in
    subst (λ (l : List ℕ). IsVisited c.args.pool.now (set c.visit_all.new.done c.number-place.result true) l) (sym c.in_ok-push_number.ensures)
    (subst (λ (i : ℕ). IsVisited c.args.pool.now (set c.visit_all.new.done i true) (c.visit_all.new.numbers.items ++ c.args.id ∷ [])) (sym c.number-place.ensures)
    (visited-more c.args.pool.now c.args.done.now c.visit_all.new.done c.args.numbers.now.items c.visit_all.new.numbers.items c.args.id c.ordered.ensures
    c.requires.visited c.in_ok-visit_all.ensures.visited c.requires.there fresh
    (c.in_ok-visit_all.ensures.added ∙ ap (λ (l : List Tree). added_all (trees_at c.args.pool.now c.args.numbers.now.items) l) mean.0)))

pub visit_all-visit_all-requires : goal.visit_all-visit_all-requires
visit_all-visit_all-requires t c =
    let e = c.in-Some.ensures.cases.0 in
    let sizes = ap (λ (l : List ℕ). total (map unfolded (trees_at c.args.pool.now l))) e in
    let some = one_le-unfolded (tree_at c.args.pool.now c.in-Some.first.now) in
    let there = subst (λ (l : List ℕ). All (λ n. n < length c.args.pool.now) l) e c.requires.there in (
      omega (arith, sizes, some, c.decreases),
      (All-tail (λ n. n < length c.args.pool.now) c.in-Some.first.now c.in-Some.rest.now there, c.in_ok-visit-in-Some.ensures.visited),
    )
