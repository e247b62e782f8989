use Rattle.std.proofs.Common.{◌≡◌, ◌∙◌, ◌++◌, ◌<◌, ℕ, List, length, take, drop, reverse, sym, ap, subst, arith}
use Rattle.std.specs.List.{All}
use Rattle.cell_pool.specs.Listing.{added}
use Rattle.cell_pool.specs.Visited.{tree_at, trees_at}
use Rattle.cell_pool.proofs.Visits.{order-is, order-means, order-there, take-own}
use Rattle.cell_pool.proofs.order.order_of.Goals as goal

reversed : (c : goal.After-drop-done-2) → take c.visit.new.numbers.len (c.reverse.new.self ++ drop (length c.reverse.new.self) c.visit.new.numbers.items) ≡ reverse c.visit.new.numbers.items
reversed c =
    let own : length c.reverse.new.self ≡ c.visit.new.numbers.len =
    omega (arith, c.reverse.ensures.len, c.as_mut_slice-2.ensures.len) in
    take-own c.reverse.new.self (drop (length c.reverse.new.self) c.visit.new.numbers.items) c.visit.new.numbers.len own
    ∙ c.reverse.ensures.after
    ∙ ap reverse c.as_mut_slice-2.ensures.value

pub returns-clause-numbers : goal.returns-clause-numbers
returns-clause-numbers c =
    reversed c
    ∙ order-is c.args.pool.now c.visit.new.numbers.items (tree_at c.args.pool.now c.args.root) c.ordered.ensures.distinct c.in_ok-visit.ensures.visited.there
    (c.in_ok-visit.ensures.added ∙ ap (λ (l : List ℕ). added (trees_at c.args.pool.now l) (tree_at c.args.pool.now c.args.root)) c.new-numbers.ensures.items)

pub returns-clause-meaning : goal.returns-clause-meaning
returns-clause-meaning c =
    ap (λ (l : List ℕ). trees_at c.args.pool.now l) (reversed c)
    ∙ order-means c.args.pool.now c.visit.new.numbers.items (tree_at c.args.pool.now c.args.root)
    (c.in_ok-visit.ensures.added ∙ ap (λ (l : List ℕ). added (trees_at c.args.pool.now l) (tree_at c.args.pool.now c.args.root)) c.new-numbers.ensures.items)

pub returns-clause-there : goal.returns-clause-there
returns-clause-there c =
    subst (λ (l : List ℕ). All (λ n. n < length c.args.pool.now) l) (sym (reversed c))
    (order-there (length c.args.pool.now) c.visit.new.numbers.items c.in_ok-visit.ensures.visited.there)
