use Rattle.std.proofs.Common.{List, subst}
use Rattle.cell_nodes.specs.declared.tree.Tree.{Tree}
use Rattle.cell_pool.specs.Listing.{IsDistinct}
use Rattle.cell_pool.specs.PlaceLaws.{once}
use Rattle.cell_pool.proofs.pool.Pool.distinct.Goals as goal

pub returns : goal.returns
returns c =
    let d = subst (λ (l : List Tree). IsDistinct l) c.self.view_is c.self.invariant.ordered.distinct in
    λ t i j h k. once c.args.self.now i j t d h k
