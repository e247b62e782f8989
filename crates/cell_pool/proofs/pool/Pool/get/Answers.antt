use Rattle.std.proofs.Common.{◌≡◌, ◌∙◌, ◌<◌, List, length, map, ap, arith}
use Rattle.std.proofs.lemmas.List.{length-map}
use Rattle.cell_nodes.specs.declared.tree.Tree.{Tree, out-Tree}
use Rattle.cell_pool.specs.Post.{place}
use Rattle.cell_pool.specs.Nodes.{trees_of, node_tree}
use Rattle.cell_pool.proofs.Kept.{numbers-at}
use Rattle.cell_pool.proofs.pool.Pool.get.Goals as goal

pub returns-clause-numbers : goal.returns-clause-numbers
returns-clause-numbers c =
    let nodes = c.self.inside.nodes.items in
    let view : trees_of nodes ≡ c.args.self.now = c.self.view_is in
    let within : c.number.result < length nodes = omega (arith, length-map nodes node_tree, ap length view) in
    numbers-at nodes c.self.inside.heads.items c.number.result c.index.result.now within c.index.ensures c.self.invariant
    ∙ ap (λ (l : List Tree). map (place l) (out-Tree (node_tree c.index.result.now)).children) view
