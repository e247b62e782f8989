use Rattle.std.proofs.Common.{◌≡◌, ◌∙◌, ◌++◌, ◌∷◌, [], ℕ, List, length, set, ap, sym, subst, arith, length-append}
use Rattle.std.proofs.lemmas.Grind.{get_or_default_zero}
use Rattle.cell_nodes.specs.declared.tree.Tree.{Tree}
use Rattle.cell_pool.specs.declared.node.PoolNode.{PoolNode}
use Rattle.cell_pool.specs.Nodes.{IsPool, Follows, bucket}
use Rattle.cell_pool.proofs.Kept.{pool-push}
use Rattle.cell_pool.proofs.pool.Pool.push.Goals as goal

pub invariant_of-self-2 : goal.invariant_of-self-2
invariant_of-self-2 c =
    let nodes = c.self.inside.nodes.items in
    let heads = c.self.inside.heads.items in
    let n : PoolNode = record { cell = c.args.cell; children = c.args.children; next = c.index-next.result.now } in
    let follows = subst (λ (l : List Tree). Follows l c.args.cell c.args.children.items) (sym c.self.view_is) c.requires in
    let pushed : c.push_node.new.nodes.items ≡ nodes ++ n ∷ [] = c.in_ok-push_node.ensures.ok in
    let count : c.len.result ≡ length heads = omega (arith, c.len.ensures) in
    subst (λ (l : List PoolNode). IsPool l (set heads c.bucket_of-bucket.result c.len-2.result)) (sym pushed)
    (pool-push nodes heads n c.bucket_of-bucket.result c.len-2.result c.self.invariant follows c.good.ensures
    (c.bucket_of-bucket.ensures.value ∙ ap (λ (x : ℕ). bucket x c.args.cell) count)
    (omega (arith, c.bucket_of-bucket.ensures.bound, count))
    (c.index-next.ensures ∙ get_or_default_zero heads c.bucket_of-bucket.result c.index-next.result.now (omega (arith, c.bucket_of-bucket.ensures.bound, count)))
    (omega (arith, c.len-2.ensures, ap length pushed, length-append nodes (n ∷ []))))
