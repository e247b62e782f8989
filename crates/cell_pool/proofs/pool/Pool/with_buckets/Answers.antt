use Rattle.std.proofs.Common.{◌≡◌, ℕ, List, [], replicate, sym, subst, rules}
use Rattle.cell_pool.specs.declared.node.PoolNode.{PoolNode}
use Rattle.cell_pool.specs.Nodes.{IsPool}
use Rattle.cell_pool.proofs.Kept.{pool-empty}
use Rattle.cell_pool.proofs.pool.Pool.with_buckets.Goals as goal

pub invariant_of-result : goal.invariant_of-result
invariant_of-result c =
    let zeros : c.in_ok-heads.heads.items ≡ replicate c.args.count 0 = search rules in
    subst (λ (ns : List PoolNode). IsPool ns c.in_ok-heads.heads.items) (sym c.new.ensures.items)
    (subst (λ (hs : List ℕ). IsPool [] hs) (sym zeros) (pool-empty c.args.count c.requires))
