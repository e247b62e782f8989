use Rattle.std.proofs.Common.{◌≡◌, ◌∙◌, ◌-◌, ◌<◌, ℕ, suc, List, length, map, refl, ap, sym, subst, arith}
use Rattle.std.specs.Prelude.{slice_get}
use Rattle.std.proofs.lemmas.Bool.{false≢true}
use Rattle.std.proofs.lemmas.Grind.{get_or_default_zero}
use Rattle.std.proofs.lemmas.List.{length-map}
use Rattle.cell_nodes.specs.declared.tree.Tree.{Tree, out-Tree}
use Rattle.cell_pool.specs.declared.node.PoolNode.{PoolNode}
use Rattle.cell_pool.specs.Listing.{AllStand}
use Rattle.cell_pool.specs.Nodes.{trees_of, node_tree, numbers_in, bucket}
use Rattle.cell_pool.proofs.Sought.{IsSought, sought-first, sought-none, node-found, node-other, chain-next, link-before}
use Rattle.cell_pool.proofs.pool.Pool.find.Goals as goal

pub chain-init : goal.chain-init
chain-init c =
    let nodes = c.self.inside.nodes.items in
    let heads = c.self.inside.heads.items in
    let t = c.args.cell.now in
    let count : c.len.result ≡ length heads = omega (arith, c.len.ensures) in
    subst (λ (l : List Tree). IsSought l (length heads) t c.index-link.result.now) c.self.view_is
    (sought-first (trees_of nodes) (map (λ (k : PoolNode). k.next) nodes) heads (length heads) c.bucket_of.result c.index-link.result.now t c.self.invariant.chained
    (c.bucket_of.ensures.value ∙ ap (λ (x : ℕ). bucket x t) count)
    (omega (arith, c.bucket_of.ensures.bound, count))
    (c.index-link.ensures ∙ get_or_default_zero heads c.bucket_of.result c.index-link.result.now (omega (arith, c.bucket_of.ensures.bound, count))))

pub returns-then-is_node_of : goal.returns-then-is_node_of
returns-then-is_node_of c =
    let nodes = c.self.inside.nodes.items in
    let view : trees_of nodes ≡ c.args.self.now = c.self.view_is in
    let t = c.args.cell.now in
    let within : c.chain.link - 1 < length nodes =
    omega (arith, c.chain.invariant.within, c.chain-test.true, length-map nodes node_tree, ap length view) in
    let numbers = c.requires.numbers ∙ ap (λ (l : List Tree). numbers_in l t) (sym view) in
    let stand = subst (λ (l : List Tree). AllStand l (out-Tree t).children) (sym view) c.requires.stand in
    let both = c.if-is_node_of.ensures.0 refl in
    ap (λ (i : ℕ). slice_get c.args.self.now i) c.new.ensures
    ∙ ap (λ (l : List Tree). slice_get l (c.chain.link - 1)) (sym view)
    ∙ node-found nodes c.self.inside.heads.items (c.chain.link - 1) c.index-node.result.now t c.args.children.now c.self.invariant within c.index-node.ensures numbers stand
    both.0 both.1

pub chain-smaller : goal.chain-smaller
chain-smaller c =
    let nodes = c.self.inside.nodes.items in
    let view : trees_of nodes ≡ c.args.self.now = c.self.view_is in
    let within : c.chain.link - 1 < length nodes =
    omega (arith, c.chain.invariant.within, c.chain-test.true, length-map nodes node_tree, ap length view) in
    omega (arith, c.chain-test.true, link-before nodes c.self.inside.heads.items (c.chain.link - 1) c.index-node.result.now c.self.invariant within c.index-node.ensures)

pub chain-preserved : goal.chain-preserved
chain-preserved c =
    let nodes = c.self.inside.nodes.items in
    let heads = c.self.inside.heads.items in
    let view : trees_of nodes ≡ c.args.self.now = c.self.view_is in
    let t = c.args.cell.now in
    let i : ℕ = c.chain.link - 1 in
    let within : c.chain.link - 1 < length nodes =
    omega (arith, c.chain.invariant.within, c.chain-test.true, length-map nodes node_tree, ap length view) in
    let numbers = c.requires.numbers ∙ ap (λ (l : List Tree). numbers_in l t) (sym view) in
    let sought = subst (λ (l : List Tree). IsSought l (length heads) t c.chain.link) (sym view) c.chain.invariant in
    let next : c.chain.link ≡ suc (c.chain.link - 1) = omega (arith, c.chain-test.true) in
    subst (λ (l : List Tree). IsSought l (length heads) t c.index-node.result.now.next) view
    (chain-next nodes heads c.chain.link (c.chain.link - 1) c.index-node.result.now t c.self.invariant within c.index-node.ensures sought next
    (node-other nodes heads (c.chain.link - 1) c.index-node.result.now t c.args.children.now c.self.invariant within c.index-node.ensures numbers
    (λ both. false≢true (c.if-is_node_of.ensures.1 both))))

pub returns : goal.returns
returns c = sought-none c.args.self.now (length c.self.inside.heads.items) c.chain.link c.args.cell.now c.chain.invariant (omega (arith, c.chain-test.false))
