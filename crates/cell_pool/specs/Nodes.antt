-- What a pool keeps: nodes that mean trees, and chains through the nodes of one bucket.
use Rattle.std.specs.Prelude.{◌≡◌, ℕ, suc, ◌+◌, ◌*◌, ◌%◌, ◌^◌, ◌<◌, ◌≤◌, false, List, [], ◌∷◌, length, map, slice_index}
use Rattle.cell_nodes.specs.declared.tree.Tree.{Tree, out-Tree}
use Rattle.cell_nodes.specs.Good.{AllGood}
use Rattle.cell_nodes.specs.Levels.{top_level}
use Rattle.cell_nodes.specs.Tree.{hash, unfolded}
use Rattle.cell_pool.specs.Post.{place, stands}
use Rattle.cell_pool.specs.Listing.{AllStand, IsOrdered}
use Rattle.cell_pool.specs.declared.node.PoolNode.{PoolNode}

-- ---- nodes

-- the tree that a node means
abbrev pub node_tree : PoolNode → Tree
node_tree n = n.cell

-- the numbers of its children
abbrev pub node_numbers : PoolNode → List ℕ
node_numbers n = n.children.items

abbrev pub trees_of : List PoolNode → List Tree
trees_of nodes = map node_tree nodes

abbrev pub numbers_in : List Tree → Tree → List ℕ
numbers_in seen t = map (place seen) (out-Tree t).children

-- one kind and the same bits
abbrev pub SameContent : Tree → Tree → Type 0
SameContent a b = ((out-Tree a).kind ≡ (out-Tree b).kind) × ((out-Tree a).bits ≡ (out-Tree b).bits)

-- ---- buckets and their chains

-- the number of the first four bytes of the hash at the highest level
unfoldable pub mark : Tree → ℕ
mark t =
    slice_index (hash t top_level) 0 * 16777216 + slice_index (hash t top_level) 1 * 65536
    + slice_index (hash t top_level) 2 * 256 + slice_index (hash t top_level) 3

-- the bucket of a tree, of so many
abbrev pub bucket : ℕ → Tree → ℕ
bucket count t = mark t % count

-- The link leads to the last place below `bound` whose bucket is this one: it is the place plus 1, and 0 where there
-- is none.
pub record IsLink (buckets : List ℕ) (bound bucket link : ℕ) : Type 0 where
  pub within : link ≤ bound
  pub inside : (i : ℕ) → link ≡ suc i → slice_index buckets i ≡ bucket
  pub last : (i : ℕ) → i < bound → slice_index buckets i ≡ bucket → i < link

-- The head of a bucket links to the last of its nodes, and each node to the one before it.
pub record IsChained (buckets links heads : List ℕ) : Type 0 where
  pub heads_link : (b : ℕ) → b < length heads → IsLink buckets (length buckets) b (slice_index heads b)
  pub nodes_link : (i : ℕ) → i < length buckets → IsLink buckets i (slice_index buckets i) (slice_index links i)

-- ---- the whole pool

abbrev pub AllSmall : List Tree → Type 0
AllSmall [] = Unit {0}
AllSmall (t ∷ ts) = (unfolded t ≤ 262144) × AllSmall ts

-- the trees are good, small and in order, the numbers kept are the places of the children, and the chains stand
pub record IsPool (nodes : List PoolNode) (heads : List ℕ) : Type 0 where
  pub good : AllGood (trees_of nodes)
  pub small : AllSmall (trees_of nodes)
  pub ordered : IsOrdered (trees_of nodes)
  pub numbers_are : map node_numbers nodes ≡ map (numbers_in (trees_of nodes)) (trees_of nodes)
  pub few : length nodes < 2 ^ 32
  pub some_heads : 0 < length heads
  pub chained : IsChained (map (bucket (length heads)) (trees_of nodes)) (map (λ (n : PoolNode). n.next) nodes) heads

-- The tree can stand after the list: it is not there and its children are, the numbers are their places, it is small,
-- and there is room.
pub record Follows (seen : List Tree) (t : Tree) (numbers : List ℕ) : Type 0 where
  pub is_new : stands seen t ≡ false
  pub children_stand : AllStand seen (out-Tree t).children
  pub numbers_are : numbers ≡ numbers_in seen t
  pub is_small : unfolded t ≤ 262144
  pub room : length seen + 1 < 2 ^ 32
