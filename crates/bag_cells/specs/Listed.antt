-- The nodes of a pool in the order in which a bag lists them.
use Rattle.std.specs.Prelude.{◌≡◌, ℕ, ◌<◌, List, length, slice_index}
use Rattle.std.specs.List.{All}
use Rattle.cell_nodes.specs.declared.tree.Tree.{Tree}
use Rattle.cell_pool.specs.Listing.{IsClosed}
use Rattle.cell_pool.specs.Visited.{trees_at}

-- no number stands twice
abbrev pub EachOnce : List ℕ → Type 0
EachOnce numbers =
    (j k : ℕ) → j < length numbers → k < length numbers → slice_index numbers j ≡ slice_index numbers k → j ≡ k

-- the places of the numbers, each at its number
abbrev pub ArePlaces : List ℕ → List ℕ → ℕ → Type 0
ArePlaces places numbers count = (j : ℕ) → j < count → slice_index places (slice_index numbers j) ≡ j

-- The numbers mean nodes of the pool, each once, the children of each are among them, and the places are theirs.
pub record IsListed (pool : List Tree) (order places : List ℕ) : Type 0 where
  pub there : All (λ n. n < length pool) order
  pub closed : IsClosed (trees_at pool order)
  pub places_are : ArePlaces places order (length order)
  pub count : length places ≡ length pool
