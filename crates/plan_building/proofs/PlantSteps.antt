-- A tree that is planted, by its first edge.
use Rattle.std.proofs.Common.{◌≡◌, ℕ, [], Ok, Err, ap}
use Rattle.hashmap_tree.specs.Entries.{Entries}
use Rattle.hashmap_tree.specs.Exceeds.{Excess, first_key}
use Rattle.building.specs.Planting.{◌>>=◌, Top, edge_of, planting, tops}

pub planting_ok : (n : ℕ) (es : Entries) (top : Top) → tops n [] es ≡ Ok top
    → planting n es ≡ edge_of n (first_key es) top
planting_ok n es top e = ap (λ r. r >>= λ x. edge_of n (first_key es) x) e

pub planting_err : (n : ℕ) (es : Entries) (f : Excess) → tops n [] es ≡ Err f → planting n es ≡ Err f
planting_err n es f e = ap (λ r. r >>= λ x. edge_of n (first_key es) x) e
