-- Worked cases: a map of the key 00 of two bits, whose label stands in the form of equal bits, which is required, or in
-- the short form, which is a bit longer.
use Rattle.std.specs.Prelude.{ℕ, ◌≤◌, List, [], ◌∷◌}
use Rattle.std.proofs.Common.{arith}
use Rattle.cell_nodes.specs.declared.tree.Tree.{Tree}
use Rattle.hashmap_tree.specs.Entries.{cell_of}
use Rattle.spelling.specs.Slices.{only_bits}
use Rattle.strict_laws.specs.NoLonger.{IsNoLonger, AreNoLonger, no_trees, more_trees, no_longer_cell, bits_of_cell, refs_of_cell}

abbrev leaf : List ℕ → Tree
leaf b = cell_of (only_bits b)

abbrev node : List ℕ → List Tree → Tree
node b cs = cell_of (record { bits = b; refs = cs })

abbrev same_label : List ℕ
same_label = 1 ∷ 1 ∷ 0 ∷ 1 ∷ 0 ∷ []

abbrev short_label : List ℕ
short_label = 0 ∷ 1 ∷ 1 ∷ 0 ∷ 0 ∷ 0 ∷ []

-- the required label is no longer, and so the whole map
pub required_is_no_longer : IsNoLonger (node (1 ∷ []) (leaf same_label ∷ [])) (node (1 ∷ []) (leaf short_label ∷ []))
required_is_no_longer =
    no_longer_cell _ _ (omega arith) (more_trees _ _ [] [] (no_longer_cell _ _ (omega arith) no_trees) no_trees)

-- the short one is longer
pub short_is_longer : IsNoLonger (leaf short_label) (leaf same_label) → ⊥
short_is_longer h = let l : 6 ≤ 5 = bits_of_cell (only_bits short_label) (only_bits same_label) h in omega (arith, l)

-- and so is a map in which it stands
pub short_map_is_longer : IsNoLonger (node (1 ∷ []) (leaf short_label ∷ [])) (node (1 ∷ []) (leaf same_label ∷ [])) → ⊥
short_map_is_longer h = first (refs_of_cell _ _ h)
  where
    first : AreNoLonger (leaf short_label ∷ []) (leaf same_label ∷ []) → ⊥
    first (more_trees _ _ _ _ k ks) = short_is_longer k

-- another number of references is never there
pub one_reference_more : AreNoLonger (leaf [] ∷ []) [] → ⊥
one_reference_more h = elim h [ ]
