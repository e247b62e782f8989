-- The cells that the constructors of exotic cells state, and the pruned branch that stands for a tree.
--
-- Source: TON documentation, "Exotic cells": pruned branch, library reference, Merkle proof, Merkle update.
use Rattle.std.specs.Prelude.{ℕ, ◌+◌, ◌%◌, ◌^◌, List, [], ◌∷◌, ◌++◌, map}
use Rattle.std.specs.List.{flat_map}
use Rattle.bit_slice.specs.Bits.{spelled}
use Rattle.cell_hash.specs.declared.ChildMark.{ChildMark}
use Rattle.cell_nodes.specs.declared.tree.Kind.TheVariants.{Pruned, Library, Proof, Update}
use Rattle.cell_nodes.specs.declared.tree.Tree.{Tree}
use Rattle.cell_nodes.specs.Levels.{levels_in}
use Rattle.cell_nodes.specs.Tree.{tree_of, mark_at, marks, mask, depth, hash}

-- the bits of bytes
abbrev pub bits_of : List ℕ → List ℕ
bits_of bytes = flat_map (spelled 8) bytes

-- ---- data: the type, and then the fields

abbrev pub hash_bits : ChildMark → List ℕ
hash_bits pair = bits_of pair.hash

abbrev pub depth_bits : ChildMark → List ℕ
depth_bits pair = spelled 16 pair.depth

-- a pruned branch of that mask with these pairs
abbrev pub pruned_bits : ℕ → List ChildMark → List ℕ
pruned_bits mask pairs = spelled 8 1 ++ (spelled 8 mask ++ (flat_map hash_bits pairs ++ flat_map depth_bits pairs))

abbrev pub library_bits : List ℕ → List ℕ
library_bits hash = spelled 8 2 ++ bits_of hash

abbrev pub proof_bits : List ℕ → ℕ → List ℕ
proof_bits hash depth = spelled 8 3 ++ (bits_of hash ++ spelled 16 depth)

abbrev pub update_bits : List ℕ → List ℕ → ℕ → ℕ → List ℕ
update_bits old_hash new_hash old_depth new_depth =
    spelled 8 4 ++ (bits_of old_hash ++ (bits_of new_hash ++ (spelled 16 old_depth ++ spelled 16 new_depth)))

-- ---- trees

-- the pruned branch of that mask with these pairs
abbrev pub pruned_with : ℕ → List ChildMark → Tree
pruned_with mask pairs = tree_of Pruned (pruned_bits mask pairs) []

-- the pruned branch of mask 1 with that hash and depth
abbrev pub pruned_of : List ℕ → ℕ → Tree
pruned_of hash depth = pruned_with 1 (record { depth = depth; hash = hash } ∷ [])

abbrev pub library_of : List ℕ → Tree
library_of hash = tree_of Library (library_bits hash) []

-- the proof with the child's hash and depth at level 0
abbrev pub proof_of : Tree → Tree
proof_of child = tree_of Proof (proof_bits (hash child 0) (depth child 0)) (child ∷ [])

-- the update with its children's hashes and depths at level 0
abbrev pub update_of : Tree → Tree → Tree
update_of old new =
    tree_of Update (update_bits (hash old 0) (hash new 0) (depth old 0) (depth new 0)) (old ∷ new ∷ [])

-- The pruned branch that stands for a tree below i proofs. Its mask is the lowest i bits of the tree's, and bit i; its
-- pairs are the tree's hashes and depths at level 0 and at the levels up to i that the tree's mask has.
abbrev pub stub : Tree → ℕ → Tree
stub t i = pruned_with (mask t % 2 ^ i + 2 ^ i) (map (λ j. mark_at j (marks t)) (levels_in i (mask t)))
