-- Hashes in a chain, each of a representation that has the one before as a child's.
use Rattle.std.specs.Prelude.{ℕ, zero, suc, List, [], ◌∷◌, replicate}
use Rattle.sha2.specs.Sha256.{sha256}
use Rattle.cell_hash.specs.declared.ChildMark.{ChildMark}
use Rattle.cell_hash.specs.declared.Content.TheVariants.{Data}
use Rattle.cell_hash.specs.Representation.{descriptor, representation}
use Rattle.std.specs.Prelude.{false, length}

-- a child of depth 1 with this hash
abbrev pub child_with : List ℕ → ChildMark
child_with hash = record { depth = 1; hash = hash }

-- The hash after n steps over the same data: at first 32 zeros. Both children have the hash before.
unfoldable pub chained : List ℕ → ℕ → List ℕ
chained bits zero = replicate 32 0
chained bits (suc n) =
    sha256 (representation (descriptor 2 false 0 (length bits)) (Data bits)
    (child_with (chained bits n) ∷ child_with (chained bits n) ∷ []))
