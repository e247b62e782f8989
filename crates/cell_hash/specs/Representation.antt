-- The standard representation of a cell, whose SHA-256 is the cell's hash: two descriptor bytes, the
-- data, and then the depths and the hashes of the children (TVM whitepaper, 3.1.4 and 3.1.5; the pages
-- on cells and on exotic cells of the TON documentation).
use Rattle.std.specs.Prelude.{ℕ, ◌+◌, ◌*◌, ◌/◌, Bool, List, [], ◌∷◌, ◌++◌}
use Rattle.std.specs.List.{flat_map}
use Rattle.std.specs.Int.{to_be_bytes, w16}
use Rattle.bit_slice.specs.Bits.{bit_number, completed}
use Rattle.cell_hash.specs.declared.ChildMark.{ChildMark}
use Rattle.cell_hash.specs.declared.Content.{Content}
use Rattle.cell_hash.specs.declared.Content.TheVariants.{Data, Previous}

-- The descriptor bytes of a cell: first the number of references, whether the cell is exotic, and the
-- level mask; then the number of data bytes, once without and once with one that is only begun.
abbrev pub descriptor : ℕ → Bool → ℕ → ℕ → ℕ × ℕ
descriptor refs exotic mask bits = (refs + 8 * bit_number exotic + 32 * mask, bits / 8 + (bits + 7) / 8)

-- the data completed to whole bytes or, at a level above the lowest, the hash at the level below
abbrev pub content_bytes : Content → List ℕ
content_bytes (Data bits) = completed bits
content_bytes (Previous hash) = hash

-- a child's depth in 2 bytes, the high byte first
abbrev pub depth_bytes : ChildMark → List ℕ
depth_bytes child = to_be_bytes w16 child.depth

-- a child's hash
abbrev pub hash_bytes : ChildMark → List ℕ
hash_bytes child = child.hash

-- the descriptor bytes, the content, the depths of all children, and then the hashes of all children
abbrev pub representation : ℕ × ℕ → Content → List ChildMark → List ℕ
representation d content children =
    (d.0 ∷ d.1 ∷ []) ++ content_bytes content ++ flat_map depth_bytes children ++ flat_map hash_bytes children
