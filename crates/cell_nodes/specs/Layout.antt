-- What the bits of an exotic cell hold.
--
-- Source: TON documentation, "Exotic cells": pruned branch, library reference, Merkle proof, Merkle update. An exotic
-- cell begins with 8 bits that name its type. All fields are whole bytes.
--   pruned branch:  01, a mask from 1 to 7, as many hashes of 32 bytes as the mask has bits set, and then as many
--                   depths of 2 bytes; no reference
--   library:        02, a hash of 32 bytes; no reference
--   Merkle proof:   03, the child's hash of 32 bytes, the child's depth of 2 bytes; one reference
--   Merkle update:  04, the children's hashes of 32 bytes, their depths of 2 bytes; two references
use Rattle.std.specs.Prelude.{ℕ, ◌+◌, ◌*◌, ◌==◌, nat_le, Bool, true, ◌&&◌, Option, Some, None, List, length, take}
use Rattle.std.specs.Prelude.{drop, if◌then◌else◌}
use Rattle.bit_slice.specs.Bits.{number_of, groups}
use Rattle.cell_nodes.specs.Levels.{set_bits, top_level}
use Rattle.cell_nodes.specs.declared.tree.Kind.{Kind}
use Rattle.cell_nodes.specs.declared.tree.Kind.TheVariants.{Ordinary, Pruned, Library, Proof, Update}

-- byte i of the bits, where they have it
abbrev pub byte_of : ℕ → List ℕ → ℕ
byte_of i bits = number_of (take 8 (drop (8 * i) bits))

-- the hash of 32 bytes, and the depth of 2 bytes, that begin at bit `start`
abbrev pub hash_from : ℕ → List ℕ → List ℕ
hash_from start bits = groups 8 32 (drop start bits)

abbrev pub depth_from : ℕ → List ℕ → ℕ
depth_from start bits = number_of (take 16 (drop start bits))

-- ---- a pruned branch: its mask, and its pairs of a hash and a depth, counted from 0

abbrev pub stored_mask : List ℕ → ℕ
stored_mask bits = byte_of 1 bits

-- how many pairs a pruned branch of that mask stores
abbrev pub pair_count : ℕ → ℕ
pair_count mask = set_bits top_level mask

abbrev pub stored_hash : ℕ → List ℕ → List ℕ
stored_hash j bits = hash_from (16 + 256 * j) bits

abbrev pub stored_depth : ℕ → List ℕ → ℕ
stored_depth j bits = depth_from (16 + 256 * pair_count (stored_mask bits) + 16 * j) bits

-- ---- layouts

-- bits with that many references are laid out as a cell of that kind; an ordinary cell has no layout to meet
abbrev pub has_layout : Kind → List ℕ → ℕ → Bool
has_layout Ordinary bits refs = true
has_layout Pruned bits refs =
    (refs == 0) && (byte_of 0 bits == 1) && nat_le 1 (stored_mask bits) && nat_le (stored_mask bits) 7
    && (length bits == 16 + 272 * pair_count (stored_mask bits))
has_layout Library bits refs = (length bits == 264) && (refs == 0) && (byte_of 0 bits == 2)
has_layout Proof bits refs = (length bits == 280) && (refs == 1) && (byte_of 0 bits == 3)
has_layout Update bits refs = (length bits == 552) && (refs == 2) && (byte_of 0 bits == 4)

-- the kind of the exotic cell with these bits and that many references, where there is one
abbrev pub exotic_kind : List ℕ → ℕ → Option Kind
exotic_kind bits refs =
    if has_layout Pruned bits refs then Some Pruned
    else if has_layout Library bits refs then Some Library
    else if has_layout Proof bits refs then Some Proof
    else if has_layout Update bits refs then Some Update
    else None
