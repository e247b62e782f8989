-- The bytes of the bag that is written for a tree: one root at index 0, no index, no sum, no cache bit, each distinct
-- cell once, and the least sizes.
--
-- Source: TON documentation, "Bag of cells" and "Cells as data storage"; `serialized_boc#b5ee9c72` of
-- crypto/tl/boc.tlb in the TON sources.
use Rattle.std.specs.Prelude.{ℕ, zero, suc, ◌+◌, ◌/◌, ◌%◌, nat_lt, List, [], ◌∷◌, ◌++◌, length, map, reverse}
use Rattle.std.specs.Prelude.{if◌then◌else◌}
use Rattle.std.specs.List.{flat_map}
use Rattle.bit_slice.specs.Bits.{completed}
use Rattle.cell_hash.specs.Representation.{descriptor}
use Rattle.cell_nodes.specs.declared.tree.Tree.{Tree, out-Tree}
use Rattle.cell_nodes.specs.Tree.{is_exotic, mask}
use Rattle.cell_pool.specs.Post.{place, post}

-- ---- numbers

-- the lowest `width` bytes of a number, the highest first
unfoldable pub number_bytes : ℕ → ℕ → List ℕ
number_bytes zero n = []
number_bytes (suc width) n = number_bytes width (n / 256) ++ n % 256 ∷ []

-- how many bytes a number below 256^(most + 1) takes, at least one
unfoldable pub width_within : ℕ → ℕ → ℕ
width_within zero n = 1
width_within (suc most) n = if nat_lt n 256 then 1 else 1 + width_within most (n / 256)

-- the least w from 1 on with n < 256^w, as the law `width_is_least` says
abbrev pub width_of : ℕ → ℕ
width_of n = width_within n n

-- ---- cells

-- the descriptor bytes, with the mask in the first one
abbrev pub descriptor_of : Tree → ℕ × ℕ
descriptor_of t =
    descriptor (length (out-Tree t).children) (is_exotic (out-Tree t).kind) (mask t) (length (out-Tree t).bits)

-- references, each by the place of its cell in the order of the bag
abbrev pub ref_bytes : ℕ → List Tree → List Tree → List ℕ
ref_bytes size order children = flat_map (number_bytes size) (map (place order) children)

unfoldable pub cell_bytes : ℕ → List Tree → Tree → List ℕ
cell_bytes size order t =
    ((descriptor_of t).0 ∷ (descriptor_of t).1 ∷ [])
    ++ completed (out-Tree t).bits
    ++ ref_bytes size order (out-Tree t).children

-- ---- the bag

unfoldable pub cell_data : ℕ → List Tree → List ℕ
cell_data size order = flat_map (cell_bytes size order) order

-- the header of a bag of so many cells, whose cell data have that length
unfoldable pub header_bytes : ℕ → ℕ → List ℕ
header_bytes cells data_size =
    (0xb5 ∷ 0xee ∷ 0x9c ∷ 0x72 ∷ width_of cells ∷ width_of data_size ∷ [])
    ++ number_bytes (width_of cells) cells
    ++ number_bytes (width_of cells) 1
    ++ number_bytes (width_of cells) 0
    ++ number_bytes (width_of data_size) data_size
    ++ number_bytes (width_of cells) 0

-- the bag whose cells stand in that order
unfoldable pub bag_over : List Tree → List ℕ
bag_over order =
    header_bytes (length order) (length (cell_data (width_of (length order)) order))
    ++ cell_data (width_of (length order)) order

-- the bag of a tree
abbrev pub bag_of : Tree → List ℕ
bag_of t = bag_over (reverse (post t))
