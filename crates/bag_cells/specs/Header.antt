-- The header of a bag of cells: its fields by their places, and the refusals that it alone decides.
--
-- Source: TON documentation, "Bag of cells"; `serialized_boc#b5ee9c72` of crypto/tl/boc.tlb in the TON sources:
--   has_idx:(## 1) has_crc32c:(## 1) has_cache_bits:(## 1) flags:(## 2) { flags = 0 } size:(## 3) { size <= 4 }
--   off_bytes:(## 8) { off_bytes <= 8 } cells:(##(size * 8)) roots:(##(size * 8)) { roots >= 1 }
--   absent:(##(size * 8)) { roots + absent <= cells } tot_cells_size:(##(off_bytes * 8))
--   root_list:(roots * ##(size * 8)) index:has_idx?(cells * ##(off_bytes * 8))
--   cell_data:(tot_cells_size * [ uint8 ]) crc32c:has_crc32c?uint32
-- The numbers are big-endian, and the sum is little-endian. This profile takes one root and no absent cells, and
-- reads neither the cache bit nor the index.
use Rattle.std.specs.Prelude.{ℕ, ◌+◌, ◌*◌, ◌/◌, ◌%◌, ◌==◌, nat_lt, nat_le, Bool, not, ◌||◌, ◌&&◌, Option, Some, None}
use Rattle.std.specs.Prelude.{List, [], ◌∷◌, length, take, slice_index, if◌then◌else◌}
use Rattle.tlb_sums.specs.Crc.{crc32c_of}
use Rattle.bag_cells.specs.Numbers.{number_at, little_endian}
use Rattle.bag_cells.specs.First.{first_of}
use Rattle.bag_cells.specs.declared.error.BagError.{BagError}
use Rattle.bag_cells.specs.declared.error.BagError.TheVariants.{BadMagic, Truncated, BadHeader, TooManyCells}
use Rattle.bag_cells.specs.declared.error.BagError.TheVariants.{ManyRoots, AbsentCells, Trailing, BadSum}

-- ---- the fields

abbrev pub has_index : List ℕ → Bool
has_index raw = slice_index raw 4 / 128 == 1

abbrev pub has_sum : List ℕ → Bool
has_sum raw = slice_index raw 4 / 64 % 2 == 1

abbrev pub flags : List ℕ → ℕ
flags raw = slice_index raw 4 / 8 % 4

-- the bytes of a cell's number
unfoldable pub size : List ℕ → ℕ
size raw = slice_index raw 4 % 8

-- the bytes of the length of the cell data, and of an entry of the index
unfoldable pub off_bytes : List ℕ → ℕ
off_bytes raw = slice_index raw 5

-- the place after the length of the cell data, where the number of the root stands
unfoldable pub header_end : List ℕ → ℕ
header_end raw = 6 + 3 * size raw + off_bytes raw

unfoldable pub cells : List ℕ → ℕ
cells raw = number_at raw 6 (size raw)

unfoldable pub roots : List ℕ → ℕ
roots raw = number_at raw (6 + size raw) (size raw)

unfoldable pub absent : List ℕ → ℕ
absent raw = number_at raw (6 + 2 * size raw) (size raw)

-- the length of the cell data (tot_cells_size)
unfoldable pub data_size : List ℕ → ℕ
data_size raw = number_at raw (6 + 3 * size raw) (off_bytes raw)

-- the number of the root cell
unfoldable pub root : List ℕ → ℕ
root raw = number_at raw (header_end raw) (size raw)

abbrev pub index_size : List ℕ → ℕ
index_size raw = if has_index raw then cells raw * off_bytes raw else 0

-- the places where the cell data begin and end, and the length of the whole bag
unfoldable pub data_start : List ℕ → ℕ
data_start raw = header_end raw + size raw + index_size raw

unfoldable pub data_end : List ℕ → ℕ
data_end raw = data_start raw + data_size raw

unfoldable pub whole_size : List ℕ → ℕ
whole_size raw = data_end raw + (if has_sum raw then 4 else 0)

-- the sum that is kept after the cell data, and the sum of the bytes before it
unfoldable pub kept_sum : List ℕ → ℕ
kept_sum raw = little_endian raw (data_end raw)

unfoldable pub computed_sum : List ℕ → ℕ
computed_sum raw = crc32c_of (take (data_end raw) raw)

-- ---- the refusals, in their order

-- the byte stands at the place, and another one is due there
abbrev pub differs : List ℕ → ℕ → ℕ → Bool
differs raw place due = nat_lt place (length raw) && not (slice_index raw place == due)

-- a byte of the magic that is there differs
unfoldable pub magic_differs : List ℕ → Bool
magic_differs raw = differs raw 0 0xb5 || differs raw 1 0xee || differs raw 2 0x9c || differs raw 3 0x72

-- the magic and the sizes of the fields, as far as the bytes go
unfoldable pub start_refusal : List ℕ → Option BagError
start_refusal raw =
    if magic_differs raw then Some BadMagic
    else if nat_lt (length raw) 5 then Some (Truncated (length raw))
    else if not (flags raw == 0) || size raw == 0 || nat_lt 4 (size raw) then Some (BadHeader 4)
    else if nat_lt (length raw) 6 then Some (Truncated (length raw))
    else if off_bytes raw == 0 || nat_lt 8 (off_bytes raw) then Some (BadHeader 5)
    else if nat_lt (length raw) (header_end raw) then Some (Truncated (length raw))
    else None

-- the numbers of cells, of roots and of absent cells
unfoldable pub count_refusal : List ℕ → Option BagError
count_refusal raw =
    if cells raw == 0 then Some (BadHeader 6)
    else if nat_lt 262144 (cells raw) then Some (TooManyCells (cells raw))
    else if roots raw == 0 then Some (BadHeader (6 + size raw))
    else if nat_lt 1 (roots raw) then Some (ManyRoots (roots raw))
    else if not (absent raw == 0) then Some (AbsentCells (absent raw))
    else None

-- the length of the whole bag
unfoldable pub length_refusal : List ℕ → Option BagError
length_refusal raw =
    if nat_lt (length raw) (whole_size raw) then Some (Truncated (length raw))
    else if nat_lt (whole_size raw) (length raw) then Some (Trailing (whole_size raw))
    else None

unfoldable pub sum_refusal : List ℕ → Option BagError
sum_refusal raw =
    if has_sum raw && not (kept_sum raw == computed_sum raw) then Some (BadSum (kept_sum raw) (computed_sum raw))
    else None

-- the number of the root
unfoldable pub root_refusal : List ℕ → Option BagError
root_refusal raw = if nat_le (cells raw) (root raw) then Some (BadHeader (header_end raw)) else None

unfoldable pub header_refusal : List ℕ → Option BagError
header_refusal raw = first_of (
    start_refusal raw
    ∷ count_refusal raw
    ∷ length_refusal raw
    ∷ sum_refusal raw
    ∷ root_refusal raw
    ∷ [])
