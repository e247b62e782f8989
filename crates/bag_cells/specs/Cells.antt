-- The cells of a bag by their places in its raw bytes, and the refusals of a cell by itself.
--
-- Source: TON documentation, "Bag of cells" and "Cells as data storage": a cell is its descriptor bytes d1 and d2,
-- its data bytes, then the numbers of the cells that it refers to, `size` bytes each and each greater than its own.
-- d1 is r + 8 s + 16 h + 32 m with r references, s = 1 for an exotic cell, h = 1 where hashes are stored and the
-- mask m. d2 is floor(b / 8) + ceil(b / 8) for b bits. Where b is no multiple of 8 the last data byte is completed
-- by one 1 bit and then zeros.
use Rattle.std.specs.Prelude.{ℕ, zero, suc, ◌+◌, ◌*◌, ◌/◌, ◌%◌, ◌==◌, nat_lt, nat_le, Bool, false, ◌||◌, ◌&&◌, Option}
use Rattle.std.specs.Prelude.{Some, None, List, slice_index, if◌then◌else◌}
use Rattle.bag_cells.specs.Numbers.{number_at}
use Rattle.bag_cells.specs.Header.{size, cells, data_start, data_end}
use Rattle.bag_cells.specs.declared.error.BagError.{BagError}
use Rattle.bag_cells.specs.declared.error.BagError.TheVariants.{StoredHashes, BadCell, BackReference, BadHeader}

-- ---- the parts of the cell that begins at a place

-- the two descriptor bytes
abbrev pub first_descriptor : List ℕ → ℕ → ℕ
first_descriptor raw place = slice_index raw place

abbrev pub second_descriptor : List ℕ → ℕ → ℕ
second_descriptor raw place = slice_index raw (place + 1)

abbrev pub ref_count : List ℕ → ℕ → ℕ
ref_count raw place = first_descriptor raw place % 8

abbrev pub is_exotic : List ℕ → ℕ → Bool
is_exotic raw place = first_descriptor raw place / 8 % 2 == 1

abbrev pub has_stored_hashes : List ℕ → ℕ → Bool
has_stored_hashes raw place = first_descriptor raw place / 16 % 2 == 1

abbrev pub reported_mask : List ℕ → ℕ → ℕ
reported_mask raw place = first_descriptor raw place / 32

abbrev pub is_completed : List ℕ → ℕ → Bool
is_completed raw place = second_descriptor raw place % 2 == 1

-- the number of data bytes
abbrev pub byte_count : List ℕ → ℕ → ℕ
byte_count raw place = (second_descriptor raw place + 1) / 2

abbrev pub last_byte : List ℕ → ℕ → ℕ
last_byte raw place = slice_index raw (place + 1 + byte_count raw place)

-- reference k: the number of a cell
unfoldable pub ref_at : List ℕ → ℕ → ℕ → ℕ
ref_at raw place k = number_at raw (place + 2 + byte_count raw place + k * size raw) (size raw)

unfoldable pub cell_size : List ℕ → ℕ → ℕ
cell_size raw place = 2 + byte_count raw place + ref_count raw place * size raw

-- the place where cell i begins: the cells stand one after the other
unfoldable pub start : List ℕ → ℕ → ℕ
start raw zero = data_start raw
start raw (suc i) = start raw i + cell_size raw (start raw i)

-- ---- the refusals, in their order

-- one of the first n references of the cell i at the place is not to a later cell
unfoldable pub goes_back : List ℕ → ℕ → ℕ → ℕ → Bool
goes_back raw i place zero = false
goes_back raw i place (suc n) =
    goes_back raw i place n || nat_le (ref_at raw place n) i || nat_le (cells raw) (ref_at raw place n)

-- more than 4 references, or the cell runs past the cell data, or no 1 bit of its last byte completes its data
abbrev pub is_malformed : List ℕ → ℕ → Bool
is_malformed raw place =
    nat_lt 4 (ref_count raw place)
    || nat_lt (data_end raw) (place + cell_size raw place)
    || (is_completed raw place && last_byte raw place % 128 == 0)

-- the refusal of cell i, which begins at the place; where that is the end of the cell data it runs past them
unfoldable pub refusal_at : List ℕ → ℕ → ℕ → Option BagError
refusal_at raw i place =
    if nat_le (data_end raw) place then Some (BadCell i)
    else if has_stored_hashes raw place then Some (StoredHashes i)
    else if is_malformed raw place then Some (BadCell i)
    else if goes_back raw i place (ref_count raw place) then Some (BackReference i)
    else None

abbrev pub cell_refusal : List ℕ → ℕ → Option BagError
cell_refusal raw i = refusal_at raw i (start raw i)

-- cell data are left after the last cell: the length of the cell data is wrong
unfoldable pub left_refusal : List ℕ → Option BagError
left_refusal raw =
    if nat_lt (start raw (cells raw)) (data_end raw) then Some (BadHeader (6 + 3 * size raw)) else None
