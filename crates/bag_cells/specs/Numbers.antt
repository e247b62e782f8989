-- Numbers in bytes.
use Rattle.std.specs.Prelude.{ℕ, zero, suc, ◌+◌, ◌*◌, ◌<◌, List, slice_index}

-- the big-endian number of `width` bytes from the place `from` on
unfoldable pub number_at : List ℕ → ℕ → ℕ → ℕ
number_at bytes from zero = 0
number_at bytes from (suc width) = 256 * number_at bytes from width + slice_index bytes (from + width)

-- the little-endian number of 4 bytes from the place `from` on
unfoldable pub little_endian : List ℕ → ℕ → ℕ
little_endian bytes from =
    slice_index bytes from + 256 * slice_index bytes (from + 1)
    + 65536 * slice_index bytes (from + 2) + 16777216 * slice_index bytes (from + 3)

-- every number of the list is a byte's
abbrev pub AreBytes : List ℕ → Type 0
AreBytes numbers = (i : ℕ) → slice_index numbers i < 256
