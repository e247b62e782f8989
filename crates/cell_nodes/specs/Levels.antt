-- Masks and levels. A mask tells at which levels above 0 a cell has a hash and a depth of its own: at level i, where
-- its bit i - 1 is set. The greatest level is 3.
--
-- Source: TON documentation, "Cells as data storage" (cell level) and "Exotic cells" (pruned branch).
use Rattle.std.specs.Prelude.{ℕ, zero, suc, ◌+◌, ◌==◌, List, [], ◌∷◌, ◌++◌, if◌then◌else◌}
use Rattle.std.specs.List.{range_with_len}
use Rattle.std.specs.Int.{bit_at}

-- the highest level, and all levels
abbrev pub top_level : ℕ
top_level = 3

abbrev pub levels : List ℕ
levels = range_with_len 0 (top_level + 1)

-- the level of a mask: the place of its highest set bit, from 1 to 3, or 0 where none is set
abbrev pub level_of : ℕ → ℕ
level_of mask =
    if bit_at mask 2 == 1 then 3
    else if bit_at mask 1 == 1 then 2
    else if bit_at mask 0 == 1 then 1
    else 0

-- how many of the lowest i bits of a mask are set
unfoldable pub set_bits : ℕ → ℕ → ℕ
set_bits zero mask = 0
set_bits (suc i) mask = set_bits i mask + bit_at mask i

-- level 0 and the levels up to i that the mask has, in rising order
unfoldable pub levels_in : ℕ → ℕ → List ℕ
levels_in zero mask = 0 ∷ []
levels_in (suc i) mask = if bit_at mask i == 1 then levels_in i mask ++ suc i ∷ [] else levels_in i mask
