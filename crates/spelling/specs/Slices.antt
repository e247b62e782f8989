-- Slices: what stands first in the rest of a cell, and what was taken of it.
--
-- Source: TVM whitepaper, section 3.1: a cell has bits and references.
use Rattle.std.specs.Prelude.{ℕ, Bool, ◌&&◌, ◌||◌, nat_lt, nat_eq, List, [], ◌∷◌, length}
use Rattle.cell_nodes.specs.declared.tree.Tree.{Tree}
use Rattle.hashmap_tree.specs.Entries.{Slice}
use Rattle.typed_value.specs.Values as values

abbrev pub nothing : Slice
nothing = record { bits = []; refs = [] }

abbrev pub only_bits : List ℕ → Slice
only_bits bits = record { bits = bits; refs = [] }

abbrev pub only_ref : Tree → Slice
only_ref c = record { bits = []; refs = c ∷ [] }

abbrev pub is_nothing : Slice → Bool
is_nothing s = nat_eq (length s.bits) 0 && nat_eq (length s.refs) 0

-- whether a bit or a reference was taken
abbrev pub took : Slice → Slice → Bool
took before after = nat_lt (length after.bits) (length before.bits) || nat_lt (length after.refs) (length before.refs)

-- the slice of a value that holds all that is left
abbrev pub kept : Slice → values.Slice
kept s = record { bits = s.bits; refs = s.refs }
