-- The trees of the cells of a bag, and the refusals of a cell by its tree.
--
-- Source: TON documentation, "Cells as data storage" and "Exotic cells".
use Rattle.std.specs.Prelude.{ℕ, zero, suc, ◌+◌, ◌-◌, ◌*◌, ◌/◌, ◌==◌, nat_lt, not, Option, Some, None, List, [], ◌∷◌}
use Rattle.std.specs.Prelude.{◌++◌, take, drop, slice_get, if◌then◌else◌}
use Rattle.std.specs.Int.{trailing_zeros, w8}
use Rattle.bit_slice.specs.Bits.{bits_from}
use Rattle.cell_nodes.specs.declared.tree.Kind.{Kind}
use Rattle.cell_nodes.specs.declared.tree.Kind.TheVariants.{Ordinary}
use Rattle.cell_nodes.specs.declared.tree.Tree.{Tree}
use Rattle.cell_nodes.specs.Layout.{exotic_kind}
use Rattle.cell_nodes.specs.Tree.{tree_of, mask, deepest, unfolded}
use Rattle.bag_cells.specs.Header.{cells, root}
use Rattle.bag_cells.specs.Cells.{second_descriptor, byte_count, is_completed, last_byte, is_exotic, reported_mask}
use Rattle.bag_cells.specs.Cells.{ref_count, ref_at, start}
use Rattle.bag_cells.specs.declared.error.BagError.{BagError}
use Rattle.bag_cells.specs.declared.error.BagError.TheVariants.{BadExotic, BadMask, TooDeep, Sprawl}

-- ---- the parts of a node

abbrev pub data_bytes : List ℕ → ℕ → List ℕ
data_bytes raw place = take (byte_count raw place) (drop (place + 2) raw)

-- The number of the bits: all of whole bytes, else those before the last byte's lowest 1 bit, which completes them.
unfoldable pub bit_count : List ℕ → ℕ → ℕ
bit_count raw place =
    if is_completed raw place
    then 8 * (second_descriptor raw place / 2) + (7 - trailing_zeros w8 (last_byte raw place))
    else 8 * (second_descriptor raw place / 2)

unfoldable pub cell_bits : List ℕ → ℕ → List ℕ
cell_bits raw place = bits_from (data_bytes raw place) 0 (bit_count raw place)

-- the kind; an exotic cell whose bits and references have no layout has none
unfoldable pub cell_kind : List ℕ → ℕ → Option Kind
cell_kind raw place =
    if is_exotic raw place then exotic_kind (cell_bits raw place) (ref_count raw place) else Some Ordinary

-- ---- the trees, from the last cell to the first

-- a list of one item, or of none
abbrev pub one : {A : Type 0} → Option A → List A
one None = []
one (Some x) = x ∷ []

-- The trees that the first n references pick. `later` holds the trees of the later cells, that of the last cell
-- first, so that of cell r stands at `cells - 1 - r`.
unfoldable pub picked : List ℕ → ℕ → List Tree → ℕ → List Tree
picked raw place later zero = []
picked raw place later (suc n) = picked raw place later n ++ one (slice_get later (cells raw - 1 - ref_at raw place n))

abbrev pub node_of : List ℕ → ℕ → List Tree → Option Kind → Option Tree
node_of raw place later None = None
node_of raw place later (Some kind) =
    Some (tree_of kind (cell_bits raw place) (picked raw place later (ref_count raw place)))

-- the tree of the cell at the place, where it has a kind
unfoldable pub node : List ℕ → ℕ → List Tree → Option Tree
node raw place later = node_of raw place later (cell_kind raw place)

-- the trees of the last n cells, that of the last cell first
unfoldable pub trees : List ℕ → ℕ → List Tree
trees raw zero = []
trees raw (suc n) = trees raw n ++ one (node raw (start raw (cells raw - 1 - n)) (trees raw n))

-- the tree of the root cell
abbrev pub root_tree : List ℕ → Option Tree
root_tree raw = slice_get (trees raw (cells raw)) (cells raw - 1 - root raw)

-- ---- the refusals, in their order

-- of cell i with that mask in its first descriptor byte, by its tree
abbrev pub refusal_of : ℕ → ℕ → Option Tree → Option BagError
refusal_of i reported None = Some (BadExotic i)
refusal_of i reported (Some tree) =
    if not (mask tree == reported) then Some (BadMask i)
    else if nat_lt 1024 (deepest tree) then Some (TooDeep i)
    else None

unfoldable pub node_refusal : List ℕ → ℕ → Option BagError
node_refusal raw i =
    refusal_of i (reported_mask raw (start raw i)) (node raw (start raw i) (trees raw (cells raw - 1 - i)))

-- the unfolded tree of the root has more than 262,144 cells
abbrev pub sprawl_of : Option Tree → Option BagError
sprawl_of None = None
sprawl_of (Some tree) = if nat_lt 262144 (unfolded tree) then Some Sprawl else None

unfoldable pub sprawl_refusal : List ℕ → Option BagError
sprawl_refusal raw = sprawl_of (root_tree raw)
