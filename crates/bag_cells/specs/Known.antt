-- What reading has found out of the raw bytes so far.
use Rattle.std.specs.Prelude.{◌/◌, ◌%◌, ◌≡◌, ℕ, ◌-◌, nat_lt, Bool, ◌&&◌, ◌+◌, ◌*◌, ◌<◌, ◌≤◌, true, Some, None, List}
use Rattle.std.specs.Prelude.{length, slice_index}
use Rattle.cell_nodes.specs.declared.tree.Tree.{Tree}
use Rattle.bag_cells.specs.Form.{is_white}
use Rattle.bag_cells.specs.First.{first_before, last_before}
use Rattle.bag_cells.specs.Header.{size, off_bytes, header_end, cells, root, data_start, data_end, start_refusal}
use Rattle.bag_cells.specs.Header.{count_refusal, length_refusal, root_refusal, header_refusal}
use Rattle.bag_cells.specs.Cells.{ref_count, ref_at, is_completed, last_byte, reported_mask, cell_size, refusal_at}
use Rattle.bag_cells.specs.Cells.{cell_refusal, start, left_refusal}
use Rattle.bag_cells.specs.Trees.{trees, picked, node, refusal_of, node_refusal, root_tree, sprawl_refusal}
use Rattle.bag_cells.specs.Bag.{refusal}
use Rattle.bag_cells.specs.declared.header.Header.{Header}
use Rattle.bag_cells.specs.declared.header.Sizes.{Sizes}
use Rattle.bag_cells.specs.declared.header.Extent.{Extent}

pub record HasSizes (raw : List ℕ) (s : Sizes) : Type 0 where
  pub accepted : start_refusal raw ≡ None
  pub size_is : s.size ≡ size raw
  pub off_bytes_is : s.off_bytes ≡ off_bytes raw
  pub some : 1 ≤ s.size
  pub few : s.size ≤ 4
  pub off_few : s.off_bytes ≤ 8
  pub room : 6 + 3 * s.size + s.off_bytes ≤ length raw

pub record HasCount (raw : List ℕ) (count : ℕ) : Type 0 where
  pub accepted : count_refusal raw ≡ None
  pub count_is : count ≡ cells raw
  pub some : 1 ≤ count
  pub few : count ≤ 262144

pub record HasExtent (raw : List ℕ) (e : Extent) : Type 0 where
  pub accepted : length_refusal raw ≡ None
  pub start_is : e.data_start ≡ data_start raw
  pub end_is : e.data_end ≡ data_end raw
  pub header_within : header_end raw + size raw ≤ e.data_start
  pub in_order : e.data_start ≤ e.data_end
  pub within : e.data_end ≤ length raw
  pub long : 5 ≤ length raw
  pub sum_within : slice_index raw 4 / 64 % 2 ≡ 1 → e.data_end + 4 ≤ length raw

pub record IsRoot (raw : List ℕ) (n : ℕ) : Type 0 where
  pub accepted : root_refusal raw ≡ None
  pub root_is : n ≡ root raw
  pub within : n < cells raw

pub record HasHeader (raw : List ℕ) (h : Header) : Type 0 where
  pub accepted : header_refusal raw ≡ None
  pub size_is : h.size ≡ size raw
  pub cells_is : h.cells ≡ cells raw
  pub root_is : h.root ≡ root raw
  pub start_is : h.data_start ≡ data_start raw
  pub end_is : h.data_end ≡ data_end raw
  pub few_bytes : h.size ≤ 4
  pub some : 1 ≤ h.cells
  pub few : h.cells ≤ 262144
  pub root_within : h.root < h.cells
  pub in_order : h.data_start ≤ h.data_end
  pub within : h.data_end ≤ length raw

-- a later cell than cell i
pub record IsLater (raw : List ℕ) (i cell : ℕ) : Type 0 where
  pub later : i < cell
  pub there : cell < cells raw

-- the cell at the place stands in the cell data
pub record IsLaid (raw : List ℕ) (place : ℕ) : Type 0 where
  pub few : ref_count raw place ≤ 4
  pub within : place + cell_size raw place ≤ data_end raw

-- nothing of cell i at the place is refused
pub record IsCell (raw : List ℕ) (i place : ℕ) : Type 0 where
  pub accepted : refusal_at raw i place ≡ None
  pub laid : IsLaid raw place
  pub completed : is_completed raw place ≡ true → 0 < last_byte raw place
  pub forward : (k : ℕ) → k < ref_count raw place → IsLater raw i (ref_at raw place k)

-- and it ends there
pub record EndsAt (raw : List ℕ) (i place stop : ℕ) : Type 0 where
  pub cell : IsCell raw i place
  pub stop_is : stop ≡ place + cell_size raw place
  pub within : stop ≤ data_end raw

-- these are the places where the cells begin, and nothing is left after them
pub record AreStarts (raw starts : List ℕ) : Type 0 where
  pub accepted : first_before (cell_refusal raw) (cells raw) ≡ None
  pub nothing_left : left_refusal raw ≡ None
  pub count : length starts ≡ cells raw
  pub places : (i : ℕ) → i < cells raw → slice_index starts i ≡ start raw i
  pub cell_each : (i : ℕ) → i < cells raw → IsCell raw i (start raw i)

-- these are the trees that the references of the cell at the place pick
pub record ArePicked (raw : List ℕ) (place : ℕ) (later found : List Tree) : Type 0 where
  pub picked_are : found ≡ picked raw place later (ref_count raw place)
  pub count : length found ≡ ref_count raw place

-- this is the tree of cell i at the place
pub record IsTree (raw : List ℕ) (i place : ℕ) (later : List Tree) (tree : Tree) : Type 0 where
  pub node_is : node raw place later ≡ Some tree
  pub accepted : refusal_of i (reported_mask raw place) (node raw place later) ≡ None

-- these are the trees of all cells
pub record AreTrees (raw : List ℕ) (found : List Tree) : Type 0 where
  pub accepted : last_before (node_refusal raw) (cells raw) ≡ None
  pub trees_are : found ≡ trees raw (cells raw)
  pub count : length found ≡ cells raw

-- the raw bytes hold the tree
pub record IsAccepted (raw : List ℕ) (tree : Tree) : Type 0 where
  pub accepted : refusal raw ≡ None
  pub root_is : root_tree raw ≡ Some tree

-- this is the root's tree, and it is not too large
pub record IsRootTree (raw : List ℕ) (tree : Tree) : Type 0 where
  pub accepted : sprawl_refusal raw ≡ None
  pub root_is : root_tree raw ≡ Some tree

-- white space stands before the place
abbrev pub ends_white : List ℕ → ℕ → Bool
ends_white text stop = nat_lt 0 stop && is_white (slice_index text (stop - 1))
