-- The first refusal of raw bytes, from what reading has found out.
use Rattle.std.proofs.Common.{◌≡◌, ℕ, ◌<◌, List, refl}
use Rattle.std.specs.Prelude.{Some, None}
use Rattle.bag_cells.specs.First.{first_before, last_before}
use Rattle.bag_cells.specs.Header.{start_refusal, count_refusal, length_refusal, sum_refusal, root_refusal, header_refusal, cells}
use Rattle.bag_cells.specs.Cells.{cell_refusal, left_refusal}
use Rattle.bag_cells.specs.Trees.{node_refusal, sprawl_refusal}
use Rattle.bag_cells.specs.Bag.{refusal}
use Rattle.bag_cells.specs.declared.error.BagError.{BagError}
use Rattle.bag_cells.proofs.Rows.{first_before-found, last_before-found}

pub refused_header : (raw : List ℕ) (e : BagError) → header_refusal raw ≡ Some e → refusal raw ≡ Some e
unfolding refusal
refused_header raw e h = rw h refl

pub refused_cell : (raw : List ℕ) (i : ℕ) (e : BagError) → header_refusal raw ≡ None → i < cells raw
    → ((j : ℕ) → j < i → cell_refusal raw j ≡ None) → cell_refusal raw i ≡ Some e → refusal raw ≡ Some e
unfolding refusal
refused_cell raw i e header h before found =
    rw (header, first_before-found (cell_refusal raw) (cells raw) i e h before found) refl

pub refused_left : (raw : List ℕ) (e : BagError) → header_refusal raw ≡ None → first_before (cell_refusal raw) (cells raw) ≡ None
    → left_refusal raw ≡ Some e → refusal raw ≡ Some e
unfolding refusal
refused_left raw e header each left = rw (header, each, left) refl

pub refused_node : (raw : List ℕ) (i : ℕ) (e : BagError) → header_refusal raw ≡ None → first_before (cell_refusal raw) (cells raw) ≡ None
    → left_refusal raw ≡ None → i < cells raw → ((j : ℕ) → i < j → j < cells raw → node_refusal raw j ≡ None)
    → node_refusal raw i ≡ Some e → refusal raw ≡ Some e
unfolding refusal
refused_node raw i e header each left h after found =
    rw (header, each, left, last_before-found (node_refusal raw) (cells raw) i e h after found) refl

pub refused_sprawl : (raw : List ℕ) (e : BagError) → header_refusal raw ≡ None → first_before (cell_refusal raw) (cells raw) ≡ None
    → left_refusal raw ≡ None → last_before (node_refusal raw) (cells raw) ≡ None → sprawl_refusal raw ≡ Some e → refusal raw ≡ Some e
unfolding refusal
refused_sprawl raw e header each left trees sprawl = rw (header, each, left, trees, sprawl) refl

pub not_refused : (raw : List ℕ) → header_refusal raw ≡ None → first_before (cell_refusal raw) (cells raw) ≡ None
    → left_refusal raw ≡ None → last_before (node_refusal raw) (cells raw) ≡ None → sprawl_refusal raw ≡ None → refusal raw ≡ None
unfolding refusal
not_refused raw header each left trees sprawl = rw (header, each, left, trees, sprawl) refl

-- ---- the header

pub header_start : (raw : List ℕ) (e : BagError) → start_refusal raw ≡ Some e → header_refusal raw ≡ Some e
unfolding header_refusal
header_start raw e h = rw h refl

pub header_count : (raw : List ℕ) (e : BagError) → start_refusal raw ≡ None → count_refusal raw ≡ Some e → header_refusal raw ≡ Some e
unfolding header_refusal
header_count raw e start h = rw (start, h) refl

pub header_length : (raw : List ℕ) (e : BagError) → start_refusal raw ≡ None → count_refusal raw ≡ None → length_refusal raw ≡ Some e → header_refusal raw ≡ Some e
unfolding header_refusal
header_length raw e start count h = rw (start, count, h) refl

pub header_sum : (raw : List ℕ) (e : BagError) → start_refusal raw ≡ None → count_refusal raw ≡ None → length_refusal raw ≡ None → sum_refusal raw ≡ Some e → header_refusal raw ≡ Some e
unfolding header_refusal
header_sum raw e start count whole h = rw (start, count, whole, h) refl

pub header_root : (raw : List ℕ) (e : BagError) → start_refusal raw ≡ None → count_refusal raw ≡ None → length_refusal raw ≡ None → sum_refusal raw ≡ None → root_refusal raw ≡ Some e → header_refusal raw ≡ Some e
unfolding header_refusal
header_root raw e start count whole sum h = rw (start, count, whole, sum, h) refl

pub header_none : (raw : List ℕ) → start_refusal raw ≡ None → count_refusal raw ≡ None → length_refusal raw ≡ None → sum_refusal raw ≡ None → root_refusal raw ≡ None → header_refusal raw ≡ None
unfolding header_refusal
header_none raw start count whole sum h = rw (start, count, whole, sum, h) refl
