-- What is open is within the limits, and its maps are in order. This project's own; the bounds of cells are those of
-- the TON documentation, "Cells as data storage".
use Rattle.std.specs.Prelude.{◌≡◌, ℕ, suc, ◌+◌, ◌≤◌, Bool, true, false, ◌&&◌, ◌||◌, not, nat_le, nat_lt, bytes_eq}
use Rattle.std.specs.Prelude.{codes, if◌then◌else◌, IsTrue, List, [], ◌∷◌, ◌++◌, length, map, Option, Some, None}
use Rattle.std.specs.Prelude.{Result, Ok, Err}
use Rattle.cell_nodes.specs.Good.{AllGood}
use Rattle.cell_nodes.specs.Layout.{exotic_kind}
use Rattle.cell_nodes.specs.Tree.{deepest, greatest, tree_of}
use Rattle.cell_nodes.specs.declared.tree.Hidden.{Hidden}
use Rattle.cell_nodes.specs.declared.tree.Kind.{Kind}
use Rattle.cell_nodes.specs.declared.tree.Kind.TheVariants.{Ordinary}
use Rattle.cell_nodes.specs.declared.tree.Tree.{Tree, fold-Tree}
use Rattle.cell_nodes.specs.declared.tree.Tree.TheOpen.{Tree-F}
use Rattle.bit_slice.specs.Names.{IsName}
use Rattle.typed_value.specs.Values.{Plain, Slice, levels, levels_by, levels_in, most_levels, most_parts}
use Rattle.typed_value.specs.View.{names_in, pairs_of, vals_in, vals_of}
use Rattle.value_text.specs.declared.lexeme.Sign.{Sign}
use Rattle.value_text.specs.declared.lexeme.Sign.TheVariants.{OpenBrace, OpenBracket, OpenParen, Less, Tilde, Caret}
use Rattle.value_text.specs.declared.lexeme.Sign.TheVariants.{Bang, Percent}
use Rattle.value_text.specs.declared.lexeme.Lexeme.{Lexeme}
use Rattle.value_text.specs.declared.lexeme.Lexeme.TheVariants.{Sign as ASign, Number, Bits, Name, Hidden as AHidden}
use Rattle.value_text.specs.declared.lexeme.Lexeme.TheVariants.{Beyond}
use Rattle.value_text.specs.Writes.{AreEntries, AreFew, AreFields, AreFormed, AreHidden, IsFormed, IsRecordName}
use Rattle.value_text.specs.Writes.{comes_after, in_order, keys_of, most_cells}
use Rattle.value_grammar.specs.declared.cause.Cause.{Cause}
use Rattle.value_grammar.specs.declared.cause.Cause.TheVariants.{BulkText, DeepText, KeyOrder, Range}
use Rattle.value_grammar.specs.Open.{CellSpot, Frame, Open, OpenCell, Spot, after_entry, after_field, after_item}
use Rattle.value_grammar.specs.Open.{after_part, after_rest, at, bits_due, cells_begun, child_due, done, due, entry_due}
use Rattle.value_grammar.specs.Open.{entry_or_end, field, field_due, field_or_end, in_cell, item, item_or_end, keyed}
use Rattle.value_grammar.specs.Open.{labelled, named, pair, paren_due, parts_begun, reference, rest_bits, rest_child}
use Rattle.value_grammar.specs.Open.{rest_paren}

-- ---- limits at a lexeme

abbrev pub begins_by_sign : Sign → Bool
begins_by_sign OpenBrace = true
begins_by_sign Tilde = true
begins_by_sign OpenBracket = true
begins_by_sign Caret = true
begins_by_sign Less = true
begins_by_sign OpenParen = true
begins_by_sign Bang = true
begins_by_sign Percent = true
begins_by_sign s = false

-- a value begins with the lexeme
abbrev pub begins_value : Lexeme → Bool
begins_value (ASign s) = begins_by_sign s
begins_value (Number n) = true
begins_value (Bits bs) = true
begins_value (Name n) = not (bytes_eq n (codes "x"))
begins_value (AHidden h) = true
begins_value (Beyond form) = true

abbrev pub begins_cell : Lexeme → Bool
begins_cell (ASign OpenParen) = true
begins_cell (ASign Bang) = true
begins_cell l = false

abbrev pub is_paren : Lexeme → Bool
is_paren (ASign OpenParen) = true
is_paren l = false

-- a value of the level 2,305 begins
abbrev pub is_deep_value : ℕ → Lexeme → Bool
is_deep_value around l = nat_le most_levels around && begins_value l

-- the levels of cells in one another, that of the cell itself included
abbrev pub cell_levels_step : Tree-F ℕ → ℕ
cell_levels_step n = 1 + greatest n.children

unfoldable pub cell_levels : Tree → ℕ
cell_levels = fold-Tree ℕ cell_levels_step

-- the most levels of cells in one another
abbrev pub most_cell_levels : ℕ
most_cell_levels = 1025

-- a cell of the level 1,026 begins, where so many are open
abbrev pub is_deep_cell : ℕ → Lexeme → Bool
is_deep_cell around l = nat_le most_cell_levels around && begins_cell l

abbrev pub is_deep_child : List OpenCell → CellSpot → Lexeme → Bool
is_deep_child ps (child_due p) l = is_deep_cell (suc (length ps)) l
is_deep_child ps c l = false

abbrev pub is_deep : Spot → List Frame → Lexeme → Bool
is_deep due below l = is_deep_value (length below) l
is_deep item_or_end below l = is_deep_value (suc (length below)) l
is_deep (in_cell base ps c) below l = is_deep_child ps c l
is_deep spot below l = false

-- the 1,048,577th value begins
abbrev pub is_value_due : Spot → Bool
is_value_due due = true
is_value_due item_or_end = true
is_value_due spot = false

-- a cell's `(` may come
abbrev pub is_paren_due : CellSpot → Bool
is_paren_due paren_due = true
is_paren_due (child_due p) = true
is_paren_due c = false

abbrev pub is_cell_due : Spot → Bool
is_cell_due due = true
is_cell_due item_or_end = true
is_cell_due (rest_child r) = true
is_cell_due (in_cell base ps c) = is_paren_due c
is_cell_due spot = false

-- the 1,048,577th value begins, or the 262,145th cell, where so many have begun
abbrev pub is_bulk : ℕ → ℕ → Spot → Lexeme → Bool
is_bulk values cells spot l =
    (is_value_due spot && begins_value l && nat_le most_parts values)
    || (is_cell_due spot && is_paren l && nat_le most_cells cells)

abbrev pub is_beyond : Lexeme → Bool
is_beyond (Beyond form) = true
is_beyond l = false

-- a key that does not come after the one before it, or that it begins
abbrev pub is_out_of_order : Spot → Lexeme → Bool
is_out_of_order (entry_due ps us last) (Bits k) = not (comes_after last k)
is_out_of_order spot l = false

-- the first limit that the lexeme passes, where so many values and cells have begun
abbrev pub limit_of : ℕ → ℕ → Spot → List Frame → Lexeme → Option Cause
limit_of values cells spot below l =
    if is_deep spot below l then Some DeepText else if is_bulk values cells spot l then Some BulkText
    else if is_beyond l then Some Range else if is_out_of_order spot l then Some KeyOrder else None

abbrev pub limit : Open → Lexeme → Option Cause
limit (at spot below) l = limit_of (parts_begun (at spot below)) (cells_begun (at spot below)) spot below l

-- ---- cells that are closed

abbrev pub closed_ordinary : List ℕ → List Tree → Result Tree Cause
closed_ordinary bs refs =
    if nat_lt 1024 (deepest (tree_of Ordinary bs refs)) then Err DeepText
    else if nat_lt 4 (length refs) then Err Range else Ok (tree_of Ordinary bs refs)

abbrev pub closed_exotic : Option Kind → List ℕ → List Tree → Result Tree Cause
closed_exotic None bs refs = Err Range
closed_exotic (Some kind) bs refs =
    if nat_lt 1024 (deepest (tree_of kind bs refs)) then Err DeepText else Ok (tree_of kind bs refs)

-- the cell, or why there is none: an exotic one has no layout; it is deeper than 1024 at some level; it has more than 4
-- references
abbrev pub closed : OpenCell → Result Tree Cause
closed p =
    if p.exotic then closed_exotic (exotic_kind p.bits (length p.refs)) p.bits p.refs else closed_ordinary p.bits p.refs

-- ---- what is open is within the limits

-- inside so many values, a value has so many levels below it
abbrev pub FitsIn : ℕ → ℕ → Type 0
FitsIn around below = around + 1 + below ≤ most_levels

-- the last key of a map so far, which all others come before
pub record Ascends (ps : List (List ℕ × Plain)) (us : List (List ℕ × Hidden)) (last : List ℕ) : Type 0 where
  pub ordered : IsTrue (in_order (keys_of (pairs_of ps) us))
  pub earlier : List (List ℕ)
  pub ends : keys_of (pairs_of ps) us ≡ earlier ++ last ∷ []

abbrev pub FrameWithin : ℕ → Frame → Type 0
FrameWithin d (field n fs x) =
    IsRecordName n × AreFields (names_in fs) (vals_in fs) × IsName x × FitsIn d (levels_in (vals_in fs))
FrameWithin d (item vs) = AreFormed (vals_of vs) × FitsIn d (levels_in (vals_of vs))
FrameWithin d reference = FitsIn d 0
FrameWithin d (pair ps us k) =
    AreEntries (pairs_of ps) × AreHidden us × AreFew k × IsTrue (in_order (keys_of (pairs_of ps) us ++ k ∷ []))
    × FitsIn d (levels_by (pairs_of ps))

abbrev pub FramesWithin : List Frame → Type 0
FramesWithin [] = Unit {0}
FramesWithin (f ∷ fs) = FrameWithin (length fs) f × FramesWithin fs

-- inside so many cells, with its whole references
abbrev pub OpenCellWithin : ℕ → OpenCell → Type 0
OpenCellWithin d p =
    AreFew p.bits × AllGood p.refs × (d + 1 + greatest (map cell_levels p.refs) ≤ most_cell_levels)

abbrev pub AroundWithin : List OpenCell → Type 0
AroundWithin [] = Unit {0}
AroundWithin (p ∷ ps) = OpenCellWithin (length ps) p × AroundWithin ps

abbrev pub BaseWithin : Option Slice → Type 0
BaseWithin None = Unit {0}
BaseWithin (Some r) = AreFew r.bits × AllGood r.refs

abbrev pub CellSpotWithin : ℕ → CellSpot → Type 0
CellSpotWithin d paren_due = d + 1 ≤ most_cell_levels
CellSpotWithin d (bits_due exotic place) = d + 1 ≤ most_cell_levels
CellSpotWithin d (after_part p) = OpenCellWithin d p
CellSpotWithin d (child_due p) = OpenCellWithin d p

abbrev pub IsSome : {A : Type 0} → List A → Type 0
IsSome [] = ⊥
IsSome (x ∷ xs) = Unit {0}

abbrev pub MapWithin : ℕ → List (List ℕ × Plain) → List (List ℕ × Hidden) → List ℕ → Type 0
MapWithin d ps us last =
    AreEntries (pairs_of ps) × AreHidden us × Ascends ps us last × FitsIn d (levels_by (pairs_of ps))

abbrev pub RecordWithin : ℕ → Option (List ℕ) → List (List ℕ × Plain) → Type 0
RecordWithin d n fs = IsRecordName n × AreFields (names_in fs) (vals_in fs) × FitsIn d (levels_in (vals_in fs))

abbrev pub SpotWithin : ℕ → Spot → Type 0
SpotWithin d due = Unit {0}
SpotWithin d item_or_end = FitsIn d 0
SpotWithin d (after_item vs) = IsSome vs × AreFormed (vals_of vs) × FitsIn d (levels_in (vals_of vs))
SpotWithin d (named n) = IsRecordName (Some n) × FitsIn d 0
SpotWithin d (field_or_end n) = IsRecordName n × FitsIn d 0
SpotWithin d (field_due n fs) = IsSome fs × RecordWithin d n fs
SpotWithin d (labelled n fs x) = IsName x × RecordWithin d n fs
SpotWithin d (after_field n fs) = IsSome fs × RecordWithin d n fs
SpotWithin d entry_or_end = FitsIn d 0
SpotWithin d (entry_due ps us last) = MapWithin d ps us last
SpotWithin d (keyed ps us k) = FrameWithin d (pair ps us k)
SpotWithin d (after_entry ps us last) = MapWithin d ps us last
SpotWithin d rest_paren = FitsIn d 0
SpotWithin d rest_bits = FitsIn d 0
SpotWithin d (after_rest r) = BaseWithin (Some r) × FitsIn d 0
SpotWithin d (rest_child r) = BaseWithin (Some r) × FitsIn d 0
SpotWithin d (in_cell base ps c) =
    BaseWithin base × AroundWithin ps × CellSpotWithin (length ps) c × FitsIn d 0
SpotWithin d (done v) = IsFormed v × (levels v ≤ most_levels) × (d ≡ 0)

-- a value that is due in a list is not its first
abbrev pub NotFirst : Spot → List Frame → Type 0
NotFirst due (item [] ∷ below) = ⊥
NotFirst spot below = Unit {0}

pub record IsWithin (spot : Spot) (below : List Frame) : Type 0 where
  pub frames : FramesWithin below
  pub there : SpotWithin (length below) spot
  pub not_first : NotFirst spot below
  pub parts : parts_begun (at spot below) ≤ most_parts
  pub cells : cells_begun (at spot below) ≤ most_cells
