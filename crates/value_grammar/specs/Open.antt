-- What has been written of a value where its text stands: the values that have begun and not ended, the innermost
-- first, each with what is whole of it. This project's own.
use Rattle.std.specs.Prelude.{ℕ, ◌+◌, Bool, if◌then◌else◌, List, [], ◌∷◌, ◌++◌, map, Option, Some, None}
use Rattle.cell_nodes.specs.Tree.{total, unfolded}
use Rattle.cell_nodes.specs.declared.tree.Hidden.{Hidden}
use Rattle.cell_nodes.specs.declared.tree.Tree.{Tree}
use Rattle.typed_value.specs.Values.{Plain, Slice, parts, parts_by, parts_in}
use Rattle.typed_value.specs.View.{names_in, pairs_of, vals_in, vals_of}
use Rattle.value_text.specs.Text.{cell, entries, fields, items, more, name_of, separated, tokens}
use Rattle.value_text.specs.Tokens.{Token, mark, bits, name}
use Rattle.value_text.specs.Writes.{cells_by, cells_in, cells_of}

-- a value that has begun, and inside which another begins next or stands
pub data Frame : Type 0 where
  -- a record: its name, its whole fields, and the name of the field whose value comes
  field : Option (List ℕ) → List (List ℕ × Plain) → List ℕ → Frame
  -- a list, and its whole items
  item : List Plain → Frame
  reference : Frame
  -- a map: its whole pairs and hidden parts, and the key whose value comes
  pair : List (List ℕ × Plain) → List (List ℕ × Hidden) → List ℕ → Frame

-- a cell: whether it is exotic, the place of its `(`, its bits and its whole references
pub record OpenCell : Type 0 where
  pub exotic : Bool
  pub place : ℕ
  pub bits : List ℕ
  pub refs : List Tree

pub data CellSpot : Type 0 where
  -- after a `!`
  paren_due : CellSpot
  -- after a `(`
  bits_due : Bool → ℕ → CellSpot
  -- after the bits or a reference
  after_part : OpenCell → CellSpot
  -- after a comma
  child_due : OpenCell → CellSpot

-- where the text stands within the frames
pub data Spot : Type 0 where
  -- a value is due
  due : Spot
  -- after a `[`
  item_or_end : Spot
  -- after an item
  after_item : List Plain → Spot
  -- after a record's name
  named : List ℕ → Spot
  -- after a record's `{`
  field_or_end : Option (List ℕ) → Spot
  -- after a comma in a record
  field_due : Option (List ℕ) → List (List ℕ × Plain) → Spot
  -- after a field's name
  labelled : Option (List ℕ) → List (List ℕ × Plain) → List ℕ → Spot
  -- after a field
  after_field : Option (List ℕ) → List (List ℕ × Plain) → Spot
  -- after a `<`
  entry_or_end : Spot
  -- after a comma in a map, and the last key
  entry_due : List (List ℕ × Plain) → List (List ℕ × Hidden) → List ℕ → Spot
  -- after a key
  keyed : List (List ℕ × Plain) → List (List ℕ × Hidden) → List ℕ → Spot
  -- after an entry, and its key
  after_entry : List (List ℕ × Plain) → List (List ℕ × Hidden) → List ℕ → Spot
  -- after a `%`
  rest_paren : Spot
  -- after its `(`
  rest_bits : Spot
  -- after its bits or a reference
  after_rest : Slice → Spot
  -- after a comma in it
  rest_child : Slice → Spot
  -- in a cell: the `%` around it, if there is one, and the cells around it
  in_cell : Option Slice → List OpenCell → CellSpot → Spot
  -- after the whole value
  done : Plain → Spot

pub data Open : Type 0 where
  at : Spot → List Frame → Open

-- ---- the tokens that have been written: '{' is 123, ':' 58, '[' 91, ',' 44, '^' 94, '<' 60, '(' 40, '!' 33, '%' 37

-- each with a comma after it
abbrev pub past : List (List Token) → List Token
past [] = []
past (e ∷ es) = e ++ mark 44 ∷ past es

abbrev pub field_tokens : List (List ℕ × Plain) → List (List Token)
field_tokens fs = fields (names_in fs) (vals_in fs)

abbrev pub item_tokens : List Plain → List (List Token)
item_tokens vs = items (vals_of vs)

abbrev pub entry_tokens : List (List ℕ × Plain) → List (List ℕ × Hidden) → List (List Token)
entry_tokens ps us = entries (pairs_of ps) us

abbrev pub frame_text : Frame → List Token
frame_text (field n fs x) = name_of n ++ mark 123 ∷ past (field_tokens fs) ++ name x ∷ mark 58 ∷ []
frame_text (item vs) = mark 91 ∷ past (item_tokens vs)
frame_text reference = mark 94 ∷ []
frame_text (pair ps us k) = mark 60 ∷ past (entry_tokens ps us) ++ bits k ∷ mark 58 ∷ []

abbrev pub frames_text : List Frame → List Token
frames_text [] = []
frames_text (f ∷ fs) = frames_text fs ++ frame_text f

-- the bits and the references of a body
abbrev pub body_text : List ℕ → List Tree → List Token
body_text bs refs = mark 40 ∷ bits bs ∷ more (map cell refs)

abbrev pub bang : Bool → List Token
bang exotic = if exotic then mark 33 ∷ [] else []

abbrev pub open_cell_text : OpenCell → List Token
open_cell_text p = bang p.exotic ++ body_text p.bits p.refs ++ mark 44 ∷ []

abbrev pub around_text : List OpenCell → List Token
around_text [] = []
around_text (p ∷ ps) = around_text ps ++ open_cell_text p

abbrev pub base_text : Option Slice → List Token
base_text None = []
base_text (Some r) = mark 37 ∷ body_text r.bits r.refs ++ mark 44 ∷ []

abbrev pub cell_spot_text : CellSpot → List Token
cell_spot_text paren_due = mark 33 ∷ []
cell_spot_text (bits_due exotic place) = bang exotic ++ mark 40 ∷ []
cell_spot_text (after_part p) = bang p.exotic ++ body_text p.bits p.refs
cell_spot_text (child_due p) = open_cell_text p

abbrev pub spot_text : Spot → List Token
spot_text due = []
spot_text item_or_end = mark 91 ∷ []
spot_text (after_item vs) = mark 91 ∷ separated (item_tokens vs)
spot_text (named n) = name n ∷ []
spot_text (field_or_end n) = name_of n ++ mark 123 ∷ []
spot_text (field_due n fs) = name_of n ++ mark 123 ∷ past (field_tokens fs)
spot_text (labelled n fs x) = name_of n ++ mark 123 ∷ past (field_tokens fs) ++ name x ∷ []
spot_text (after_field n fs) = name_of n ++ mark 123 ∷ separated (field_tokens fs)
spot_text entry_or_end = mark 60 ∷ []
spot_text (entry_due ps us last) = mark 60 ∷ past (entry_tokens ps us)
spot_text (keyed ps us k) = mark 60 ∷ past (entry_tokens ps us) ++ bits k ∷ []
spot_text (after_entry ps us last) = mark 60 ∷ separated (entry_tokens ps us)
spot_text rest_paren = mark 37 ∷ []
spot_text rest_bits = mark 37 ∷ mark 40 ∷ []
spot_text (after_rest r) = mark 37 ∷ body_text r.bits r.refs
spot_text (rest_child r) = mark 37 ∷ body_text r.bits r.refs ++ mark 44 ∷ []
spot_text (in_cell base ps c) = base_text base ++ around_text ps ++ cell_spot_text c
spot_text (done v) = tokens v

abbrev pub so_far : Open → List Token
so_far (at spot below) = frames_text below ++ spot_text spot

-- ---- how many values have begun

abbrev pub frame_parts : Frame → ℕ
frame_parts (field n fs x) = 1 + parts_in (vals_in fs)
frame_parts (item vs) = 1 + parts_in (vals_of vs)
frame_parts reference = 1
frame_parts (pair ps us k) = 1 + parts_by (pairs_of ps)

abbrev pub frames_parts : List Frame → ℕ
frames_parts [] = 0
frames_parts (f ∷ fs) = frames_parts fs + frame_parts f

abbrev pub spot_parts : Spot → ℕ
spot_parts due = 0
spot_parts (after_item vs) = 1 + parts_in (vals_of vs)
spot_parts (field_due n fs) = 1 + parts_in (vals_in fs)
spot_parts (labelled n fs x) = 1 + parts_in (vals_in fs)
spot_parts (after_field n fs) = 1 + parts_in (vals_in fs)
spot_parts (entry_due ps us last) = 1 + parts_by (pairs_of ps)
spot_parts (keyed ps us k) = 1 + parts_by (pairs_of ps)
spot_parts (after_entry ps us last) = 1 + parts_by (pairs_of ps)
spot_parts (done v) = parts v
spot_parts spot = 1

abbrev pub parts_begun : Open → ℕ
parts_begun (at spot below) = frames_parts below + spot_parts spot

-- ---- how many cells have begun

abbrev pub frame_cells : Frame → ℕ
frame_cells (field n fs x) = cells_of (vals_in fs)
frame_cells (item vs) = cells_of (vals_of vs)
frame_cells reference = 0
frame_cells (pair ps us k) = cells_by (pairs_of ps)

abbrev pub frames_cells : List Frame → ℕ
frames_cells [] = 0
frames_cells (f ∷ fs) = frames_cells fs + frame_cells f

abbrev pub refs_cells : List Tree → ℕ
refs_cells refs = total (map unfolded refs)

abbrev pub around_cells : List OpenCell → ℕ
around_cells [] = 0
around_cells (p ∷ ps) = around_cells ps + (1 + refs_cells p.refs)

abbrev pub base_cells : Option Slice → ℕ
base_cells None = 0
base_cells (Some r) = refs_cells r.refs

abbrev pub cell_spot_cells : CellSpot → ℕ
cell_spot_cells paren_due = 0
cell_spot_cells (bits_due exotic place) = 1
cell_spot_cells (after_part p) = 1 + refs_cells p.refs
cell_spot_cells (child_due p) = 1 + refs_cells p.refs

abbrev pub spot_cells : Spot → ℕ
spot_cells (after_item vs) = cells_of (vals_of vs)
spot_cells (field_due n fs) = cells_of (vals_in fs)
spot_cells (labelled n fs x) = cells_of (vals_in fs)
spot_cells (after_field n fs) = cells_of (vals_in fs)
spot_cells (entry_due ps us last) = cells_by (pairs_of ps)
spot_cells (keyed ps us k) = cells_by (pairs_of ps)
spot_cells (after_entry ps us last) = cells_by (pairs_of ps)
spot_cells (after_rest r) = refs_cells r.refs
spot_cells (rest_child r) = refs_cells r.refs
spot_cells (in_cell base ps c) = base_cells base + around_cells ps + cell_spot_cells c
spot_cells (done v) = cells_in v
spot_cells spot = 0

abbrev pub cells_begun : Open → ℕ
cells_begun (at spot below) = frames_cells below + spot_cells spot
