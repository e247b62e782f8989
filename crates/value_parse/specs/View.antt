-- What the program's states stand for.
use Rattle.std.specs.Prelude.{List, map, reverse, Option, Some, None}
use Rattle.typed_value.specs.Values.{Slice}
use Rattle.typed_value.specs.View.{dict_parts, record_parts, slice_of, value}
use Rattle.typed_value.specs.declared.value.RestPart.{RestPart}
use Rattle.value_grammar.specs.Open as opened
use Rattle.value_grammar.specs.Steps.{Held, held_of, open_cell_of}
use Rattle.value_parse.specs.declared.state.Frame.{Frame}
use Rattle.value_parse.specs.declared.state.Frame.TheVariants.{Field, Item, Reference, Pair}
use Rattle.value_parse.specs.declared.state.OpenCell.{OpenCell}
use Rattle.value_parse.specs.declared.state.CellSpot.{CellSpot}
use Rattle.value_parse.specs.declared.state.CellSpot.TheVariants.{ParenDue, BitsDue, AfterPart, ChildDue}
use Rattle.value_parse.specs.declared.state.Spot.{Spot}
use Rattle.value_parse.specs.declared.state.Spot.TheVariants.{Due, ItemOrEnd, AfterItem, Named, FieldOrEnd, FieldDue}
use Rattle.value_parse.specs.declared.state.Spot.TheVariants.{Labelled, AfterField, EntryOrEnd, EntryDue, Keyed}
use Rattle.value_parse.specs.declared.state.Spot.TheVariants.{AfterEntry, RestParen, RestBits, AfterRest, RestChild}
use Rattle.value_parse.specs.declared.state.Spot.TheVariants.{InCell, Done}
use Rattle.value_parse.specs.declared.state.Open.{Open}
use Rattle.value_parse.specs.declared.state.State.{State}

abbrev pub frame : Frame → opened.Frame
frame (Field r x) = opened.field (record_parts r).0 (record_parts r).1 x
frame (Item vs) = opened.item (map value vs)
frame Reference = opened.reference
frame (Pair d k) = opened.pair (dict_parts d).0 (dict_parts d).1 k

-- the innermost first
abbrev pub frames : List Frame → List opened.Frame
frames fs = reverse (map frame fs)

abbrev pub open_cell : OpenCell → opened.OpenCell
open_cell p = open_cell_of p.exotic p.place p.bits p.refs

abbrev pub around : List OpenCell → List opened.OpenCell
around ps = reverse (map open_cell ps)

abbrev pub cell_spot : CellSpot → opened.CellSpot
cell_spot ParenDue = opened.paren_due
cell_spot (BitsDue exotic place) = opened.bits_due exotic place
cell_spot (AfterPart p) = opened.after_part (open_cell p)
cell_spot (ChildDue p) = opened.child_due (open_cell p)

abbrev pub base : Option RestPart → Option Slice
base None = None
base (Some r) = Some (slice_of r)

abbrev pub spot : Spot → opened.Spot
spot Due = opened.due
spot ItemOrEnd = opened.item_or_end
spot (AfterItem vs) = opened.after_item (map value vs)
spot (Named n) = opened.named n
spot (FieldOrEnd n) = opened.field_or_end n
spot (FieldDue r) = opened.field_due (record_parts r).0 (record_parts r).1
spot (Labelled r x) = opened.labelled (record_parts r).0 (record_parts r).1 x
spot (AfterField r) = opened.after_field (record_parts r).0 (record_parts r).1
spot EntryOrEnd = opened.entry_or_end
spot (EntryDue d last) = opened.entry_due (dict_parts d).0 (dict_parts d).1 last
spot (Keyed d k) = opened.keyed (dict_parts d).0 (dict_parts d).1 k
spot (AfterEntry d last) = opened.after_entry (dict_parts d).0 (dict_parts d).1 last
spot RestParen = opened.rest_paren
spot RestBits = opened.rest_bits
spot (AfterRest r) = opened.after_rest (slice_of r)
spot (RestChild r) = opened.rest_child (slice_of r)
spot (InCell b ps c) = opened.in_cell (base b) (around ps.items) (cell_spot c)
spot (Done v) = opened.done (value v)

abbrev pub open_of : Open → opened.Open
open_of o = opened.at (spot o.spot) (frames o.below.items)

abbrev pub held : State → Held
held s = held_of (open_of s.begun) s.values s.cells
