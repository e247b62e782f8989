-- What the program's values and steps stand for.
use Rattle.std.specs.Prelude.{ℕ, List, [], ◌∷◌, Option}
use Rattle.cell_nodes.specs.declared.tree.Hidden.{Hidden}
use Rattle.typed_value.specs.declared.value.Value.{Value, fold-Value}
use Rattle.typed_value.specs.declared.value.Value.TheOpen.{Value-F, Dict-F, Record-F, Number, Bits, Record, Absent, List as Series, Ref, Unknown, Map, Raw, Rest}
use Rattle.typed_value.specs.declared.value.Value.TheFolds.{fold-Dict, fold-Record}
use Rattle.typed_value.specs.declared.value.Dict.{Dict}
use Rattle.typed_value.specs.declared.value.Record.{Record as Entry}
use Rattle.typed_value.specs.declared.value.RestPart.{RestPart}
use Rattle.typed_value.specs.declared.path.Step.{Step}
use Rattle.typed_value.specs.declared.path.Step.TheVariants.{Field, Item, Key}
use Rattle.typed_value.specs.Values.{Slice, Plain, Plains, PlainPairs, number, bit_string, record_of, absent, list_of, ref_to, unknown, map_of, raw, rest, no_vals, a_val, no_pairs, a_pair}
use Rattle.typed_value.specs.Paths.{Stride, named, item, keyed}

abbrev pub vals_of : List Plain → Plains
vals_of [] = no_vals
vals_of (v ∷ vs) = a_val v (vals_of vs)

abbrev pub pairs_of : List (List ℕ × Plain) → PlainPairs
pairs_of [] = no_pairs
pairs_of (p ∷ ps) = a_pair p.0 p.1 (pairs_of ps)

-- the names of fields, and their values
abbrev pub names_in : List (List ℕ × Plain) → List (List ℕ)
names_in [] = []
names_in (f ∷ fs) = f.0 ∷ names_in fs

abbrev pub vals_in : List (List ℕ × Plain) → Plains
vals_in [] = no_vals
vals_in (f ∷ fs) = a_val f.1 (vals_in fs)

-- a record's name, and its fields
abbrev pub RecordParts : Type 0
RecordParts = Option (List ℕ) × List (List ℕ × Plain)

-- a map's pairs, and its hidden parts
abbrev pub DictParts : Type 0
DictParts = List (List ℕ × Plain) × List (List ℕ × Hidden)

abbrev pub slice_of : RestPart → Slice
slice_of r = record { bits = r.bits; refs = r.refs }

abbrev pub value_step : Value-F Plain DictParts RecordParts → Plain
value_step (Number n) = number n.negative n.size
value_step (Bits b) = bit_string b
value_step (Record r) = record_of r.0 (names_in r.1) (vals_in r.1)
value_step Absent = absent
value_step (Series vs) = list_of (vals_of vs)
value_step (Ref v) = ref_to tt v
value_step (Unknown h) = unknown h
value_step (Map d) = map_of tt (pairs_of d.0) d.1
value_step (Raw c) = raw c
value_step (Rest r) = rest (slice_of r)

abbrev pub dict_step : Dict-F Plain DictParts RecordParts → DictParts
dict_step d = (d.pairs, d.unknown)

abbrev pub record_step : Record-F Plain DictParts RecordParts → RecordParts
record_step r = (r.name, r.fields)

abbrev pub value : Value → Plain
value = fold-Value Plain DictParts RecordParts value_step dict_step record_step

abbrev pub dict_parts : Dict → DictParts
dict_parts = fold-Dict Plain DictParts RecordParts value_step dict_step record_step

abbrev pub record_parts : Entry → RecordParts
record_parts = fold-Record Plain DictParts RecordParts value_step dict_step record_step

-- a field or an entry of a map
abbrev pub pair_of : List ℕ × Value → List ℕ × Plain
pair_of f = (f.0, value f.1)

abbrev pub stride : Step → Stride
stride (Field name) = named name
stride (Item i) = item i
stride (Key key) = keyed key
