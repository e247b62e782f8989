-- What spells a value, by cases on the value.
--
-- Source: TON documentation, "TL-B language": fields in order, `^`, `n * T`, `e?T`, `[ ]`, tags, implicit fields and
-- constraints; "Exotic cells": pruned branches; TVM whitepaper, 3.3: dictionaries.
use Rattle.std.specs.Prelude.{Bool, true, false, ◌⊎◌, ℕ, zero, suc, ◌+◌, ◌<◌, ◌≤◌, ◌≡◌, ℤ, pos, negsuc, List, [], ◌∷◌, length, Option, Some, None, Ok, slice_get}
use Rattle.bit_slice.specs.Bits.{spelled, signed_spelled, InSignedRange}
use Rattle.nat_solver.specs.Number.{Compares, Solves}
use Rattle.cell_nodes.specs.declared.tree.Tree.{Tree}
use Rattle.cell_nodes.specs.declared.tree.Hidden.{Hidden}
use Rattle.core_form.specs.Core.{Word, Items, no_items, an_item, check, solve, field, sets}
use Rattle.core_form.specs.Closed.{Closed, ClosedArgs}
use Rattle.core_form.specs.Closed as closed
use Rattle.hashmap_tree.specs.Entries.{Slice, cell_of, Then, Entries, pairs_in, hidden_in}
use Rattle.spelling.specs.Slices.{nothing, only_bits, only_ref, took, kept}
use Rattle.typed_value.specs.Values.{Val, Vals, Pairs, Plain, Plains, PlainPairs, number, bit_string, record_of, absent, list_of, ref_to, unknown, map_of, raw, rest, no_vals, a_val, no_pairs, a_pair, levels, parts, most_levels, most_parts}
use Rattle.typed_value.specs.Values as values
use Rattle.core_form.specs.Scope.{Scope, with_number, value_in, bind, values_in}
use Rattle.core_form.specs.Core.{Declaration, CoreSchema, field_names}
use Rattle.core_form.specs.Fit.{Fits}
use Rattle.spelling.specs.Goals.{Row, natural, integer, string, no_row, row, Goal, at_type, at_field, at_cell, Shape, typed, fields_here, fields_under, left_out, as_cell, at_fields, under_ref, is_ref, shape_of}
use Rattle.hashmap_tree.specs.Dict.{unseen, Branch}
use Rattle.hashmap_tree.specs.First.{LeafEdge, Fork}
use Rattle.cell_nodes.specs.declared.tree.Mode.{Mode}

-- what a value is spelled by: at a goal, from a slice, to outputs and to what it leaves
abbrev pub Meaning : Type 1
Meaning = Goal → Slice → List ℕ → Slice → Type 0

-- the same where the goal is closed
abbrev pub Closing : Type 1
Closing = Shape → Slice → List ℕ → Slice → Type 0

-- meanings one after the other, one a value
pub data Meanings : Type 1 where
  no_meanings : Meanings
  a_meaning : Meaning → Meanings → Meanings

-- meanings by key
pub data Keyed : Type 1 where
  no_keyed : Keyed
  a_keyed : List ℕ → Meaning → Keyed → Keyed

-- ---- numbers and bit strings
-- Source: TL-B documentation (built-in types); TVM whitepaper, 1.0 (big-endian numbers, two's complement).

abbrev pub own : Bool → ℕ → List ℕ
own true n = n ∷ []
own false n = []

-- the integer of a sign and a size; 0 has no sign
abbrev pub integer_of : Bool → ℕ → Option ℤ
integer_of false n = Some (pos n)
integer_of true zero = None
integer_of true (suc n) = Some (negsuc n)

-- a number of a basic type; of `#`, `##`, `#<` and `#<=` it is its own output
abbrev pub SpellsNumber : Bool → ℕ → Row → Slice → List ℕ → Slice → Type 0
SpellsNumber negative size (natural width bound named) before outs after =
    (negative ≡ false) × (size < bound) × (outs ≡ own named size) × Then before (only_bits (spelled width size)) after
SpellsNumber negative size (integer width) before outs after =
    (z : ℤ) × (integer_of negative size ≡ Some z) × InSignedRange width z × (outs ≡ [])
    × Then before (only_bits (signed_spelled width z)) after
SpellsNumber negative size (string width) before outs after = ⊥
SpellsNumber negative size no_row before outs after = ⊥

abbrev pub SpellsString : List ℕ → Row → Slice → List ℕ → Slice → Type 0
SpellsString bits (string width) before outs after =
    (length bits ≡ width) × (outs ≡ []) × Then before (only_bits bits) after
SpellsString bits (natural width bound named) before outs after = ⊥
SpellsString bits (integer width) before outs after = ⊥
SpellsString bits no_row before outs after = ⊥

abbrev pub AtRow : (Row → Slice → List ℕ → Slice → Type 0) → Closing
AtRow F (typed t) before outs after = F (row t) before outs after
AtRow F _ before outs after = ⊥

-- ---- records
-- Source: TL-B documentation (constructors and tags, implicit and explicit fields, constraints, conditional fields, `[ ]`).

-- The items in order, with a meaning for each explicit field: from what the variables stand for before them to what
-- they stand for after them, and from a slice to what is left. Implicit fields take nothing, and are no core items.
abbrev pub Fields : Items → Meanings → Scope → Slice → Scope → Slice → Type 0
Fields no_items no_meanings scope before end after = (end ≡ scope) × (after ≡ before)
Fields no_items (a_meaning M Ms) scope before end after = ⊥
Fields (an_item (check a op b i) is) Ms scope before end after =
    (m : ℕ) × (n : ℕ) × (value_in a scope ≡ Some m) × (value_in b scope ≡ Some n) × Compares op m n
    × Fields is Ms scope before end after
Fields (an_item (solve v a b i) is) Ms scope before end after =
    (x : ℕ) × Solves a b scope.numbers x × Fields is Ms (with_number v x scope) before end after
Fields (an_item (field x slot c t) is) no_meanings scope before end after = ⊥
Fields (an_item (field x slot c t) is) (a_meaning M Ms) scope before end after =
    (outs : List ℕ) × (middle : Slice) × M (at_field c t scope) before outs middle
    × Fields is Ms (bind (sets slot t) outs scope) middle end after

-- a constructor of the schema with this type and this shown name, whose inputs meet the arguments
pub record Meets (schema : CoreSchema) (type name : Word) (args : ClosedArgs) (at : ℕ) (c : Declaration) (scope : Scope)
    : Type 0 where
  pub there : slice_get schema at ≡ Some c
  pub of_type : c.of_type ≡ type
  pub shown : c.shown ≡ name
  pub fitting : Fits c.core args scope

-- a declared type: the tag, and then the items of a constructor that fits
abbrev pub SpellsDeclared : CoreSchema → Word → List Word → Meanings → Closing
SpellsDeclared schema name names Ms (typed (closed.named type args)) before outs after =
    (at : ℕ) × (c : Declaration) × (scope : Scope) × (middle : Slice) × (end : Scope)
    × Meets schema type name args at c scope × (names ≡ field_names c.core.items)
    × Then before (only_bits c.core.tag) middle × Fields c.core.items Ms scope middle end after
    × (values_in c.core.outputs end ≡ Some outs)
SpellsDeclared schema name names Ms _ before outs after = ⊥

-- an inner record in place has no name and no outputs
abbrev pub SpellsInner : List Word → Meanings → Closing
SpellsInner names Ms (fields_here is scope) before outs after =
    (outs ≡ []) × (names ≡ field_names is) × (end : Scope) × Fields is Ms scope before end after
SpellsInner names Ms _ before outs after = ⊥

abbrev pub SpellsRecord : CoreSchema → Option Word → List Word → Meanings → Closing
SpellsRecord schema (Some name) names Ms = SpellsDeclared schema name names Ms
SpellsRecord schema None names Ms = SpellsInner names Ms

-- a field whose condition doesn't hold takes nothing
abbrev pub SpellsAbsent : Closing
SpellsAbsent left_out before outs after = (outs ≡ []) × (after ≡ before)
SpellsAbsent _ before outs after = ⊥

-- ---- repetitions
-- Source: TL-B documentation (`n * T`). That an item takes something is this project's own.

-- n spellings one after the other, each of which takes a bit or a reference
abbrev pub Repeats : Meanings → ℕ → Closed → Slice → Slice → Type 0
Repeats no_meanings n t before after = (n ≡ 0) × (after ≡ before)
Repeats (a_meaning M Ms) n t before after =
    (k : ℕ) × (outs : List ℕ) × (middle : Slice) × (n ≡ k + 1) × M (at_type t) before outs middle
    × (took before middle ≡ true) × Repeats Ms k t middle after

abbrev pub SpellsList : Meanings → Closing
SpellsList Ms (typed (closed.repeat n t)) before outs after = (outs ≡ []) × Repeats Ms n t before after
SpellsList Ms _ before outs after = ⊥

-- ---- references
-- Source: TL-B documentation (`^`); TON documentation on exotic cells (pruned branches).

-- What a cell holds: a cell that isn't hidden, as it is; or an ordinary cell whose whole content spells the value.
abbrev pub Holds : Mode → Meaning → Goal → Tree → Type 0
Holds mode M at_cell c = (outs : List ℕ) × (unseen mode c ≡ None) × M at_cell (only_ref c) outs nothing
Holds mode M (at_type t) c = (s : Slice) × (outs : List ℕ) × (c ≡ cell_of s) × M (at_type t) s outs nothing
Holds mode M (at_field e t scope) c =
    (s : Slice) × (outs : List ℕ) × (c ≡ cell_of s) × M (at_field e t scope) s outs nothing

abbrev pub SpellsChild : (Slice → Type 0) → Mode → Meaning → Goal → Slice → List ℕ → Slice → Type 0
SpellsChild At mode M g before outs after =
    (c : Tree) × (outs ≡ []) × Then before (only_ref c) after × Holds mode M g c × At before

-- `^T`, and an inner record under one `^`
abbrev pub SpellsRef : (Slice → Type 0) → Mode → Meaning → Closing
SpellsRef At mode M (typed (closed.ref t)) before outs after = SpellsChild At mode M (under_ref t) before outs after
SpellsRef At mode M (fields_under is scope) before outs after =
    SpellsChild At mode M (at_fields is scope) before outs after
SpellsRef At mode M _ before outs after = ⊥

-- a pruned branch in place of the cell of a reference
abbrev pub SpellsPruned : Mode → Hidden → Slice → List ℕ → Slice → Type 0
SpellsPruned mode h before outs after =
    (c : Tree) × (outs ≡ []) × Then before (only_ref c) after × (unseen mode c ≡ Some h)

abbrev pub SpellsUnknown : Mode → Hidden → Closing
SpellsUnknown mode h (typed (closed.ref t)) before outs after = SpellsPruned mode h before outs after
SpellsUnknown mode h (fields_under is scope) before outs after = SpellsPruned mode h before outs after
SpellsUnknown mode h _ before outs after = ⊥

-- the cell of `^Any` and `^Cell`, as it is
abbrev pub SpellsRaw : Tree → Closing
SpellsRaw c as_cell before outs after = (outs ≡ []) × Then before (only_ref c) after
SpellsRaw c _ before outs after = ⊥

-- `Any` and `Cell` in place take all that is left
abbrev pub SpellsRest : values.Slice → Closing
SpellsRest s (typed closed.whole) before outs after = (outs ≡ []) × (s ≡ kept before) × (after ≡ nothing)
SpellsRest s _ before outs after = ⊥

-- ---- dictionaries
-- Source: TVM whitepaper, 3.3; TON documentation on hashmaps.

-- the contents of leaves, each spelled to nothing in its own cell
abbrev pub Contents : Keyed → Closed → List (List ℕ × Slice) → Type 0
Contents no_keyed t ls = ls ≡ []
Contents (a_keyed k M Ks) t [] = ⊥
Contents (a_keyed k M Ks) t (l ∷ ls) = (outs : List ℕ) × (l.0 ≡ k) × M (at_type t) l.1 outs nothing × Contents Ks t ls

-- entries with just these values and hidden parts
abbrev pub EntriesHold : Keyed → List (List ℕ × Hidden) → Closed → Entries → Type 0
EntriesHold Ks us t es = Contents Ks t (pairs_in es) × (hidden_in es ≡ us)

-- where the first edge is a leaf: one value, which goes on in place after the label
abbrev pub InPlace : Mode → Keyed → List (List ℕ × Hidden) → ℕ → Closed → Slice → Slice → Type 0
InPlace mode (a_keyed k M no_keyed) [] n t before after =
    (middle : Slice) × (outs : List ℕ) × LeafEdge mode n k before middle × M (at_type t) middle outs after
InPlace mode _ us n t before after = ⊥

-- Hashmap n T: one edge in place, a leaf or a fork
abbrev pub SpellsDict : Mode → Keyed → List (List ℕ × Hidden) → ℕ → Closed → Slice → Slice → Type 0
SpellsDict mode Ks us n t before after =
    InPlace mode Ks us n t before after ⊎ ((es : Entries) × Fork mode n es before after × EntriesHold Ks us t es)

-- the first bit and what follows it
abbrev pub next_bit : List ℕ → Option (Bool × List ℕ)
next_bit (zero ∷ bits) = Some (false, bits)
next_bit (suc zero ∷ bits) = Some (true, bits)
next_bit _ = None

abbrev pub IsEmpty : Keyed → Type 0
IsEmpty no_keyed = Unit {0}
IsEmpty (a_keyed k M Ks) = ⊥

-- HashmapE n T: the bit 0 and no entries, or the bit 1 and a reference to the cell of an edge
pub data SpellsDictE (mode : Mode) (Ks : Keyed) (us : List (List ℕ × Hidden)) (n : ℕ) (t : Closed)
    (before after : Slice) : Type 0 where
  no_entries : IsEmpty Ks → us ≡ [] → Then before (only_bits (0 ∷ [])) after → SpellsDictE mode Ks us n t before after
  some_entries : (c : Tree) (es : Entries) → Then before (record { bits = 1 ∷ []; refs = c ∷ [] }) after
      → Branch mode n es c → EntriesHold Ks us t es → SpellsDictE mode Ks us n t before after

abbrev pub SpellsMap : (Slice → Type 0) → Mode → Keyed → List (List ℕ × Hidden) → Closing
SpellsMap At mode Ks us (typed (closed.dict n t)) before outs after =
    (outs ≡ []) × SpellsDict mode Ks us n t before after × At before
SpellsMap At mode Ks us (typed (closed.dict_e n t)) before outs after =
    (outs ≡ []) × SpellsDictE mode Ks us n t before after × At before
SpellsMap At mode Ks us _ before outs after = ⊥

-- ---- values

-- the goal is closed, and then its shape is spelled
abbrev pub ByShape : Closing → Meaning
ByShape F g before outs after = (c : Shape) × (shape_of g ≡ Ok c) × F c before outs after

-- what may stand beside a value that is spelled from a slice
abbrev pub Hook : Type 0 → Type 1
Hook A = A → Slice → Type 0

abbrev mutual
  pub SpellsShapeBy : {A : Type 0} → Hook A → Mode → CoreSchema → Val A → Closing
  SpellsShapeBy H mode schema (number negative size) = AtRow (SpellsNumber negative size)
  SpellsShapeBy H mode schema (bit_string bits) = AtRow (SpellsString bits)
  SpellsShapeBy H mode schema (record_of name names vs) = SpellsRecord schema name names (EachBy H mode schema vs)
  SpellsShapeBy H mode schema absent = SpellsAbsent
  SpellsShapeBy H mode schema (list_of vs) = SpellsList (EachBy H mode schema vs)
  SpellsShapeBy H mode schema (ref_to a v) = SpellsRef (H a) mode (ByShape (SpellsShapeBy H mode schema v))
  SpellsShapeBy H mode schema (unknown h) = SpellsUnknown mode h
  SpellsShapeBy H mode schema (map_of a ps us) = SpellsMap (H a) mode (EachPairBy H mode schema ps) us
  SpellsShapeBy H mode schema (raw c) = SpellsRaw c
  SpellsShapeBy H mode schema (rest s) = SpellsRest s

  pub EachBy : {A : Type 0} → Hook A → Mode → CoreSchema → Vals A → Meanings
  EachBy H mode schema no_vals = no_meanings
  EachBy H mode schema (a_val v vs) = a_meaning (ByShape (SpellsShapeBy H mode schema v)) (EachBy H mode schema vs)

  pub EachPairBy : {A : Type 0} → Hook A → Mode → CoreSchema → Pairs A → Keyed
  EachPairBy H mode schema no_pairs = no_keyed
  EachPairBy H mode schema (a_pair k v ps) =
      a_keyed k (ByShape (SpellsShapeBy H mode schema v)) (EachPairBy H mode schema ps)

abbrev pub SpellsBy : {A : Type 0} → Hook A → Mode → CoreSchema → Val A → Meaning
SpellsBy H mode schema v = ByShape (SpellsShapeBy H mode schema v)

-- nothing is said beside a value, or just the slice that it begins
abbrev pub free : Hook (Unit {0})
free a s = Unit {0}

abbrev pub just : Hook Slice
just a s = a ≡ s

-- values as they are read
abbrev pub SpellsShape : Mode → CoreSchema → Plain → Closing
SpellsShape mode schema v = SpellsShapeBy free mode schema v

abbrev pub Each : Mode → CoreSchema → Plains → Meanings
Each mode schema vs = EachBy free mode schema vs

abbrev pub EachPair : Mode → CoreSchema → PlainPairs → Keyed
EachPair mode schema ps = EachPairBy free mode schema ps

abbrev pub Spells : Mode → CoreSchema → Plain → Meaning
Spells mode schema v = SpellsBy free mode schema v

-- ---- the root
-- Source: this project's own.

-- a root that is hidden, where the type is no reference itself
abbrev pub RootUnknown : Mode → Closed → Tree → Plain → Type 0
RootUnknown mode t c (unknown h) = (unseen mode c ≡ Some h) × (is_ref t ≡ false)
RootUnknown mode t c _ = ⊥

-- a root cell is read as `^T` reads the cell of its reference, and the value is that of the reference
abbrev pub IsRootOf : Mode → CoreSchema → Closed → Tree → Plain → Type 0
IsRootOf mode schema t c v = Holds mode (Spells mode schema v) (under_ref t) c ⊎ RootUnknown mode t c v

pub record Reading (mode : Mode) (schema : CoreSchema) (t : Closed) (c : Tree) (v : Plain) : Type 0 where
  pub root : IsRootOf mode schema t c v
  pub deep : levels v ≤ most_levels
  pub large : parts v ≤ most_parts
