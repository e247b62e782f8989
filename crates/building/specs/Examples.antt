-- Worked buildings, computed: nearly each row of the table of causes, with its place. The text of each schema stands
-- above its core form.
use Rattle.std.specs.Prelude.{◌≡◌, ℕ, zero, suc, List, [], ◌∷◌, ◌++◌, replicate, false, true, Some, None, Result, Ok, Err, codes, refl}
use Rattle.bit_slice.specs.Bits.{spelled, bit_length_within}
use Rattle.cell_nodes.specs.Equations.{unfolded-tree_of}
use Rattle.cell_nodes.specs.declared.tree.Kind.TheVariants.{Ordinary}
use Rattle.cell_nodes.specs.declared.tree.Mode.TheVariants.{Whole, Partial}
use Rattle.nat_solver.specs.Number as num
use Rattle.nat_solver.specs.declared.compare.Op.TheVariants.{Eq, Ge}
use Rattle.hashmap_tree.specs.Entries.{cell_of, leaf, hidden}
use Rattle.hashmap_tree.specs.Exceeds as excess
use Rattle.typed_value.specs.Values.{Plain, Plains, number, bit_string, record_of, absent, list_of, unknown, map_of, rest, no_vals, a_val, no_pairs, a_pair}
use Rattle.core_form.specs.Core.{Word, Input, Items, Item, Declaration, CoreSchema, no_items, an_item, check, solve, field}
use Rattle.core_form.specs.Core as core
use Rattle.core_form.specs.Closed as closed
use Rattle.field_path.specs.declared.part.Part.{Part}
use Rattle.field_path.specs.declared.part.Part.TheVariants as part
use Rattle.spelling.specs.Goals.{at_type}
use Rattle.spelling.specs.Places.{Spot, Place, constructor_of, at_root, stuck}
use Rattle.spelling.specs.Slices.{only_bits, nothing}
use Rattle.spelling.specs.declared.Cause.TheVariants as why
use Rattle.building.specs.Growing.{Grown, empty}
use Rattle.building.specs.PlainBuilder.{Made, making, build, build_within}
use Rattle.building.specs.Planting.{planting}

-- ---- shorthands

abbrev byte : ℕ → List ℕ
byte n = spelled 8 n

abbrev n_of : ℕ → Plain
n_of n = number false n

abbrev less : ℕ → Plain
less n = number true n

abbrev vals : List Plain → Plains
vals [] = no_vals
vals (v ∷ vs) = a_val v (vals vs)

abbrev record_as : Word → List Word → List Plain → Plain
record_as c xs vs = record_of (Some c) xs (vals vs)

abbrev items : List Item → Items
items [] = no_items
items (i ∷ is) = an_item i (items is)

abbrev plain : Word → core.Ty → Item
plain x t = field x None None t

abbrev a_constructor : Word → Word → ℕ → List ℕ → List Input → List num.Expr → ℕ → List Item → Declaration
a_constructor type name i tag ins outs slots is = record {
  of_type = type;
  shown = name;
  number = i;
  core = record { tag = tag; parameters = []; inputs = ins; outputs = outs; items = items is; slots = slots };
}

-- the first constructor of a type, without parameters and with the empty tag
abbrev alone : Word → Word → ℕ → List Item → Declaration
alone type name slots is = a_constructor type name 1 [] [] [] slots is

abbrev type_named : Word → closed.Closed
type_named x = closed.named x closed.no_args

abbrev in_part : Word → Part → Spot
in_part x p = record { holder = constructor_of x 1; path = p ∷ [] }

abbrev in_field : Word → Word → Spot
in_field x f = in_part x (part.Named f)

abbrev held : List ℕ → Grown
held bits = record { held = only_bits bits; shut = false }

-- a value in mode Whole, in a new content
abbrev makes : CoreSchema → closed.Closed → Plain → Result Made Place
makes schema t v = making 9 99 Whole schema at_root (at_type t) 0 v empty

-- ---- conditions, and the names of fields

-- c$_ f:(## 2) v:f?uint8 w:f.1?uint8 = C;
abbrev c_schema : CoreSchema
c_schema =
    alone (codes "C") (codes "c") 1 (
    field (codes "f") (Some 0) None (core.bits (num.lit 2))
    ∷ field (codes "v") None (Some (record { number = num.var 0; bit = None })) (core.uint (num.lit 8))
    ∷ field (codes "w") None (Some (record { number = num.var 0; bit = Some 1 })) (core.uint (num.lit 8))
    ∷ []
    ) ∷ []

abbrev c_type : closed.Closed
c_type = type_named (codes "C")

abbrev c_names : List Word
c_names = codes "f" ∷ codes "v" ∷ codes "w" ∷ []

-- c{f:2,v:1,w:2}
pub conditions_hold : makes c_schema c_type (record_as (codes "c") c_names (n_of 2 ∷ n_of 1 ∷ n_of 2 ∷ []))
    ≡ Ok ([], held (1 ∷ 0 ∷ byte 1 ++ byte 2))
unfolding spelled bit_length_within making
conditions_hold = refl

-- c{f:1,v:1,w:~}
pub condition_fails : makes c_schema c_type (record_as (codes "c") c_names (n_of 1 ∷ n_of 1 ∷ absent ∷ []))
    ≡ Ok ([], held (0 ∷ 1 ∷ byte 1))
unfolding spelled bit_length_within making
condition_fails = refl

-- c{f:2,v:1,w:~} is C.c.w Shape
pub absent_value : build Whole c_schema c_type (record_as (codes "c") c_names (n_of 2 ∷ n_of 1 ∷ absent ∷ []))
    ≡ Err (stuck (in_field (codes "C") (codes "w")) why.Shape)
unfolding spelled bit_length_within making
absent_value = refl

-- c{f:4,..} is C.c.f OutOfRange
pub too_wide : build Whole c_schema c_type (record_as (codes "c") c_names (n_of 4 ∷ n_of 1 ∷ absent ∷ []))
    ≡ Err (stuck (in_field (codes "C") (codes "f")) why.OutOfRange)
unfolding spelled bit_length_within making
too_wide = refl

-- a negative number of naturals is OutOfRange, the number that is 0 and negative is Shape
pub below_zero : build Whole c_schema c_type (record_as (codes "c") c_names (less 1 ∷ n_of 1 ∷ absent ∷ []))
    ≡ Err (stuck (in_field (codes "C") (codes "f")) why.OutOfRange)
unfolding spelled bit_length_within making
below_zero = refl

pub minus_zero : build Whole c_schema c_type (record_as (codes "c") c_names (less 0 ∷ n_of 1 ∷ absent ∷ []))
    ≡ Err (stuck (in_field (codes "C") (codes "f")) why.Shape)
unfolding spelled bit_length_within making
minus_zero = refl

-- the names of fields are judged after the constructor is found: at the root d{x:1} is NoConstructor, c{x:1} Shape
pub no_constructor : build Whole c_schema c_type (record_as (codes "d") (codes "x" ∷ []) (n_of 1 ∷ []))
    ≡ Err (stuck at_root why.NoConstructor)
unfolding spelled bit_length_within making
no_constructor = refl

pub other_fields : build Whole c_schema c_type (record_as (codes "c") (codes "x" ∷ []) (n_of 1 ∷ []))
    ≡ Err (stuck at_root why.Shape)
unfolding spelled bit_length_within making
other_fields = refl

-- a value has a level, and is a part
pub no_level :
    build_within 1 99 99 Whole c_schema c_type
    (record_as (codes "c") c_names (n_of 1 ∷ n_of 1 ∷ absent ∷ []))
    ≡ Err (stuck (in_field (codes "C") (codes "f")) why.Nesting)
unfolding spelled bit_length_within making
no_level = refl

pub no_part : build_within 9 2 99 Whole c_schema c_type (record_as (codes "c") c_names (n_of 1 ∷ n_of 1 ∷ absent ∷ []))
    ≡ Err (stuck (in_field (codes "C") (codes "v")) why.Bulk)
unfolding spelled bit_length_within making
no_part = refl

-- ---- constraints

-- o$_ a:# b:(## 1) {a + 1 >= b} = O;
abbrev o_schema : CoreSchema
o_schema =
    alone (codes "O") (codes "o") 2 (
    field (codes "a") (Some 0) None core.nat32
    ∷ field (codes "b") (Some 1) None (core.bits (num.lit 1))
    ∷ check (num.plus (num.var 0) (num.lit 1)) Ge (num.var 1) 3
    ∷ []
    ) ∷ []

abbrev o_names : List Word
o_names = codes "a" ∷ codes "b" ∷ []

pub overflow :
    build Whole o_schema (type_named (codes "O"))
    (record_as (codes "o") o_names (n_of 4294967295 ∷ n_of 1 ∷ []))
    ≡ Err (stuck (in_part (codes "O") (part.Check 3)) why.Overflow)
unfolding spelled bit_length_within making
overflow = refl

-- k$_ a:(## 4) {a = 1} = K;
abbrev k_schema : CoreSchema
k_schema =
    alone (codes "K") (codes "k") 1 (
    field (codes "a") (Some 0) None (core.bits (num.lit 4)) ∷ check (num.var 0) Eq (num.lit 1) 2 ∷ []
    ) ∷ []

pub constraint : build Whole k_schema (type_named (codes "K")) (record_as (codes "k") (codes "a" ∷ []) (n_of 2 ∷ []))
    ≡ Err (stuck (in_part (codes "K") (part.Check 2)) why.Constraint)
unfolding spelled bit_length_within making
constraint = refl

-- t$_ {m:#} n:(## 4) l:(## 4) {n = (~m) + l} x:(uint m) = T;
abbrev t_schema : CoreSchema
t_schema =
    alone (codes "T") (codes "t") 3 (
    field (codes "n") (Some 1) None (core.bits (num.lit 4))
    ∷ field (codes "l") (Some 2) None (core.bits (num.lit 4))
    ∷ solve 0 (num.var 1) (num.plus (num.sought 0) (num.var 2)) 4
    ∷ plain (codes "x") (core.uint (num.var 0))
    ∷ []
    ) ∷ []

abbrev t_names : List Word
t_names = codes "n" ∷ codes "l" ∷ codes "x" ∷ []

pub no_solution :
    build Whole t_schema (type_named (codes "T"))
    (record_as (codes "t") t_names (n_of 3 ∷ n_of 5 ∷ n_of 0 ∷ []))
    ≡ Err (stuck (in_part (codes "T") (part.Check 4)) why.NoSolution)
unfolding spelled bit_length_within making
no_solution = refl

pub solved : makes t_schema (type_named (codes "T")) (record_as (codes "t") t_names (n_of 6 ∷ n_of 5 ∷ n_of 1 ∷ []))
    ≡ Ok ([], held (spelled 4 6 ++ spelled 4 5 ++ 1 ∷ []))
unfolding spelled bit_length_within making
solved = refl

-- ---- repetitions

-- two items that take nothing, and lists of another length
pub idle : build Whole [] (closed.repeat 2 (closed.uint 0)) (list_of (vals (n_of 0 ∷ n_of 0 ∷ [])))
    ≡ Err (stuck at_root why.Idle)
unfolding spelled bit_length_within making
idle = refl

pub too_few : build Whole [] (closed.repeat 2 (closed.uint 8)) (list_of (vals (n_of 0 ∷ [])))
    ≡ Err (stuck at_root why.Shape)
unfolding spelled bit_length_within making
too_few = refl

-- ---- the limits of a cell, and what follows a rest

-- r$_ x:Any y:uint8 = R;
abbrev r_schema : CoreSchema
r_schema =
    alone (codes "R") (codes "r") 0 (plain (codes "x") core.whole ∷ plain (codes "y") (core.uint (num.lit 8)) ∷ []) ∷ []

pub after_rest :
    build Whole r_schema (type_named (codes "R"))
    (record_as (codes "r") (codes "x" ∷ codes "y" ∷ []) (rest (record { bits = []; refs = [] }) ∷ n_of 1 ∷ []))
    ≡ Err (stuck (in_field (codes "R") (codes "y")) why.AfterRest)
unfolding spelled bit_length_within making
after_rest = refl

-- f$_ x:bits1023 y:uint0 z:uint1 = F;
abbrev f_schema : CoreSchema
f_schema =
    alone (codes "F") (codes "f") 0 (
    plain (codes "x") (core.bit_str (num.lit 1023))
    ∷ plain (codes "y") (core.uint (num.lit 0))
    ∷ plain (codes "z") (core.uint (num.lit 1))
    ∷ []
    ) ∷ []

pub full :
    build Whole f_schema (type_named (codes "F"))
    (record_as (codes "f") (codes "x" ∷ codes "y" ∷ codes "z" ∷ []) (bit_string (replicate 1023 1) ∷ n_of 0 ∷ n_of 1 ∷ []))
    ≡ Err (stuck (in_field (codes "F") (codes "z")) why.Full)
unfolding spelled bit_length_within making
full = refl

-- a bit string of another length
pub short_string :
    build Whole f_schema (type_named (codes "F"))
    (record_as (codes "f") (codes "x" ∷ codes "y" ∷ codes "z" ∷ []) (bit_string (1 ∷ []) ∷ n_of 0 ∷ n_of 1 ∷ []))
    ≡ Err (stuck (in_field (codes "F") (codes "x")) why.Shape)
unfolding spelled bit_length_within making
short_string = refl

-- a width past the table is judged before the form
pub width : build Whole [] (closed.uint 257) absent ≡ Err (stuck at_root why.Width)
unfolding spelled bit_length_within making
width = refl

-- ---- hidden parts

abbrev a_hash : List ℕ
a_hash = replicate 32 0

abbrev hides : ℕ → Plain
hides d = unknown (record { hash = a_hash; depth = d })

-- an Unknown in mode Whole, one whose reference would be too deep, and one that is too deep as a root
pub hidden_whole : build Whole [] (closed.ref (closed.uint 8)) (hides 0) ≡ Err (stuck at_root why.Shape)
unfolding spelled bit_length_within making
hidden_whole = refl

pub hidden_deep : build Partial [] (closed.ref (closed.uint 8)) (hides 1024) ≡ Err (stuck at_root why.TooDeep)
unfolding spelled bit_length_within making
hidden_deep = refl

pub root_deep : build Partial [] (closed.uint 8) (hides 1025) ≡ Err (stuck at_root why.TooDeep)
unfolding spelled bit_length_within making
root_deep = refl

-- ---- the number of cells

-- unit$_ = Unit;
abbrev unit_schema : CoreSchema
unit_schema = alone (codes "Unit") (codes "unit") 0 [] ∷ []

abbrev a_unit : Plain
a_unit = record_as (codes "unit") [] []

pub sprawl : build_within 9 9 0 Whole unit_schema (type_named (codes "Unit")) a_unit ≡ Err (stuck at_root why.Sprawl)
unfolding making
sprawl = rw (unfolded-tree_of Ordinary [] []) refl

pub one_cell : build_within 9 9 1 Whole unit_schema (type_named (codes "Unit")) a_unit ≡ Ok (cell_of nothing)
unfolding making
one_cell = rw (unfolded-tree_of Ordinary [] []) refl

-- ---- dictionaries

-- the long label of 8 bits at greatest length 8, and then the value
pub one_pair : planting 8 ((byte 1, leaf (only_bits (byte 5))) ∷ [])
    ≡ Ok (only_bits (1 ∷ 0 ∷ spelled 4 8 ++ byte 1 ++ byte 5))
unfolding spelled bit_length_within
one_pair = refl

-- one pair in place: its label stands before its value
pub in_place : makes [] (closed.dict 8 (closed.uint 8)) (map_of tt (a_pair (byte 1) (n_of 5) no_pairs) [])
    ≡ Ok ([], held (1 ∷ 0 ∷ spelled 4 8 ++ byte 1 ++ byte 5))
unfolding spelled bit_length_within making
in_place = refl

-- a rest in the one value of a map in place ends the cell, and one in a cell below doesn't
pub rest_in_place :
    makes [] (closed.dict 8 closed.whole)
    (map_of tt (a_pair (byte 1) (rest (record { bits = []; refs = [] })) no_pairs) [])
    ≡ Ok ([], record { held = only_bits (1 ∷ 0 ∷ spelled 4 8 ++ byte 1); shut = true })
unfolding spelled bit_length_within making
rest_in_place = refl

-- the empty map is one of HashmapE alone
pub empty_map : makes [] (closed.dict_e 8 (closed.uint 8)) (map_of tt no_pairs [])
    ≡ Ok ([], held (0 ∷ []))
unfolding spelled bit_length_within making
empty_map = refl

pub empty_edge : build Whole [] (closed.dict 8 (closed.uint 8)) (map_of tt no_pairs []) ≡ Err (stuck at_root why.Shape)
unfolding spelled bit_length_within making
empty_edge = refl

-- keys out of order, of another width, and a hidden part in mode Whole; all before the values
pub out_of_order :
    build Whole [] (closed.dict 8 (closed.uint 8))
    (map_of tt (a_pair (byte 2) (n_of 256) (a_pair (byte 1) (n_of 5) no_pairs)) [])
    ≡ Err (stuck at_root why.Shape)
unfolding spelled bit_length_within making
out_of_order = refl

pub other_width : build Whole [] (closed.dict_e 8 (closed.uint 8)) (map_of tt (a_pair (1 ∷ []) (n_of 256) no_pairs) [])
    ≡ Err (stuck at_root why.Shape)
unfolding spelled bit_length_within making
other_width = refl

pub hidden_entry :
    build Whole [] (closed.dict_e 8 (closed.uint 8))
    (map_of tt no_pairs (([], record { hash = a_hash; depth = 0 }) ∷ []))
    ≡ Err (stuck at_root why.Shape)
unfolding spelled bit_length_within making
hidden_entry = refl

-- a hidden part that is no child of a fork
pub no_place :
    build Partial [] (closed.dict_e 2 (closed.uint 8))
    (map_of tt (a_pair (0 ∷ 0 ∷ []) (n_of 1) no_pairs) ((1 ∷ 0 ∷ [], record { hash = a_hash; depth = 0 }) ∷ []))
    ≡ Err (stuck at_root why.Shape)
unfolding spelled bit_length_within making
no_place = refl

-- a value that doesn't fit comes before an edge that is too long, and that before the reference of HashmapE
abbrev wide_map : Plain → Plain
wide_map v = map_of tt (a_pair (byte 1) v no_pairs) []

pub value_first : build Whole [] (closed.dict_e 8 (closed.bit_str 1020)) (wide_map (bit_string (1 ∷ [])))
    ≡ Err (stuck at_root why.Shape)
unfolding spelled bit_length_within making
value_first = refl

pub edge_full : build Whole [] (closed.dict_e 8 (closed.bit_str 1020)) (wide_map (bit_string (replicate 1020 1)))
    ≡ Err (stuck at_root why.Full)
unfolding spelled bit_length_within making
edge_full = refl

-- the left part of a fork comes before the right one: a hidden part that is too deep, and then an edge that is too long
pub left_first :
    planting 8
    ((0 ∷ [], hidden (record { hash = a_hash; depth = 1025 })) ∷ (byte 255, leaf (only_bits (replicate 1020 1))) ∷ [])
    ≡ Err excess.deep
unfolding spelled bit_length_within
left_first = refl

pub right_edge :
    planting 8
    ((0 ∷ [], hidden (record { hash = a_hash; depth = 0 })) ∷ (byte 255, leaf (only_bits (replicate 1020 1))) ∷ [])
    ≡ Err (excess.full (byte 255))
unfolding spelled bit_length_within
right_edge = refl
