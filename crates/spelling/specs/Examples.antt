-- Worked readings, computed. The text of each schema stands above its core form.
use Rattle.std.specs.Prelude.{◌≡◌, ℕ, zero, suc, List, [], ◌∷◌, ◌++◌, replicate, false, true, Some, None, Ok, Err, codes, refl}
use Rattle.bit_slice.specs.Bits.{spelled, number_onto, bit_length_within, groups}
use Rattle.cell_nodes.specs.declared.tree.Tree.{Tree, out-Tree}
use Rattle.cell_nodes.specs.declared.tree.Hidden.{Hidden}
use Rattle.cell_nodes.specs.declared.tree.Kind.TheVariants.{Ordinary, Pruned}
use Rattle.cell_nodes.specs.declared.tree.Mode.TheVariants.{Whole, Partial, Lax}
use Rattle.cell_nodes.specs.HiddenParts.{hidden}
use Rattle.cell_nodes.specs.Levels.{set_bits}
use Rattle.cell_nodes.specs.Tree.{tree_of}
use Rattle.cell_nodes.specs.Equations.{out-tree_of, mask-tree_of}
use Rattle.nat_solver.specs.Number as num
use Rattle.nat_solver.specs.declared.compare.Op.TheVariants.{Eq, Ge}
use Rattle.nat_solver.specs.declared.pattern.Pattern.TheVariants.{Lit, Var, Plus}
use Rattle.hashmap_tree.specs.Entries.{cell_of}
use Rattle.hashmap_tree.specs.First.{first_edge}
use Rattle.hashmap_tree.specs.Walk.{walk}
use Rattle.typed_value.specs.Values.{Plain, Plains, number, bit_string, record_of, absent, list_of, ref_to, unknown, map_of, raw, no_vals, a_val, no_pairs, a_pair}
use Rattle.core_form.specs.Core.{Word, Input, Items, Item, Constructor, Declaration, CoreSchema, no_items, an_item, check, solve, field, number_in, type_in, number_out, Parameter}
use Rattle.core_form.specs.Core as core
use Rattle.core_form.specs.Closed as closed
use Rattle.schema_leads.specs.Leads.{together, rounds, leads}
use Rattle.field_path.specs.declared.part.Part.TheVariants as part
use Rattle.spelling.specs.Slices.{only_bits}
use Rattle.spelling.specs.Places.{Spot, constructor_of, at_root, stuck}
use Rattle.spelling.specs.PlainReader.{read, read_within, reading}
use Rattle.spelling.specs.declared.Cause.TheVariants.{Nesting, Bulk, BigType, Width, Overflow, NoConstructor, ShortBits, NoSolution, Constraint, Idle, Exotic, Label, Leftover}

-- ---- shorthands

abbrev byte : ℕ → List ℕ
byte n = spelled 8 n

abbrev leaf : List ℕ → Tree
leaf b = cell_of (only_bits b)

abbrev node : List ℕ → List Tree → Tree
node b cs = cell_of (record { bits = b; refs = cs })

abbrev open_leaf : (b : List ℕ) → out-Tree (leaf b) ≡ record { kind = Ordinary; bits = b; children = [] }
open_leaf b = out-tree_of Ordinary b []

abbrev open_node : (b : List ℕ) (cs : List Tree)
    → out-Tree (node b cs) ≡ record { kind = Ordinary; bits = b; children = cs }
open_node b cs = out-tree_of Ordinary b cs

abbrev items : List Item → Items
items [] = no_items
items (i ∷ is) = an_item i (items is)

abbrev plain : Word → core.Ty → Item
plain x t = field x None None t

-- a constructor by its type, name, number in its type, tag, inputs, outputs, slots and items
abbrev a_constructor : Word → Word → ℕ → List ℕ → List Input → List num.Expr → ℕ → List Item → Declaration
a_constructor type name i tag ins outs slots is = record {
  of_type = type;
  shown = name;
  number = i;
  core = record { tag = tag; parameters = []; inputs = ins; outputs = outs; items = items is; slots = slots };
}

-- the first constructor of a type, without parameters and with the empty tag
abbrev alone : Word → Word → ℕ → List Item → Declaration
alone type name slots is = a_constructor type name 1 [] [] [] slots is

abbrev of_type : Word → core.Ty
of_type x = core.named x core.no_args

abbrev type_named : Word → closed.Closed
type_named x = closed.named x closed.no_args

abbrev n_of : ℕ → Plain
n_of n = number false n

abbrev vals : List Plain → Plains
vals [] = no_vals
vals (v ∷ vs) = a_val v (vals vs)

abbrev record_as : Word → List Word → List Plain → Plain
record_as c xs vs = record_of (Some c) xs (vals vs)

abbrev at_item : Word → ℕ → Spot
at_item x i = record { holder = constructor_of x 1; path = part.Check i ∷ [] }

abbrev in_field : Word → Word → Spot
in_field x f = record { holder = constructor_of x 1; path = part.Named f ∷ [] }

-- ---- conditions

-- c$_ f:(## 2) v:f?uint8 w:f.1?uint8 = C;
abbrev c_schema : CoreSchema
c_schema =
    alone (codes "C") (codes "c") 1 (
    field (codes "f") (Some 0) None (core.bits (num.lit 2))
    ∷ field (codes "v") None (Some (record { number = num.var 0; bit = None })) (core.uint (num.lit 8))
    ∷ field (codes "w") None (Some (record { number = num.var 0; bit = Some 1 })) (core.uint (num.lit 8))
    ∷ []
    ) ∷ []

-- c{f:2,v:1,w:2}
pub conditions_hold : read Whole c_schema (type_named (codes "C")) (leaf (1 ∷ 0 ∷ byte 1 ++ byte 2))
    ≡ Ok (record_as (codes "c") (codes "f" ∷ codes "v" ∷ codes "w" ∷ []) (n_of 2 ∷ n_of 1 ∷ n_of 2 ∷ []))
unfolding spelled number_onto bit_length_within together rounds leads reading walk first_edge
conditions_hold = rw (open_leaf (1 ∷ 0 ∷ byte 1 ++ byte 2)) refl

-- c{f:1,v:1,w:~}
pub condition_fails : read Whole c_schema (type_named (codes "C")) (leaf (0 ∷ 1 ∷ byte 1))
    ≡ Ok (record_as (codes "c") (codes "f" ∷ codes "v" ∷ codes "w" ∷ []) (n_of 1 ∷ n_of 1 ∷ absent ∷ []))
unfolding spelled number_onto bit_length_within together rounds leads reading walk first_edge
condition_fails = rw (open_leaf (0 ∷ 1 ∷ byte 1)) refl

-- ---- type arguments, and no constructor

-- nothing$0 {X:Type} = Maybe X; just$1 {X:Type} value:X = Maybe X;
abbrev maybe_schema : CoreSchema
maybe_schema =
    a_constructor (codes "Maybe") (codes "nothing") 1 (0 ∷ []) (core.type 0 ∷ []) [] 1 []
    ∷ a_constructor (codes "Maybe") (codes "just") 2 (1 ∷ []) (core.type 0 ∷ []) [] 1
    (plain (codes "value") (core.variable 0) ∷ []) ∷ []

abbrev maybe_byte : closed.Closed
maybe_byte = closed.named (codes "Maybe") (closed.ty_arg (closed.uint 8) closed.no_args)

-- just{value:165}
pub just_a_number : read Whole maybe_schema maybe_byte (leaf (1 ∷ byte 165))
    ≡ Ok (record_as (codes "just") (codes "value" ∷ []) (n_of 165 ∷ []))
unfolding spelled number_onto bit_length_within together rounds leads reading walk first_edge
just_a_number = rw (open_leaf (1 ∷ byte 165)) refl

-- root:(Maybe uint8) NoConstructor
pub no_constructor : read Whole maybe_schema maybe_byte (leaf [])
    ≡ Err (stuck at_root NoConstructor)
unfolding spelled number_onto bit_length_within together rounds leads reading walk first_edge
no_constructor = rw (open_leaf []) refl

-- ---- outputs

-- unary_zero$0 = Unary ~0; unary_succ$1 {n:#} x:(Unary ~n) = Unary ~(n + 1); bit$_ (## 1) = Bit;
-- run$_ {n:#} len:(Unary ~n) s:(n * Bit) = Run;
abbrev run_schema : CoreSchema
run_schema =
    a_constructor (codes "Unary") (codes "unary_zero") 1 (0 ∷ []) [] (num.lit 0 ∷ []) 0 []
    ∷ a_constructor (codes "Unary") (codes "unary_succ") 2 (1 ∷ []) [] (num.plus (num.var 0) (num.lit 1) ∷ []) 1
    (plain (codes "x") (core.named (codes "Unary") (core.out_arg 0 core.no_args)) ∷ [])
    ∷ alone (codes "Bit") (codes "bit") 0 (plain (codes "_") (core.bits (num.lit 1)) ∷ [])
    ∷ alone (codes "Run") (codes "run") 1 (
    plain (codes "len") (core.named (codes "Unary") (core.out_arg 0 core.no_args))
    ∷ plain (codes "s") (core.repeat (num.var 0) (of_type (codes "Bit"))) ∷ []
    ) ∷ []

abbrev succ_of : Plain → Plain
succ_of v = record_as (codes "unary_succ") (codes "x" ∷ []) (v ∷ [])

abbrev bit_of : ℕ → Plain
bit_of n = record_as (codes "bit") (codes "_" ∷ []) (n_of n ∷ [])

-- run{len:unary_succ{x:unary_succ{x:unary_succ{x:unary_zero{}}}},s:[bit{_:1},bit{_:0},bit{_:1}]}
pub outputs_bind : read Whole run_schema (type_named (codes "Run")) (leaf (1 ∷ 1 ∷ 1 ∷ 0 ∷ 1 ∷ 0 ∷ 1 ∷ []))
    ≡ Ok (record_as (codes "run") (codes "len" ∷ codes "s" ∷ [])
    (succ_of (succ_of (succ_of (record_as (codes "unary_zero") [] [])))
    ∷ list_of (vals (bit_of 1 ∷ bit_of 0 ∷ bit_of 1 ∷ [])) ∷ []))
unfolding spelled number_onto bit_length_within together rounds leads reading walk first_edge
outputs_bind = rw (open_leaf (1 ∷ 1 ∷ 1 ∷ 0 ∷ 1 ∷ 0 ∷ 1 ∷ [])) refl

-- ---- constructors separated by the leads of their first fields, and by their patterns

-- std$10 w:int8 = I; none$00 = E; _ _:I = A; _ _:E = A;
abbrev a_schema : CoreSchema
a_schema =
    a_constructor (codes "I") (codes "std") 1 (1 ∷ 0 ∷ []) [] [] 0 (plain (codes "w") (core.int (num.lit 8)) ∷ [])
    ∷ a_constructor (codes "E") (codes "none") 1 (0 ∷ 0 ∷ []) [] [] 0 []
    ∷ a_constructor (codes "A") (codes "_1") 1 [] [] [] 0 (plain (codes "_") (of_type (codes "I")) ∷ [])
    ∷ a_constructor (codes "A") (codes "_2") 2 [] [] [] 0 (plain (codes "_") (of_type (codes "E")) ∷ []) ∷ []

-- _1{_:std{w:-1}}
pub first_of_two : read Whole a_schema (type_named (codes "A")) (leaf (1 ∷ 0 ∷ byte 255))
    ≡ Ok (record_as (codes "_1") (codes "_" ∷ []) (record_as (codes "std") (codes "w" ∷ []) (number true 1 ∷ []) ∷ []))
unfolding spelled number_onto bit_length_within together rounds leads reading walk first_edge
first_of_two = rw (open_leaf (1 ∷ 0 ∷ byte 255)) refl

-- _2{_:none{}}
pub second_of_two : read Whole a_schema (type_named (codes "A")) (leaf (0 ∷ 0 ∷ []))
    ≡ Ok (record_as (codes "_2") (codes "_" ∷ []) (record_as (codes "none") [] [] ∷ []))
unfolding spelled number_onto bit_length_within together rounds leads reading walk first_edge
second_of_two = rw (open_leaf (0 ∷ 0 ∷ [])) refl

-- a#_ x:# = T 0; b#_ {n:#} y:# = T (n + 1);
abbrev n_schema : CoreSchema
n_schema =
    a_constructor (codes "T") (codes "a") 1 [] (core.number (Lit 0) ∷ []) [] 1
    (field (codes "x") (Some 0) None core.nat32 ∷ [])
    ∷ a_constructor (codes "T") (codes "b") 2 [] (core.number (Plus 0 1) ∷ []) [] 2
    (field (codes "y") (Some 1) None core.nat32 ∷ []) ∷ []

abbrev t_at : ℕ → closed.Closed
t_at n = closed.named (codes "T") (closed.nat_arg n closed.no_args)

-- at T 0: a{x:7}
pub at_zero : read Whole n_schema (t_at 0) (leaf (spelled 32 7))
    ≡ Ok (record_as (codes "a") (codes "x" ∷ []) (n_of 7 ∷ []))
unfolding spelled number_onto bit_length_within together rounds leads reading walk first_edge
at_zero = rw (open_leaf (spelled 32 7)) refl

-- at T 3: b{y:7}
pub at_three : read Whole n_schema (t_at 3) (leaf (spelled 32 7))
    ≡ Ok (record_as (codes "b") (codes "y" ∷ []) (n_of 7 ∷ []))
unfolding spelled number_onto bit_length_within together rounds leads reading walk first_edge
at_three = rw (open_leaf (spelled 32 7)) refl

-- ---- repetitions and dictionaries

-- true$_ = True; r$_ n:(## 8) s:(n * True) = R;
abbrev r_schema : CoreSchema
r_schema =
    alone (codes "True") (codes "true") 0 []
    ∷ alone (codes "R") (codes "r") 1 (
    field (codes "n") (Some 0) None (core.bits (num.lit 8))
    ∷ plain (codes "s") (core.repeat (num.var 0) (of_type (codes "True"))) ∷ []
    ) ∷ []

-- R.r.s Idle
pub idle : read Whole r_schema (type_named (codes "R")) (leaf (byte 1))
    ≡ Err (stuck (in_field (codes "R") (codes "s")) Idle)
unfolding spelled number_onto bit_length_within together rounds leads reading walk first_edge
idle = rw (open_leaf (byte 1)) refl

-- r{n:0,s:[]}
pub no_item : read Whole r_schema (type_named (codes "R")) (leaf (byte 0))
    ≡ Ok (record_as (codes "r") (codes "n" ∷ codes "s" ∷ []) (n_of 0 ∷ list_of no_vals ∷ []))
unfolding spelled number_onto bit_length_within together rounds leads reading walk first_edge
no_item = rw (open_leaf (byte 0)) refl

-- the key 00 of two bits, with the label in the form of equal bits and in the short form
abbrev trues : closed.Closed
trues = closed.dict_e 2 (type_named (codes "True"))

abbrev same_label : Tree
same_label = leaf (1 ∷ 1 ∷ 0 ∷ 1 ∷ 0 ∷ [])

abbrev short_label : Tree
short_label = leaf (0 ∷ 1 ∷ 1 ∷ 0 ∷ 0 ∷ 0 ∷ [])

abbrev one_true : Plain
one_true = map_of tt (a_pair (0 ∷ 0 ∷ []) (record_as (codes "true") [] []) no_pairs) []

-- <x{2_}:true{}>
pub a_map : read Whole r_schema trues (node (1 ∷ []) (same_label ∷ []))
    ≡ Ok one_true
unfolding spelled number_onto bit_length_within together rounds leads reading walk first_edge
a_map = rw (open_node (1 ∷ []) (same_label ∷ []), open_leaf (1 ∷ 1 ∷ 0 ∷ 1 ∷ 0 ∷ [])) refl

-- root:(HashmapE 2 True) Label
pub wrong_form : read Whole r_schema trues (node (1 ∷ []) (short_label ∷ []))
    ≡ Err (stuck at_root Label)
unfolding spelled number_onto bit_length_within together rounds leads reading walk first_edge
wrong_form = rw (open_node (1 ∷ []) (short_label ∷ []), open_leaf (0 ∷ 1 ∷ 1 ∷ 0 ∷ 0 ∷ 0 ∷ [])) refl

-- in mode Lax <x{2_}:true{}>
pub lax_form : read Lax r_schema trues (node (1 ∷ []) (short_label ∷ []))
    ≡ Ok one_true
unfolding spelled number_onto bit_length_within together rounds leads reading walk first_edge
lax_form = rw (open_node (1 ∷ []) (short_label ∷ []), open_leaf (0 ∷ 1 ∷ 1 ∷ 0 ∷ 0 ∷ 0 ∷ [])) refl

-- ---- numbers whose width is known late

-- var_uint$_ {n:#} len:(#< n) value:(uint (len * 8)) = VarUInteger n;
abbrev v_schema : CoreSchema
v_schema =
    a_constructor (codes "VarUInteger") (codes "var_uint") 1 [] (core.number (Var 0) ∷ []) [] 2 (
    field (codes "len") (Some 1) None (core.below (num.var 0))
    ∷ plain (codes "value") (core.uint (num.times 8 (num.var 1))) ∷ []
    ) ∷ []

abbrev var_uint : ℕ → closed.Closed
var_uint n = closed.named (codes "VarUInteger") (closed.nat_arg n closed.no_args)

-- var_uint{len:0,value:0}
pub no_bytes : read Whole v_schema (var_uint 16) (leaf (0 ∷ 0 ∷ 0 ∷ 0 ∷ []))
    ≡ Ok (record_as (codes "var_uint") (codes "len" ∷ codes "value" ∷ []) (n_of 0 ∷ n_of 0 ∷ []))
unfolding spelled number_onto bit_length_within together rounds leads reading walk first_edge
no_bytes = rw (open_leaf (0 ∷ 0 ∷ 0 ∷ 0 ∷ [])) refl

-- 31 bytes are a bit string
pub many_bytes : read Whole v_schema (var_uint 32) (leaf (replicate 5 1 ++ replicate 248 0))
    ≡ Ok (record_as (codes "var_uint") (codes "len" ∷ codes "value" ∷ []) (n_of 31 ∷ bit_string (replicate 248 0) ∷ []))
unfolding spelled number_onto bit_length_within together rounds leads reading walk first_edge
many_bytes = rw (open_leaf (replicate 5 1 ++ replicate 248 0)) refl

-- root:uint257 Width
pub too_wide : read Whole [] (closed.uint 257) (leaf [])
    ≡ Err (stuck at_root Width)
unfolding spelled number_onto bit_length_within together rounds leads reading walk first_edge
too_wide = rw (open_leaf []) refl

-- ---- equations and comparisons

-- t$_ {m:#} n:(## 4) l:(## 4) {n = (~m) + l} x:(uint m) = T;
abbrev t_schema : CoreSchema
t_schema =
    alone (codes "T") (codes "t") 3 (
    field (codes "n") (Some 1) None (core.bits (num.lit 4))
    ∷ field (codes "l") (Some 2) None (core.bits (num.lit 4))
    ∷ solve 0 (num.var 1) (num.plus (num.sought 0) (num.var 2)) 4
    ∷ plain (codes "x") (core.uint (num.var 0)) ∷ []
    ) ∷ []

-- t{n:5,l:5,x:0}
pub an_equation : read Whole t_schema (type_named (codes "T")) (leaf (byte 85))
    ≡ Ok (record_as (codes "t") (codes "n" ∷ codes "l" ∷ codes "x" ∷ []) (n_of 5 ∷ n_of 5 ∷ n_of 0 ∷ []))
unfolding spelled number_onto bit_length_within together rounds leads reading walk first_edge
an_equation = rw (open_leaf (byte 85)) refl

-- T.t.{4} NoSolution
pub no_solution : read Whole t_schema (type_named (codes "T")) (leaf (byte 53))
    ≡ Err (stuck (at_item (codes "T") 4) NoSolution)
unfolding spelled number_onto bit_length_within together rounds leads reading walk first_edge
no_solution = rw (open_leaf (byte 53)) refl

-- o$_ a:# b:(## 1) {a + 1 >= b} = O;
abbrev o_schema : CoreSchema
o_schema =
    alone (codes "O") (codes "o") 2 (
    field (codes "a") (Some 0) None core.nat32
    ∷ field (codes "b") (Some 1) None (core.bits (num.lit 1))
    ∷ check (num.plus (num.var 0) (num.lit 1)) Ge (num.var 1) 3 ∷ []
    ) ∷ []

-- O.o.{3} Overflow
pub overflow : read Whole o_schema (type_named (codes "O")) (leaf (spelled 32 4294967295 ++ 0 ∷ []))
    ≡ Err (stuck (at_item (codes "O") 3) Overflow)
unfolding spelled number_onto bit_length_within together rounds leads reading walk first_edge
overflow = rw (open_leaf (spelled 32 4294967295 ++ 0 ∷ [])) refl

-- ---- inner records

-- i$_ r:[ x:int8 y:(## 1) {y = 1} ] = I;
abbrev i_schema : CoreSchema
i_schema =
    alone (codes "I") (codes "i") 1 (
    plain (codes "r") (core.group (items (
    plain (codes "x") (core.int (num.lit 8)) ∷ field (codes "y") (Some 0) None (core.bits (num.lit 1))
    ∷ check (num.var 0) Eq (num.lit 1) 3 ∷ []
    ))) ∷ []
    ) ∷ []

-- i{r:{x:-1,y:1}}
pub minus_one : read Whole i_schema (type_named (codes "I")) (leaf (byte 255 ++ 1 ∷ []))
    ≡ Ok (record_as (codes "i") (codes "r" ∷ [])
    (record_of None (codes "x" ∷ codes "y" ∷ []) (vals (number true 1 ∷ n_of 1 ∷ [])) ∷ []))
unfolding spelled number_onto bit_length_within together rounds leads reading walk first_edge
minus_one = rw (open_leaf (byte 255 ++ 1 ∷ [])) refl

-- I.i.r.{3} Constraint
pub inner_place : read Whole i_schema (type_named (codes "I")) (leaf (byte 255 ++ 0 ∷ []))
    ≡ Err (stuck (record { holder = constructor_of (codes "I") 1; path = part.Named (codes "r") ∷ part.Check 3 ∷ [] })
    Constraint)
unfolding spelled number_onto bit_length_within together rounds leads reading walk first_edge
inner_place = rw (open_leaf (byte 255 ++ 0 ∷ [])) refl

-- ---- references, levels and parts

-- outer$_ inner:^Inner = Outer; inner$_ v:uint8 = Inner;
abbrev outer_schema : CoreSchema
outer_schema =
    alone (codes "Outer") (codes "outer") 0 (plain (codes "inner") (core.ref (of_type (codes "Inner"))) ∷ [])
    ∷ alone (codes "Inner") (codes "inner") 0 (plain (codes "v") (core.uint (num.lit 8)) ∷ []) ∷ []

-- outer{inner:^inner{v:5}}
pub a_reference : read Whole outer_schema (type_named (codes "Outer")) (node [] (leaf (byte 5) ∷ []))
    ≡ Ok (record_as (codes "outer") (codes "inner" ∷ [])
    (ref_to tt (record_as (codes "inner") (codes "v" ∷ []) (n_of 5 ∷ [])) ∷ []))
unfolding spelled number_onto bit_length_within together rounds leads reading walk first_edge
a_reference = rw (open_node [] (leaf (byte 5) ∷ []), open_leaf (byte 5)) refl

-- the number would be at level 4
pub too_deep : read_within 3 9 Whole outer_schema (type_named (codes "Outer")) (node [] (leaf (byte 5) ∷ []))
    ≡ Err (stuck (in_field (codes "Inner") (codes "v")) Nesting)
unfolding spelled number_onto bit_length_within together rounds leads reading walk first_edge
too_deep = rw (open_node [] (leaf (byte 5) ∷ []), open_leaf (byte 5)) refl

-- and it would be the fourth part
pub too_many : read_within 9 3 Whole outer_schema (type_named (codes "Outer")) (node [] (leaf (byte 5) ∷ []))
    ≡ Err (stuck (in_field (codes "Inner") (codes "v")) Bulk)
unfolding spelled number_onto bit_length_within together rounds leads reading walk first_edge
too_many = rw (open_node [] (leaf (byte 5) ∷ []), open_leaf (byte 5)) refl

-- Outer.outer.inner Leftover
pub left_over : read Whole outer_schema (type_named (codes "Outer")) (node [] (leaf (byte 5 ++ 0 ∷ []) ∷ []))
    ≡ Err (stuck (in_field (codes "Outer") (codes "inner")) Leftover)
unfolding spelled number_onto bit_length_within together rounds leads reading walk first_edge
left_over = rw (open_node [] (leaf (byte 5 ++ 0 ∷ []) ∷ []), open_leaf (byte 5 ++ 0 ∷ [])) refl

abbrev seven_bits : List ℕ
seven_bits = 0 ∷ 0 ∷ 0 ∷ 0 ∷ 1 ∷ 0 ∷ 1 ∷ []

-- Inner.inner.v ShortBits
pub short_bits : read Whole outer_schema (type_named (codes "Outer")) (node [] (leaf seven_bits ∷ []))
    ≡ Err (stuck (in_field (codes "Inner") (codes "v")) ShortBits)
unfolding spelled number_onto bit_length_within together rounds leads reading walk first_edge
short_bits = rw (open_node [] (leaf seven_bits ∷ []), open_leaf seven_bits) refl

-- a root at Any is the cell as it is
pub any_root : read Whole [] closed.whole (leaf (1 ∷ [])) ≡ Ok (raw (leaf (1 ∷ [])))
unfolding reading
any_root = refl

-- at ^Any the root is a reference to such a cell
pub any_under : read Whole [] (closed.ref closed.whole) (node [] (leaf (1 ∷ []) ∷ []))
    ≡ Ok (ref_to tt (raw (leaf (1 ∷ []))))
unfolding reading
any_under = rw (open_node [] (leaf (1 ∷ []) ∷ [])) refl

-- ---- hidden parts

-- two$_ a:^U b:^U = Two; u$_ v:uint8 = U;
abbrev two_schema : CoreSchema
two_schema =
    alone (codes "Two") (codes "two") 0 (
    plain (codes "a") (core.ref (of_type (codes "U"))) ∷ plain (codes "b") (core.ref (of_type (codes "U"))) ∷ []
    )
    ∷ alone (codes "U") (codes "u") 0 (plain (codes "v") (core.uint (num.lit 8)) ∷ []) ∷ []

abbrev five_under : Plain
five_under = ref_to tt (record_as (codes "u") (codes "v" ∷ []) (n_of 5 ∷ []))

-- two{a:^u{v:5},b:^u{v:5}}
pub both_seen : read Whole two_schema (type_named (codes "Two")) (node [] (leaf (byte 5) ∷ leaf (byte 5) ∷ []))
    ≡ Ok (record_as (codes "two") (codes "a" ∷ codes "b" ∷ [])
    (five_under ∷ five_under ∷ []))
unfolding spelled number_onto bit_length_within together rounds leads reading walk first_edge
both_seen = rw (open_node [] (leaf (byte 5) ∷ leaf (byte 5) ∷ []), open_leaf (byte 5), open_leaf (byte 5)) refl

-- a pruned branch of mask 1 that stores a hash of zeros and the depth 0
abbrev stub_bits : List ℕ
stub_bits = byte 1 ++ byte 1 ++ replicate 272 0

abbrev stub : Tree
stub = tree_of Pruned stub_bits []

abbrev zeros : Hidden
zeros = record { hash = replicate 32 0; depth = 0 }

pub stub_hides : hidden stub ≡ Some zeros
unfolding spelled number_onto groups set_bits
stub_hides = rw (out-tree_of Pruned stub_bits [], mask-tree_of Pruned stub_bits []) refl

-- a hidden root is unknown in mode Partial
pub hidden_root : (c : Tree) (h : Hidden) → hidden c ≡ Some h → read Partial [] (closed.uint 8) c ≡ Ok (unknown h)
hidden_root c h e = rw e refl

-- but at a type that is itself a reference it is Exotic
pub hidden_reference : (c : Tree) (h : Hidden) → hidden c ≡ Some h
    → read Partial [] (closed.ref (closed.uint 8)) c ≡ Err (stuck at_root Exotic)
hidden_reference c h e = rw e refl

-- there the hidden part is that of the reference in the root
pub hidden_inside : (c : Tree) (h : Hidden) → hidden c ≡ Some h
    → read Partial [] (closed.ref (closed.uint 8)) (node [] (c ∷ [])) ≡ Ok (unknown h)
unfolding reading
hidden_inside c h e = rw (open_node [] (c ∷ []), open_node [] (c ∷ []), e) refl

-- Two.two.b Exotic in mode Whole
pub not_hidden : read Whole two_schema (type_named (codes "Two")) (node [] (leaf (byte 5) ∷ stub ∷ []))
    ≡ Err (stuck (in_field (codes "Two") (codes "b")) Exotic)
unfolding spelled number_onto bit_length_within together rounds leads reading walk first_edge
not_hidden = rw (open_node [] (leaf (byte 5) ∷ stub ∷ []), open_leaf (byte 5), out-tree_of Pruned stub_bits []) refl

-- ---- closed types of the greatest size

-- pair$_ {X:Type} {Y:Type} first:X second:Y = Both X Y;
-- a$0 {X:Type} x:(T (Both X X)) = T X; b$1 {X:Type} = T X;
abbrev both : core.Ty → core.Ty
both t = core.named (codes "Both") (core.ty_arg t (core.ty_arg t core.no_args))

abbrev t_of : core.Ty → core.Ty
t_of t = core.named (codes "T") (core.ty_arg t core.no_args)

abbrev twice_schema : CoreSchema
twice_schema =
    a_constructor (codes "Both") (codes "pair") 1 [] (core.type 0 ∷ core.type 1 ∷ []) [] 2
    (plain (codes "first") (core.variable 0) ∷ plain (codes "second") (core.variable 1) ∷ [])
    ∷ a_constructor (codes "T") (codes "a") 1 (0 ∷ []) (core.type 0 ∷ []) [] 1
    (plain (codes "x") (t_of (both (core.variable 0))) ∷ [])
    ∷ a_constructor (codes "T") (codes "b") 2 (1 ∷ []) (core.type 0 ∷ []) [] 1 [] ∷ []

abbrev twice_byte : closed.Closed
twice_byte = closed.named (codes "T") (closed.ty_arg (closed.uint 8) closed.no_args)

-- T.a.x BigType: the twelfth a would need a type of 8,192 nodes
pub too_big : read Whole twice_schema twice_byte (leaf (replicate 12 0))
    ≡ Err (stuck (in_field (codes "T") (codes "x")) BigType)
unfolding spelled number_onto bit_length_within together rounds leads reading walk first_edge
too_big = rw (open_leaf (replicate 12 0)) refl

-- so many a, one in another, and a b
abbrev nested : ℕ → Plain
nested zero = record_as (codes "b") [] []
nested (suc n) = record_as (codes "a") (codes "x" ∷ []) (nested n ∷ [])

-- eleven are read: the last closed type has 4,096 nodes
pub just_fits : read Whole twice_schema twice_byte (leaf (replicate 11 0 ++ 1 ∷ [])) ≡ Ok (nested 11)
unfolding spelled number_onto bit_length_within together rounds leads reading walk first_edge
just_fits = rw (open_leaf (replicate 11 0 ++ 1 ∷ [])) refl
