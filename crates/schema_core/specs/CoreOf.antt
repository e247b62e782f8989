-- The core form of a declaration. It is total: of a schema without a refusal it is the form that the rules give, of
-- others
-- it is some form.
-- Source: the TON documentation on the TL-B language (constructors, implicit and explicit fields, parametrized types).
use Rattle.std.specs.Prelude.{ℕ, ◌+◌, Bool, true, false, List, [], ◌∷◌, ◌++◌, Option, Some, None}
use Rattle.nat_solver.specs.Number.{Expr}
use Rattle.nat_solver.specs.declared.compare.Op.{Op}
use Rattle.nat_solver.specs.Number as num
use Rattle.nat_solver.specs.declared.pattern.Pattern.TheVariants as patterns
use Rattle.tlb_syntax.specs.Tree.{ExprView, ExprList, ItemView, ItemList, TypeView, ConstructorView, SchemaView, lit}
use Rattle.tlb_syntax.specs.Tree.{named}
use Rattle.tlb_syntax.specs.Tree.{nat32, bits, below, up_to, plus, star, out, ref, group, no_exprs, an_expr, plain}
use Rattle.tlb_syntax.specs.Tree.{when}
use Rattle.tlb_syntax.specs.Tree.{when_bit, implicit, check, explicit, no_items, an_item}
use Rattle.kind_terms.specs.declared.kind.TermKind.{TermKind}
use Rattle.kind_terms.specs.declared.kind.TermKind.TheVariants.{NumberIn, TypeIn, NumberOut, NoKind}
use Rattle.kind_terms.specs.declared.words.Family.{Family}
use Rattle.kind_terms.specs.declared.words.Family.TheVariants.{Uint, Int, Bits}
use Rattle.kind_terms.specs.Words.{Word}
use Rattle.kind_terms.specs.Params.{bare_name, kinds}
use Rattle.kind_terms.specs.Forms.{is_field_of_numbers, out_name}
use Rattle.kind_terms.specs.Positions.{shown, is_unnamed}
use Rattle.core_form.specs.Core.{Ty, Args, Item, Items, Input, Parameter, Constructor, Condition, no_condition, no_slot}
use Rattle.core_form.specs.Core as core
use Rattle.schema_core.specs.Names.{Names, Variable, a_number, a_type, other, TypeName}
use Rattle.schema_core.specs.Names.{no_type, type_word, anything, family, family_of, hashmap_type, hashmap_e_type}
use Rattle.schema_core.specs.Names.{declared}
use Rattle.schema_core.specs.Names.{declares, meaning, type_called, declared_kinds}
use Rattle.schema_core.specs.Slots.{field_slots, next_slot, slots_in}
use Rattle.schema_core.specs.Numbers.{number_of, side_of, first_number, named_number, no_number, unknown_by}

-- ---- types

-- what has no meaning as a type: it has no closed type
abbrev pub no_meaning : Ty
no_meaning = core.variable no_slot

abbrev pub of_family : Family → Expr → Ty
of_family Uint e = core.uint e
of_family Int e = core.int e
of_family Bits e = core.bit_str e

-- the name of a type, with its first argument as a number, its second as a type, and its arguments
abbrev pub applied : TypeName → Word → Expr → Ty → Args → Ty
applied no_type x e t args = no_meaning
applied type_word x e t args = no_meaning
applied anything x e t args = core.whole
applied (family f) x e t args = of_family f e
applied (family_of f n) x e t args = of_family f (num.lit n)
applied hashmap_type x e t args = core.dict e t
applied hashmap_e_type x e t args = core.dict_e e t
applied (declared ks) x e t args = core.named x args

-- a name that stands alone: one in scope hides a type
abbrev pub alone : Option Variable → Ty → Ty
alone None t = t
alone (Some (a_type v)) t = core.variable v
alone (Some (a_number v)) t = no_meaning
alone (Some other) t = no_meaning

-- an argument `~x`, and those after it
abbrev pub onto_out : Option ℕ → Args → Args
onto_out (Some v) args = core.out_arg v args
onto_out None args = args

-- Types and arguments, where these types are declared and these names are in scope. A record has no meaning here, but
-- for
-- those that `body_of` finds.
abbrev mutual
  pub type_of : SchemaView → Names → ExprView → Ty
  type_of types names nat32 = core.nat32
  type_of types names (bits es) = core.bits (first_number names es)
  type_of types names (below es) = core.below (first_number names es)
  type_of types names (up_to es) = core.up_to (first_number names es)
  type_of types names (star a b) = core.repeat (number_of names a) (type_of types names b)
  type_of types names (ref e) = core.ref (type_of types names e)
  type_of types names (named x no_exprs) =
      alone (meaning names x) (applied (type_called types x) x no_number no_meaning core.no_args)
  type_of types names (named x (an_expr e es)) =
      applied (type_called types x) x (number_of names e) (first_type types names es)
      (args_of types names (declared_kinds (type_called types x)) (an_expr e es))
  type_of types names (lit n) = no_meaning
  type_of types names (plus a b) = no_meaning
  type_of types names (out e) = no_meaning
  type_of types names (group is) = no_meaning

  pub first_type : SchemaView → Names → ExprList → Ty
  first_type types names no_exprs = no_meaning
  first_type types names (an_expr e es) = type_of types names e

  -- at the places of these parameters
  pub args_of : SchemaView → Names → List TermKind → ExprList → Args
  args_of types names ks no_exprs = core.no_args
  args_of types names [] (an_expr e es) = core.no_args
  args_of types names (NumberIn most ∷ ks) (an_expr e es) =
      core.nat_arg (number_of names e) (args_of types names ks es)
  args_of types names (TypeIn ∷ ks) (an_expr e es) = core.ty_arg (type_of types names e) (args_of types names ks es)
  args_of types names (NumberOut ∷ ks) (an_expr e es) =
      onto_out (named_number names (out_name e)) (args_of types names ks es)
  args_of types names (NoKind ∷ ks) (an_expr e es) = args_of types names ks es

-- ---- items

-- a condition on a number, or on a bit of it
abbrev pub not_0 : Expr → Option Condition
not_0 e = Some (record { number = e; bit = None })

abbrev pub has_bit : Expr → ℕ → Option Condition
has_bit e k = Some (record { number = e; bit = Some k })

-- the slot of a field that has a name and is of numbers
abbrev pub own_slot : Option Word → Bool → ℕ → Option ℕ
own_slot (Some x) true v = Some v
own_slot (Some x) false v = None
own_slot None b v = None

-- an equation with these sides where it has this unknown, else a check
abbrev pub constraint_by : Option ℕ → Names → ExprView → Op → ExprView → ℕ → Item
constraint_by None names a op b place = core.check (number_of names a) op (number_of names b) place
constraint_by (Some v) names a op b place = core.solve v (side_of names a) (side_of names b) place

abbrev pub constraint_of : Names → ExprView → Op → ExprView → ℕ → Item
constraint_of names a op b place =
    constraint_by (unknown_by op (side_of names a) (side_of names b)) names a op b place

abbrev pub onto : Option Item → Items → Items
onto None is = is
onto (Some i) is = core.an_item i is

-- the number of unnamed fields after an item
abbrev pub unnamed_by : Bool → ℕ → ℕ
unnamed_by true n = n + 1
unnamed_by false n = n

-- The items of a record, where these types are declared, these names are in scope, the next slot is this one, the
-- next item
-- has this place in the record, and so many unnamed fields come before it.
abbrev mutual
  pub items_of : SchemaView → Names → ℕ → ℕ → ℕ → ItemList → Items
  items_of types names next place unnamed no_items = core.no_items
  items_of types names next place unnamed (an_item i is) =
      onto (item_of types names next place unnamed i)
      (items_of types (names ++ declares i next) (next_slot next i) (place + 1) (unnamed_by (is_unnamed i) unnamed) is)

  -- what an item does, unless it is an implicit field
  pub item_of : SchemaView → Names → ℕ → ℕ → ℕ → ItemView → Option Item
  item_of types names next place unnamed (implicit x k) = None
  item_of types names next place unnamed (check a op b) = Some (constraint_of names a op b place)
  item_of types names next place unnamed (explicit x t) =
      Some (field_of types names (shown x unnamed) (own_slot x (is_field_of_numbers t) next)
      (next + field_slots x (is_field_of_numbers t)) t)

  -- a field of this shown name and slot, where the next slot for a record in it is this one
  pub field_of : SchemaView → Names → Word → Option ℕ → ℕ → TypeView → Item
  field_of types names x own next (plain e) = core.field x own no_condition (body_of types names next e)
  field_of types names x own next (when c e) =
      core.field x own (not_0 (number_of names c)) (body_of types names next e)
  field_of types names x own next (when_bit c k e) =
      core.field x own (has_bit (number_of names c) k) (body_of types names next e)

  -- the type of a field: a record, a record under `^`, or another type
  pub body_of : SchemaView → Names → ℕ → ExprView → Ty
  body_of types names next (group is) = core.group (items_of types names next 1 0 is)
  body_of types names next (ref e) = core.ref (under_ref types names next e)
  body_of types names next (lit n) = type_of types names (lit n)
  body_of types names next (named x es) = type_of types names (named x es)
  body_of types names next nat32 = type_of types names nat32
  body_of types names next (bits es) = type_of types names (bits es)
  body_of types names next (below es) = type_of types names (below es)
  body_of types names next (up_to es) = type_of types names (up_to es)
  body_of types names next (plus a b) = type_of types names (plus a b)
  body_of types names next (star a b) = type_of types names (star a b)
  body_of types names next (out e) = type_of types names (out e)

  pub under_ref : SchemaView → Names → ℕ → ExprView → Ty
  under_ref types names next (group is) = core.group (items_of types names next 1 0 is)
  under_ref types names next (ref e) = type_of types names (ref e)
  under_ref types names next (lit n) = type_of types names (lit n)
  under_ref types names next (named x es) = type_of types names (named x es)
  under_ref types names next nat32 = type_of types names nat32
  under_ref types names next (bits es) = type_of types names (bits es)
  under_ref types names next (below es) = type_of types names (below es)
  under_ref types names next (up_to es) = type_of types names (up_to es)
  under_ref types names next (plus a b) = type_of types names (plus a b)
  under_ref types names next (star a b) = type_of types names (star a b)
  under_ref types names next (out e) = type_of types names (out e)

-- ---- results

-- the names in scope after all items of a record
abbrev pub names_after : ItemList → Names → ℕ → Names
names_after no_items names next = names
names_after (an_item i is) names next = names_after is (names ++ declares i next) (next_slot next i)

-- the names in scope in the result of a declaration
abbrev pub names_at_result : ConstructorView → Names
names_at_result c = names_after c.items [] 0

abbrev pub parameter_of : TermKind → Parameter
parameter_of (NumberIn most) = core.number_in
parameter_of TypeIn = core.type_in
parameter_of NumberOut = core.number_out
parameter_of NoKind = core.no_parameter

abbrev pub parameters_of : List TermKind → List Parameter
parameters_of [] = []
parameters_of (k ∷ ks) = parameter_of k ∷ parameters_of ks

abbrev pub literal_of : ExprView → ℕ
literal_of (lit n) = n
literal_of (named x es) = 0
literal_of nat32 = 0
literal_of (bits es) = 0
literal_of (below es) = 0
literal_of (up_to es) = 0
literal_of (plus a b) = 0
literal_of (star a b) = 0
literal_of (out e) = 0
literal_of (ref e) = 0
literal_of (group is) = 0

abbrev pub variable_input : Option Variable → List Input
variable_input None = []
variable_input (Some (a_number v)) = core.number (patterns.Var v) ∷ []
variable_input (Some (a_type v)) = core.type v ∷ []
variable_input (Some other) = []

abbrev pub sum_input : Option ℕ → ℕ → List Input
sum_input None k = []
sum_input (Some v) k = core.number (patterns.Plus v k) ∷ []

-- a literal, `v`, and `v + k`
abbrev pub input_of : Names → ExprView → List Input
input_of names (lit n) = core.number (patterns.Lit n) ∷ []
input_of names (named x no_exprs) = variable_input (meaning names x)
input_of names (named x (an_expr e es)) = []
input_of names (plus a b) = sum_input (named_number names (bare_name a)) (literal_of b)
input_of names nat32 = []
input_of names (bits es) = []
input_of names (below es) = []
input_of names (up_to es) = []
input_of names (star a b) = []
input_of names (out e) = []
input_of names (ref e) = []
input_of names (group is) = []

abbrev pub inputs_of : Names → ExprList → List Input
inputs_of names no_exprs = []
inputs_of names (an_expr e es) = input_of names e ++ inputs_of names es

abbrev pub output_of : Names → ExprView → List Expr
output_of names (out e) = number_of names e ∷ []
output_of names (lit n) = []
output_of names (named x es) = []
output_of names nat32 = []
output_of names (bits es) = []
output_of names (below es) = []
output_of names (up_to es) = []
output_of names (plus a b) = []
output_of names (star a b) = []
output_of names (ref e) = []
output_of names (group is) = []

abbrev pub outputs_of : Names → ExprList → List Expr
outputs_of names no_exprs = []
outputs_of names (an_expr e es) = output_of names e ++ outputs_of names es

-- ---- declarations

-- the core form of a declaration with this tag, where these types are declared
abbrev pub core_of : SchemaView → List ℕ → ConstructorView → Constructor
core_of types tag c = record {
  tag = tag;
  parameters = parameters_of (kinds c);
  inputs = inputs_of (names_at_result c) c.params;
  outputs = outputs_of (names_at_result c) c.params;
  items = items_of types [] 0 1 0 c.items;
  slots = slots_in c.items;
}
