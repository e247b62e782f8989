-- The core form of a constructor: its items with every name looked up. A variable is a slot of the constructor, a
-- type is
-- one of the forms that spell something, and implicit fields have gone.
-- Source: the TON documentation on the TL-B language (constructors, fields, parametrized types, built-in types).
use Rattle.std.specs.Prelude.{ℕ, List, [], ◌∷◌, ◌++◌, Option, Some, None}
use Rattle.nat_solver.specs.Number.{Expr}
use Rattle.nat_solver.specs.declared.compare.Op.{Op}
use Rattle.nat_solver.specs.declared.pattern.Pattern.{Pattern}

abbrev pub Word : Type 0
Word = List ℕ

-- a number that is to differ from 0, or of which this bit is to be 1
pub record Condition : Type 0 where
  pub number : Expr
  pub bit : Option ℕ

mutual
  pub data Ty : Type 0 where
    -- #
    nat32 : Ty
    -- ##, #< and #<=
    bits : Expr → Ty
    below : Expr → Ty
    up_to : Expr → Ty
    -- uint, int and bits, with their width as an argument or in their name
    uint : Expr → Ty
    int : Expr → Ty
    bit_str : Expr → Ty
    -- Any and Cell: all that is left
    whole : Ty
    -- a type variable, by its slot
    variable : ℕ → Ty
    ref : Ty → Ty
    repeat : Expr → Ty → Ty
    -- Hashmap and HashmapE
    dict : Expr → Ty → Ty
    dict_e : Expr → Ty → Ty
    -- a declared type, with its arguments in order
    named : Word → Args → Ty
    -- a record in brackets
    group : Items → Ty

  pub data Args : Type 0 where
    no_args : Args
    nat_arg : Expr → Args → Args
    ty_arg : Ty → Args → Args
    -- an output, by the slot that it sets
    out_arg : ℕ → Args → Args

  -- The last number of a check and of an equation is its place among all items of its record, from 1. An equation has
  -- the slot of its unknown. A field has the name that it is shown by, the slot that its number sets, and its
  -- condition.
  pub data Item : Type 0 where
    check : Expr → Op → Expr → ℕ → Item
    solve : ℕ → Expr → Expr → ℕ → Item
    field : Word → Option ℕ → Option Condition → Ty → Item

  pub data Items : Type 0 where
    no_items : Items
    an_item : Item → Items → Items

-- an input of a result: a pattern of numbers, or a type variable by its slot
pub data Input : Type 0 where
  number : Pattern → Input
  type : ℕ → Input

-- what stands at a place of a result
pub data Parameter : Type 0 where
  number_in : Parameter
  type_in : Parameter
  number_out : Parameter
  no_parameter : Parameter

pub record Constructor : Type 0 where
  pub tag : List ℕ
  -- of its result, place by place
  pub parameters : List Parameter
  -- the inputs among them, and the numbers of the outputs among them
  pub inputs : List Input
  pub outputs : List Expr
  pub items : Items
  -- how many slots its variables have, those of inner records included
  pub slots : ℕ

-- a constructor of a schema: its type, the name that it is shown by, and its number in its type, from 1
pub record Declaration : Type 0 where
  pub of_type : Word
  pub shown : Word
  pub number : ℕ
  pub core : Constructor

abbrev pub CoreSchema : Type 0
CoreSchema = List Declaration

-- ---- parts

-- the slot of what has no meaning: no constructor has it, so it is never set
abbrev pub no_slot : ℕ
no_slot = 4294967295

abbrev pub no_condition : Option Condition
no_condition = None

-- the slots that the outputs of a type set
abbrev pub outs : Args → List ℕ
outs no_args = []
outs (nat_arg e args) = outs args
outs (ty_arg t args) = outs args
outs (out_arg v args) = v ∷ outs args

abbrev pub type_outs : Ty → List ℕ
type_outs (named x args) = outs args
type_outs nat32 = []
type_outs (bits e) = []
type_outs (below e) = []
type_outs (up_to e) = []
type_outs (uint e) = []
type_outs (int e) = []
type_outs (bit_str e) = []
type_outs whole = []
type_outs (variable v) = []
type_outs (ref t) = []
type_outs (repeat e t) = []
type_outs (dict e t) = []
type_outs (dict_e e t) = []
type_outs (group is) = []

abbrev pub slot_list : Option ℕ → List ℕ
slot_list None = []
slot_list (Some v) = v ∷ []

-- the slots that a field sets: its own where it is a number, and those of the outputs of its type
abbrev pub sets : Option ℕ → Ty → List ℕ
sets slot t = slot_list slot ++ type_outs t

-- the names that the fields of a record are shown by
abbrev pub field_names : Items → List Word
field_names no_items = []
field_names (an_item (check a op b i) is) = field_names is
field_names (an_item (solve v a b i) is) = field_names is
field_names (an_item (field x slot c t) is) = x ∷ field_names is

-- the first explicit field: its condition and its type
pub record FirstField : Type 0 where
  pub condition : Option Condition
  pub type : Ty

abbrev pub first_field : Items → Option FirstField
first_field no_items = None
first_field (an_item (check a op b i) is) = first_field is
first_field (an_item (solve v a b i) is) = first_field is
first_field (an_item (field x slot c t) is) = Some (record { condition = c; type = t })
