-- What is judged in a schema, in the order of the text, each with what it sees: a node comes before its parts.
use Rattle.std.specs.Prelude.{List, [], ◌∷◌, ◌++◌, Option, Some, None}
use Rattle.tlb_syntax.specs.Tree.{ExprView, ExprList, ItemView, ItemList, TypeView, ConstructorView, SchemaView, lit}
use Rattle.tlb_syntax.specs.Tree.{named, nat32, bits, below, up_to, plus, star, out, ref, group, no_exprs, an_expr}
use Rattle.tlb_syntax.specs.Tree.{plain, when, when_bit, implicit, check, explicit, no_items, an_item}
use Rattle.field_path.specs.declared.part.Part.{Part}
use Rattle.field_path.specs.declared.part.Part.TheVariants as places
use Rattle.kind_terms.specs.Positions.{ItemPosition, first_position, next_position, path_at}
use Rattle.kind_terms.specs.Words.{Word}
use Rattle.kind_terms.specs.declared.kind.TermKind.{TermKind}
use Rattle.kind_terms.specs.declared.kind.TermKind.TheVariants.{NumberIn, TypeIn, NumberOut, NoKind}
use Rattle.kind_terms.specs.Params.{greatest, inputs}
use Rattle.kind_terms.specs.Types.{type_named, parameters, has_exprs}
use Rattle.kind_terms.specs.Sought.{sought}
use Rattle.kind_terms.specs.Scopes.{Scope, field_names, given_out, after, at_end, inside, made_known}
use Rattle.kind_rules.specs.declared.expected.TypePosition.TheVariants.{Whole, Conditional, Inner}
use Rattle.kind_rules.specs.ExpectedKinds.{Expected, Use, a_number, an_output, a_type, under}
use Rattle.kind_declarations.specs.Headings.{Heading, Param}
use Rattle.kind_rules.specs.Names.{Field}
use Rattle.kind_rules.specs.FieldNames.{names_inside}
use Rattle.kind_rules.specs.Known.{Ending}

pub data Node : Type 0 where
  -- the names of a declaration
  a_heading : Heading → Node
  a_param : Param → Node
  -- after the last parameter
  params_end : Heading → Node
  -- the name of a field
  a_field : Field → Node
  -- an expression
  a_use : Use → Node
  -- an implicit field at the end of its record
  an_ending : Ending → Node

pub record Judged : Type 0 where
  pub path : List Part
  pub node : Node

abbrev pub judged : List Part → Node → Judged
judged p n = record { path = p; node = n }

-- ---- positions

-- An item of a record stands here.
pub record RecordContext : Type 0 where
  pub place : ItemPosition
  pub scope : Scope
  -- the fields before it of the record and of those around it
  pub fields : List Word
  -- the fields of records in items before it
  pub inner : List Word

-- an item, and the fields up to it of its record and of those around it
pub record ItemContext : Type 0 where
  pub path : List Part
  pub scope : Scope
  pub fields : List Word

abbrev pub at : RecordContext → ItemView → ItemContext
at h i = record { path = path_at h.place i; scope = h.scope; fields = h.fields ++ field_names i }

-- the first item of a record in the item
abbrev pub first_inside : ItemContext → RecordContext
first_inside a = record { place = first_position a.path; scope = inside a.scope; fields = a.fields; inner = [] }

-- the next item
abbrev pub next : RecordContext → ItemView → RecordContext
next h i = record {
  place = next_position h.place i;
  scope = after h.scope i;
  fields = h.fields ++ field_names i;
  inner = h.inner ++ names_inside i;
}

-- the items of a constructor, to which its inputs belong
abbrev pub first : SchemaView → ConstructorView → RecordContext
first types c = record {
  place = first_position [];
  scope = record { types = types; around = []; own = []; inputs = inputs c.params; known = [] };
  fields = [];
  inner = [];
}

-- ---- what is expected in the parts of an expression; nothing, where the expression itself is refused

abbrev pub expected_number : Option Expected
expected_number = Some (a_number greatest None)

abbrev pub expected_in_sum : Option Expected → Option Expected
expected_in_sum None = None
expected_in_sum (Some (a_number n q)) = Some (a_number greatest q)
expected_in_sum (Some (an_output before)) = None
expected_in_sum (Some (a_type w)) = None

-- the factors of a product, or of a repetition
abbrev pub expected_at_left : Option Expected → Option Expected
expected_at_left None = None
expected_at_left (Some (a_number n q)) = Some (a_number greatest q)
expected_at_left (Some (an_output before)) = None
expected_at_left (Some (a_type w)) = expected_number

abbrev pub expected_at_right : Option Expected → Option Expected
expected_at_right None = None
expected_at_right (Some (a_number n q)) = Some (a_number greatest q)
expected_at_right (Some (an_output before)) = None
expected_at_right (Some (a_type w)) = Some (a_type Inner)

abbrev pub expected_under_ref : Option Expected → Option Expected
expected_under_ref None = None
expected_under_ref (Some (a_number n q)) = None
expected_under_ref (Some (an_output before)) = None
expected_under_ref (Some (a_type w)) = Some (a_type (under w))

abbrev pub only_types : {X : Type 0} → Option Expected → List X → List X
only_types None xs = []
only_types (Some (a_number n q)) xs = []
only_types (Some (an_output before)) xs = []
only_types (Some (a_type w)) xs = xs

abbrev pub expected_argument : TermKind → List Word → Option Expected
expected_argument (NumberIn n) before = Some (a_number n None)
expected_argument TypeIn before = Some (a_type Inner)
expected_argument NumberOut before = Some (an_output before)
expected_argument NoKind before = None

-- ---- expressions, items and records

abbrev pub use_at : ItemContext → Option Expected → ExprView → List Judged
use_at a None e = []
use_at a (Some d) e = judged a.path (a_use (record { scope = a.scope; expected = d; at = e })) ∷ []

-- the name of an item on the path, after these fields
abbrev pub name_at : List Part → List Word → Option Word → List Judged
name_at path others None = []
name_at path others (Some x) = judged path (a_field (record { name = x; others = others })) ∷ []

abbrev mutual
  pub expr_nodes : ExprView → ItemContext → Option Expected → List Judged
  expr_nodes (lit n) a d = use_at a d (lit n)
  expr_nodes (named x es) a d =
      use_at a d (named x es)
      ++ arg_nodes es a (only_types d (parameters (type_named a.scope.types x (has_exprs es)))) []
  expr_nodes nat32 a d = use_at a d nat32
  expr_nodes (bits es) a d = use_at a d (bits es) ++ arg_nodes es a (only_types d (NumberIn 32 ∷ [])) []
  expr_nodes (below es) a d = use_at a d (below es) ++ arg_nodes es a (only_types d (NumberIn greatest ∷ [])) []
  expr_nodes (up_to es) a d = use_at a d (up_to es) ++ arg_nodes es a (only_types d (NumberIn greatest ∷ [])) []
  expr_nodes (plus x y) a d = use_at a d (plus x y)
      ++ (expr_nodes x a (expected_in_sum d) ++ expr_nodes y a (expected_in_sum d))
  expr_nodes (star x y) a d = use_at a d (star x y)
      ++ (expr_nodes x a (expected_at_left d) ++ expr_nodes y a (expected_at_right d))
  expr_nodes (out e) a d = use_at a d (out e)
  expr_nodes (ref e) a d = use_at a d (ref e) ++ expr_nodes e a (expected_under_ref d)
  expr_nodes (group is) a d = use_at a d (group is) ++ only_types d (record_nodes is (first_inside a))

  -- arguments at the places of these parameters, after these outputs
  pub arg_nodes : ExprList → ItemContext → List TermKind → List Word → List Judged
  arg_nodes no_exprs a ks before = []
  arg_nodes (an_expr e es) a [] before = []
  arg_nodes (an_expr e es) a (k ∷ ks) before =
      expr_nodes e a (expected_argument k before) ++ arg_nodes es a ks (before ++ given_out k e)

  pub type_nodes : TypeView → ItemContext → List Judged
  type_nodes (plain e) a = expr_nodes e a (Some (a_type Whole))
  type_nodes (when c e) a = expr_nodes c a expected_number ++ expr_nodes e a (Some (a_type Conditional))
  type_nodes (when_bit c k e) a = expr_nodes c a expected_number ++ expr_nodes e a (Some (a_type Conditional))

  -- of an item that stands there, after these fields
  pub item_nodes : ItemView → ItemContext → List Word → List Judged
  item_nodes (implicit x k) a others = name_at a.path others (Some x)
  item_nodes (check x op y) a others =
      expr_nodes x a (Some (a_number greatest (sought x op y)))
      ++ expr_nodes y a (Some (a_number greatest (sought x op y)))
  item_nodes (explicit x t) a others = name_at a.path others x ++ type_nodes t a

  pub record_nodes : ItemList → RecordContext → List Judged
  record_nodes no_items h = []
  record_nodes (an_item i is) h = item_nodes i (at h i) (h.fields ++ h.inner) ++ record_nodes is (next h i)

-- ---- implicit fields at the ends of their records

abbrev pub ending_at : List Part → List Word → ItemView → List Judged
ending_at path known (implicit x k) = judged path (an_ending (record { name = x; known = known })) ∷ []
ending_at path known (check x op y) = []
ending_at path known (explicit x t) = []

abbrev mutual
  -- in an expression on the path
  pub expr_endings : ExprView → SchemaView → List Part → List Judged
  expr_endings (lit n) types path = []
  expr_endings (named x es) types path = arg_endings es types path
  expr_endings nat32 types path = []
  expr_endings (bits es) types path = arg_endings es types path
  expr_endings (below es) types path = arg_endings es types path
  expr_endings (up_to es) types path = arg_endings es types path
  expr_endings (plus x y) types path = expr_endings x types path ++ expr_endings y types path
  expr_endings (star x y) types path = expr_endings x types path ++ expr_endings y types path
  expr_endings (out e) types path = expr_endings e types path
  expr_endings (ref e) types path = expr_endings e types path
  expr_endings (group is) types path = record_endings is types (first_position path) (made_known types [] is)

  pub arg_endings : ExprList → SchemaView → List Part → List Judged
  arg_endings no_exprs types path = []
  arg_endings (an_expr e es) types path = expr_endings e types path ++ arg_endings es types path

  pub type_endings : TypeView → SchemaView → List Part → List Judged
  type_endings (plain e) types path = expr_endings e types path
  type_endings (when c e) types path = expr_endings c types path ++ expr_endings e types path
  type_endings (when_bit c k e) types path = expr_endings c types path ++ expr_endings e types path

  -- of the records in an item
  pub item_endings : ItemView → SchemaView → List Part → List Judged
  item_endings (implicit x k) types path = []
  item_endings (check x op y) types path = []
  item_endings (explicit x t) types path = type_endings t types path

  -- of a record at whose end these of its variables are known
  pub record_endings : ItemList → SchemaView → ItemPosition → List Word → List Judged
  record_endings no_items types p known = []
  record_endings (an_item i is) types p known =
      ending_at (path_at p i) known i
      ++ (item_endings i types (path_at p i) ++ record_endings is types (next_position p i) known)

-- ---- declarations

abbrev pub result_path : List Part
result_path = places.Result ∷ []

-- one more expression
abbrev pub joined : ExprList → ExprView → ExprList
joined no_exprs e = an_expr e no_exprs
joined (an_expr f fs) e = an_expr f (joined fs e)

abbrev pub param_nodes : Heading → ExprList → ExprList → List Judged
param_nodes r before no_exprs = []
param_nodes r before (an_expr e es) =
    judged result_path (a_param (record { of = r; before = before; at = e })) ∷ param_nodes r (joined before e) es

-- the result of a declaration: its names, its parameters, and what is after them
abbrev pub heading_nodes : Heading → List Judged
heading_nodes r =
    judged result_path (a_heading r) ∷ (param_nodes r no_exprs r.this.params ++ judged result_path (params_end r) ∷ [])

-- the numbers of outputs
abbrev pub output_nodes : ExprList → ItemContext → List Judged
output_nodes no_exprs a = []
output_nodes (an_expr (out e) es) a = expr_nodes e a expected_number ++ output_nodes es a
output_nodes (an_expr (lit n) es) a = output_nodes es a
output_nodes (an_expr (named x fs) es) a = output_nodes es a
output_nodes (an_expr nat32 es) a = output_nodes es a
output_nodes (an_expr (bits fs) es) a = output_nodes es a
output_nodes (an_expr (below fs) es) a = output_nodes es a
output_nodes (an_expr (up_to fs) es) a = output_nodes es a
output_nodes (an_expr (plus x y) es) a = output_nodes es a
output_nodes (an_expr (star x y) es) a = output_nodes es a
output_nodes (an_expr (ref e) es) a = output_nodes es a
output_nodes (an_expr (group is) es) a = output_nodes es a

-- what the result sees
abbrev pub at_result : SchemaView → ConstructorView → ItemContext
at_result types c = record { path = result_path; scope = at_end (first types c).scope c.items; fields = [] }

-- its items, then its outputs
abbrev pub record_and_outputs : SchemaView → ConstructorView → List Judged
record_and_outputs types c = record_nodes c.items (first types c) ++ output_nodes c.params (at_result types c)

-- and then its implicit fields once more
abbrev pub constructor_nodes : SchemaView → ConstructorView → List Judged
constructor_nodes types c =
    record_and_outputs types c
    ++ record_endings c.items types (first_position []) (made_known types (inputs c.params) c.items)
