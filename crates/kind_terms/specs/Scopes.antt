-- Names in scope, and the variables that are known.
-- Source: the TON documentation on TL-B (implicit and explicit fields), and this project's rules.
use Rattle.std.specs.Prelude.{◌&&◌, not, List, [], ◌∷◌, ◌++◌, Bool, true, false, Option, Some, None, is_some, bytes_eq}
use Rattle.std.specs.Prelude.{if◌then◌else◌}
use Rattle.tlb_syntax.specs.declared.tree.ParamKind.{ParamKind}
use Rattle.tlb_syntax.specs.declared.tree.ParamKind.TheVariants.{Nat, Ty}
use Rattle.tlb_syntax.specs.Tree.{ExprView, ExprList, ItemView, ItemList, TypeView, SchemaView, lit, named, nat32, bits}
use Rattle.tlb_syntax.specs.Tree.{below, up_to, plus, star, out, ref, group, no_exprs, an_expr, plain, when, when_bit}
use Rattle.tlb_syntax.specs.Tree.{implicit, check, explicit, no_items, an_item}
use Rattle.kind_terms.specs.declared.scope.Meaning.{Meaning}
use Rattle.kind_terms.specs.declared.scope.Meaning.TheVariants.{ImplicitNumber, FieldNumber, TypeVariable, OtherField}
use Rattle.kind_terms.specs.declared.kind.TermKind.{TermKind}
use Rattle.kind_terms.specs.declared.kind.TermKind.TheVariants.{NumberIn, TypeIn, NumberOut, NoKind}
use Rattle.kind_terms.specs.Words.{Word, is_among}
use Rattle.kind_terms.specs.Params.{option_list}
use Rattle.kind_terms.specs.Types.{type_named, parameters, has_exprs}
use Rattle.kind_terms.specs.Forms.{is_field_of_numbers, out_name}
use Rattle.kind_terms.specs.Sought.{sought}

-- ---- what names stand for

pub record Binding : Type 0 where
  pub name : Word
  pub meaning : Meaning

abbrev pub binding : Word → Meaning → Binding
binding x m = record { name = x; meaning = m }

abbrev pub number_or_other : Bool → Meaning
number_or_other true = FieldNumber
number_or_other false = OtherField

abbrev pub field_meaning : TypeView → Meaning
field_meaning t = number_or_other (is_field_of_numbers t)

abbrev pub implicit_meaning : ParamKind → Meaning
implicit_meaning Nat = ImplicitNumber
implicit_meaning Ty = TypeVariable

-- what an item brings into scope
abbrev pub declares : ItemView → List Binding
declares (implicit x k) = binding x (implicit_meaning k) ∷ []
declares (check a op b) = []
declares (explicit None t) = []
declares (explicit (Some x) t) = binding x (field_meaning t) ∷ []

-- the name of a field
abbrev pub field_names : ItemView → List Word
field_names (implicit x k) = x ∷ []
field_names (check a op b) = []
field_names (explicit x t) = option_list x

-- ---- what an item makes known

-- the x of an argument `~x` at an output place
abbrev pub given_out : TermKind → ExprView → List Word
given_out NumberOut e = option_list (out_name e)
given_out (NumberIn n) e = []
given_out TypeIn e = []
given_out NoKind e = []

abbrev pub all_given_out : List TermKind → ExprList → List Word
all_given_out ks no_exprs = []
all_given_out [] (an_expr e es) = []
all_given_out (k ∷ ks) (an_expr e es) = given_out k e ++ all_given_out ks es

-- the outputs of a field's whole type
abbrev pub outputs_of : SchemaView → ExprView → List Word
outputs_of types (named x es) = all_given_out (parameters (type_named types x (has_exprs es))) es
outputs_of types (lit n) = []
outputs_of types nat32 = []
outputs_of types (bits es) = []
outputs_of types (below es) = []
outputs_of types (up_to es) = []
outputs_of types (plus a b) = []
outputs_of types (star a b) = []
outputs_of types (out e) = []
outputs_of types (ref e) = []
outputs_of types (group is) = []

abbrev pub own_number : Bool → Option Word → List Word
own_number true x = option_list x
own_number false x = []

abbrev pub type_outputs : SchemaView → TypeView → List Word
type_outputs types (plain e) = outputs_of types e
type_outputs types (when c e) = []
type_outputs types (when_bit c k e) = []

-- the name, where it is that of an input
abbrev pub if_input : List Word → Word → List Word
if_input inputs x = if is_among inputs x then x ∷ [] else []

-- What an item of a record makes known, to which these inputs belong: an implicit field of an input is known after
-- itself, and so is an explicit number field; an output after its field; the unknown of an equation after it.
abbrev pub makes_known : SchemaView → List Word → ItemView → List Word
makes_known types inputs (implicit x k) = if_input inputs x
makes_known types inputs (check a op b) = option_list (sought a op b)
makes_known types inputs (explicit x t) = own_number (is_field_of_numbers t) x ++ type_outputs types t

-- what the items of a record make known
abbrev pub made_known : SchemaView → List Word → ItemList → List Word
made_known types inputs no_items = []
made_known types inputs (an_item i is) = makes_known types inputs i ++ made_known types inputs is

-- ---- scopes

-- What an item, or an expression in it, sees.
pub record Scope : Type 0 where
  -- the declarations of types
  pub types : SchemaView
  -- the names in scope of the records around
  pub around : List Binding
  -- the names in scope of the same record
  pub own : List Binding
  -- the inputs that belong to the same record: those of a constructor belong to its own record, and to no record in it
  pub inputs : List Word
  -- the variables in scope that are known
  pub known : List Word

-- after an item
abbrev pub after : Scope → ItemView → Scope
after s i = record s { own = s.own ++ declares i; known = s.known ++ makes_known s.types s.inputs i }

-- after all items of a record
abbrev pub at_end : Scope → ItemList → Scope
at_end s no_items = s
at_end s (an_item i is) = at_end (after s i) is

-- at the beginning of a record inside
abbrev pub inside : Scope → Scope
inside s = record s { around = s.around ++ s.own; own = []; inputs = [] }

-- what the first binding of that name stands for
abbrev pub meaning_in : List Binding → Word → Option Meaning
meaning_in [] x = None
meaning_in (e ∷ es) x = if bytes_eq e.name x then Some e.meaning else meaning_in es x

-- what a name in scope stands for
abbrev pub meaning_of : Scope → Word → Option Meaning
meaning_of s x = meaning_in (s.around ++ s.own) x

abbrev pub is_known : Scope → Word → Bool
is_known s x = is_among s.known x

abbrev pub is_number_meaning : Option Meaning → Bool
is_number_meaning None = false
is_number_meaning (Some ImplicitNumber) = true
is_number_meaning (Some FieldNumber) = true
is_number_meaning (Some TypeVariable) = false
is_number_meaning (Some OtherField) = false

abbrev pub is_type_meaning : Option Meaning → Bool
is_type_meaning None = false
is_type_meaning (Some ImplicitNumber) = false
is_type_meaning (Some FieldNumber) = false
is_type_meaning (Some TypeVariable) = true
is_type_meaning (Some OtherField) = false

abbrev pub is_implicit_number : Option Meaning → Bool
is_implicit_number None = false
is_implicit_number (Some ImplicitNumber) = true
is_implicit_number (Some FieldNumber) = false
is_implicit_number (Some TypeVariable) = false
is_implicit_number (Some OtherField) = false

abbrev pub in_scope : Scope → Word → Bool
in_scope s x = is_some (meaning_of s x)

-- a number variable in scope
abbrev pub is_number_variable : Scope → Word → Bool
is_number_variable s x = is_number_meaning (meaning_of s x)

-- a type variable in scope
abbrev pub is_type_variable : Scope → Word → Bool
is_type_variable s x = is_type_meaning (meaning_of s x)

-- an implicit number of the same record that is not known
abbrev pub is_own_unknown : Scope → Word → Bool
is_own_unknown s x = is_implicit_number (meaning_in s.own x) && not (is_known s x)
