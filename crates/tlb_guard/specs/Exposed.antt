-- What stands first in a type, before anything is taken for sure.
-- Source: the TON documentation on TL-B (parametrized types), and this project's rules.
use Rattle.std.specs.Prelude.{ℕ, ◌+◌, ◌&&◌, List, [], ◌∷◌, ◌++◌, map, Bool, true, false, Option, Some, None, bytes_eq}
use Rattle.std.specs.Prelude.{if◌then◌else◌}
use Rattle.std.specs.List.{list_any}
use Rattle.tlb_syntax.specs.Tree.{ExprView, ExprList, ItemView, ItemList, TypeView, ConstructorView, SchemaView, lit}
use Rattle.tlb_syntax.specs.Tree.{named, nat32, bits, below, up_to, plus, star, out, ref, group, no_exprs, an_expr}
use Rattle.tlb_syntax.specs.Tree.{plain, when, when_bit, implicit, check, explicit, no_items, an_item}
use Rattle.kind_terms.specs.Words.{Word}
use Rattle.kind_terms.specs.Classes.{NameClass, of_scope, of_word}
use Rattle.kind_terms.specs.Dictionaries.{of_type}
use Rattle.kind_terms.specs.Scopes.{field_names}
use Rattle.tlb_guard.specs.Rounds.{Test, round}
use Rattle.tlb_guard.specs.DeclaredTypes.{Parameter, is_declared_class, is_type_parameter, parameter_count, variable_at}
use Rattle.tlb_guard.specs.DeclaredTypes.{has_empty_tag}
use Rattle.tlb_guard.specs.Empty.{class_in, may_be_empty_item, may_take_nothing}

-- what is exposed
pub data ExposedTerm : Type 0 where
  a_type : Word → ExposedTerm
  a_variable : Word → ExposedTerm

abbrev pub is_type : Word → ExposedTerm → Bool
is_type x (a_type y) = bytes_eq y x
is_type x (a_variable y) = false

abbrev pub is_variable_called : Option Word → ExposedTerm → Bool
is_variable_called None f = false
is_variable_called (Some x) (a_type y) = false
is_variable_called (Some x) (a_variable y) = bytes_eq y x

-- What is known of the declared types: which of them may take nothing, and which of their parameters they expose.
pub record Known : Type 0 where
  pub types : SchemaView
  pub empty : Test Word
  pub exposed : Test Parameter

-- a declared type, and what comes from its arguments
abbrev pub type_and : Bool → Word → List ExposedTerm → List ExposedTerm
type_and true x from_arguments = a_type x ∷ from_arguments
type_and false x from_arguments = []

-- of a name, where its arguments expose these
abbrev pub terms_of_name : SchemaView → Word → List ExposedTerm → NameClass (Unit {0}) → List ExposedTerm
terms_of_name types x from_arguments (of_scope u) = a_variable x ∷ []
terms_of_name types x from_arguments (of_word w) = type_and (is_declared_class types x w) x from_arguments

-- What an expression exposes, with these names in scope. A variable exposes itself; a declared type exposes its own name,
-- and what an argument exposes where the parameter at its place is exposed; a repetition exposes what the repeated type
-- exposes; a record exposes what its fields expose, up to and with the first that may not take nothing.
abbrev mutual
  pub terms_of : Known → List Word → ExprView → List ExposedTerm
  terms_of k scope (lit n) = []
  terms_of k scope (named x es) =
      terms_of_name k.types x (terms_of_arguments k scope x 0 es) (class_in scope x es)
  terms_of k scope nat32 = []
  terms_of k scope (bits es) = []
  terms_of k scope (below es) = []
  terms_of k scope (up_to es) = []
  terms_of k scope (plus a b) = []
  terms_of k scope (star a b) = terms_of k scope b
  terms_of k scope (out e) = []
  terms_of k scope (ref e) = []
  terms_of k scope (group is) = terms_of_items k scope is

  -- of the arguments of a type, from this place on
  pub terms_of_arguments : Known → List Word → Word → ℕ → ExprList → List ExposedTerm
  terms_of_arguments k scope x n no_exprs = []
  terms_of_arguments k scope x n (an_expr e es) =
      (if k.exposed (record { of = x; place = n }) then terms_of k scope e else [])
      ++ terms_of_arguments k scope x (n + 1) es

  pub terms_of_field : Known → List Word → TypeView → List ExposedTerm
  terms_of_field k scope (plain e) = terms_of k scope e
  terms_of_field k scope (when c e) = terms_of k scope e
  terms_of_field k scope (when_bit c b e) = terms_of k scope e

  pub terms_of_item : Known → List Word → ItemView → List ExposedTerm
  terms_of_item k scope (implicit x kind) = []
  terms_of_item k scope (check a op b) = []
  terms_of_item k scope (explicit x t) = terms_of_field k scope t

  pub terms_of_items : Known → List Word → ItemList → List ExposedTerm
  terms_of_items k scope no_items = []
  terms_of_items k scope (an_item i is) =
      terms_of_item k scope i
      ++ (if may_be_empty_item k.empty scope i then terms_of_items k (scope ++ field_names i) is else [])

-- ---- constructors

-- what a constructor exposes through its item at this place, from 0
pub record Exposed : Type 0 where
  pub item : ℕ
  pub term : ExposedTerm

abbrev pub through : ℕ → ExposedTerm → Exposed
through n f = record { item = n; term = f }

-- of the items of a constructor, from this place on
abbrev pub exposed_from : Known → List Word → ℕ → ItemList → List Exposed
exposed_from k scope n no_items = []
exposed_from k scope n (an_item i is) =
    map (through n) (terms_of_item k scope i)
    ++ (if may_be_empty_item k.empty scope i then exposed_from k (scope ++ field_names i) (n + 1) is else [])

-- A constructor with the empty tag exposes what its fields expose, up to and with the first that may not take nothing.
abbrev pub exposed_by : Known → ConstructorView → List Exposed
exposed_by k c = if has_empty_tag c then exposed_from k [] 0 c.items else []

-- ---- parameters

abbrev pub exposes_variable : Known → Option Word → ConstructorView → Bool
exposes_variable k x c = list_any (λ (e : Exposed). is_variable_called x e.term) (exposed_by k c)

-- one use of the rules: a type parameter is exposed where a constructor exposes its variable
abbrev pub exposed_rules : SchemaView → Test Word → Test Parameter → Test Parameter
exposed_rules types empty exposed p =
    is_type_parameter types p
    && list_any (λ (c : ConstructorView). exposes_variable (record { types = types; empty = empty; exposed = exposed }) (variable_at c.params p.place) c)
    (of_type types p.of)

-- the parameters that are exposed by their types
abbrev pub exposed_parameters : SchemaView → Test Parameter
exposed_parameters types = round (exposed_rules types (may_take_nothing types)) (parameter_count types)

abbrev pub known : SchemaView → Known
known types = record { types = types; empty = may_take_nothing types; exposed = exposed_parameters types }
