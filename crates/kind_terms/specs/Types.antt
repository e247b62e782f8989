-- What a name is as a type.
-- Source: the TON documentation on TL-B (built-in types), and this project's rules.
use Rattle.std.specs.Prelude.{ℕ, suc, List, [], ◌∷◌, Bool, true, false, Option, Some, None}
use Rattle.tlb_syntax.specs.Tree.{SchemaView, ExprList, no_exprs, an_expr}
use Rattle.kind_terms.specs.declared.words.Family.{Family}
use Rattle.kind_terms.specs.declared.words.WordClass.{WordClass}
use Rattle.kind_terms.specs.declared.words.WordClass.TheVariants.{TypeWord, Any, Cell, Sized, Numbered, Hashmap}
use Rattle.kind_terms.specs.declared.words.WordClass.TheVariants.{HashmapE, HashmapNode, Free}
use Rattle.kind_terms.specs.Words.{Word, widest}
use Rattle.kind_terms.specs.Classes.{word_class}
use Rattle.kind_terms.specs.Dictionaries.{of_type}
use Rattle.kind_terms.specs.declared.kind.TermKind.{TermKind}
use Rattle.kind_terms.specs.declared.kind.TermKind.TheVariants.{NumberIn, TypeIn}
use Rattle.kind_terms.specs.Params.{kinds}

pub data TypeNamed : Type 0 where
  no_type : TypeNamed
  -- a basic type with its parameters: other arguments are a mismatch of kinds
  basic : List TermKind → TypeNamed
  -- a declared type or a dictionary with its parameters: other arguments are a fault of arity
  declared : List TermKind → TypeNamed

abbrev pub family_kinds : Family → List TermKind
family_kinds f = NumberIn (widest f) ∷ []

-- the first declaration of a type fixes its parameters
abbrev pub declared_as : SchemaView → TypeNamed
declared_as [] = no_type
declared_as (c ∷ cs) = declared (kinds c)

-- the kinds of its parameters, by the first of a type's declarations
abbrev pub first_kinds : SchemaView → Option (List TermKind)
first_kinds [] = None
first_kinds (c ∷ cs) = Some (kinds c)

-- Type is no type, and takes no arguments
abbrev pub type_word : Bool → TypeNamed
type_word true = basic []
type_word false = no_type

-- What a name of this class is, with arguments or without: one of the families without a width takes that width; Any,
-- Cell, and the families with a width, take nothing; Hashmap and HashmapE take a number and a type.
abbrev pub type_of_class : SchemaView → Word → Bool → WordClass → TypeNamed
type_of_class types x has_arguments TypeWord = type_word has_arguments
type_of_class types x has_arguments Any = basic []
type_of_class types x has_arguments Cell = basic []
type_of_class types x has_arguments (Sized f) = basic (family_kinds f)
type_of_class types x has_arguments (Numbered f) = basic []
type_of_class types x has_arguments Hashmap = declared (NumberIn 1023 ∷ TypeIn ∷ [])
type_of_class types x has_arguments HashmapE = declared (NumberIn 1023 ∷ TypeIn ∷ [])
type_of_class types x has_arguments HashmapNode = no_type
type_of_class types x has_arguments Free = declared_as (of_type types x)

unfoldable pub type_named : SchemaView → Word → Bool → TypeNamed
type_named types x has_arguments = type_of_class types x has_arguments (word_class x)

abbrev pub is_no_type : TypeNamed → Bool
is_no_type no_type = true
is_no_type (basic ks) = false
is_no_type (declared ks) = false

abbrev pub is_declared : TypeNamed → Bool
is_declared no_type = false
is_declared (basic ks) = false
is_declared (declared ks) = true

abbrev pub is_basic : TypeNamed → Bool
is_basic no_type = false
is_basic (basic ks) = true
is_basic (declared ks) = false

abbrev pub parameters : TypeNamed → List TermKind
parameters no_type = []
parameters (basic ks) = ks
parameters (declared ks) = ks

abbrev pub has_exprs : ExprList → Bool
has_exprs no_exprs = false
has_exprs (an_expr e es) = true

abbrev pub count : ExprList → ℕ
count no_exprs = 0
count (an_expr e es) = suc (count es)
