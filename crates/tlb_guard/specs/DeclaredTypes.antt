-- The declared types of a schema, their parameters, and the tags that are empty. A schema stands here without the
-- declarations of dictionaries.
-- Source: the TON documentation on TL-B (constructors and their tags), and this project's rules.
use Rattle.std.specs.Prelude.{ℕ, zero, suc, ◌&&◌, List, [], ◌∷◌, map, length, Bool, true, false, Option, Some, None}
use Rattle.std.specs.Prelude.{slice_get, count_by, sum_by, if◌then◌else◌}
use Rattle.tlb_syntax.specs.Tree.{ExprList, TagView, ConstructorView, SchemaView, no_exprs, an_expr, computed, given}
use Rattle.kind_terms.specs.declared.words.WordClass.{WordClass}
use Rattle.kind_terms.specs.Words.{Word, is_among}
use Rattle.kind_terms.specs.Classes.{is_free_class, word_class}
use Rattle.kind_terms.specs.Dictionaries.{of_type}
use Rattle.kind_terms.specs.declared.kind.TermKind.{TermKind}
use Rattle.kind_terms.specs.Params.{kinds, is_type_in, bare_name}

-- each word once
abbrev pub distinct : List Word → List Word
distinct [] = []
distinct (x ∷ xs) = if is_among xs x then distinct xs else x ∷ distinct xs

abbrev pub result_of : ConstructorView → Word
result_of c = c.result

abbrev pub declared_types : SchemaView → List Word
declared_types types = distinct (map result_of types)

-- the count of declared types
abbrev pub type_count : SchemaView → ℕ
type_count types = length (declared_types types)

-- a declared type, by its name where that is a free one
abbrev pub is_declared_class : SchemaView → Word → WordClass → Bool
is_declared_class types x w = is_free_class w && is_among (declared_types types) x

abbrev pub is_declared_type : SchemaView → Word → Bool
is_declared_type types x = is_declared_class types x (word_class x)

-- ---- parameters

-- a parameter of a type, by its place from 0
pub record Parameter : Type 0 where
  pub of : Word
  pub place : ℕ

-- the first constructor of a type fixes its parameters
abbrev pub parameter_kinds : SchemaView → List TermKind
parameter_kinds [] = []
parameter_kinds (c ∷ cs) = kinds c

abbrev pub kinds_of_type : SchemaView → Word → List TermKind
kinds_of_type types x = parameter_kinds (of_type types x)

abbrev pub is_type_kind : Option TermKind → Bool
is_type_kind None = false
is_type_kind (Some k) = is_type_in k

abbrev pub is_type_parameter : SchemaView → Parameter → Bool
is_type_parameter types p = is_type_kind (slice_get (kinds_of_type types p.of) p.place)

-- the count of all type parameters
abbrev pub parameter_count : SchemaView → ℕ
parameter_count types = sum_by (λ x. count_by is_type_in (kinds_of_type types x)) (declared_types types)

-- the name of the variable at that place of a result
abbrev pub variable_at : ExprList → ℕ → Option Word
variable_at no_exprs n = None
variable_at (an_expr e es) zero = bare_name e
variable_at (an_expr e es) (suc n) = variable_at es n

-- ---- tags

-- A constructor called `_` without a tag has the empty tag; a named one has 32 bits then.
abbrev pub is_empty_tag : Option Word → TagView → Bool
is_empty_tag None computed = true
is_empty_tag (Some x) computed = false
is_empty_tag name (given []) = true
is_empty_tag name (given (b ∷ bs)) = false

abbrev pub has_empty_tag : ConstructorView → Bool
has_empty_tag c = is_empty_tag c.name c.tag
