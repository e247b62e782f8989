-- What is expected where an expression stands.
use Rattle.std.specs.Prelude.{ℕ, List, Bool, true, false, Option, Some, None, is_some, if◌then◌else◌}
use Rattle.tlb_syntax.specs.Tree.{ExprView, ExprList, SchemaView, lit, named, nat32, bits, below, up_to, plus, star, out, ref}
use Rattle.tlb_syntax.specs.Tree.{group, no_exprs}
use Rattle.kind_rules.specs.declared.expected.TypePosition.{TypePosition}
use Rattle.kind_rules.specs.declared.expected.TypePosition.TheVariants.{Whole, Conditional, FieldRef, UnderRef, Inner}
use Rattle.kind_terms.specs.declared.scope.Meaning.{Meaning}
use Rattle.kind_terms.specs.Words.{Word}
use Rattle.kind_terms.specs.Params.{bare_name}
use Rattle.kind_terms.specs.Classes.{NameClass, of_scope, of_word, name_class}
use Rattle.kind_terms.specs.Types.{TypeNamed, type_of_class, has_exprs}
use Rattle.kind_terms.specs.Scopes.{Scope, meaning_of}

pub data Expected : Type 0 where
  -- a number, which without variables is at most so much; of an equation that seeks a variable, or of none
  a_number : ℕ → Option Word → Expected
  -- an argument at an output place, after the outputs of the same type before it
  an_output : List Word → Expected
  a_type : TypePosition → Expected

-- An expression, what is expected there, and what it sees.
pub record Use : Type 0 where
  pub scope : Scope
  pub expected : Expected
  pub at : ExprView

-- where a type stands under a ^ that stands here
abbrev pub under : TypePosition → TypePosition
under Whole = FieldRef
under Conditional = FieldRef
under FieldRef = UnderRef
under UnderRef = UnderRef
under Inner = UnderRef

abbrev pub is_type_expected : Expected → Bool
is_type_expected (a_type w) = true
is_type_expected (a_number n q) = false
is_type_expected (an_output before) = false

-- x stands for `~x`, which is judged together with its x
abbrev pub operand : ExprView → ExprView
operand (out e) = if is_some (bare_name e) then e else out e
operand (lit n) = lit n
operand (named x es) = named x es
operand nat32 = nat32
operand (bits es) = bits es
operand (below es) = below es
operand (up_to es) = up_to es
operand (plus a b) = plus a b
operand (star a b) = star a b
operand (ref e) = ref e
operand (group is) = group is

-- the expression whose name is used: where a number is expected, that of `~x` is x
abbrev pub used : Expected → ExprView → ExprView
used (a_type w) e = e
used (a_number n q) e = operand e
used (an_output before) e = operand e

-- what a name with these arguments is where it stands
abbrev pub class_at : Scope → Word → ExprList → NameClass Meaning
class_at s x es = name_class (meaning_of s x) x (has_exprs es)

-- A name is used as a type unless it stands alone and is in scope.
abbrev pub type_in_class : SchemaView → Word → Bool → NameClass Meaning → Option TypeNamed
type_in_class types x has_arguments (of_scope m) = None
type_in_class types x has_arguments (of_word w) = Some (type_of_class types x has_arguments w)

abbrev pub as_type : Scope → ExprView → Option TypeNamed
as_type s (named x es) = type_in_class s.types x (has_exprs es) (class_at s x es)
as_type s (lit n) = None
as_type s nat32 = None
as_type s (bits es) = None
as_type s (below es) = None
as_type s (up_to es) = None
as_type s (plus a b) = None
as_type s (star a b) = None
as_type s (out e) = None
as_type s (ref e) = None
as_type s (group is) = None

-- the arguments of a name
abbrev pub arguments : ExprView → ExprList
arguments (named x es) = es
arguments (lit n) = no_exprs
arguments nat32 = no_exprs
arguments (bits es) = no_exprs
arguments (below es) = no_exprs
arguments (up_to es) = no_exprs
arguments (plus a b) = no_exprs
arguments (star a b) = no_exprs
arguments (out e) = no_exprs
arguments (ref e) = no_exprs
arguments (group is) = no_exprs

-- the name that is used at a place
abbrev pub used_at : Use → ExprView
used_at u = used u.expected u.at

-- the type that it is used as
abbrev pub type_at : Use → Option TypeNamed
type_at u = as_type u.scope (used_at u)

-- what a name without arguments stands for, if it is in scope
abbrev pub meaning_by : Scope → Option Word → Option Meaning
meaning_by s None = None
meaning_by s (Some x) = meaning_of s x

-- what the name stands for
abbrev pub meaning_at : Use → Option Meaning
meaning_at u = meaning_by u.scope (bare_name (used_at u))
