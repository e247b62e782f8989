-- The rules on what is known.
use Rattle.std.specs.Prelude.{◌&&◌, ◌||◌, not, List, [], Bool, false, Option, Some, None, bytes_eq}
use Rattle.tlb_syntax.specs.Tree.{ExprView}
use Rattle.kind_terms.specs.Words.{Word, is_among}
use Rattle.kind_terms.specs.Params.{bare_name}
use Rattle.kind_terms.specs.Forms.{is_out, out_name}
use Rattle.kind_terms.specs.Scopes.{Scope, is_number_variable, is_type_variable, is_own_unknown, is_known}
use Rattle.kind_rules.specs.ExpectedKinds.{Expected, Use, a_number, an_output, a_type, is_type_expected}

-- ---- uses

-- a number variable where a number is expected, or a type variable where a type is expected
abbrev pub is_expected_variable : Expected → Scope → Word → Bool
is_expected_variable (a_number n q) s x = is_number_variable s x
is_expected_variable (a_type w) s x = is_type_variable s x
is_expected_variable (an_output before) s x = false

abbrev pub is_unknown_variable : Use → Option Word → Bool
is_unknown_variable u None = false
is_unknown_variable u (Some x) = is_expected_variable u.expected u.scope x && not (is_known u.scope x)

-- A variable is used that is not known.
abbrev pub is_used_unknown : Use → Bool
is_used_unknown u = is_unknown_variable u (bare_name u.at)

-- An implicit field, and the variables that the items of its record make known.
pub record Ending : Type 0 where
  pub name : Word
  pub known : List Word

-- It is never known.
abbrev pub is_never_known : Ending → Bool
is_never_known e = not (is_among e.known e.name)

-- ---- the unknown of an equation

-- `~x` with the x that is sought
abbrev pub seeks : Option Word → Option Word → Bool
seeks None y = false
seeks (Some x) None = false
seeks (Some x) (Some y) = bytes_eq x y

abbrev pub is_other_out_at : Expected → ExprView → Bool
is_other_out_at (a_number n x) e = is_out e && not (seeks x (out_name e))
is_other_out_at (an_output before) e = false
is_other_out_at (a_type w) e = false

-- A `~` stands where a number is expected, and seeks nothing.
abbrev pub is_other_out : Use → Bool
is_other_out u = is_other_out_at u.expected u.at

-- ---- what is known twice

-- the variables that a type has made known before this one of its arguments
abbrev pub given_before : Expected → List Word
given_before (an_output before) = before
given_before (a_number n q) = []
given_before (a_type w) = []

abbrev pub is_no_unknown : Expected → Scope → Option Word → Bool
is_no_unknown d s None = false
is_no_unknown d s (Some x) = is_number_variable s x && (not (is_own_unknown s x) || is_among (given_before d) x)

-- The x of `~x` is a number variable, and no implicit number of the same record that was not known.
abbrev pub is_known_twice : Use → Bool
is_known_twice u = not (is_type_expected u.expected) && is_no_unknown u.expected u.scope (out_name u.at)
