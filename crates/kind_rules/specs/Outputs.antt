-- The rules on outputs.
use Rattle.std.specs.Prelude.{◌&&◌, not, Bool, true, false, Option, Some, None, is_some}
use Rattle.tlb_syntax.specs.Tree.{ExprView}
use Rattle.kind_terms.specs.Params.{has_outputs}
use Rattle.kind_terms.specs.Types.{TypeNamed, parameters}
use Rattle.kind_terms.specs.Forms.{out_name}
use Rattle.kind_rules.specs.declared.expected.TypePosition.{TypePosition}
use Rattle.kind_rules.specs.declared.expected.TypePosition.TheVariants.{Whole, Conditional, FieldRef, UnderRef, Inner}
use Rattle.kind_rules.specs.ExpectedKinds.{Expected, Use, a_number, an_output, a_type, type_at}

abbrev pub gives_outputs : Option TypeNamed → Bool
gives_outputs None = false
gives_outputs (Some t) = has_outputs (parameters t)

abbrev pub is_under_ref : TypePosition → Bool
is_under_ref FieldRef = true
is_under_ref UnderRef = true
is_under_ref Whole = false
is_under_ref Conditional = false
is_under_ref Inner = false

abbrev pub is_conditional_or_part : TypePosition → Bool
is_conditional_or_part Conditional = true
is_conditional_or_part Inner = true
is_conditional_or_part Whole = false
is_conditional_or_part FieldRef = false
is_conditional_or_part UnderRef = false

abbrev pub is_at_position : (TypePosition → Bool) → Expected → Bool
is_at_position test (a_type w) = test w
is_at_position test (a_number n q) = false
is_at_position test (an_output before) = false

-- A type with outputs stands directly under ^.
abbrev pub is_output_under_ref : Use → Bool
is_output_under_ref u = is_at_position is_under_ref u.expected && gives_outputs (type_at u)

-- A type with outputs stands after a condition, is an argument or is repeated.
abbrev pub is_output_inside : Use → Bool
is_output_inside u = is_at_position is_conditional_or_part u.expected && gives_outputs (type_at u)

abbrev pub is_no_output_at : Expected → ExprView → Bool
is_no_output_at (an_output before) e = not (is_some (out_name e))
is_no_output_at (a_number n q) e = false
is_no_output_at (a_type w) e = false

-- An argument at an output place is none of the form `~x`.
abbrev pub is_no_output : Use → Bool
is_no_output u = is_no_output_at u.expected u.at
