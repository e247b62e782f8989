-- The rule on widths.
use Rattle.std.specs.Prelude.{Bool, false, Option, Some, None}
use Rattle.std.specs.List.{list_any}
use Rattle.tlb_syntax.specs.Tree.{ExprView}
use Rattle.kind_terms.specs.Words.{Word, families}
use Rattle.kind_terms.specs.Closed.{closed, exceeds, is_wide_in}
use Rattle.kind_terms.specs.Params.{bare_name}
use Rattle.kind_terms.specs.Types.{TypeNamed}
use Rattle.kind_rules.specs.ExpectedKinds.{Expected, Use, a_number, an_output, a_type, type_at}

abbrev pub is_wide_name : Option TypeNamed → Option Word → Bool
is_wide_name None x = false
is_wide_name (Some t) None = false
is_wide_name (Some t) (Some x) = list_any (is_wide_in x) families

abbrev pub is_wide_at : Expected → Option TypeNamed → ExprView → Bool
is_wide_at (a_number most q) t e = exceeds most (closed e)
is_wide_at (an_output before) t e = false
is_wide_at (a_type w) t e = is_wide_name t (bare_name e)

-- A number without variables exceeds what may stand there.
abbrev pub is_too_wide : Use → Bool
is_too_wide u = is_wide_at u.expected (type_at u) u.at
