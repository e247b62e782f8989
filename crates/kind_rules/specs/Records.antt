-- The rule on records in brackets.
use Rattle.std.specs.Prelude.{◌&&◌, Bool, true, false}
use Rattle.tlb_syntax.specs.Tree.{ExprView, lit, named, nat32, bits, below, up_to, plus, star, out, ref, group}
use Rattle.kind_rules.specs.declared.expected.TypePosition.{TypePosition}
use Rattle.kind_rules.specs.declared.expected.TypePosition.TheVariants.{Whole, Conditional, FieldRef, UnderRef, Inner}
use Rattle.kind_rules.specs.ExpectedKinds.{Use}
use Rattle.kind_rules.specs.Outputs.{is_at_position}

abbrev pub is_group : ExprView → Bool
is_group (group is) = true
is_group (lit n) = false
is_group (named x es) = false
is_group nat32 = false
is_group (bits es) = false
is_group (below es) = false
is_group (up_to es) = false
is_group (plus a b) = false
is_group (star a b) = false
is_group (out e) = false
is_group (ref e) = false

abbrev pub takes_no_record : TypePosition → Bool
takes_no_record UnderRef = true
takes_no_record Inner = true
takes_no_record Whole = false
takes_no_record Conditional = false
takes_no_record FieldRef = false

-- A record is neither a field's type, nor after a condition, nor under the one ^ of these.
abbrev pub is_misplaced_record : Use → Bool
is_misplaced_record u = is_group u.at && is_at_position takes_no_record u.expected
