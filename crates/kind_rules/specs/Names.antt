-- The rules on names.
use Rattle.std.specs.Prelude.{ℕ, ◌&&◌, ◌||◌, not, ◌==◌, List, length, Bool, true, false, Option, Some, None, nat_lt}
use Rattle.kind_terms.specs.Words.{Word, is_among}
use Rattle.kind_terms.specs.Types.{TypeNamed, no_type, basic, declared, is_no_type, count}
use Rattle.kind_terms.specs.declared.scope.Meaning.{Meaning}
use Rattle.kind_terms.specs.declared.scope.Meaning.TheVariants.{ImplicitNumber, FieldNumber, TypeVariable, OtherField}
use Rattle.kind_rules.specs.ExpectedKinds.{Expected, Use, used_at, type_at, meaning_at, arguments, is_type_expected}

-- A field, and the fields before it in the text from which its name is to differ: those of its record, of the records
-- around it and of the records in it.
pub record Field : Type 0 where
  pub name : Word
  pub others : List Word

-- A field is named as an earlier one.
abbrev pub is_field_twice : Field → Bool
is_field_twice f = is_among f.others f.name

abbrev pub names_none : Option TypeNamed → Bool
names_none None = false
names_none (Some t) = is_no_type t

-- the number of arguments of the name
abbrev pub args_at : Use → ℕ
args_at u = count (arguments (used_at u))

-- a name that is to be a type: with so many arguments, if not none, or where a type is expected
abbrev pub is_for_type : Expected → ℕ → Bool
is_for_type d n = is_type_expected d || nat_lt 0 n

-- A name with arguments is no type, or one without them where a type is expected.
abbrev pub is_unknown_type : Use → Bool
is_unknown_type u = names_none (type_at u) && is_for_type u.expected (args_at u)

-- A name without arguments where a number is expected is neither in scope nor a type.
abbrev pub is_unknown_name : Use → Bool
is_unknown_name u = names_none (type_at u) && not (is_for_type u.expected (args_at u))

abbrev pub takes_others : Option TypeNamed → ℕ → Bool
takes_others None n = false
takes_others (Some no_type) n = false
takes_others (Some (basic ks)) n = false
takes_others (Some (declared ks)) n = not (length ks == n)

-- A declared type or a dictionary has another number of arguments than parameters.
abbrev pub is_other_arity : Use → Bool
is_other_arity u = takes_others (type_at u) (args_at u)

abbrev pub is_no_variable : Option Meaning → Bool
is_no_variable None = false
is_no_variable (Some ImplicitNumber) = false
is_no_variable (Some FieldNumber) = false
is_no_variable (Some TypeVariable) = false
is_no_variable (Some OtherField) = true

-- A name in scope, used without arguments, is neither a number variable nor a type variable.
abbrev pub is_other_field_used : Use → Bool
is_other_field_used u = is_no_variable (meaning_at u)
