-- The headings of declarations: their names, and the parameters of their results.
use Rattle.std.specs.Prelude.{ℕ, ◌&&◌, ◌||◌, not, List, Bool, true, false, Option, Some, None, bytes_eq, length}
use Rattle.std.specs.Prelude.{slice_get, nat_lt}
use Rattle.std.specs.List.{list_any}
use Rattle.tlb_syntax.specs.Tree.{ExprView, ExprList, ConstructorView, SchemaView}
use Rattle.kind_terms.specs.Words.{Word, is_among, x_alone}
use Rattle.kind_terms.specs.Classes.{is_built_in, is_dictionary}
use Rattle.kind_terms.specs.Dictionaries.{is_allowed}
use Rattle.kind_terms.specs.declared.kind.TermKind.{TermKind}
use Rattle.kind_terms.specs.Params.{kind_of, has_kind, is_same_kind, variable_of, inputs}
use Rattle.kind_terms.specs.Types.{count, first_kinds}

abbrev pub is_word : Option Word → Word → Bool
is_word None x = false
is_word (Some y) x = bytes_eq y x

-- A declaration, and those of its type before it.
pub record Heading : Type 0 where
  pub earlier : SchemaView
  pub this : ConstructorView

-- ---- reserved names

-- A built-in type is not declared, no constructor is called x, and a dictionary has its own lines alone.
abbrev pub is_reserved : Heading → Bool
is_reserved r =
    is_built_in r.this.result || is_word r.this.name x_alone
    || (is_dictionary r.this.result && not (is_allowed r.earlier r.this))

-- ---- constructors

abbrev pub same_name : Option Word → ConstructorView → Bool
same_name None c = false
same_name (Some x) c = is_word c.name x

-- A constructor is named as an earlier one of its type.
abbrev pub is_constructor_twice : Heading → Bool
is_constructor_twice r = list_any (same_name r.this.name) r.earlier

-- ---- parameters

-- A parameter, and those before it.
pub record Param : Type 0 where
  pub of : Heading
  pub before : ExprList
  pub at : ExprView

-- the parameters of the type, where an earlier declaration fixes them
abbrev pub fixed : Heading → Option (List TermKind)
fixed r = first_kinds r.earlier

-- a parameter that has a kind, and not this one; any is one too many where there is none
abbrev pub differs : Option TermKind → TermKind → Bool
differs None k = true
differs (Some first) k = has_kind k && not (is_same_kind first k)

abbrev pub differs_at : Option (List TermKind) → ℕ → TermKind → Bool
differs_at None i k = false
differs_at (Some ks) i k = differs (slice_get ks i) k

-- The parameter differs from the one that the first declaration of the type fixes at its place.
abbrev pub is_other_param : Param → Bool
is_other_param p = differs_at (fixed p.of) (count p.before) (kind_of p.of.this.items p.at)

-- fewer parameters than the first declaration of the type has
abbrev pub is_fewer : Option (List TermKind) → ℕ → Bool
is_fewer None n = false
is_fewer (Some ks) n = nat_lt n (length ks)

abbrev pub lacks_params : Heading → Bool
lacks_params r = is_fewer (fixed r) (count r.this.params)

-- The parameter is neither an output, nor an input number, nor an input type.
abbrev pub is_no_param : Param → Bool
is_no_param p = not (has_kind (kind_of p.of.this.items p.at))

abbrev pub is_variable_among : Option Word → List Word → Bool
is_variable_among None xs = false
is_variable_among (Some x) xs = is_among xs x

-- Its variable is that of an earlier input.
abbrev pub is_input_twice : Param → Bool
is_input_twice p = is_variable_among (variable_of p.at) (inputs p.before)
