-- Two forms of what a name is where it stands.
use Rattle.std.proofs.Common.{◌≡◌, Bool, true, false, not, ◌&&◌, refl, sym}
use Rattle.std.specs.Prelude.{Option, Some, None, is_some}
use Rattle.tlb_syntax.specs.Tree.{SchemaView, ExprList, named, no_exprs, an_expr}
use Rattle.kind_terms.specs.declared.scope.Meaning.{Meaning}
use Rattle.kind_terms.specs.Words.{Word}
use Rattle.kind_terms.specs.Classes.{NameClass, of_scope, of_word, name_class}
use Rattle.kind_terms.specs.Types.{TypeNamed, type_named}
use Rattle.kind_terms.specs.Params.{bare_name}
use Rattle.kind_terms.specs.Scopes.{Scope, meaning_of}
use Rattle.kind_rules.specs.ExpectedKinds.{class_at, meaning_by, type_in_class}

-- none where the name is used as a variable
abbrev pub type_unless : Bool → TypeNamed → Option TypeNamed
type_unless true t = None
type_unless false t = Some t

-- what a name in scope stands for, where the name is used as a variable
abbrev pub variable_in : {M : Type 0} → NameClass M → Option M
variable_in (of_scope m) = Some m
variable_in (of_word w) = None

pub type_in_scope : (types : SchemaView) (found : Option Meaning) (x : Word) (has_arguments : Bool)
    → type_in_class types x has_arguments (name_class found x has_arguments)
    ≡ type_unless (not has_arguments && is_some found) (type_named types x has_arguments)
unfolding type_named
type_in_scope types None x true = refl
type_in_scope types None x false = refl
type_in_scope types (Some m) x true = refl
type_in_scope types (Some m) x false = refl

alone : (found : Option Meaning) (x : Word) → variable_in (name_class found x false) ≡ found
alone None x = refl
alone (Some m) x = refl

applied : (found : Option Meaning) (x : Word) → variable_in (name_class found x true) ≡ None
applied None x = refl
applied (Some m) x = refl

-- the meaning that the rules speak of is that of the class
pub meaning_in_scope : (s : Scope) (x : Word) (es : ExprList)
    → meaning_by s (bare_name (named x es)) ≡ variable_in (class_at s x es)
meaning_in_scope s x no_exprs = sym (alone (meaning_of s x) x)
meaning_in_scope s x (an_expr e es) = sym (applied (meaning_of s x) x)
