-- What the laws say: facts about the definitions alone.
use Rattle.std.specs.Prelude.{◌≡◌, ◌&&◌, not}
use Rattle.tlb_syntax.specs.Tree.{ExprList, named}
use Rattle.kind_terms.specs.Words.{Word}
use Rattle.kind_terms.specs.Types.{type_named, has_exprs}
use Rattle.kind_terms.specs.Params.{bare_name}
use Rattle.kind_terms.specs.Scopes.{Scope, in_scope}
use Rattle.kind_rules.specs.ExpectedKinds.{as_type, class_at, meaning_by}
use Rattle.kind_rules.specs.NameLaws.{type_unless, variable_in}

-- the type that a name is used as, and what it stands for as a variable, are those of its one class: it is used as a type
-- unless it stands alone and is in scope
pub record NamesAgree (s : Scope) (x : Word) (es : ExprList) : Type 0 where
  pub as_type : as_type s (named x es)
      ≡ type_unless (not (has_exprs es) && in_scope s x) (type_named s.types x (has_exprs es))
  pub as_variable : meaning_by s (bare_name (named x es)) ≡ variable_in (class_at s x es)

abbrev pub OneClass : Type 0
OneClass = (s : Scope) (x : Word) (es : ExprList) → NamesAgree s x es
