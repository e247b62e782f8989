use Rattle.kind_terms.specs.Types.{has_exprs}
use Rattle.kind_terms.specs.Scopes.{meaning_of}
use Rattle.kind_rules.specs.NameLaws.{meaning_in_scope, type_in_scope}
use Rattle.kind_rules.proofs.laws.one_class.Goals as goal

pub returns : goal.returns
returns c = λ s x es. record {
  as_type = type_in_scope s.types (meaning_of s x) x (has_exprs es);
  as_variable = meaning_in_scope s x es;
}
