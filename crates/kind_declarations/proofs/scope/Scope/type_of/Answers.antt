use Rattle.std.proofs.Common.{◌∙◌, sym, refl, ap, not, ◌&&◌}
use Rattle.std.specs.Prelude.{None}
use Rattle.kind_terms.specs.SumLaws.{of_sum}
use Rattle.kind_terms.specs.Scopes.{in_scope, meaning_of}
use Rattle.kind_terms.specs.Types.{has_exprs, type_named}
use Rattle.tlb_syntax.specs.View.{exprs}
use Rattle.kind_rules.specs.ExpectedKinds.{as_type}
use Rattle.kind_rules.specs.NameLaws.{type_in_scope, type_unless}
use Rattle.kind_terms.specs.ViewLaws.{has_exprs_seen, seen_named}
use Rattle.kind_declarations.specs.Views.{scope_by}
use Rattle.kind_declarations.proofs.scope.Scope.type_of.Goals as goal

pub returns-in-Sum : goal.returns-in-Sum
returns-in-Sum c = of_sum (as_type (scope_by c.args.self.now)) None (λ a b. refl) _ _ _ _ c.in-Sum.is

pub returns-in-Named : goal.returns-in-Named
returns-in-Named c =
    let s = scope_by c.args.self.now in
    let x = c.in-Named.name in
    c.type_named.ensures
    ∙ ap (λ b. type_unless (not b && in_scope s x) (type_named s.types x b)) (has_exprs_seen c.in-Named.args _ c.is_empty.ensures)
    ∙ sym (type_in_scope s.types (meaning_of s x) x (has_exprs (exprs c.in-Named.args)))
    ∙ sym (ap (as_type s) (seen_named _ _ _ c.in-Named.is))
