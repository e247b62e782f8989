use Rattle.std.proofs.Common.{◌≡◌, drop}
use Rattle.std.specs.List.{list_any}
use Rattle.tlb_syntax.specs.View.{exprs}
use Rattle.kind_terms.specs.Forms.{parts_of_all}
use Rattle.kind_rules.specs.Numbers.{is_variable_in}
use Rattle.kind_declarations.specs.Views.{scope_by}
use Rattle.kind_declarations.proofs.scope.Scope.+holds.Given as goal

abbrev pub invariant-hold_variable-loop-e : goal.invariant-hold_variable-loop-e
invariant-hold_variable-loop-e l =
    list_any (is_variable_in (scope_by l.self)) (parts_of_all (exprs (drop l.e-index l.es)))
    ≡ list_any (is_variable_in (scope_by l.self)) (parts_of_all (exprs l.es))
