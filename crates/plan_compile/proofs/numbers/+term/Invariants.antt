use Rattle.std.proofs.Common.{◌≡◌, ◌++◌, map, take}
use Rattle.nat_solver.specs.View.{expr as number_view}
use Rattle.tlb_syntax.specs.View.{expr as expr_view}
use Rattle.plan_compile.specs.Terms.{term_of}
use Rattle.plan_compile.specs.Views.{names_by}
use Rattle.plan_compile.proofs.numbers.+term.Given as goal

abbrev pub invariant-add_terms-loop-added : goal.invariant-add_terms-loop-added
invariant-add_terms-loop-added l = map number_view l.sum
    ≡ map number_view l.fn.sum ++ map (term_of l.is_side (names_by l.names)) (map expr_view (take l.added-index l.terms))
