use Rattle.std.proofs.Common.{◌≡◌, drop}
use Rattle.tlb_syntax.specs.View.{exprs}
use Rattle.kind_declarations.specs.Faults.{verdict}
use Rattle.kind_declarations.specs.Nodes.{output_nodes}
use Rattle.kind_declarations.specs.Views.{item_context}
use Rattle.kind_declarations.proofs.scope.Scope.judge_outputs.Given as goal

abbrev pub invariant-loop-param : goal.invariant-loop-param
invariant-loop-param l =
    verdict (output_nodes (exprs (drop l.param-index l.params)) (item_context l.self)) ≡ verdict (output_nodes (exprs l.params) (item_context l.self))
