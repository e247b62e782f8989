use Rattle.tlb_syntax.specs.View.{expr}
use Rattle.kind_declarations.specs.Views.{item_context}
use Rattle.kind_declarations.proofs.NumberNodes.{output_nodes_of, same_expected}
use Rattle.kind_declarations.proofs.scope.Scope.judge_output.Goals as goal

pub returns : goal.returns
returns c =
    let a = item_context c.args.self.now in
    rw (output_nodes_of (expr c.args.e.now) a _) (same_expected _ _ a _ _ _ c.output.ensures c.judge_use.ensures)
