use Rattle.std.proofs.Common.{subst, sym, List, []}
use Rattle.nat_solver.specs.Number.{Expr}
use Rattle.plan_compile.specs.Results.{AreOutputs}
use Rattle.plan_compile.specs.Views.{names_by}
use Rattle.plan_compile.proofs.Outputs.{no_output, sum_output}
use Rattle.plan_compile.proofs.results.output.Goals as goal

pub returns-in-Sum-clause-is : goal.returns-in-Sum-clause-is
returns-in-Sum-clause-is c =
    let P : List Expr → Type 0 = AreOutputs c.args.flat.now [] in
    subst P (sym (sum_output (names_by c.args.names.now) c.args.e.now c.in-Sum.field-0 c.in-Sum.field-1 c.in-Sum.field-2 c.in-Sum.is)) (no_output c.args.flat.now)
