use Rattle.std.proofs.Common.{◌≡◌, ◌++◌, map, drop}
use Rattle.std.specs.Prelude.{All}
use Rattle.tlb_syntax.specs.View.{exprs}
use Rattle.schema_core.specs.CoreOf.{outputs_of}
use Rattle.flat_form.specs.Growth.{Adds}
use Rattle.flat_form.specs.Sound.{IsPlainNumber}
use Rattle.flat_form.specs.Stands.{expr_at}
use Rattle.plan_compile.specs.Views.{names_by}
use Rattle.plan_compile.proofs.results.outputs.Given as goal

abbrev pub invariant-loop-param : goal.invariant-loop-param
invariant-loop-param l = record {
  adds : Adds l.fn.flat l.flat;
  plain : All (IsPlainNumber l.flat) l.found;
  same : map (expr_at l.flat) l.found ++ outputs_of (names_by l.names) (exprs (drop l.param-index l.params))
      ≡ outputs_of (names_by l.names) (exprs l.params);
}
