use Rattle.std.proofs.Common.{◌≡◌, take, map}
use Rattle.tlb_syntax.specs.View.{exprs}
use Rattle.kind_terms.specs.Params.{inputs}
use Rattle.kind_declarations.specs.Faults.{verdict}
use Rattle.kind_declarations.specs.HeadingViews.{all_params, heading_by}
use Rattle.kind_declarations.proofs.Params.{params_from}
use Rattle.kind_declarations.proofs.headings.judge_params.Given as goal

abbrev pub invariant-loop-at : goal.invariant-loop-at
invariant-loop-at l = record {
  passed : verdict (params_from (heading_by l.earlier l.constructor) l.constructor.params l.at) ≡ verdict (all_params (heading_by l.earlier l.constructor));
  known : map (λ n. n.now) l.inputs ≡ inputs (exprs (take l.at l.constructor.params));
}
