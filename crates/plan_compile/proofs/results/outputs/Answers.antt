use Rattle.std.specs.Prelude.{option_to_list}
use Rattle.flat_form.specs.GrowthLaws.{adds_on}
use Rattle.plan_compile.specs.Views.{names_by}
use Rattle.plan_compile.proofs.Outputs.{output_turn, outputs_done, outputs_plain}
use Rattle.plan_compile.proofs.results.outputs.Goals as goal

pub loop-param-preserved : goal.loop-param-preserved
loop-param-preserved c =
    let f = c.loop-param.flat in
    let g = c.output.new.flat in
    let one = option_to_list c.in_ok-added.added in
    record {
      adds = adds_on c.args.flat.now f g c.loop-param.invariant.adds c.in_ok-added.ensures.adds;
      plain = outputs_plain f g c.loop-param.found c.keep_output.new.found one _ c.in_ok-added.ensures.adds c.loop-param.invariant.plain c.in_ok-added.ensures.is c.in_ok-keep_output.ensures;
      same = output_turn f g (names_by c.args.names.now) c.args.params.now c.loop-param.param-index c.param-item.result c.loop-param.found c.keep_output.new.found one _
          c.in_ok-added.ensures.adds c.loop-param.invariant.plain c.in_ok-added.ensures.is c.loop-param-test.true c.param-item.is c.in_ok-keep_output.ensures c.loop-param.invariant.same;
    }

pub returns-clause-are : goal.returns-clause-are
returns-clause-are c =
    outputs_done c.loop-param.flat (names_by c.args.names.now) c.args.params.now c.loop-param.param-index c.loop-param.found _
    c.loop-param-test.false c.loop-param.invariant.plain c.loop-param.invariant.same
