use Rattle.std.proofs.Common.{map}
use Rattle.flat_form.specs.Stands.{input_of}
use Rattle.plan_compile.specs.Views.{names_by}
use Rattle.plan_compile.proofs.Outputs.{input_turn, inputs_done}
use Rattle.plan_compile.proofs.results.inputs.Goals as goal

pub loop-param-preserved : goal.loop-param-preserved
loop-param-preserved c =
    input_turn (names_by c.args.names.now) c.args.params.now c.loop-param.param-index c.param-item.result (map input_of c.loop-param.found) _ _ _
    c.loop-param-test.true c.param-item.is c.input.ensures c.in_ok-keep_input.ensures c.loop-param.invariant

pub returns : goal.returns
returns c = inputs_done (names_by c.args.names.now) c.args.params.now c.loop-param.param-index (map input_of c.loop-param.found) _ c.loop-param-test.false c.loop-param.invariant
