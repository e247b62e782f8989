use Rattle.plan_compile.specs.Views.{names_by}
use Rattle.plan_compile.proofs.Outputs.{applied_input, long_sum_is}
use Rattle.plan_compile.proofs.results.input.Goals as goal

pub returns-else-is_empty : goal.returns-else-is_empty
returns-else-is_empty c =
    applied_input (names_by c.args.names.now) c.args.e.now c.in-Named.name c.in-Named.args c.is_empty.result c.in-Named.is c.is_empty.ensures c.if-is_empty.false

pub returns-else-is_empty-2 : goal.returns-else-is_empty-2
returns-else-is_empty-2 c =
    long_sum_is (names_by c.args.names.now) c.args.e.now c.in-Sum.variable c.in-Sum.literal c.in-Sum.more c.is_empty-in-Sum.result c.in-Sum.is c.is_empty-in-Sum.ensures c.if-is_empty-2.false
