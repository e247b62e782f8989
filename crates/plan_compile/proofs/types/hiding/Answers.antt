use Rattle.plan_compile.specs.Views.{names_by}
use Rattle.plan_compile.proofs.Arguments.{not_hidden}
use Rattle.plan_compile.proofs.types.hiding.Goals as goal

pub returns-else-is_empty : goal.returns-else-is_empty
returns-else-is_empty c = not_hidden (names_by c.args.names.now) c.args.name.now c.args.args.now c.is_empty.result c.is_empty.ensures c.if-is_empty.false
