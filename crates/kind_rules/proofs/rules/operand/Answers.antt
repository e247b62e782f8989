use Rattle.kind_rules.proofs.SumForms.{operand_of_sum}
use Rattle.kind_rules.proofs.rules.operand.Goals as goal

pub returns-in-Sum : goal.returns-in-Sum
returns-in-Sum c = operand_of_sum _ _ _ _ c.in-Sum.is
