use Rattle.kind_declarations.proofs.FieldNodes.{named_twice, named_once}
use Rattle.kind_declarations.proofs.scope.Scope.judge_name.Goals as goal

pub returns-then-is_taken-clause-judged : goal.returns-then-is_taken-clause-judged
returns-then-is_taken-clause-judged c = named_twice _ _ _ _ c.is_taken.ensures c.if-is_taken.true

pub returns-clause-judged : goal.returns-clause-judged
returns-clause-judged c = named_once _ _ _ _ c.is_taken.ensures c.if-is_taken.false
