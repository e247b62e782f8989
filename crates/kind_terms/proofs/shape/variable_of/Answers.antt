use Rattle.kind_terms.specs.SumLaws.{three_terms, two_terms}
use Rattle.kind_terms.proofs.shape.variable_of.Goals as goal
use Rattle.kind_terms.proofs.shape.variable_of.Goals.{else-is_empty-via-then-is_empty+else-is_literal, else-is_empty-via-else-is_empty}

pub returns-else-is_empty : goal.returns-else-is_empty
returns-else-is_empty c = elim c.else-is_empty.branch [
  | else-is_empty-via-then-is_empty+else-is_literal w ↦
      two_terms _ _ _ _ _ _ _ c.in-Sum.is c.is_empty.ensures w.if-is_empty.true w.get.ensures w.is_literal.ensures w.if-is_literal.false
  | else-is_empty-via-else-is_empty w ↦ three_terms _ _ _ _ _ c.in-Sum.is c.is_empty.ensures w.if-is_empty.false
]
