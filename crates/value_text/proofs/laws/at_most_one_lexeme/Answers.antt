use Rattle.value_text.specs.OneLexemeLaws.{one_stands}
use Rattle.value_text.specs.DivisionLaws.{divided_spaced}
use Rattle.value_text.proofs.laws.at_most_one_lexeme.Goals as goal

pub returns : goal.returns
returns c text l m n k h g = let e = one_stands text l m n k h g in (e.lexemes, e.lengths)
