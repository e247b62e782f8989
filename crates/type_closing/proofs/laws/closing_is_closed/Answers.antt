use Rattle.type_closing.specs.ClosingLaws.{closing_is_closed}
use Rattle.type_closing.proofs.laws.closing_is_closed.Goals as goal

pub returns : goal.returns
returns c = closing_is_closed
