use Rattle.pruning_laws.specs.LaidLaws.{reading_is_laid}
use Rattle.pruning_laws.proofs.laws.reading_is_laid.Goals as goal

pub returns : goal.returns
returns c = reading_is_laid
