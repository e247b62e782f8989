use Rattle.cell_nodes.specs.PrunesGoodLaws.{prunes-good}
use Rattle.cell_nodes.proofs.laws.pruning_keeps_good.Goals as goal

pub returns : goal.returns
returns c = λ t p i g h l k. prunes-good t p i k g h l
