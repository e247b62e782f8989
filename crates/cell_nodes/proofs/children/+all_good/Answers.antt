use Rattle.cell_nodes.specs.GoodParts.{all_good-empty}
use Rattle.cell_nodes.proofs.children.+all_good.Goals as goal

pub returns-in-None : goal.returns-in-None
returns-in-None t c = all_good-empty _ c.in-None.ensures.cases
