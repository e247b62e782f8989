use Rattle.path_knowledge.proofs.Items.{item-found}
use Rattle.path_knowledge.proofs.step.item.Goals as goal

pub returns : goal.returns
returns c = item-found c.at.result c.args.items.now c.args.i c.at.ensures
