use Rattle.typed_value.proofs.Items.{item-found}
use Rattle.typed_value.proofs.step.item.Goals as goal

pub returns : goal.returns
returns c = item-found c.at.result c.args.items.now c.args.i c.at.ensures
