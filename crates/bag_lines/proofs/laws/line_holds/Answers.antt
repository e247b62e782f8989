use Rattle.bag_lines.proofs.Lines.{line-holds}
use Rattle.bag_lines.proofs.laws.line_holds.Goals as goal

pub returns : goal.returns
returns c = line-holds c.written_bag_holds.ensures c.width_is_least.ensures.least
