use Rattle.bit_slice.specs.Completion.{completed-by_index}
use Rattle.bit_slice.proofs.laws.completed_by_index.Goals as goal

pub returns : goal.returns
returns c = completed-by_index
