use Rattle.bit_slice.specs.Completion.{completed-injective}
use Rattle.bit_slice.proofs.laws.completed_injective.Goals as goal

pub returns : goal.returns
returns c = completed-injective
