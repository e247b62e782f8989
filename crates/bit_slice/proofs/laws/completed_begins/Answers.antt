use Rattle.bit_slice.specs.Completion.{bits_from-completed}
use Rattle.bit_slice.proofs.laws.completed_begins.Goals as goal

pub returns : goal.returns
returns c = bits_from-completed
