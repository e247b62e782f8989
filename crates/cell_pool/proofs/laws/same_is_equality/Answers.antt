use Rattle.cell_pool.specs.SameLaws.{same-equal, same-itself}
use Rattle.cell_pool.proofs.laws.same_is_equality.Goals as goal

pub returns : goal.returns
returns c = record { equal = same-equal; itself = same-itself }
