use Rattle.proof_laws.specs.CellLaws.{proof_cell}
use Rattle.proof_laws.proofs.laws.proof_cell.Goals as goal

pub returns : goal.returns
returns c = proof_cell
