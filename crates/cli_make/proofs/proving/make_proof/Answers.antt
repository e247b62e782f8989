use Rattle.std.proofs.Common.{refl}
use Rattle.cli_make.proofs.Same.{proof-same}
use Rattle.cli_make.proofs.proving.make_proof.Goals as goal

pub returns : goal.returns
returns c = proof-same _ _ _ _ _ _ _ _ refl c.in_ok-proof.ensures.cell c.make_again.ensures
