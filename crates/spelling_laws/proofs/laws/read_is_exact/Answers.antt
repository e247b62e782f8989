use Rattle.spelling_laws.specs.OutcomeLaws.{read_is_exact}
use Rattle.spelling_laws.proofs.laws.read_is_exact.Goals as goal

pub returns : goal.returns
returns c = read_is_exact
