use Rattle.spelling_laws.specs.OutcomeLaws.{read_or_stuck}
use Rattle.spelling_laws.proofs.laws.read_or_stuck.Goals as goal

pub returns : goal.returns
returns c = read_or_stuck
