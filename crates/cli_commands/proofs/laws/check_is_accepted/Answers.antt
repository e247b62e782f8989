use Rattle.cli_commands.proofs.Checked.{checks-accepted}
use Rattle.cli_commands.proofs.laws.check_is_accepted.Goals as goal

pub returns : goal.returns
returns c = checks-accepted c.gives_accepted.ensures
