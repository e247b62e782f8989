use Rattle.cli_commands.specs.Commands.{command_of}
use Rattle.cli_commands.proofs.laws.each_command_answers_once.Goals as goal

pub returns : goal.returns
returns c verb = (command_of verb).answers_once c.each_stage_answers_once.ensures
