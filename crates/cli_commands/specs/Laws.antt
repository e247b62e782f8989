-- What holds of each command.
use Rattle.std.specs.Prelude.{ℕ, List}
use Rattle.cli_stages.specs.Stage.{IsStage}
use Rattle.cli_commands.specs.Commands.{CommandAnswers}
use Rattle.cli_commands.specs.declared.commands.Verb.{Verb}

-- it comes to exactly one answer for words and the bytes of files
abbrev pub EachCommandAnswersOnce : Type 0
EachCommandAnswersOnce = (verb : Verb) (words contents : List (List ℕ)) → IsStage (CommandAnswers verb words contents)
