-- `make N`: the main job on a message that is made from a number.
use Rattle.std.specs.Prelude.{[], ◌∷◌, codes, unwrap_or}
use Rattle.cli_make.specs.Make.{Makes, makes_once}
use Rattle.cli_commands.specs.Command.{Command, at}
use Rattle.cli_commands.specs.Slots.{count_of}
use Rattle.cli_commands.specs.declared.slot.Slot.TheVariants.{Count}

-- its one word writes a number
abbrev pub make : Command
make = record {
  word = codes "make";
  slots = λ count. Count ∷ [];
  Answers = λ words contents. Makes (unwrap_or (count_of (at words 0)) 0);
  answers_once = λ stages words contents. makes_once stages (unwrap_or (count_of (at words 0)) 0);
}
