use Rattle.std.proofs.Common.{arith, length, map, string_bytes}
use Rattle.std.proofs.lemmas.List.{length-map}
use Rattle.cli_commands.proofs.Words.{prove-taken}
use Rattle.cli_commands.proofs.commands.prove_slots.Goals as goal

pub returns : goal.returns
returns c =
    prove-taken c.min-most.result (length (map string_bytes c.args.words.now))
    (grind (arith, c.max.ensures, c.min-most.ensures, length-map c.args.words.now string_bytes))
