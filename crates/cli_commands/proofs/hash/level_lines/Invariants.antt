use Rattle.std.proofs.Common.{◌≡◌}
use Rattle.cli_commands.specs.Hash.{level_lines}
use Rattle.cli_commands.proofs.hash.level_lines.Given as goal

abbrev pub invariant-levels : goal.invariant-levels
invariant-levels l = l.lines.items ≡ level_lines l.cell l.level
