use Rattle.std.proofs.Common.{◌≡◌, ◌++◌, drop}
use Rattle.cli_refusals.specs.Lines.{dotted}
use Rattle.cli_refusals.proofs.path_lines.add_path.Given as goal

abbrev pub invariant-parts : goal.invariant-parts
invariant-parts l =
    l.text.items ++ dotted (drop l.part-index l.part-items) ≡ l.fn.text.items ++ dotted l.fn.path.parts
