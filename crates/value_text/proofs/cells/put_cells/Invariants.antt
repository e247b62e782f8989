use Rattle.std.proofs.Common.{◌≡◌, ◌++◌, drop, map}
use Rattle.value_text.specs.Text.{cell, more}
use Rattle.value_text.specs.Tokens.{written}
use Rattle.value_text.proofs.cells.put_cells.Given as goal

abbrev pub invariant-cells : goal.invariant-cells
invariant-cells l =
    l.text.items ++ written (more (map cell (drop l.shown-index l.cells))) ≡ l.fn.text.items ++ written (more (map cell l.cells))
