use Rattle.std.proofs.Common.{◌≡◌, ℕ, ◌<◌, length, get_or}
use Rattle.bag_cells.specs.Cells.{start}
use Rattle.bag_cells.specs.Known.{IsCell}
use Rattle.bag_cells.proofs.cells.starts_of.Given as goal

abbrev pub invariant-cells : goal.invariant-cells
invariant-cells l = record {
  count : length l.starts.items ≡ l.i;
  places : (j : ℕ) → j < l.i → get_or l.starts.items j 0 ≡ start l.raw j;
  cell_each : (j : ℕ) → j < l.i → IsCell l.raw j (start l.raw j);
  place_is : l.place ≡ start l.raw l.i;
}
