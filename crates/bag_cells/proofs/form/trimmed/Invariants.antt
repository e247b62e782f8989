use Rattle.std.proofs.Common.{◌≡◌, ◌≤◌, length, take}
use Rattle.bag_cells.specs.Form.{trimmed}
use Rattle.bag_cells.proofs.form.trimmed.Given as goal

abbrev pub invariant-white : goal.invariant-white
invariant-white l = record {
  within : l.end ≤ length l.text;
  same : trimmed l.text ≡ trimmed (take l.end l.text);
}

abbrev pub decreases-white : goal.decreases-white
decreases-white l = l.end
