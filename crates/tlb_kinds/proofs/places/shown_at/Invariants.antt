use Rattle.std.proofs.Common.{◌≡◌, ◌≤◌, ◌+◌, ◌-◌, [], drop}
use Rattle.tlb_syntax.specs.View.{items}
use Rattle.kind_terms.specs.Positions.{first_position}
use Rattle.tlb_kinds.specs.Spots.{path_to}
use Rattle.tlb_kinds.proofs.places.shown_at.Given as goal

abbrev pub invariant-loop-index : goal.invariant-loop-index
invariant-loop-index l = record {
  bounded : l.unnamed ≤ l.index;
  ahead : l.index ≤ l.at;
  path : path_to (items (drop l.index l.items)) (record { path = []; number = l.index + 1; unnamed = l.unnamed }) (l.at - l.index)
      ≡ path_to (items l.items) (first_position []) l.at;
}
