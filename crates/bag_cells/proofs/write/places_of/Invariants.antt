use Rattle.std.proofs.Common.{◌≡◌, length}
use Rattle.bag_cells.specs.Listed.{ArePlaces}
use Rattle.bag_cells.proofs.write.places_of.Given as goal

abbrev pub invariant-numbers : goal.invariant-numbers
invariant-numbers l = ArePlaces l.places.items l.order l.i × (length l.places.items ≡ l.count)
