-- What the program keeps of chosen paths.
use Rattle.std.specs.Prelude.{List, map}
use Rattle.std.specs.Borrow.{Bor}
use Rattle.typed_value.specs.Paths.{Stride, named, item, keyed}
use Rattle.typed_value.specs.View.{stride}
use Rattle.typed_value.specs.declared.path.Step.{Step}
use Rattle.pruned_proof.specs.Wanted.{Rests}
use Rattle.pruned_proof.specs.declared.wanted.Wanted.{Wanted}
use Rattle.pruned_proof.specs.declared.wanted.Reached.{Reached}
use Rattle.pruned_proof.specs.declared.wanted.Reached.TheVariants.{Field, Item, Key}

abbrev pub reached : Reached → Stride
reached (Field name) = named name.now
reached (Item i) = item i
reached (Key key) = keyed key.now

abbrev pub rest_of : Bor (List Step) → List Stride
rest_of steps = map stride steps.now

abbrev pub rests_of : Wanted → Rests
rests_of w = map rest_of w.rests.items
