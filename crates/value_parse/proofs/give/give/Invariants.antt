use Rattle.std.proofs.Common.{◌≡◌, length}
use Rattle.typed_value.specs.View.{value}
use Rattle.value_grammar.specs.Steps.{give}
use Rattle.value_parse.specs.View.{frames}
use Rattle.value_parse.proofs.give.give.Given as goal

abbrev pub invariant-frames : goal.invariant-frames
invariant-frames l = give (value l.given) (frames l.below.items) ≡ give (value l.initial.given) (frames l.initial.below.items)

abbrev pub decreases-frames : goal.decreases-frames
decreases-frames l = length l.below.items
