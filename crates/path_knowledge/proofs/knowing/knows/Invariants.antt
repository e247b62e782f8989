use Rattle.std.proofs.Common.{◌≡◌, drop, map}
use Rattle.pruning.specs.Knowing.{known}
use Rattle.typed_value.specs.View.{stride, value}
use Rattle.path_knowledge.proofs.knowing.knows.Given as goal

abbrev pub invariant-steps : goal.invariant-steps
invariant-steps l =
    known (value l.here) (map stride (drop l.step-index l.path.steps))
    ≡ known (value l.value) (map stride l.path.steps)
