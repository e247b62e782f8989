use Rattle.std.proofs.Common.{◌≡◌, ◌≤◌, drop}
use Rattle.closed_type.specs.View.{closed_args}
use Rattle.core_form.specs.Closed.{arg_nodes}
use Rattle.closed_type.specs.Nodes.{more}
use Rattle.closed_type.proofs.count.+count.Given as goal

abbrev pub invariant-count_args-loop-arg : goal.invariant-count_args-loop-arg
invariant-count_args-loop-arg l =
    (l.count ≤ 4097)
    × (more l.count (arg_nodes (closed_args (drop l.arg-index l.args))) ≡ more l.so_far (arg_nodes (closed_args l.args)))
