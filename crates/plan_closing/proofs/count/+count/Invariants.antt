use Rattle.std.proofs.Common.{◌≡◌, ◌+◌, ◌*◌, drop}
use Rattle.core_form.specs.Closing.{closing_args}
use Rattle.flat_form.specs.Stands.{type_at, args_in}
use Rattle.flat_form.specs.Sound.{ArgsAreSound}
use Rattle.plan_closing.specs.Counted.{counted_args, scope_of}
use Rattle.plan_closing.proofs.count.+count.Given as goal

abbrev pub decreases-count_type : goal.decreases-count_type
decreases-count_type l = 3 * l.ty + 2

abbrev pub decreases-count_arg : goal.decreases-count_arg
decreases-count_arg l = 3 * l.top

abbrev pub decreases-count_args : goal.decreases-count_args
decreases-count_args l = 3 * l.top + 1

abbrev pub invariant-count_args-loop-arg : goal.invariant-count_args-loop-arg
invariant-count_args-loop-arg l = record {
  sound : ArgsAreSound l.flat l.top (drop l.arg-index l.args);
  same : counted_args l.count (closing_args (args_in l.flat (type_at l.flat) (drop l.arg-index l.args)) (scope_of l.env l.types))
      ≡ counted_args l.so_far (closing_args (args_in l.flat (type_at l.flat) l.args) (scope_of l.env l.types));
}
