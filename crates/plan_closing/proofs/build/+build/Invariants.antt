use Rattle.std.proofs.Common.{◌≡◌, ◌+◌, ◌*◌, drop, map}
use Rattle.core_form.specs.Closing.{closing_args}
use Rattle.closed_type.specs.View.{closed_arg}
use Rattle.flat_form.specs.Stands.{type_at, args_in}
use Rattle.flat_form.specs.Sound.{ArgsAreSound}
use Rattle.plan_closing.specs.Counted.{scope_of}
use Rattle.plan_closing.proofs.Building.{prefixed}
use Rattle.plan_closing.proofs.build.+build.Given as goal

abbrev pub decreases-build_type : goal.decreases-build_type
decreases-build_type l = 3 * l.ty + 2

abbrev pub decreases-build_arg : goal.decreases-build_arg
decreases-build_arg l = 3 * l.top

abbrev pub decreases-build_args : goal.decreases-build_args
decreases-build_args l = 3 * l.top + 1

abbrev pub invariant-build_args-loop-arg : goal.invariant-build_args-loop-arg
invariant-build_args-loop-arg l = record {
  sound : ArgsAreSound l.flat l.top (drop l.arg-index l.args);
  same : prefixed (map closed_arg l.built) (closing_args (args_in l.flat (type_at l.flat) (drop l.arg-index l.args)) (scope_of l.env l.types))
      ≡ closing_args (args_in l.flat (type_at l.flat) l.args) (scope_of l.env l.types);
}
