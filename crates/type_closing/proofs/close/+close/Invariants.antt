use Rattle.std.proofs.Common.{◌≡◌, map, take}
use Rattle.closed_type.specs.View.{closed_arg}
use Rattle.type_closing.proofs.Arguments.{argument}
use Rattle.type_closing.proofs.close.+close.Given as goal

abbrev pub invariant-close_args-loop-arg : goal.invariant-close_args-loop-arg
invariant-close_args-loop-arg l = map closed_arg l.closed ≡ map argument (take l.arg-index l.args)
