use Rattle.std.proofs.Common.{◌≡◌, drop, length, map}
use Rattle.tlb_syntax.specs.View.{constructor, exprs}
use Rattle.flat_form.specs.Growth.{Adds}
use Rattle.flat_form.specs.Parts.{append_args, args_so_far}
use Rattle.flat_form.specs.Sound.{ArgsAreSound}
use Rattle.schema_core.specs.CoreOf.{args_of}
use Rattle.plan_compile.specs.Views.{names_by}
use Rattle.plan_compile.proofs.types.+compile.Given as goal

abbrev pub invariant-compile_args-loop-arg : goal.invariant-compile_args-loop-arg
invariant-compile_args-loop-arg l = record {
  adds : Adds l.fn.flat l.flat;
  sound : ArgsAreSound l.flat (length l.flat.types) l.made;
  same : append_args (args_so_far l.flat l.made)
      (args_of (map constructor l.types) (names_by l.names) (drop l.place l.kinds) (exprs (drop l.arg-index l.args)))
      ≡ args_of (map constructor l.types) (names_by l.names) l.kinds (exprs l.args);
}
