use Rattle.std.proofs.Common.{◌≡◌, drop}
use Rattle.tlb_syntax.specs.View.{exprs}
use Rattle.type_index.specs.Index.{kinds_at}
use Rattle.type_closing.specs.Faults.{arguments_fault}
use Rattle.type_closing.specs.Views.{name_by}
use Rattle.type_closing.proofs.fault.+fault.Given as goal

abbrev pub invariant-arguments_fault-loop-place : goal.invariant-arguments_fault-loop-place
invariant-arguments_fault-loop-place l =
    arguments_fault (kinds_at l.types) (name_by l.holder) (drop l.place l.kinds) (exprs (drop l.place l.args))
    ≡ arguments_fault (kinds_at l.types) (name_by l.holder) l.kinds (exprs l.args)
