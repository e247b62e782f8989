use Rattle.std.proofs.Common.{◌∙◌, ap, length}
use Rattle.cell_hash.specs.declared.ChildMark.{ChildMark}
use Rattle.cell_nodes.specs.ConstructedLaws.{length-hash, update-layout}
use Rattle.cell_nodes.proofs.cell.Cell.update.Goals as goal

pub of_kind-requires-clause-layout : goal.of_kind-requires-clause-layout
of_kind-requires-clause-layout c =
    rw c.in_ok-bits.ensures
    (update-layout _ _ _ _ (ap (λ (m : ChildMark). length m.hash) c.mark.ensures ∙ length-hash c.args.old.now 0)
    (ap (λ (m : ChildMark). length m.hash) c.mark-2.ensures ∙ length-hash c.args.new.now 0))
