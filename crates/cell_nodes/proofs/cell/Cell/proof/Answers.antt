use Rattle.std.proofs.Common.{◌∙◌, ap, length}
use Rattle.cell_hash.specs.declared.ChildMark.{ChildMark}
use Rattle.cell_nodes.specs.ConstructedLaws.{length-hash, proof-layout}
use Rattle.cell_nodes.proofs.cell.Cell.proof.Goals as goal

pub of_kind-requires-clause-layout : goal.of_kind-requires-clause-layout
of_kind-requires-clause-layout c =
    rw c.in_ok-bits.ensures
    (proof-layout _ _ (ap (λ (m : ChildMark). length m.hash) c.mark.ensures ∙ length-hash c.args.child.now 0))
