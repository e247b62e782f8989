use Rattle.std.proofs.Common.{◌∙◌, ◌++◌, ◌∷◌, [], ap}
use Rattle.cell_hash.specs.declared.ChildMark.{ChildMark}
use Rattle.cell_nodes.proofs.Steps.{bit_set, bit_unset, on_ok, within-set, within-unset}
use Rattle.cell_nodes.proofs.exotic.add_level.Goals as goal

pub returns-then-not-has_next : goal.returns-then-not-has_next
returns-then-not-has_next c =
    within-unset c.args.cell.now c.args.i _
    (rw c.mask-mask.ensures.value at (bit_unset _ c.mask-mask.result c.args.i c.has_next.ensures c.if-not-has_next.true))
    c.requires.before

pub returns : goal.returns
returns c =
    on_ok c.push_mark.result
    (λ pushed. within-set c.args.cell.now c.args.i _ _
    (rw c.mask-mask.ensures.value at (bit_set _ c.mask-mask.result c.args.i c.has_next.ensures c.if-not-has_next.false))
    c.requires.before (pushed ∙ ap (λ (m : ChildMark). c.args.found.now.items ++ m ∷ []) c.mark.ensures))
    c.push_mark.ensures
