use Rattle.std.proofs.Common.{◌∙◌, ◌+◌, ◌-◌, ◌%◌, ◌^◌, ℕ, ap, arith}
use Rattle.cell_nodes.proofs.Steps.{stub-layout, stub-shallow, stub-count}
use Rattle.cell_nodes.proofs.cell.Cell.pruned_at.Goals as goal

pub pruned_data-requires : goal.pruned_data-requires
pruned_data-requires c =
    rw c.as_slice.ensures.value (stub-count c.args.of.now (c.args.level - 1) _ (omega arith) c.in_ok-pairs.ensures)

pub of_shallow-requires-clause-layout : goal.of_shallow-requires-clause-layout
of_shallow-requires-clause-layout c =
    stub-layout c.args.of.now (c.args.level - 1) _ _ _ c.good.ensures (omega arith)
    (c.stub_mask-mask.ensures ∙ ap (λ (m : ℕ). m % 2 ^ (c.args.level - 1) + 2 ^ (c.args.level - 1)) c.mask.ensures.value)
    (c.as_slice.ensures.value ∙ c.in_ok-pairs.ensures) c.in_ok-bits.ensures

pub of_shallow-requires-clause-shallow : goal.of_shallow-requires-clause-shallow
of_shallow-requires-clause-shallow c =
    stub-shallow c.args.of.now (c.args.level - 1) _ _ _ c.good.ensures (omega arith)
    (c.stub_mask-mask.ensures ∙ ap (λ (m : ℕ). m % 2 ^ (c.args.level - 1) + 2 ^ (c.args.level - 1)) c.mask.ensures.value)
    (c.as_slice.ensures.value ∙ c.in_ok-pairs.ensures) c.in_ok-bits.ensures
