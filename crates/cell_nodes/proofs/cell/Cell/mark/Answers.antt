use Rattle.std.proofs.Common.{◌∙◌, ap, length, arith}
use Rattle.cell_nodes.specs.declared.cell.Node.{Node}
use Rattle.cell_nodes.proofs.Known.{above-length, mark-lowest, mark-above}
use Rattle.cell_nodes.proofs.cell.Cell.mark.Goals as goal

pub index-requires : goal.index-requires
index-requires c =
    let l = above-length _ _ c.args.i c.set_bits-place.result c.deref.ensures c.self.invariant c.requires c.set_bits-place.ensures.value in
    let e = ap (λ (n : Node). length n.above.items) c.deref-else-place-eq0.ensures in
    omega (arith, c.deref-else-place-eq0.result.now.above.ok.0)

pub returns-then-place-eq0 : goal.returns-then-place-eq0
returns-then-place-eq0 c =
    mark-lowest _ _ _ _ c.args.i _ c.deref.ensures c.deref-then-place-eq0.ensures c.self.invariant c.self.view_is c.requires
    c.set_bits-place.ensures.value c.if-place-eq0.true

pub returns-else-place-eq0 : goal.returns-else-place-eq0
returns-else-place-eq0 c =
    c.index.ensures
    ∙ mark-above _ _ _ _ c.args.i _ _ c.deref.ensures c.deref-else-place-eq0.ensures c.self.invariant c.self.view_is c.requires
    c.set_bits-place.ensures.value c.if-place-eq0.false
