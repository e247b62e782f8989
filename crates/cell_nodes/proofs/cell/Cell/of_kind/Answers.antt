use Rattle.std.proofs.Common.{refl, arith}
use Rattle.std.proofs.lemmas.Result.{err_from_is_err_and}
use Rattle.cell_nodes.proofs.Known.{deepest-kept}
use Rattle.cell_nodes.proofs.cell.Cell.of_kind.Goals as goal

pub of_parts-requires-clause-shallow : goal.of_parts-requires-clause-shallow
of_parts-requires-clause-shallow c =
    let d = deepest-kept c.args.kind c.args.bits c.args.children.now c.node_depths-depths.result (rw c.slice-2.ensures at c.node_depths-depths.ensures) in
    omega arith

pub returns-then-max-gt-DEEPEST-clause-too_deep : goal.returns-then-max-gt-DEEPEST-clause-too_deep
returns-then-max-gt-DEEPEST-clause-too_deep c =
    let d = deepest-kept c.args.kind c.args.bits c.args.children.now c.node_depths-depths.result (rw c.slice-2.ensures at c.node_depths-depths.ensures) in
    (λ _. omega arith, λ _. refl)

pub returns-in_err-cell-clause-too_deep : goal.returns-in_err-cell-clause-too_deep
returns-in_err-cell-clause-too_deep c =
    let d = deepest-kept c.args.kind c.args.bits c.args.children.now c.node_depths-depths.result (rw c.slice-2.ensures at c.node_depths-depths.ensures) in
    let p = err_from_is_err_and c.from_residual.result c.from_residual.ensures.1 in
    rw (p.1, p.2) (λ e. absurd (cc), λ deep. absurd (omega arith))
