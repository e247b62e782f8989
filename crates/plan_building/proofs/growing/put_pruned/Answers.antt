use Rattle.std.proofs.Common.{◌++◌, ◌∷◌, [], ap, refl, sym, ◌∙◌}
use Rattle.std.proofs.lemmas.Result.{err_from_is_err_and}
use Rattle.std.proofs.Common.{false}
use Rattle.std.proofs.lemmas.List.{append-nil}
use Rattle.cell_nodes.specs.Constructed.{pruned_of}
use Rattle.spelling.specs.Slices.{only_ref}
use Rattle.plan_building.proofs.Laying.{laid_more}
use Rattle.plan_building.proofs.growing.put_pruned.Goals as goal

pub returns-in_err-admit : goal.returns-in_err-admit
returns-in_err-admit c = λ h.
    let w = err_from_is_err_and c.from_residual.result c.from_residual.ensures.1 in
    rw (w.1, w.2)
    (c.in_err-admit.ensures.put h (only_ref (pruned_of c.args.hidden.hash c.args.hidden.depth)) false refl refl)

pub returns : goal.returns
returns c = λ h.
    c.in_ok-admit.ensures.put h (only_ref (pruned_of c.args.hidden.hash c.args.hidden.depth)) false refl refl
    ∙ laid_more (only_ref (pruned_of c.args.hidden.hash c.args.hidden.depth)) _ _
    (c.add_ref.ensures.bits ∙ sym (append-nil _)) (c.add_ref.ensures.refs ∙ ap (λ t. c.args.b.now.cell.refs ++ t ∷ []) c.in_ok-pruned.ensures.is) refl
