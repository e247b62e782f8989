use Rattle.std.proofs.Common.{◌++◌, ◌∷◌, [], ap, refl, ◌∙◌}
use Rattle.std.proofs.lemmas.Result.{err_from_is_err_and}
use Rattle.std.proofs.Common.{false}
use Rattle.cell_nodes.specs.Constructed.{pruned_of}
use Rattle.plan_building.specs.StopsLaws.{goes_on, stops_on}
use Rattle.plan_building.proofs.Laying.{laid_more, one_bit}
use Rattle.plan_building.proofs.growing.put_hidden_root.Goals as goal

pub returns-in_err-admit : goal.returns-in_err-admit
returns-in_err-admit c = λ h.
    let w = err_from_is_err_and c.from_residual.result c.from_residual.ensures.1 in
    rw (w.1, w.2) (stops_on h _ _ _ (c.in_err-admit.ensures.put h
    (record { bits = 1 ∷ []; refs = pruned_of c.args.hidden.hash c.args.hidden.depth ∷ [] }) false refl refl))

pub returns : goal.returns
returns c = λ h.
    goes_on _ _ _ (c.in_ok-admit.ensures.put h
    (record { bits = 1 ∷ []; refs = pruned_of c.args.hidden.hash c.args.hidden.depth ∷ [] }) false refl refl
    ∙ laid_more (record { bits = 1 ∷ []; refs = pruned_of c.args.hidden.hash c.args.hidden.depth ∷ [] }) _ _
    (c.add_ref.ensures.bits ∙ c.add_number.ensures.bits ∙ ap (λ z. c.args.b.now.cell.bits ++ z) one_bit)
    (c.add_ref.ensures.refs ∙ (λ i. c.add_number.ensures.refs i ++ c.in_ok-cell.ensures.is i ∷ [])) refl)
