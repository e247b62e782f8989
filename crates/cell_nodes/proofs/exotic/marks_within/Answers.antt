use Rattle.std.proofs.Common.{◌∙◌, ◌++◌, ◌∷◌, [], List, ap}
use Rattle.cell_hash.specs.declared.ChildMark.{ChildMark}
use Rattle.cell_nodes.proofs.Steps.{within-first}
use Rattle.cell_nodes.proofs.exotic.marks_within.Goals as goal

pub levels-init : goal.levels-init
levels-init c =
    within-first c.args.cell.now _
    (c.in_ok-push_mark.ensures
    ∙ ap (λ (xs : List ChildMark). xs ++ c.mark.result ∷ []) c.new-found.ensures.items
    ∙ ap (λ (m : ChildMark). m ∷ []) c.mark.ensures)
