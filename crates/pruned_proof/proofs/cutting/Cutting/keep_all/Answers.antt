use Rattle.std.proofs.Common.{◌++◌, ◌∙◌, sym, ap, List}
use Rattle.std.proofs.lemmas.List.{append-nil}
use Rattle.cell_nodes.specs.declared.tree.Tree.{Tree}
use Rattle.pruned_proof.proofs.cutting.Cutting.keep_all.Goals as goal

pub returns-clause-ok : goal.returns-clause-ok
returns-clause-ok c =
    let made = c.refs.self.made.items in (
      c.in_default.ensures,
      sym (append-nil made) ∙ ap (λ (z : List Tree). made ++ z) (sym c.in_default.ensures) ∙ c.refs.invariant,
    )
