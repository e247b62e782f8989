use Rattle.std.proofs.Common.{refl}
use Rattle.cell_nodes.specs.declared.tree.Mode.TheVariants.{Whole}
use Rattle.strict_laws.proofs.laws.lax_has_one_tree.Goals as goal

pub returns : goal.returns
returns c = λ schema ok t v d tree.
    let k = c.lax_has_tree.ensures schema t v d tree in
    let range = c.lax_in_range.ensures schema t v d tree.good tree.reading in
    let whole = k.1.tree in (
      k.0,
      record {
        strict = k.1;
        only = λ e g r. c.one_tree.ensures Whole refl schema ok t v range e k.0 g whole.good r whole.reading;
      },
    )
