use Rattle.strict_laws.proofs.laws.lax_has_strict.Goals as goal

pub returns : goal.returns
returns c = λ s ok. c.lax_has_one_tree.ensures _ (c.accepted_is_buildable.ensures s ok)
