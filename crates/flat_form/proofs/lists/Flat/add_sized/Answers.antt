use Rattle.std.proofs.Common.{ap, ◌∙◌}
use Rattle.nat_solver.specs.Number.{unknowns}
use Rattle.flat_form.specs.GrowthLaws.{on_ok, adds_on}
use Rattle.flat_form.proofs.lists.Flat.add_sized.Goals as goal

pub add_type-requires-clause-sound : goal.add_type-requires-clause-sound
add_type-requires-clause-sound c = c.sized_node.ensures.sound _ _ (record { there = c.in_ok-number.ensures.there; plain = ap unknowns c.in_ok-number.ensures.stands ∙ c.requires.plain })

pub returns-clause-adds : goal.returns-clause-adds
returns-clause-adds c = on_ok c.add_type.result (adds_on c.args.self.now c.add_expression.new.self c.add_type.new.self c.in_ok-number.ensures.adds) c.add_type.ensures.adds
