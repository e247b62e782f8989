use Rattle.flat_form.proofs.Pushing.{pushed_type, pushed_type_is}
use Rattle.std.proofs.Common.{◌∙◌}
use Rattle.flat_form.proofs.lists.Flat.add_type.Goals as goal

pub returns-clause-adds : goal.returns-clause-adds
returns-clause-adds c = pushed_type c.args.self.now c.push.new.self c.args.node c.requires.flat c.requires.sound c.in_ok-push.ensures.ok

pub returns-clause-stands : goal.returns-clause-stands
returns-clause-stands c = pushed_type_is c.args.self.now c.push.new.self c.args.node c.in_ok-number.number c.requires.flat c.requires.sound c.in_ok-push.ensures.ok (c.in_ok-number.ensures ∙ c.len.ensures)
