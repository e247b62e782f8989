use Rattle.flat_form.proofs.Pushing.{pushed_name, pushed_name_is}
use Rattle.std.proofs.Common.{◌∙◌}
use Rattle.flat_form.proofs.lists.Flat.add_name.Goals as goal

pub returns-clause-adds : goal.returns-clause-adds
returns-clause-adds c = pushed_name c.args.self.now c.push.new.self c.args.name c.requires c.in_ok-push.ensures.ok

pub returns-clause-stands : goal.returns-clause-stands
returns-clause-stands c = pushed_name_is c.args.self.now c.push.new.self c.args.name c.in_ok-at.at c.in_ok-push.ensures.ok (c.in_ok-at.ensures ∙ c.len.ensures)
