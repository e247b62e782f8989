use Rattle.flat_form.proofs.Pushing.{pushed_expr, pushed_expr_is}
use Rattle.std.proofs.Common.{◌∙◌}
use Rattle.flat_form.proofs.lists.Flat.add_expression.Goals as goal

pub returns-clause-adds : goal.returns-clause-adds
returns-clause-adds c = pushed_expr c.args.self.now c.push.new.self c.args.expression c.requires c.in_ok-push.ensures.ok

pub returns-clause-stands : goal.returns-clause-stands
returns-clause-stands c = pushed_expr_is c.args.self.now c.push.new.self c.args.expression c.in_ok-at.at c.in_ok-push.ensures.ok (c.in_ok-at.ensures ∙ c.len.ensures)
