use Rattle.nat_solver.specs.View.{expr}
use Rattle.flat_form.specs.PartLaws.{check_ops, check_is}
use Rattle.flat_form.proofs.lists.Flat.push_check.Goals as goal

pub returns-clause-ops : goal.returns-clause-ops
returns-clause-ops c =
    check_ops c.args.self.now c.add_expression.new.self c.add_expression-2.new.self c.args.ops.now c.push.new.self c.in_ok-left.left c.in_ok-right.right c.args.place c.args.op (expr c.args.left) (expr c.args.right)
    c.in_ok-left.ensures.adds c.in_ok-right.ensures.adds c.requires.ops c.in_ok-push.ensures.ok c.in_ok-left.ensures.there c.in_ok-left.ensures.stands c.in_ok-right.ensures.there c.in_ok-right.ensures.stands c.requires.left c.requires.right

pub returns-clause-stands : goal.returns-clause-stands
returns-clause-stands c =
    check_is c.args.self.now c.add_expression.new.self c.add_expression-2.new.self c.args.ops.now c.push.new.self c.in_ok-left.left c.in_ok-right.right c.args.place c.args.op (expr c.args.left) (expr c.args.right)
    c.requires.flat c.in_ok-left.ensures.adds c.in_ok-right.ensures.adds c.requires.ops c.in_ok-push.ensures.ok c.in_ok-left.ensures.there c.in_ok-left.ensures.stands c.in_ok-right.ensures.stands
