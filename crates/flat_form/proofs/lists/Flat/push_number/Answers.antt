use Rattle.nat_solver.specs.View.{expr}
use Rattle.flat_form.specs.PartLaws.{number_args, number_is}
use Rattle.flat_form.proofs.lists.Flat.push_number.Goals as goal

pub returns-clause-args : goal.returns-clause-args
returns-clause-args c =
    number_args c.args.self.now c.add_expression.new.self c.args.args.now c.push.new.self c.in_ok-number.number (expr c.args.number)
    c.in_ok-number.ensures.adds c.requires.args c.in_ok-push.ensures.ok c.in_ok-number.ensures.there c.in_ok-number.ensures.stands c.requires.plain

pub returns-clause-stands : goal.returns-clause-stands
returns-clause-stands c =
    number_is c.args.self.now c.add_expression.new.self c.args.args.now c.push.new.self c.in_ok-number.number (expr c.args.number)
    c.requires.flat c.in_ok-number.ensures.adds c.requires.args c.in_ok-push.ensures.ok c.in_ok-number.ensures.stands
