use Rattle.flat_form.specs.PartLaws.{type_args, type_arg_is}
use Rattle.flat_form.proofs.lists.Flat.push_type.Goals as goal

pub returns-clause-args : goal.returns-clause-args
returns-clause-args c = type_args c.args.self.now c.args.args.now c.push.new.self c.args.ty c.requires.args c.in_ok-push.ensures.ok c.requires.there

pub returns-clause-stands : goal.returns-clause-stands
returns-clause-stands c = type_arg_is c.args.self.now c.args.args.now c.push.new.self c.args.ty c.in_ok-push.ensures.ok
