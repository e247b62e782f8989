use Rattle.flat_form.specs.PartLaws.{output_args, output_is}
use Rattle.flat_form.proofs.lists.Flat.push_output.Goals as goal

pub returns-clause-args : goal.returns-clause-args
returns-clause-args c = output_args c.args.self.now c.args.args.now c.push.new.self c.args.slot c.requires.args c.in_ok-push.ensures.ok

pub returns-clause-stands : goal.returns-clause-stands
returns-clause-stands c = output_is c.args.self.now c.args.args.now c.push.new.self c.args.slot c.in_ok-push.ensures.ok
