use Rattle.flat_form.proofs.Pushing.{pushed_args}
use Rattle.flat_form.proofs.lists.Flat.add_arguments.Goals as goal

pub returns-clause-adds : goal.returns-clause-adds
returns-clause-adds c = pushed_args c.args.self.now c.append.new.self c.args.args c.requires c.in_ok-append.ensures
