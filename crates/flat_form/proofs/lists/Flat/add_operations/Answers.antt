use Rattle.flat_form.proofs.Pushing.{pushed_ops}
use Rattle.flat_form.proofs.lists.Flat.add_operations.Goals as goal

pub returns-clause-adds : goal.returns-clause-adds
returns-clause-adds c =
    pushed_ops c.args.self.now c.append.new.self c.args.ops c.requires.flat c.in_ok-append.ensures c.requires.sound
