use Rattle.plan_reading.proofs.shapes.shape.Goals as goal

pub returns-in_default-clause-sound : goal.returns-in_default-clause-sound
returns-in_default-clause-sound c = c.in_width.ensures.sound c.args.flat.now c.args.ty c.in_ok-laid.ensures.sound

pub returns-then-tests-clause-sound : goal.returns-then-tests-clause-sound
returns-then-tests-clause-sound c =
    c.in_width-then-tests.ensures.sound c.args.flat.now c.args.ty c.in_ok-shape.ensures.sound
