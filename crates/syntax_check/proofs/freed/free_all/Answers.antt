use Rattle.syntax_check.specs.Judge.{free_frame}
use Rattle.syntax_check.proofs.Lists.{over_more}
use Rattle.syntax_check.proofs.freed.free_all.Goals as goal

pub frames-preserved : goal.frames-preserved
frames-preserved c = over_more free_frame c.args.frames.now c.frames.frames c.frames.frame-index c.freed.result _ c.frames-test.true c.frames.auto.frames c.frames.invariant c.freed.ensures
