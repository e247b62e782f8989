use Rattle.std.proofs.Common.{◌≡◌, ◌++◌, map, take, drop}
use Rattle.syntax_check.specs.Judge.{free_frame}
use Rattle.syntax_check.proofs.freed.free_all.Given as goal

abbrev pub invariant-frames : goal.invariant-frames
invariant-frames l = l.frames ≡ map free_frame (take l.frame-index l.initial.frames) ++ drop l.frame-index l.initial.frames
