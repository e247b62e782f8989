use Rattle.tlb_guard.specs.Numbering.{views}
use Rattle.tag_ambiguity.proofs.Pairs.{NoneBefore}
use Rattle.tag_ambiguity.proofs.judge.judge_types.Given as goal

abbrev pub invariant-loop-place : goal.invariant-loop-place
invariant-loop-place l = NoneBefore (views l.marks.constructors.now) l.place
