use Rattle.std.proofs.Common.{◌≡◌, drop}
use Rattle.tlb_guard.specs.Numbering.{views}
use Rattle.schema_leads.specs.Tags.{cores}
use Rattle.tag_ambiguity.specs.Pairs.{pairs_at}
use Rattle.tag_ambiguity.proofs.judge.judge_members.Given as goal

abbrev pub invariant-loop-index : goal.invariant-loop-index
invariant-loop-index l =
    pairs_at (cores (views l.marks.constructors.now)) l.members ≡ pairs_at (cores (views l.marks.constructors.now)) (drop l.index l.members)
