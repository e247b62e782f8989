use Rattle.std.proofs.Common.{◌≡◌, drop}
use Rattle.std.specs.Prelude.{slice_get}
use Rattle.tlb_guard.specs.Numbering.{views}
use Rattle.schema_leads.specs.Tags.{cores}
use Rattle.tag_ambiguity.specs.Pairs.{against_later}
use Rattle.tag_ambiguity.proofs.judge.judge_against.Given as goal

abbrev pub invariant-loop-second : goal.invariant-loop-second
invariant-loop-second l =
    against_later (cores (views l.marks.constructors.now)) (slice_get (cores (views l.marks.constructors.now)) l.first) l.others
    ≡ against_later (cores (views l.marks.constructors.now)) (slice_get (cores (views l.marks.constructors.now)) l.first) (drop l.second-index l.others)
