use Rattle.std.proofs.Common.{◌≡◌, drop}
use Rattle.tlb_guard.specs.Numbering.{views}
use Rattle.schema_leads.specs.Tags.{cores}
use Rattle.accepted_schema.specs.Refusals.{of_tags}
use Rattle.tag_ambiguity.proofs.judge.judge_tags.Given as goal

abbrev pub invariant-loop-place : goal.invariant-loop-place
invariant-loop-place l = of_tags (cores (views l.constructors)) ≡ of_tags (drop l.place (cores (views l.constructors)))
