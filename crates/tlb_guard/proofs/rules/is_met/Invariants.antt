use Rattle.std.proofs.Common.{◌≡◌, take, true}
use Rattle.std.specs.List.{list_all}
use Rattle.tlb_guard.specs.Facts.{holds}
use Rattle.tlb_guard.proofs.rules.is_met.Given as goal

abbrev pub invariant-loop-fact : goal.invariant-loop-fact
invariant-loop-fact l = list_all (holds l.found) (take l.fact-index l.body) ≡ true
