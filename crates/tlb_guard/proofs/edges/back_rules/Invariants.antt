use Rattle.std.proofs.Common.{◌≡◌, map, take}
use Rattle.tlb_guard.specs.Edges.{back_rule}
use Rattle.tlb_guard.proofs.edges.back_rules.Given as goal

abbrev pub invariant-loop-edge : goal.invariant-loop-edge
invariant-loop-edge l = l.rules ≡ map back_rule (take l.edge-index l.edges)
