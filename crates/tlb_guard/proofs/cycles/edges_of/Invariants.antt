use Rattle.std.proofs.Common.{◌≡◌, ◌++◌, map, drop}
use Rattle.std.specs.Prelude.{All}
use Rattle.tlb_guard.specs.Facts.{holds}
use Rattle.tlb_guard.specs.Numbering.{views}
use Rattle.tlb_guard.specs.Views.{exposed_in}
use Rattle.tlb_guard.specs.Edges.{IsNumbered, edges_at, type_edge}
use Rattle.tlb_guard.proofs.cycles.edges_of.Given as goal

abbrev pub invariant-loop-number : goal.invariant-loop-number
invariant-loop-number l = record {
  edges : map (type_edge (views l.types)) l.edges
      ++ edges_at l.number (views (drop l.number l.types)) (map (exposed_in (views l.types) (holds l.exposed)) (drop l.number l.exposures))
      ≡ edges_at 0 (views l.types) (map (exposed_in (views l.types) (holds l.exposed)) l.exposures);
  numbered : All (IsNumbered (views l.types)) l.edges;
}
