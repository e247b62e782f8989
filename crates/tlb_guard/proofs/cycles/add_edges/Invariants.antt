use Rattle.std.proofs.Common.{◌≡◌, ◌++◌, map, drop, Some}
use Rattle.std.specs.Prelude.{All}
use Rattle.tlb_syntax.specs.Tree.{SchemaView}
use Rattle.tlb_guard.specs.Facts.{holds}
use Rattle.tlb_guard.specs.Numbering.{place_of, word_at}
use Rattle.tlb_guard.specs.Views.{IsWithin, exposed_in}
use Rattle.tlb_guard.specs.Edges.{IsNumbered, edges_by, type_edge}
use Rattle.tlb_guard.proofs.cycles.add_edges.Given as goal

abbrev pub invariant-loop-exposure : goal.invariant-loop-exposure
invariant-loop-exposure l = record {
  edges : (s : SchemaView) → map (type_edge s) l.edges ++ edges_by (word_at s l.from) l.constructor (exposed_in s (holds l.exposed) (drop l.exposure-index l.exposures))
      ≡ map (type_edge s) l.fn.edges ++ edges_by (word_at s l.from) l.constructor (exposed_in s (holds l.exposed) l.exposures);
  numbered : (s : SchemaView) → place_of s (word_at s l.from) ≡ Some l.from → All (IsWithin s) l.exposures → All (IsNumbered s) l.fn.edges → All (IsNumbered s) l.edges;
}
