-- The first unguarded field, by what is found.
use Rattle.std.proofs.Common.{◌≡◌, Bool, List, length, map, ap, ◌∙◌, arith}
use Rattle.std.specs.Prelude.{All, find, option_map, slice_index_or}
use Rattle.std.proofs.lemmas.List.{length-map}
use Rattle.tlb_syntax.specs.Tree.{SchemaView}
use Rattle.tlb_syntax.specs.declared.tree.Constructor.{Constructor}
use Rattle.tlb_syntax.specs.View.{constructor}
use Rattle.kind_terms.specs.Words.{Word}
use Rattle.tlb_guard.specs.declared.edges.Edge.{Edge}
use Rattle.tlb_guard.specs.declared.exposures.Exposure.{Exposure}
use Rattle.tlb_guard.specs.Facts.{holds}
use Rattle.tlb_guard.specs.Numbering.{parameters_in, types_in, views, word_at}
use Rattle.tlb_guard.specs.DeclaredTypes.{Parameter}
use Rattle.tlb_guard.specs.Empty.{may_take_nothing}
use Rattle.tlb_guard.specs.Exposed.{exposed_by, exposed_parameters}
use Rattle.tlb_guard.specs.Views.{exposed_in, knowing}
use Rattle.tlb_guard.specs.Variables.{AreExposures}
use Rattle.tlb_guard.specs.Cycles.{first_from, first_unguarded}
use Rattle.tlb_guard.specs.Edges.{IsEdgeBelow, IsNumbered, edges_at, is_round_trip, index_by, type_edge}
use Rattle.tlb_guard.proofs.Numberings.{place_word}
use Rattle.tlb_guard.proofs.TypeEdges.{first_tied, known_is}

pub numbered_below : (cs : List Constructor) (edges : List Edge) → All (IsNumbered (views cs)) edges → All (IsEdgeBelow (length cs)) edges
numbered_below cs edges numbered k d lt =
    let s = views cs in
    let e = slice_index_or edges k d in
    let is = numbered k d lt in
    let size = length-map cs constructor in
    let a = place_word s (word_at s e.from) e.from is.0 in
    let b = place_word s (word_at s e.to) e.to is.1 in
    (omega (arith, a.0, size), omega (arith, b.0, size))

pub exposures_size : (cs : List Constructor) (empty : List Bool) (exposures : List (List Exposure)) → AreExposures (views cs) empty exposures → length exposures ≡ length cs
exposures_size cs empty exposures are =
    let s = views cs in
    let t = holds empty in
    let same = ap length (are t) in
    let a = length-map exposures (exposed_in s t) in
    let b = length-map s (exposed_by (knowing s empty t)) in
    let c = length-map cs constructor in
    omega (arith, same, a, b, c)

pub first_found : (s : SchemaView) (empty exposed : List Bool) (exposures : List (List Exposure)) (edges : List Edge) → AreExposures s empty exposures
    → ((x : Word) → types_in s (holds empty) x ≡ may_take_nothing s x) → ((p : Parameter) → parameters_in s (holds exposed) p ≡ exposed_parameters s p)
    → map (type_edge s) edges ≡ edges_at 0 s (map (exposed_in s (holds exposed)) exposures) → All (IsNumbered s) edges
    → option_map index_by (option_map (λ (e : Edge). e.at) (find (is_round_trip edges) edges)) ≡ first_unguarded s
unfolding first_unguarded
first_found s empty exposed exposures edges are types parameters is numbered =
    let k = knowing s empty (holds exposed) in
    first_tied k edges (is ∙ ap (edges_at 0 s) (are (holds exposed))) numbered
    ∙ ap (λ z. first_from z 0 s) (known_is s empty exposed types parameters)
