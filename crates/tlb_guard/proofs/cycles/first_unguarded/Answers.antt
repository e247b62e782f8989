use Rattle.std.proofs.Common.{◌≡◌, ℕ, Bool, List, length, map, sym, ap, ◌∙◌, subst}
use Rattle.std.specs.Prelude.{All, find, option_map}
use Rattle.std.proofs.lemmas.Result.{IfOk-weaker}
use Rattle.kind_terms.specs.Words.{Word}
use Rattle.tlb_guard.specs.declared.edges.Edge.{Edge}
use Rattle.tlb_guard.specs.declared.exposures.Exposure.{Exposure}
use Rattle.tlb_guard.specs.Facts.{holds}
use Rattle.tlb_guard.specs.Numbering.{types_in, views}
use Rattle.tlb_guard.specs.Empty.{may_take_nothing}
use Rattle.tlb_guard.specs.Views.{exposed_in}
use Rattle.tlb_guard.specs.Variables.{AreExposures}
use Rattle.tlb_guard.specs.Cycles.{first_unguarded}
use Rattle.tlb_guard.specs.Edges.{IsEdgeBelow, edges_at, is_round_trip, index_by, type_edge}
use Rattle.tlb_guard.proofs.FirstUnguarded.{first_found, exposures_size, numbered_below}
use Rattle.tlb_guard.proofs.cycles.first_unguarded.Goals as goal

pub exposed_parameters-requires-clause-size : goal.exposed_parameters-requires-clause-size
exposed_parameters-requires-clause-size c =
    ap length c.as_slice-2.ensures ∙ exposures_size c.in_ok-types.types c.as_slice.result.now c.in_ok-exposures.exposures c.in_ok-exposures.ensures.exposed

pub edges_of-requires-clause-size : goal.edges_of-requires-clause-size
edges_of-requires-clause-size c =
    ap length c.as_slice-3.ensures ∙ exposures_size c.in_ok-types.types c.as_slice.result.now c.in_ok-exposures.exposures c.in_ok-exposures.ensures.exposed

pub first_on_cycle-requires : goal.first_on_cycle-requires
first_on_cycle-requires c =
    let N : ℕ → Type 0 = λ n. All (IsEdgeBelow n) c.as_slice-5.result.now in
    let E : List Edge → Type 0 = All (IsEdgeBelow (length c.in_ok-types.types)) in
    subst N (ap length c.in_ok-types.ensures)
    (subst E (sym c.as_slice-5.ensures) (numbered_below c.in_ok-types.types c.in_ok-edges.edges c.in_ok-edges.ensures.numbered))

pub returns : goal.returns
returns c =
    let types = c.in_ok-types.types in
    let s = views types in
    let empty = c.as_slice.result.now in
    let exposed = c.in_ok-exposed.exposed in
    let exposures = c.in_ok-exposures.exposures in
    let edges = c.in_ok-edges.edges in
    let are : AreExposures s empty exposures = c.in_ok-exposures.ensures.exposed in
    let E : List Bool → Type 0 = λ z. (x : Word) → types_in s (holds z) x ≡ may_take_nothing s x in
    let known : E empty = subst E (sym c.as_slice.ensures) c.in_ok-empty.ensures.types in
    let L : List (List Exposure) → Type 0 = λ z. AreExposures s empty z in
    let parameters = c.in_ok-exposed.ensures empty (subst L (sym c.as_slice-2.ensures) are) known in
    let is : map (type_edge s) edges ≡ edges_at 0 s (map (exposed_in s (holds exposed)) exposures) =
    c.in_ok-edges.ensures.edges
    ∙ ap (λ z. edges_at 0 s (map (exposed_in s (holds z)) c.as_slice-3.result.now)) c.as_slice-4.ensures
    ∙ ap (λ z. edges_at 0 s (map (exposed_in s (holds exposed)) z)) c.as_slice-3.ensures in
    let found = first_found s empty exposed exposures edges are known parameters is c.in_ok-edges.ensures.numbered in
    IfOk-weaker c.first_on_cycle.result
    (λ first. first ≡ option_map (λ (e : Edge). e.at) (find (is_round_trip c.as_slice-5.result.now) c.as_slice-5.result.now))
    (λ first. option_map index_by first ≡ first_unguarded (views c.args.constructors.now))
    (λ first e.
    ap (option_map index_by) (e ∙ ap (λ z. option_map (λ (e : Edge). e.at) (find (is_round_trip z) z)) c.as_slice-5.ensures)
    ∙ found ∙ ap (λ z. first_unguarded (views z)) c.in_ok-types.ensures)
    c.first_on_cycle.ensures
