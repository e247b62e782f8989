use Rattle.std.proofs.Common.{◌≡◌, ◌<◌, Option, List, [], ◌∷◌, ◌++◌, length, map, sym, ap, ◌∙◌, subst, arith}
use Rattle.std.specs.Prelude.{All}
use Rattle.std.specs.Option.{IfSome}
use Rattle.std.proofs.lemmas.List.Elements.{All-push}
use Rattle.tlb_guard.specs.declared.edges.Edge.{Edge}
use Rattle.tlb_guard.specs.declared.exposures.Exposure.{Exposure}
use Rattle.tlb_guard.specs.Facts.{holds}
use Rattle.tlb_guard.specs.Numbering.{word_at}
use Rattle.tlb_guard.specs.Views.{IsWithin, exposed_in}
use Rattle.tlb_guard.specs.Edges.{IsNumbered, edges_by, edges_in, type_edge}
use Rattle.tlb_guard.proofs.ExposureEdges.{add_step, push_edge, push_none}
use Rattle.tlb_guard.proofs.cycles.add_edges.Goals as goal
use Rattle.tlb_guard.proofs.cycles.add_edges.Goals.{in-Some+in_ok-push, in_default}

pub loop-exposure-preserved : goal.loop-exposure-preserved
loop-exposure-preserved c =
    let edges = c.loop-exposure.edges in
    let all = c.match-edge_of.edges in
    let exposures = c.args.exposures.now in
    let exposed = c.args.exposed.now in
    let i = c.loop-exposure.exposure-index in
    let exposure = c.exposure-item.result in
    let lt : i < length exposures = omega arith in
    elim c.match-edge_of.branch [
      | in-Some+in_ok-push w ↦
          (let e = w.in-Some.edge in
          let new : all ≡ edges ++ e ∷ [] = w.edges-is ∙ w.in_ok-push.ensures.ok in
          record {
            edges = λ s.
                add_step s (holds exposed) (word_at s c.args.from) c.args.constructor edges all c.edge_of.result exposures i exposure
                (map (type_edge s) c.args.edges.now ++ edges_by (word_at s c.args.from) c.args.constructor (exposed_in s (holds exposed) exposures))
                lt c.exposure-item.is (c.edge_of.ensures.edge s)
                (ap (map (type_edge s)) new ∙ push_edge s edges e ∙ ap (λ o. map (type_edge s) edges ++ edges_in s o) (sym w.in-Some.is))
                (c.loop-exposure.invariant.edges s);
            numbered = λ s at within before.
                let P : List Edge → Type 0 = All (IsNumbered s) in
                let O : Option Edge → Type 0 = λ o. IfSome o (IsNumbered s) in
                let L : Exposure → Type 0 = IsWithin s in
                let here : IsWithin s exposure = subst L (sym c.exposure-item.is) (within i exposure lt) in
                let is : IsNumbered s e = subst O w.in-Some.is (c.edge_of.ensures.numbered s at here) in
                subst P (sym new) (All-push (IsNumbered s) edges e (c.loop-exposure.invariant.numbered s at within before) is);
          })
      | in_default w ↦
          record {
            edges = λ s.
                add_step s (holds exposed) (word_at s c.args.from) c.args.constructor edges all c.edge_of.result exposures i exposure
                (map (type_edge s) c.args.edges.now ++ edges_by (word_at s c.args.from) c.args.constructor (exposed_in s (holds exposed) exposures))
                lt c.exposure-item.is (c.edge_of.ensures.edge s)
                (ap (map (type_edge s)) w.edges-is ∙ push_none s edges ∙ ap (λ o. map (type_edge s) edges ++ edges_in s o) (sym w.in_default.is))
                (c.loop-exposure.invariant.edges s);
            numbered = λ s at within before.
                let P : List Edge → Type 0 = All (IsNumbered s) in subst P (sym w.edges-is) (c.loop-exposure.invariant.numbered s at within before);
          }
    ]
