use Rattle.std.proofs.Common.{◌≡◌, ◌+◌, ◌<◌, Some, List, ◌++◌, length, map, drop, get_or, sym, ap, ◌∙◌, subst, arith}
use Rattle.std.specs.Prelude.{All}
use Rattle.std.proofs.lemmas.List.{append_assoc, length-map, get_or-map}
use Rattle.tlb_syntax.specs.View.{constructor}
use Rattle.tlb_syntax.specs.declared.tree.Constructor.{Constructor}
use Rattle.tlb_guard.specs.declared.edges.Edge.{Edge}
use Rattle.tlb_guard.specs.declared.exposures.Exposure.{Exposure}
use Rattle.tlb_guard.specs.Facts.{holds}
use Rattle.tlb_guard.specs.Numbering.{place_of, views, word_at}
use Rattle.tlb_guard.specs.Views.{IsWithin, exposed_in}
use Rattle.tlb_guard.specs.Edges.{IsNumbered, edges_at, edges_by, type_edge}
use Rattle.tlb_guard.proofs.Numberings.{place_word, some_place}
use Rattle.tlb_guard.proofs.ExposureEdges.{constructor_step}
use Rattle.tlb_guard.proofs.cycles.edges_of.Goals as goal
use Rattle.tlb_guard.proofs.cycles.edges_of.Goals.{in-Some+in_ok-add_edges, in_default}

pub loop-number-preserved : goal.loop-number-preserved
loop-number-preserved c =
    let cs = c.args.types.now in
    let s = views cs in
    let exposures = c.args.exposures.now in
    let f = exposed_in s (holds c.args.exposed.now) in
    let i = c.loop-number.number in
    let here = c.constructor-item.result in
    let same : c.constructors-constructor-items.result.now ≡ cs = c.constructors-constructor-items.ensures in
    let size : length c.constructors-constructor-items.result.now ≡ length cs = ap length same in
    let lt : i < length cs = omega arith in
    let is : here ≡ get_or cs i here = c.constructor-item.is ∙ ap (λ z. get_or z i here) same in
    elim c.match-place.branch [
      | in-Some+in_ok-add_edges w ↦
          (let from = w.in-Some.from in
          let at : place_of s here.result ≡ Some from = sym c.place.ensures ∙ w.in-Some.is in
          let word : word_at s from ≡ here.result = (place_word s here.result from at).1 in
          let numbered : place_of s (word_at s from) ≡ Some from = ap (place_of s) word ∙ at in
          let below : i < length exposures = omega (arith, lt, c.requires.size) in
          let group = w.index-exposures-number.result in
          let rest = edges_at (i + 1) (views (drop (i + 1) cs)) (map f (drop (i + 1) exposures)) in
          let before = map (type_edge s) c.loop-number.edges in
          let added : map (type_edge s) c.match-place.edges ≡ before ++ edges_by here.result i (f group) =
          ap (map (type_edge s)) w.edges-is ∙ w.in_ok-add_edges.ensures.edges s
          ∙ ap (λ z. before ++ edges_by z i (f w.as_slice.result.now)) word
          ∙ ap (λ z. before ++ edges_by here.result i (f z)) w.as_slice.ensures in
          let P : List Edge → Type 0 = All (IsNumbered s) in
          let L : List Exposure → Type 0 = All (IsWithin s) in
          let within : L w.as_slice.result.now =
          subst L (sym (w.as_slice.ensures ∙ w.index-exposures-number.is)) (c.requires.within i group below) in
          record {
            edges =
                ap (λ z. z ++ rest) added
                ∙ append_assoc before (edges_by here.result i (f group)) rest
                ∙ ap (λ z. before ++ z) (sym (constructor_step f cs exposures i here group lt below is w.index-exposures-number.is))
                ∙ c.loop-number.invariant.edges;
            numbered = subst P (sym w.edges-is) (w.in_ok-add_edges.ensures.numbered s numbered within c.loop-number.invariant.numbered);
          })
      | in_default w ↦
          (let C : Constructor → Type 0 = λ z. z.result ≡ here.result in
          let there = some_place s here.result i (constructor here) (omega (arith, lt, length-map cs constructor))
          (ap (λ z. z.result) (get_or-map constructor cs i here (constructor here) lt) ∙ ap (λ z. z.result) (sym is)) in
          absurd (w.in_default.not-Some there.0 (c.place.ensures ∙ there.1)))
    ]
