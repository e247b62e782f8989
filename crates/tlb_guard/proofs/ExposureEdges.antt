-- The edges that exposures give.
use Rattle.std.proofs.Common.{◌≡◌, ℕ, ◌+◌, ◌<◌, Bool, true, false, Option, None, Some, List, [], ◌∷◌, ◌++◌, length, map, drop, get_or, refl, sym, ap, ◌∙◌}
use Rattle.std.specs.Prelude.{cond, filter}
use Rattle.std.proofs.lemmas.List.{at_drop_more, map-append, append-nil, append_assoc}
use Rattle.tlb_syntax.specs.Tree.{SchemaView}
use Rattle.tlb_syntax.specs.declared.tree.Constructor.{Constructor}
use Rattle.kind_terms.specs.Words.{Word}
use Rattle.tlb_guard.specs.declared.edges.Edge.{Edge}
use Rattle.tlb_guard.specs.declared.exposures.Exposure.{Exposure}
use Rattle.tlb_guard.specs.Rounds.{Test}
use Rattle.tlb_guard.specs.Numbering.{views}
use Rattle.tlb_guard.specs.Exposed.{ExposedTerm, Exposed}
use Rattle.tlb_guard.specs.Views.{term_by, exposed_as, is_through, exposed_in}
use Rattle.tlb_guard.specs.Edges.{TypeEdge, edge_to, edges_by, edges_at, edges_in, type_edge}

module _ (s : SchemaView) (t : Test ℕ) (x : Word) (n : ℕ) where
  abbrev pub leads_to : List Exposure → List TypeEdge
  leads_to ls = edges_by x n (exposed_in s t ls)

  with_term : (b : Bool) (l : Exposure) (f : ExposedTerm) → term_by s l.term ≡ f
      → edges_by x n (map (exposed_as s) (cond b (l ∷ []) [])) ≡ cond b (edge_to x n l.item f ++ []) []
  with_term true l f is = ap (λ z. edge_to x n l.item z ++ []) is
  with_term false l f is = refl

  split_at : (b : Bool) (l : Exposure) (ls : List Exposed)
      → edges_by x n (cond b (exposed_as s l ∷ ls) ls) ≡ cond b (edge_to x n l.item (term_by s l.term) ++ []) [] ++ edges_by x n ls
  split_at true l ls = ap (λ z. z ++ edges_by x n ls) (sym (append-nil (edge_to x n l.item (term_by s l.term))))
  split_at false l ls = refl

  mapped : (b : Bool) (l : Exposure) (ls : List Exposure) → map (exposed_as s) (cond b (l ∷ ls) ls) ≡ cond b (exposed_as s l ∷ map (exposed_as s) ls) (map (exposed_as s) ls)
  mapped true l ls = refl
  mapped false l ls = refl

  pub split_exposures : (l : Exposure) (ls : List Exposure) → leads_to (l ∷ ls) ≡ leads_to (l ∷ []) ++ leads_to ls
  split_exposures l ls =
      ap (edges_by x n) (mapped (is_through t l) l (filter (is_through t) ls))
      ∙ split_at (is_through t l) l (exposed_in s t ls)
      ∙ ap (λ z. z ++ leads_to ls) (sym (with_term (is_through t l) l (term_by s l.term) refl))

  -- the edge of one more exposure is added
  pub add_step : (edges new : List Edge) (o : Option Edge) (exposures : List Exposure) (i : ℕ) (l : Exposure) (whole : List TypeEdge) → i < length exposures
      → l ≡ get_or exposures i l → edges_in s o ≡ leads_to (l ∷ []) → map (type_edge s) new ≡ map (type_edge s) edges ++ edges_in s o
      → map (type_edge s) edges ++ leads_to (drop i exposures) ≡ whole → map (type_edge s) new ++ leads_to (drop (i + 1) exposures) ≡ whole
  add_step edges new o exposures i l whole lt is edge grown before =
      let rest = leads_to (drop (i + 1) exposures) in
      let here : leads_to (drop i exposures) ≡ leads_to (l ∷ []) ++ rest =
      at_drop_more leads_to exposures i l lt ∙ ap (λ z. leads_to (z ∷ drop (i + 1) exposures)) (sym is) ∙ split_exposures l (drop (i + 1) exposures) in
      ap (λ z. z ++ rest) (grown ∙ ap (λ z. map (type_edge s) edges ++ z) edge)
      ∙ append_assoc (map (type_edge s) edges) (leads_to (l ∷ [])) rest
      ∙ ap (λ z. map (type_edge s) edges ++ z) (sym here)
      ∙ before

pub push_edge : (s : SchemaView) (edges : List Edge) (e : Edge) → map (type_edge s) (edges ++ e ∷ []) ≡ map (type_edge s) edges ++ edges_in s (Some e)
push_edge s edges e = map-append (type_edge s) edges (e ∷ [])

pub push_none : (s : SchemaView) (edges : List Edge) → map (type_edge s) edges ≡ map (type_edge s) edges ++ edges_in s None
push_none s edges = sym (append-nil (map (type_edge s) edges))

-- ---- constructors

-- the edges of one more constructor are added
pub constructor_step : (f : List Exposure → List Exposed) (cs : List Constructor) (exposures : List (List Exposure)) (i : ℕ) (c : Constructor) (l : List Exposure)
    → i < length cs → i < length exposures → c ≡ get_or cs i c → l ≡ get_or exposures i l
    → edges_at i (views (drop i cs)) (map f (drop i exposures))
    ≡ edges_by c.result i (f l) ++ edges_at (i + 1) (views (drop (i + 1) cs)) (map f (drop (i + 1) exposures))
constructor_step f cs exposures i c l lt below is at =
    at_drop_more (λ z. edges_at i (views z) (map f (drop i exposures))) cs i c lt
    ∙ ap (λ z. edges_at i (views (z ∷ drop (i + 1) cs)) (map f (drop i exposures))) (sym is)
    ∙ at_drop_more (λ z. edges_at i (views (c ∷ drop (i + 1) cs)) (map f z)) exposures i l below
    ∙ ap (λ z. edges_at i (views (c ∷ drop (i + 1) cs)) (map f (z ∷ drop (i + 1) exposures))) (sym at)
