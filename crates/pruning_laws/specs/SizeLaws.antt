-- Where parts are hidden, a value has no more levels and no more parts.
use Rattle.std.proofs.Common.{◌≡◌, inl, inr, ℕ, ◌+◌, ◌≤◌, max, List, [], ◌∷◌, ◌++◌, refl, sym, ap, subst, arith}
use Rattle.cell_nodes.specs.declared.tree.Tree.{Tree}
use Rattle.typed_value.specs.Values.{Plain, Plains, PlainPairs, no_pairs, a_pair, no_vals, a_val, levels, levels_in}
use Rattle.typed_value.specs.Values.{levels_by, parts, parts_in, parts_by}
use Rattle.typed_value.specs.Values as values
use Rattle.pruning.specs.Laid.{Laid, number, bit_string, record_of, absent, list_of, ref_to, ref_to_raw, no_map}
use Rattle.pruning.specs.Laid.{map_under, map_here, rest, Laids, no_laids, a_laid, LaidEdge, a_leaf, a_fork, join}
use Rattle.pruning.specs.Laid.{below, plain, plain_all, plain_pairs}
use Rattle.pruning_laws.specs.Cuts.{Parts, fork_part, map_with, ForRest, ForRaw, CutsCell, Cuts, CutsAll, CutsEdge}

pub record NoLarger (w v : Plain) : Type 0 where
  pub deep : levels w ≤ levels v
  pub large : parts w ≤ parts v

pub record NoneLarger (ws vs : Plains) : Type 0 where
  pub deep : levels_in ws ≤ levels_in vs
  pub large : parts_in ws ≤ parts_in vs

pub record PairsNoLarger (qs ps : PlainPairs) : Type 0 where
  pub deep : levels_by qs ≤ levels_by ps
  pub large : parts_by qs ≤ parts_by ps

as_large : (w v : Plain) → w ≡ v → NoLarger w v
as_large w v e =
    let P : Plain → Type 0 = λ w. NoLarger w v in
    subst P (sym e) (record { deep = omega arith; large = omega arith })

is_no_larger : (w u v : Plain) → w ≡ u → NoLarger u v → NoLarger w v
is_no_larger w u v e h = let P : Plain → Type 0 = λ w. NoLarger w v in subst P (sym e) h

-- ---- pairs

levels-join : (ps qs : PlainPairs) → levels_by (join ps qs) ≡ max (levels_by ps) (levels_by qs)
levels-join no_pairs qs = omega arith
levels-join (a_pair k v ps) qs = let h = levels-join ps qs in omega (arith, h)

levels-below : (p : List ℕ) (ps : PlainPairs) → levels_by (below p ps) ≡ levels_by ps
levels-below p no_pairs = refl
levels-below p (a_pair k v ps) = ap (λ (n : ℕ). max (levels v) n) (levels-below p ps)

parts-join : (ps qs : PlainPairs) → parts_by (join ps qs) ≡ parts_by ps + parts_by qs
parts-join no_pairs qs = omega arith
parts-join (a_pair k v ps) qs = let h = parts-join ps qs in omega (arith, h)

parts-below : (p : List ℕ) (ps : PlainPairs) → parts_by (below p ps) ≡ parts_by ps
parts-below p no_pairs = refl
parts-below p (a_pair k v ps) = ap (λ (n : ℕ). parts v + n) (parts-below p ps)

fork_larger : (l : List ℕ) (A B : Parts) (ps qs : PlainPairs) → PairsNoLarger A.pairs ps → PairsNoLarger B.pairs qs
    → PairsNoLarger (fork_part l A B).pairs (join (below (l ++ 0 ∷ []) ps) (below (l ++ 1 ∷ []) qs))
fork_larger l A B ps qs x y =
    let z = l ++ 0 ∷ [] in
    let o = l ++ 1 ∷ [] in
    let xd = x.deep in
    let yd = y.deep in
    let xl = x.large in
    let yl = y.large in
    record {
      deep = omega (
        arith,
        levels-join (below z A.pairs) (below o B.pairs),
        levels-below z A.pairs,
        levels-below o B.pairs,
        levels-join (below z ps) (below o qs),
        levels-below z ps,
        levels-below o qs,
        xd,
        yd,
      );
      large = omega (
        arith,
        parts-join (below z A.pairs) (below o B.pairs),
        parts-below z A.pairs,
        parts-below o B.pairs,
        parts-join (below z ps) (below o qs),
        parts-below z ps,
        parts-below o qs,
        xl,
        yl,
      );
    }

cell_larger : (K : ForRest) (R : ForRaw) (e : LaidEdge)
    → ((ps : List Tree) (x : Parts) → CutsEdge K R e ps x → PairsNoLarger x.pairs (plain_pairs e)) → (c p : Tree)
    (x : Parts) → CutsCell (CutsEdge K R e) c p x → PairsNoLarger x.pairs (plain_pairs e)
cell_larger K R e edge c p x (inl h) =
    let P : Parts → Type 0 = λ x. PairsNoLarger x.pairs (plain_pairs e) in
    subst P (sym h.1) (record { deep = omega arith; large = omega arith })
cell_larger K R e edge c p x (inr h) = edge h.0 x h.2

map_larger : (x : Parts) (e : LaidEdge) → PairsNoLarger x.pairs (plain_pairs e)
    → NoLarger (map_with x) (values.map_of tt (plain_pairs e) [])
map_larger x e h =
    let d = h.deep in
    let l = h.large in
    record { deep = omega (arith, d); large = omega (arith, l) }

ref_larger : (u v : Plain) → NoLarger u v → NoLarger (values.ref_to tt u) (values.ref_to tt v)
ref_larger u v h =
    let d = h.deep in
    let l = h.large in
    record { deep = omega (arith, d); large = omega (arith, l) }

mutual
  pub no_larger : (K : ForRest) (R : ForRaw) (d : Laid) (ps : List Tree) (w : Plain) → Cuts K R d ps w
      → NoLarger w (plain d)
  no_larger K R (number negative size) ps w c = as_large w _ c.1
  no_larger K R (bit_string bits) ps w c = as_large w _ c.1
  no_larger K R (record_of name names ds) ps w c =
      let h = none_larger K R ds ps c.0 c.2 in
      let d = h.deep in
      let l = h.large in
      is_no_larger w (values.record_of name names c.0) _ c.1
      (record { deep = omega (arith, d); large = omega (arith, l) })
  no_larger K R absent ps w c = as_large w _ c.1
  no_larger K R (list_of ds) ps w c =
      let h = none_larger K R ds ps c.0 c.2 in
      let d = h.deep in
      let l = h.large in
      is_no_larger w (values.list_of c.0) _ c.1 (record { deep = omega (arith, d); large = omega (arith, l) })
  no_larger K R (ref_to e d) ps w (inl h) =
      is_no_larger w _ _ h.1 (record { deep = omega arith; large = omega arith })
  no_larger K R (ref_to e d) ps w (inr h) = is_no_larger w _ _ h.3
      (ref_larger h.1 (plain d) (no_larger K R d h.0 h.1 h.4))
  no_larger K R (ref_to_raw e) ps w (inl h) =
      is_no_larger w _ _ h.1 (record { deep = omega arith; large = omega arith })
  no_larger K R (ref_to_raw e) ps w (inr h) =
      is_no_larger w _ _ h.2 (record { deep = omega arith; large = omega arith })
  no_larger K R no_map ps w c = as_large w _ c.1
  no_larger K R (map_under a e) ps w c =
      is_no_larger w (map_with c.1) _ c.3
      (map_larger c.1 e (cell_larger K R e (λ ps x h. edge_larger K R e ps x h) a c.0 c.1 c.4))
  no_larger K R (map_here e) ps w c =
      is_no_larger w (map_with c.0) _ c.1 (map_larger c.0 e (edge_larger K R e ps c.0 c.2))
  no_larger K R (rest s) ps w c = is_no_larger w _ _ c.1 (record { deep = omega arith; large = omega arith })

  none_larger : (K : ForRest) (R : ForRaw) (ds : Laids) (ps : List Tree) (ws : Plains) → CutsAll K R ds ps ws
      → NoneLarger ws (plain_all ds)
  none_larger K R no_laids ps ws c =
      let P : Plains → Type 0 = λ ws. NoneLarger ws no_vals in
      subst P (sym c.1) (record { deep = omega arith; large = omega arith })
  none_larger K R (a_laid d ds) ps ws c =
      let P : Plains → Type 0 = λ ws. NoneLarger ws (plain_all (a_laid d ds)) in
      let x = no_larger K R d c.0 c.2 c.6 in
      let y = none_larger K R ds c.1 c.3 c.7 in
      let xd = x.deep in
      let yd = y.deep in
      let xl = x.large in
      let yl = y.large in
      subst P (sym c.5) (record { deep = omega (arith, xd, yd); large = omega (arith, xl, yl) })

  edge_larger : (K : ForRest) (R : ForRaw) (e : LaidEdge) (ps : List Tree) (x : Parts) → CutsEdge K R e ps x
      → PairsNoLarger x.pairs (plain_pairs e)
  edge_larger K R (a_leaf l d) ps x c =
      let P : Parts → Type 0 = λ x. PairsNoLarger x.pairs (plain_pairs (a_leaf l d)) in
      let y = no_larger K R d ps c.0 c.2 in
      let yd = y.deep in
      let yl = y.large in
      subst P (sym c.1) (record { deep = omega (arith, yd); large = omega (arith, yl) })
  edge_larger K R (a_fork l z a o b) ps x c =
      let P : Parts → Type 0 = λ x. PairsNoLarger x.pairs (plain_pairs (a_fork l z a o b)) in
      subst P (sym c.5)
      (fork_larger l c.2 c.3 (plain_pairs a) (plain_pairs b)
      (cell_larger K R a (λ ps x h. edge_larger K R a ps x h) z c.0 c.2 c.6)
      (cell_larger K R b (λ ps x h. edge_larger K R b ps x h) o c.1 c.3 c.7))
