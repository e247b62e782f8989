-- What is left of chosen paths says what they keep.
use Rattle.std.specs.Prelude.{bytes_eq, not}
use Rattle.std.proofs.Common.{◌≡◌, ℕ, suc, Bool, true, false, cond, ◌&&◌, ◌||◌, nat_eq, List, [], ◌∷◌, ◌++◌, length}
use Rattle.std.proofs.Common.{Option, Some, None, refl, sym, ap, ◌∙◌, subst}
use Rattle.std.proofs.lemmas.Bool.{eqb-true, eq-eqb}
use Rattle.std.proofs.lemmas.Slice.Eq.{bytes_eq-Decides}
use Rattle.cell_nodes.specs.Constructed.{stub}
use Rattle.cell_nodes.specs.declared.tree.Tree.{Tree}
use Rattle.schema_leads.specs.Leads.{begins}
use Rattle.typed_value.specs.Paths.{Stride, named, item, keyed}
use Rattle.pruning.specs.Laid.{Laid, number, bit_string, record_of, absent, list_of, ref_to, ref_to_raw, no_map}
use Rattle.pruning.specs.Laid.{map_under, map_here, rest, Laids, no_laids, a_laid, LaidEdge, a_leaf, a_fork, trees}
use Rattle.pruning.specs.SpellsLaid.{LaidRoot, as_it_is, laid}
use Rattle.pruning.specs.Spots.{Spot, Where, at_root, stepped, past, in_edge, in_ref, spot, first_name, other_names}
use Rattle.pruning.specs.Spots.{same_stride, is_prefix, takes_key, enters, needs, kept, unless_kept}
use Rattle.pruning.specs.Cut.{cut, cut_fields, cut_items, cut_edge, cut_cell, cut_root, cell_with}
use Rattle.pruning_laws.specs.KeyLaws.{begins-append}
use Rattle.pruned_proof.specs.Wanted.{Rests, is_nothing, add, each, advanced, entering, onward, below, cut_at, cut_for}
use Rattle.pruned_proof.specs.Wanted.{cut_fields_for, cut_items_for, cut_edge_for, cut_root_for}

-- ---- steps

same-bool : (a b : Bool) → (a ≡ true → b ≡ true) → (b ≡ true → a ≡ true) → a ≡ b
same-bool true b f g = sym (f refl)
same-bool false true f g = g refl
same-bool false false f g = refl

bytes-sym : (x y : List ℕ) → bytes_eq x y ≡ bytes_eq y x
bytes-sym x y =
    same-bool (bytes_eq x y) (bytes_eq y x) (λ e. (bytes_eq-Decides y x).1 (sym ((bytes_eq-Decides x y).0 e)))
    (λ e. (bytes_eq-Decides x y).1 (sym ((bytes_eq-Decides y x).0 e)))

number-sym : (i j : ℕ) → nat_eq i j ≡ nat_eq j i
number-sym i j =
    same-bool (nat_eq i j) (nat_eq j i) (λ e. eq-eqb j i (sym (eqb-true i j e))) (λ e. eq-eqb i j (sym (eqb-true j i e)))

stride-sym : (s t : Stride) → same_stride s t ≡ same_stride t s
stride-sym (named x) (named y) = bytes-sym x y
stride-sym (named x) (item j) = refl
stride-sym (named x) (keyed k) = refl
stride-sym (item i) (named y) = refl
stride-sym (item i) (item j) = number-sym i j
stride-sym (item i) (keyed k) = refl
stride-sym (keyed k) (named y) = refl
stride-sym (keyed k) (item j) = refl
stride-sym (keyed k) (keyed l) = bytes-sym k l

-- ---- what is left of one path

abbrev left_of : List Stride → List Stride → Option (List Stride)
left_of [] path = Some path
left_of (s ∷ m) [] = Some []
left_of (s ∷ m) (t ∷ path) = cond (same_stride s t) (left_of m path) None

abbrev is_left : Option (List Stride) → Bool
is_left None = false
is_left (Some more) = true

abbrev and_then : Option (List Stride) → (List Stride → Option (List Stride)) → Option (List Stride)
and_then None f = None
and_then (Some more) f = f more

or-true : (b : Bool) → (b || true) ≡ true
or-true true = refl
or-true false = refl

-- a path is needed for a reference exactly where something of it is left there
needs-left : (path m : List Stride) → (is_prefix path m || is_prefix m path) ≡ is_left (left_of m path)
needs-left path [] = or-true (is_prefix path [])
needs-left [] (s ∷ m) = refl
needs-left (t ∷ path) (s ∷ m) =
    ap (λ (b : Bool). (b && is_prefix path m) || (same_stride s t && is_prefix m path)) (stride-sym t s)
    ∙ go (same_stride s t) (needs-left path m)
  where
    go : (b : Bool) → (is_prefix path m || is_prefix m path) ≡ is_left (left_of m path)
        → ((b && is_prefix path m) || (b && is_prefix m path)) ≡ is_left (cond b (left_of m path) None)
    go true h = h
    go false h = refl

needs-in : (q : List ℕ) (path m : List Stride)
    → (is_prefix path m || enters q m path) ≡ is_left (and_then (left_of m path) (entering q))
needs-in q [] [] = refl
needs-in q (t ∷ path) [] = by (takes_key q (t ∷ path))
  where
    by : (b : Bool) → b ≡ is_left (cond b (Some (t ∷ path)) None)
    by true = refl
    by false = refl
needs-in q [] (s ∷ m) = refl
needs-in q (t ∷ path) (s ∷ m) =
    ap (λ (b : Bool). (b && is_prefix path m) || (same_stride s t && enters q m path)) (stride-sym t s)
    ∙ go (same_stride s t) (needs-in q path m)
  where
    go : (b : Bool) → (is_prefix path m || enters q m path) ≡ is_left (and_then (left_of m path) (entering q))
        → ((b && is_prefix path m) || (b && enters q m path)) ≡ is_left (and_then (cond b (left_of m path) None) (entering q))
    go true h = h
    go false h = refl

left-step : (s : Stride) (m path : List Stride) → and_then (left_of m path) (advanced s) ≡ left_of (m ++ s ∷ []) path
left-step s [] [] = refl
left-step s [] (t ∷ path) = refl
left-step s (u ∷ m) [] = refl
left-step s (u ∷ m) (t ∷ path) = go (same_stride u t) (left-step s m path)
  where
    go : (b : Bool) → and_then (left_of m path) (advanced s) ≡ left_of (m ++ s ∷ []) path
        → and_then (cond b (left_of m path) None) (advanced s) ≡ cond b (left_of (m ++ s ∷ []) path) None
    go true h = h
    go false h = refl

-- ---- what is left of all

each-each : (f g : List Stride → Option (List Stride)) (k : Rests) → each f (each g k) ≡ each (λ x. and_then (g x) f) k
each-each f g [] = refl
each-each f g (path ∷ k) = go (g path) (each-each f g k)
  where
    go : (o : Option (List Stride)) → each f (each g k) ≡ each (λ x. and_then (g x) f) k
        → each f (add o (each g k)) ≡ add (and_then o f) (each (λ x. and_then (g x) f) k)
    go None h = h
    go (Some more) h = ap (add (f more)) h

each-same : (f g : List Stride → Option (List Stride)) → ((x : List Stride) → f x ≡ g x) → (k : Rests)
    → each f k ≡ each g k
each-same f g h [] = refl
each-same f g h (path ∷ k) = λ i. add (h path i) (each-same f g h k i)

abbrev lefts : List Stride → Rests → Rests
lefts m = each (left_of m)

each-some : (k : Rests) → each (λ x. Some x) k ≡ k
each-some [] = refl
each-some (path ∷ k) = ap (λ (z : Rests). path ∷ z) (each-some k)

lefts-root : (paths : Rests) → lefts [] paths ≡ paths
lefts-root paths = each-some paths

lefts-step : (s : Stride) (m : List Stride) (paths : Rests) → onward s (lefts m paths) ≡ lefts (m ++ s ∷ []) paths
lefts-step s m paths =
    each-each (advanced s) (left_of m) paths
    ∙ each-same (λ x. and_then (left_of m x) (advanced s)) (left_of (m ++ s ∷ [])) (left-step s m) paths

none-left : (b : Bool) (o : Option (List Stride)) (k : Rests) → not b ≡ is_nothing k
    → not (is_left o || b) ≡ is_nothing (add o k)
none-left b None k h = h
none-left b (Some more) k h = refl

kept-left : (paths : Rests) (x : Spot) → x.prefix ≡ None → not (kept paths x) ≡ is_nothing (lefts x.path paths)
kept-left [] x e = refl
kept-left (path ∷ paths) x e =
    ap (λ (p : Option (List ℕ)). not (needs path x p || kept paths x)) e
    ∙ ap (λ (b : Bool). not (b || kept paths x)) (needs-left path x.path)
    ∙ none-left (kept paths x) (left_of x.path path) (lefts x.path paths) (kept-left paths x e)

kept-in : (paths : Rests) (x : Spot) (q : List ℕ) → x.prefix ≡ Some q
    → not (kept paths x) ≡ is_nothing (each (λ z. and_then (left_of x.path z) (entering q)) paths)
kept-in [] x q e = refl
kept-in (path ∷ paths) x q e =
    ap (λ (p : Option (List ℕ)). not (needs path x p || kept paths x)) e
    ∙ ap (λ (b : Bool). not (b || kept paths x)) (needs-in q path x.path)
    ∙ none-left (kept paths x) (and_then (left_of x.path path) (entering q))
    (each (λ z. and_then (left_of x.path z) (entering q)) paths) (kept-in paths x q e)

kept-below : (paths : Rests) (x : Spot) (q : List ℕ) → x.prefix ≡ Some q
    → not (kept paths x) ≡ is_nothing (below q (lefts x.path paths))
kept-below paths x q e = kept-in paths x q e ∙ ap is_nothing (sym (each-each (entering q) (left_of x.path) paths))

-- ---- edges

begins-shorter : (q r k : List ℕ) → begins q k ≡ false → begins (q ++ r) k ≡ false
begins-shorter [] r k e = absurd (cc)
begins-shorter (b ∷ q) r [] e = refl
begins-shorter (b ∷ q) r (c ∷ k) e = go (nat_eq b c) e (begins-shorter q r k)
  where
    go : (t : Bool) → (t && begins q k) ≡ false → (begins q k ≡ false → begins (q ++ r) k ≡ false)
        → (t && begins (q ++ r) k) ≡ false
    go true h ih = ih h
    go false h ih = refl

takes-shorter : (q r : List ℕ) (t : Stride) (more : List Stride) → takes_key q (t ∷ more) ≡ false
    → takes_key (q ++ r) (t ∷ more) ≡ false
takes-shorter q r (named x) more e = refl
takes-shorter q r (item i) more e = refl
takes-shorter q r (keyed k) more e = begins-shorter q r k e

begins-clash : (q l k : List ℕ) → begins q k ≡ false → bytes_eq (q ++ l) k ≡ false
begins-clash q l k e = go (bytes_eq (q ++ l) k) refl
  where
    go : (b : Bool) → bytes_eq (q ++ l) k ≡ b → b ≡ false
    go true f =
        let P : List ℕ → Type 0 = λ z. begins q z ≡ true in
        let on = subst P ((bytes_eq-Decides (q ++ l) k).0 f) (begins-append q l) in
        absurd (cc)
    go false f = refl

same-shorter : (q l : List ℕ) (t : Stride) (more : List Stride) → takes_key q (t ∷ more) ≡ false
    → same_stride (keyed (q ++ l)) t ≡ false
same-shorter q l (named x) more e = refl
same-shorter q l (item i) more e = refl
same-shorter q l (keyed k) more e = begins-clash q l k e

enter-enter : (q r : List ℕ) (x : List Stride) → and_then (entering q x) (entering (q ++ r)) ≡ entering (q ++ r) x
enter-enter q r [] = refl
enter-enter q r (t ∷ more) = go (takes_key q (t ∷ more)) refl
  where
    go : (b : Bool) → takes_key q (t ∷ more) ≡ b
        → and_then (cond b (Some (t ∷ more)) None) (entering (q ++ r)) ≡ entering (q ++ r) (t ∷ more)
    go true e = refl
    go false e = ap (λ (b : Bool). cond b (Some (t ∷ more)) None) (sym (takes-shorter q r t more e))

enter-step : (q l : List ℕ) (x : List Stride)
    → and_then (entering q x) (advanced (keyed (q ++ l))) ≡ advanced (keyed (q ++ l)) x
enter-step q l [] = refl
enter-step q l (t ∷ more) = go (takes_key q (t ∷ more)) refl
  where
    go : (b : Bool) → takes_key q (t ∷ more) ≡ b
        → and_then (cond b (Some (t ∷ more)) None) (advanced (keyed (q ++ l))) ≡ advanced (keyed (q ++ l)) (t ∷ more)
    go true e = refl
    go false e = ap (λ (b : Bool). cond b (Some more) None) (sym (same-shorter q l t more e))

below-below : (q r : List ℕ) (k : Rests) → below (q ++ r) (below q k) ≡ below (q ++ r) k
below-below q r k =
    each-each (entering (q ++ r)) (entering q) k
    ∙ each-same (λ x. and_then (entering q x) (entering (q ++ r))) (entering (q ++ r)) (enter-enter q r) k

onward-below : (q l : List ℕ) (k : Rests) → onward (keyed (q ++ l)) (below q k) ≡ onward (keyed (q ++ l)) k
onward-below q l k =
    each-each (advanced (keyed (q ++ l))) (entering q) k
    ∙ each-same (λ x. and_then (entering q x) (advanced (keyed (q ++ l)))) (advanced (keyed (q ++ l))) (enter-step q l) k

edge-below : (k : Rests) (q : List ℕ) (e : LaidEdge) → cut_edge_for (below q k) q e ≡ cut_edge_for k q e
edge-below k q (a_leaf l d) = ap (λ (z : Rests). cut_for z d) (onward-below q l k)
edge-below k q (a_fork l z a o b) =
    let x = l ++ 0 ∷ [] in
    let y = l ++ 1 ∷ [] in
    λ i. cut_at (below-below q x k i) z (cut_edge_for (below-below q x k i) (q ++ x) a)
    ∷ (cut_at (below-below q y k i) o (cut_edge_for (below-below q y k i) (q ++ y) b) ∷ [])

-- ---- what is cut

ref-cut : (paths : Rests) (x : Spot) (c : Tree) (refs : List Tree) → x.prefix ≡ None
    → cut_at (lefts x.path paths) c refs ≡ cut_cell (unless_kept paths x) c refs
ref-cut paths x c refs e = ap (λ (b : Bool). cut_cell b c refs) (sym (kept-left paths x e))

edge-cut : (paths : Rests) (x : Spot) (q : List ℕ) (c : Tree) (refs : List Tree) → x.prefix ≡ Some q
    → cut_at (below q (lefts x.path paths)) c refs ≡ cut_cell (unless_kept paths x) c refs
edge-cut paths x q c refs e = ap (λ (b : Bool). cut_cell b c refs) (sym (kept-below paths x q e))

mutual
  cuts : (paths : Rests) (w : Where) (d : Laid) → cut_for (lefts w.path paths) d ≡ cut (unless_kept paths) w d
  cuts paths w (number negative size) = refl
  cuts paths w (bit_string bits) = refl
  cuts paths w (record_of name names ds) = cuts-fields paths w names ds
  cuts paths w absent = refl
  cuts paths w (list_of ds) = cuts-items paths w 0 ds
  cuts paths w (ref_to c d) =
      ap (λ (t : Tree). t ∷ []) (ref-cut paths (spot w None c) c (cut_for (lefts w.path paths) d) refl
      ∙ ap (cut_cell (unless_kept paths (spot w None c)) c) (cuts paths (in_ref w) d))
  cuts paths w (ref_to_raw c) =
      ap (λ (b : Bool). cond b (stub c 0) c ∷ []) (sym (kept-left paths (spot w None c) refl))
  cuts paths w no_map = refl
  cuts paths w (map_under c e) =
      ap (λ (t : Tree). t ∷ []) (edge-cut paths (spot w (Some []) c) [] c
      (cut_edge_for (below [] (lefts w.path paths)) [] e) refl
      ∙ ap (cut_cell (unless_kept paths (spot w (Some []) c)) c)
      (edge-below (lefts w.path paths) [] e ∙ cuts-edge paths (in_edge w) [] e))
  cuts paths w (map_here e) = cuts-edge paths w [] e
  cuts paths w (rest s) = refl

  cuts-fields : (paths : Rests) (w : Where) (names : List (List ℕ)) (ds : Laids)
      → cut_fields_for (lefts w.path paths) names ds ≡ cut_fields (unless_kept paths) w names ds
  cuts-fields paths w names no_laids = refl
  cuts-fields paths w names (a_laid d ds) =
      let s = named (first_name names) in
      let here : cut_for (onward s (lefts w.path paths)) d ≡ cut (unless_kept paths) (stepped w s) d =
      ap (λ (k : Rests). cut_for k d) (lefts-step s w.path paths) ∙ cuts paths (stepped w s) d in
      λ i. here i ++ cuts-fields paths (past w (length (trees d))) (other_names names) ds i

  cuts-items : (paths : Rests) (w : Where) (n : ℕ) (ds : Laids)
      → cut_items_for (lefts w.path paths) n ds ≡ cut_items (unless_kept paths) w n ds
  cuts-items paths w n no_laids = refl
  cuts-items paths w n (a_laid d ds) =
      let s = item n in
      let here : cut_for (onward s (lefts w.path paths)) d ≡ cut (unless_kept paths) (stepped w s) d =
      ap (λ (k : Rests). cut_for k d) (lefts-step s w.path paths) ∙ cuts paths (stepped w s) d in
      λ i. here i ++ cuts-items paths (past w (length (trees d))) (suc n) ds i

  cuts-edge : (paths : Rests) (w : Where) (q : List ℕ) (e : LaidEdge)
      → cut_edge_for (lefts w.path paths) q e ≡ cut_edge (unless_kept paths) w q e
  cuts-edge paths w q (a_leaf l d) =
      let s = keyed (q ++ l) in
      ap (λ (k : Rests). cut_for k d) (lefts-step s w.path paths) ∙ cuts paths (stepped w s) d
  cuts-edge paths w q (a_fork l z a o b) =
      let x = q ++ (l ++ 0 ∷ []) in
      let y = q ++ (l ++ 1 ∷ []) in
      let zero_side = edge-cut paths (spot w (Some x) z) x z (cut_edge_for (below x (lefts w.path paths)) x a) refl
      ∙ ap (cut_cell (unless_kept paths (spot w (Some x) z)) z)
      (edge-below (lefts w.path paths) x a ∙ cuts-edge paths (in_edge w) x a) in
      let one_side = edge-cut paths (spot (past w 1) (Some y) o) y o
      (cut_edge_for (below y (lefts w.path paths)) y b) refl
      ∙ ap (cut_cell (unless_kept paths (spot (past w 1) (Some y) o)) o)
      (edge-below (lefts w.path paths) y b ∙ cuts-edge paths (in_edge (past w 1)) y b) in
      λ i. zero_side i ∷ (one_side i ∷ [])

pub cuts_root : (paths : Rests) (r : LaidRoot) (c : Tree)
    → cut_root_for paths r c ≡ cut_root (unless_kept paths) r c
cuts_root paths (as_it_is x) c = refl
cuts_root paths (laid d) c =
    ap (cell_with c) (ap (λ (k : Rests). cut_for k d) (sym (lefts-root paths)) ∙ cuts paths at_root d)
