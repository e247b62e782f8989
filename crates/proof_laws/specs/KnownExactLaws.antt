-- Where spots are hidden, a path is not known exactly where one of them stands on its way; what else is known is as it was.
use Rattle.std.specs.Prelude.{filter, bytes_eq}
use Rattle.std.proofs.Common.{◌≡◌, ℕ, zero, suc, ◌+◌, Bool, true, false, cond, ◌||◌, List, [], ◌∷◌, ◌++◌}
use Rattle.std.proofs.Common.{length, Option, Some, None, refl, sym, ap, ◌∙◌, subst, arith, append_assoc}
use Rattle.std.proofs.lemmas.List.{append-nil}
use Rattle.std.proofs.lemmas.Slice.Eq.{bytes_eq-Decides}
use Rattle.cell_nodes.specs.declared.tree.Tree.{Tree}
use Rattle.schema_leads.specs.Leads.{begins}
use Rattle.typed_value.specs.Paths.{Stride, named, item, keyed, field_at, item_at, entry_at, step_at, onward, at_path}
use Rattle.typed_value.specs.Values.{Plain, PlainPairs, no_pairs}
use Rattle.typed_value.specs.Values as values
use Rattle.pruning.specs.declared.Knowledge.{Knowledge}
use Rattle.pruning.specs.declared.Knowledge.TheVariants.{Known, NotKnown}
use Rattle.pruning.specs.Laid.{Laid, number, bit_string, record_of, absent, list_of, ref_to, ref_to_raw, no_map}
use Rattle.pruning.specs.Laid.{map_under, map_here, rest, Laids, no_laids, a_laid, LaidEdge, a_leaf, a_fork, join}
use Rattle.pruning.specs.Laid.{below, plain, plain_all, plain_pairs, trees}
use Rattle.pruning.specs.SpellsLaid.{LaidRoot, as_it_is, laid, plain_root}
use Rattle.pruning.specs.Spots.{Spot, Where, at_root, stepped, past, in_edge, in_ref, spot, spots, spots_fields}
use Rattle.pruning.specs.Spots.{spots_items, edge_spots, value_spots, spots_of}
use Rattle.pruning.specs.Blanked.{hidden_of, some_begin}
use Rattle.pruning.specs.Knowing.{is_hidden, hides, known_at, known, as_named}
use Rattle.pruning.specs.Cut.{Choice}
use Rattle.pruning_laws.specs.BlankedLaws.{RootApart, blanks}
use Rattle.pruning_laws.specs.Cuts.{Parts, below_parts, fork_part, hidden_part, map_with, blank, blank_fields}
use Rattle.pruning_laws.specs.Cuts.{blank_items, blank_edge, blank_root}
use Rattle.pruning_laws.specs.KeyLaws.{begins-append, same-bytes, stripped, zero-not_one, one-not_zero}
use Rattle.pruning_laws.specs.KeyLaws.{some_begin-append, some_begin-same, some_begin-other, or_else, entry-join}
use Rattle.pruning_laws.specs.KeyLaws.{entry-below, entry-other, GoesOn, to_zero, to_one, nowhere, goes_on}
use Rattle.pruning_laws.specs.KnownLaws.{is_prefix-append, left_part, right_part}
use Rattle.pruning_laws.specs.NamesLaws.{root_apart}
use Rattle.pruning_laws.specs.PlaceLaws.{NamesApart, FieldsApart, ItemsApart, EdgeApart, All, all-append, all-map}
use Rattle.pruning_laws.specs.PlaceLaws.{within, below-spots, in-fields, in-items, in-values, edges-at, IsBelow}
use Rattle.pruning_laws.specs.PlaceLaws.{AtEdges}
use Rattle.proof_laws.specs.Laws.{KnowsExactly}
use Rattle.proof_laws.specs.Ways.{on_way, some_on_way}
use Rattle.proof_laws.specs.WayLaws.{met, met-append, met-none, met-first, met-off, or-false, OffWay, GoesElsewhere}
use Rattle.proof_laws.specs.WayLaws.{step-off, edge-way, other-number, fields-off, items-off, values-off, edges-off}
use Rattle.proof_laws.specs.WayLaws.{IsNoKey, values-no_key, edges-no_key, edge-off}

-- what is known, where something is met on the way or nothing is
abbrev Told : Bool → Option Plain → Knowledge
Told b o = cond b NotKnown (as_named o)

-- of every path from here on
abbrev Exact : Choice → Where → Laid → Type 0
Exact f w d =
    (steps : List Stride) → known (blank f w d) steps ≡ Told (met f (w.path ++ steps) (spots w d)) (at_path (plain d) steps)

-- ---- values that hide nothing and lead nowhere

plain_known : (v : Plain) → is_hidden v ≡ false → ((s : Stride) → hides v s ≡ false)
    → ((s : Stride) → step_at v s ≡ None) → (steps : List Stride) → known v steps ≡ as_named (at_path v steps)
plain_known v h hs none [] = ap (λ (b : Bool). cond b NotKnown Known) h
plain_known v h hs none (s ∷ steps) =
    (λ i. cond (hs s i) NotKnown (known_at (none s i) (λ u. known u steps)))
    ∙ sym (ap (λ (o : Option Plain). as_named (onward o (λ u. at_path u steps))) (none s))

abbrev empty : Plain
empty = values.map_of tt no_pairs []

empty_map : (s : Stride) → hides empty s ≡ false
empty_map (named x) = refl
empty_map (item i) = refl
empty_map (keyed k) = refl

no_entry : (s : Stride) → step_at empty s ≡ None
no_entry (named x) = refl
no_entry (item i) = refl
no_entry (keyed k) = refl

-- ---- references

through_ref : (v : Plain) (steps : List Stride) → known (values.ref_to tt v) steps ≡ known v steps
through_ref v [] = refl
through_ref v (s ∷ steps) = refl

named_ref : (v : Plain) (steps : List Stride)
    → as_named (at_path (values.ref_to tt v) steps) ≡ as_named (at_path v steps)
named_ref v [] = refl
named_ref v (s ∷ steps) = refl

ref_exact : (f : Choice) (w : Where) (c : Tree) (v x : Plain) (xs : List Spot) (steps : List Stride)
    → known x steps ≡ Told (met f (w.path ++ steps) xs) (at_path v steps)
    → known (cond (f (spot w None c)) (values.unknown (hidden_of c)) (values.ref_to tt x)) steps
    ≡ Told (met f (w.path ++ steps) (spot w None c ∷ xs)) (at_path (values.ref_to tt v) steps)
ref_exact f w c v x xs steps h =
    go (f (spot w None c)) steps h
    ∙ ap (λ (b : Bool). Told b (at_path (values.ref_to tt v) steps))
    (sym (met-first f (w.path ++ steps) (spot w None c) xs (is_prefix-append w.path steps)))
  where
    go : (b : Bool) (steps : List Stride) → known x steps ≡ Told (met f (w.path ++ steps) xs) (at_path v steps)
        → known (cond b (values.unknown (hidden_of c)) (values.ref_to tt x)) steps
        ≡ Told (b || met f (w.path ++ steps) xs) (at_path (values.ref_to tt v) steps)
    go true [] h = refl
    go true (s ∷ steps) h = refl
    go false steps h =
        through_ref x steps ∙ h
        ∙ ap (cond (met f (w.path ++ steps) xs) NotKnown) (sym (named_ref v steps))

-- ---- dictionaries

-- what is known of a key, and on from there
abbrev shown_at : Parts → List ℕ → List Stride → Knowledge
shown_at x k steps = cond (some_begin x.unknown k) NotKnown (known_at (entry_at x.pairs k) (λ u. known u steps))

abbrev held_at : LaidEdge → List ℕ → List Stride → Option Plain
held_at e k steps = onward (entry_at (plain_pairs e) k) (λ u. at_path u steps)

abbrev both_spots : Where → List ℕ → LaidEdge → List Spot
both_spots w q e = edge_spots w q e ++ value_spots w q e

abbrev EdgeExact : Choice → Where → List ℕ → LaidEdge → Type 0
EdgeExact f w q e =
    (k : List ℕ) (steps : List Stride)
    → shown_at (blank_edge f w q e) k steps
    ≡ Told (met f (w.path ++ keyed (q ++ k) ∷ steps) (both_spots w q e)) (held_at e k steps)

or-none : (o : Option Plain) → or_else o None ≡ o
or-none None = refl
or-none (Some v) = refl

zero_entry : (l r : List ℕ) (ps qs : PlainPairs)
    → entry_at (join (below (l ++ 0 ∷ []) ps) (below (l ++ 1 ∷ []) qs)) ((l ++ 0 ∷ []) ++ r) ≡ entry_at ps r
zero_entry l r ps qs =
    entry-join (below (l ++ 0 ∷ []) ps) (below (l ++ 1 ∷ []) qs) ((l ++ 0 ∷ []) ++ r)
    ∙ (λ i. or_else (entry-below (l ++ 0 ∷ []) ps r i)
    (entry-other (l ++ 1 ∷ []) qs ((l ++ 0 ∷ []) ++ r) (zero-not_one l r) i))
    ∙ or-none (entry_at ps r)

one_entry : (l r : List ℕ) (ps qs : PlainPairs)
    → entry_at (join (below (l ++ 0 ∷ []) ps) (below (l ++ 1 ∷ []) qs)) ((l ++ 1 ∷ []) ++ r) ≡ entry_at qs r
one_entry l r ps qs =
    entry-join (below (l ++ 0 ∷ []) ps) (below (l ++ 1 ∷ []) qs) ((l ++ 1 ∷ []) ++ r)
    ∙ (λ i. or_else (entry-other (l ++ 0 ∷ []) ps ((l ++ 1 ∷ []) ++ r) (one-not_zero l r) i)
    (entry-below (l ++ 1 ∷ []) qs r i))

no_entry_at : (l k : List ℕ) (ps qs : PlainPairs) → stripped (l ++ 0 ∷ []) k ≡ None → stripped (l ++ 1 ∷ []) k ≡ None
    → entry_at (join (below (l ++ 0 ∷ []) ps) (below (l ++ 1 ∷ []) qs)) k ≡ None
no_entry_at l k ps qs x y =
    entry-join (below (l ++ 0 ∷ []) ps) (below (l ++ 1 ∷ []) qs) k
    ∙ (λ i. or_else (entry-other (l ++ 0 ∷ []) ps k x i) (entry-other (l ++ 1 ∷ []) qs k y i))

zero_shown : (l r : List ℕ) (A B : Parts) (steps : List Stride)
    → shown_at (fork_part l A B) ((l ++ 0 ∷ []) ++ r) steps ≡ shown_at A r steps
zero_shown l r A B steps =
    let begun : some_begin (fork_part l A B).unknown ((l ++ 0 ∷ []) ++ r) ≡ some_begin A.unknown r =
    some_begin-append (below_parts (l ++ 0 ∷ []) A.unknown) (below_parts (l ++ 1 ∷ []) B.unknown)
    ((l ++ 0 ∷ []) ++ r)
    ∙ (λ i. some_begin-same (l ++ 0 ∷ []) A.unknown r i
    || some_begin-other (l ++ 1 ∷ []) B.unknown ((l ++ 0 ∷ []) ++ r) (zero-not_one l r) i)
    ∙ or-false (some_begin A.unknown r) in
    λ i. cond (begun i) NotKnown (known_at (zero_entry l r A.pairs B.pairs i) (λ u. known u steps))

one_shown : (l r : List ℕ) (A B : Parts) (steps : List Stride)
    → shown_at (fork_part l A B) ((l ++ 1 ∷ []) ++ r) steps ≡ shown_at B r steps
one_shown l r A B steps =
    let begun : some_begin (fork_part l A B).unknown ((l ++ 1 ∷ []) ++ r) ≡ some_begin B.unknown r =
    some_begin-append (below_parts (l ++ 0 ∷ []) A.unknown) (below_parts (l ++ 1 ∷ []) B.unknown)
    ((l ++ 1 ∷ []) ++ r)
    ∙ (λ i. some_begin-other (l ++ 0 ∷ []) A.unknown ((l ++ 1 ∷ []) ++ r) (one-not_zero l r) i
    || some_begin-same (l ++ 1 ∷ []) B.unknown r i) in
    λ i. cond (begun i) NotKnown (known_at (one_entry l r A.pairs B.pairs i) (λ u. known u steps))

none_shown : (l k : List ℕ) (A B : Parts) (steps : List Stride) → stripped (l ++ 0 ∷ []) k ≡ None
    → stripped (l ++ 1 ∷ []) k ≡ None → shown_at (fork_part l A B) k steps ≡ as_named None
none_shown l k A B steps x y =
    let begun : some_begin (fork_part l A B).unknown k ≡ false =
    some_begin-append (below_parts (l ++ 0 ∷ []) A.unknown) (below_parts (l ++ 1 ∷ []) B.unknown) k
    ∙ (λ i. some_begin-other (l ++ 0 ∷ []) A.unknown k x i || some_begin-other (l ++ 1 ∷ []) B.unknown k y i) in
    λ i. cond (begun i) NotKnown (known_at (no_entry_at l k A.pairs B.pairs x y i) (λ u. known u steps))

-- the cell of an edge that the key goes to: hidden itself, or what is known below it
cell_exact : (b M : Bool) (c : Tree) (x : Parts) (k : List ℕ) (steps : List Stride) (o : Option Plain)
    → shown_at x k steps ≡ Told M o → shown_at (cond b (hidden_part c) x) k steps ≡ Told (b || M) o
cell_exact true M c x k steps o h = refl
cell_exact false M c x k steps o h = h

-- the spots of one side of a fork alone are met
one_side : (f : Choice) (path : List Stride) (xs ys us vs : List Spot) → All (OffWay path) ys → All (OffWay path) vs
    → met f path ((xs ++ ys) ++ (us ++ vs)) ≡ (met f path xs || met f path us)
one_side f path xs ys us vs h k =
    met-append f path (xs ++ ys) (us ++ vs)
    ∙ (λ i. met-append f path xs ys i || met-append f path us vs i)
    ∙ (λ i. (met f path xs || met-none f path ys h i) || (met f path us || met-none f path vs k i))
    ∙ (λ i. or-false (met f path xs) i || or-false (met f path us) i)

other_side : (f : Choice) (path : List Stride) (xs ys us vs : List Spot) → All (OffWay path) xs → All (OffWay path) us
    → met f path ((xs ++ ys) ++ (us ++ vs)) ≡ (met f path ys || met f path vs)
other_side f path xs ys us vs h k =
    met-append f path (xs ++ ys) (us ++ vs)
    ∙ (λ i. met-append f path xs ys i || met-append f path us vs i)
    ∙ (λ i. (met-none f path xs h i || met f path ys) || (met-none f path us k i || met f path vs))

or-three : (a b c : Bool) → ((a || b) || c) ≡ (a || (b || c))
or-three true b c = refl
or-three false b c = refl

-- the spots of one side, whose first is the cell of its edge
side_met : (f : Choice) (path : List Stride) (x : Spot) (xs us : List Spot) → on_way path x x.prefix ≡ true
    → (met f path (x ∷ xs) || met f path us) ≡ (f x || met f path (xs ++ us))
side_met f path x xs us on =
    ap (λ (b : Bool). b || met f path us) (met-first f path x xs on)
    ∙ or-three (f x) (met f path xs) (met f path us)
    ∙ ap (λ (b : Bool). f x || b) (sym (met-append f path xs us))

-- the edges of a side that a key doesn't go to
off_edges : (m : List Stride) (k : ℕ) (q p key : List ℕ) (x : Spot) (xs : List Spot) (steps : List Stride)
    → stripped p key ≡ None → AtEdges m k (q ++ p) x → All (AtEdges m k (q ++ p)) xs
    → All (OffWay (m ++ keyed (q ++ key) ∷ steps)) (x ∷ xs)
off_edges m k q p key x xs steps apart first others =
    edges-off m k q p key steps (x ∷ xs) apart (first, others)

-- the first edge of a side
at_edge : (w : Where) (q : List ℕ) (c : Tree) → AtEdges w.path w.around q (spot w (Some q) c)
at_edge w q c = (refl, refl, ([], ap Some (sym (append-nil q))))

-- the side of a fork that a key goes to
side_exact : (f : Choice) (u : Where) (q p : List ℕ) (c : Tree) (e : LaidEdge) → EdgeExact f (in_edge u) (q ++ p) e
    → (r : List ℕ) (steps : List Stride)
    → shown_at (cond (f (spot u (Some (q ++ p)) c)) (hidden_part c) (blank_edge f (in_edge u) (q ++ p) e)) r steps
    ≡ Told (met f (u.path ++ keyed (q ++ (p ++ r)) ∷ steps) (spot u (Some (q ++ p)) c ∷ edge_spots (in_edge u) (q ++ p) e)
    || met f (u.path ++ keyed (q ++ (p ++ r)) ∷ steps) (value_spots (in_edge u) (q ++ p) e)) (held_at e r steps)
side_exact f u q p c e h r steps =
    let P : List ℕ → Type 0 = λ k. shown_at (blank_edge f (in_edge u) (q ++ p) e) r steps
    ≡ Told (met f (u.path ++ keyed k ∷ steps) (both_spots (in_edge u) (q ++ p) e)) (held_at e r steps) in
    let inside = subst P (append_assoc q p r) (h r steps) in
    let on : on_way (u.path ++ keyed (q ++ (p ++ r)) ∷ steps) (spot u (Some (q ++ p)) c) (Some (q ++ p)) ≡ true =
    edge-way u.path (q ++ p) (keyed (q ++ (p ++ r)) ∷ steps) (spot u (Some (q ++ p)) c) refl refl
    ∙ ap (begins (q ++ p)) (sym (append_assoc q p r)) ∙ begins-append (q ++ p) r in
    cell_exact (f (spot u (Some (q ++ p)) c))
    (met f (u.path ++ keyed (q ++ (p ++ r)) ∷ steps) (both_spots (in_edge u) (q ++ p) e)) c
    (blank_edge f (in_edge u) (q ++ p) e) r steps (held_at e r steps) inside
    ∙ ap (λ (b : Bool). Told b (held_at e r steps))
    (sym (side_met f (u.path ++ keyed (q ++ (p ++ r)) ∷ steps) (spot u (Some (q ++ p)) c)
    (edge_spots (in_edge u) (q ++ p) e) (value_spots (in_edge u) (q ++ p) e) on))

fork_exact : (f : Choice) (w : Where) (q l : List ℕ) (z : Tree) (a : LaidEdge) (o : Tree) (b : LaidEdge)
    → EdgeApart a → EdgeApart b → EdgeExact f (in_edge w) (q ++ (l ++ 0 ∷ [])) a
    → EdgeExact f (in_edge (past w 1)) (q ++ (l ++ 1 ∷ [])) b → EdgeExact f w q (a_fork l z a o b)
fork_exact f w q l z a o b apart other left right k steps = go (goes_on l k)
  where
    go : GoesOn l k → shown_at (blank_edge f w q (a_fork l z a o b)) k steps
        ≡ Told (met f (w.path ++ keyed (q ++ k) ∷ steps) (both_spots w q (a_fork l z a o b)))
        (held_at (a_fork l z a o b) k steps)
    go (to_zero r e) =
        let p = l ++ 0 ∷ [] in
        let n = l ++ 1 ∷ [] in
        let path = w.path ++ keyed (q ++ (p ++ r)) ∷ steps in
        let v = past w 1 in
        let P : List ℕ → Type 0 = λ k. shown_at (blank_edge f w q (a_fork l z a o b)) k steps
        ≡ Told (met f (w.path ++ keyed (q ++ k) ∷ steps) (both_spots w q (a_fork l z a o b)))
        (held_at (a_fork l z a o b) k steps) in
        let edges = off_edges w.path w.around q n (p ++ r) (spot v (Some (q ++ n)) o) (edge_spots (in_edge v) (q ++ n) b)
        steps (zero-not_one l r) (at_edge v (q ++ n) o) (edges-at (in_edge v) (q ++ n) b) in
        let others = values-off w.path q n (p ++ r) steps (value_spots (in_edge v) (q ++ n) b) (zero-not_one l r)
        (in-values (in_edge v) (q ++ n) b other) in
        let side = one_side f path (spot w (Some (q ++ p)) z ∷ edge_spots (in_edge w) (q ++ p) a)
        (spot v (Some (q ++ n)) o ∷ edge_spots (in_edge v) (q ++ n) b) (value_spots (in_edge w) (q ++ p) a)
        (value_spots (in_edge v) (q ++ n) b) edges others in
        let held : held_at (a_fork l z a o b) (p ++ r) steps ≡ held_at a r steps =
        ap (λ (x : Option Plain). onward x (λ u. at_path u steps)) (zero_entry l r (plain_pairs a) (plain_pairs b)) in
        subst P (sym e)
        (zero_shown l r (left_part f w q l z a) (right_part f w q l o b) steps
        ∙ side_exact f w q p z a left r steps
        ∙ (λ i. Told ((sym side) i) ((sym held) i)))
    go (to_one r e) =
        let p = l ++ 1 ∷ [] in
        let n = l ++ 0 ∷ [] in
        let path = w.path ++ keyed (q ++ (p ++ r)) ∷ steps in
        let v = past w 1 in
        let P : List ℕ → Type 0 = λ k. shown_at (blank_edge f w q (a_fork l z a o b)) k steps
        ≡ Told (met f (w.path ++ keyed (q ++ k) ∷ steps) (both_spots w q (a_fork l z a o b)))
        (held_at (a_fork l z a o b) k steps) in
        let edges = off_edges w.path w.around q n (p ++ r) (spot w (Some (q ++ n)) z) (edge_spots (in_edge w) (q ++ n) a)
        steps (one-not_zero l r) (at_edge w (q ++ n) z) (edges-at (in_edge w) (q ++ n) a) in
        let others = values-off w.path q n (p ++ r) steps (value_spots (in_edge w) (q ++ n) a) (one-not_zero l r)
        (in-values (in_edge w) (q ++ n) a apart) in
        let side = other_side f path (spot w (Some (q ++ n)) z ∷ edge_spots (in_edge w) (q ++ n) a)
        (spot v (Some (q ++ p)) o ∷ edge_spots (in_edge v) (q ++ p) b) (value_spots (in_edge w) (q ++ n) a)
        (value_spots (in_edge v) (q ++ p) b) edges others in
        let held : held_at (a_fork l z a o b) (p ++ r) steps ≡ held_at b r steps =
        ap (λ (x : Option Plain). onward x (λ u. at_path u steps)) (one_entry l r (plain_pairs a) (plain_pairs b)) in
        subst P (sym e)
        (one_shown l r (left_part f w q l z a) (right_part f w q l o b) steps
        ∙ side_exact f (past w 1) q p o b right r steps
        ∙ (λ i. Told ((sym side) i) ((sym held) i)))
    go (nowhere x y) =
        let p = l ++ 0 ∷ [] in
        let n = l ++ 1 ∷ [] in
        let path = w.path ++ keyed (q ++ k) ∷ steps in
        let v = past w 1 in
        let zero_edges = off_edges w.path w.around q p k (spot w (Some (q ++ p)) z) (edge_spots (in_edge w) (q ++ p) a)
        steps x (at_edge w (q ++ p) z) (edges-at (in_edge w) (q ++ p) a) in
        let one_edges = off_edges w.path w.around q n k (spot v (Some (q ++ n)) o) (edge_spots (in_edge v) (q ++ n) b)
        steps y (at_edge v (q ++ n) o) (edges-at (in_edge v) (q ++ n) b) in
        let zero_values = values-off w.path q p k steps (value_spots (in_edge w) (q ++ p) a) x
        (in-values (in_edge w) (q ++ p) a apart) in
        let one_values = values-off w.path q n k steps (value_spots (in_edge v) (q ++ n) b) y
        (in-values (in_edge v) (q ++ n) b other) in
        let side = one_side f path (spot w (Some (q ++ p)) z ∷ edge_spots (in_edge w) (q ++ p) a)
        (spot v (Some (q ++ n)) o ∷ edge_spots (in_edge v) (q ++ n) b) (value_spots (in_edge w) (q ++ p) a)
        (value_spots (in_edge v) (q ++ n) b) one_edges one_values in
        let met_none : met f path (both_spots w q (a_fork l z a o b)) ≡ false =
        side ∙ (λ i. met-none f path (spot w (Some (q ++ p)) z ∷ edge_spots (in_edge w) (q ++ p) a) zero_edges i
        || met-none f path (value_spots (in_edge w) (q ++ p) a) zero_values i) in
        let held : held_at (a_fork l z a o b) k steps ≡ None =
        ap (λ (x : Option Plain). onward x (λ u. at_path u steps))
        (no_entry_at l k (plain_pairs a) (plain_pairs b) x y) in
        none_shown l k (left_part f w q l z a) (right_part f w q l o b) steps x y
        ∙ (λ i. Told ((sym met_none) i) ((sym held) i))

-- a map by its edges
map_exact : (f : Choice) (m : List Stride) (e : LaidEdge) (x : Parts) (xs : List Spot)
    → ((steps : List Stride) → IsNoKey steps → met f (m ++ steps) xs ≡ false)
    → ((k : List ℕ) (steps : List Stride)
    → shown_at x k steps ≡ Told (met f (m ++ keyed k ∷ steps) xs) (held_at e k steps))
    → (steps : List Stride)
    → known (map_with x) steps ≡ Told (met f (m ++ steps) xs) (at_path (values.map_of tt (plain_pairs e) []) steps)
map_exact f m e x xs none some [] =
    ap (λ (b : Bool). Told b (Some (values.map_of tt (plain_pairs e) []))) (sym (none [] tt))
map_exact f m e x xs none some (named name ∷ steps) =
    ap (λ (b : Bool). Told b None) (sym (none (named name ∷ steps) tt))
map_exact f m e x xs none some (item j ∷ steps) = ap (λ (b : Bool). Told b None) (sym (none (item j ∷ steps) tt))
map_exact f m e x xs none some (keyed k ∷ steps) = some k steps

no_key_met : (f : Choice) (w : Where) (q : List ℕ) (e : LaidEdge) → EdgeApart e → (steps : List Stride) → IsNoKey steps
    → met f (w.path ++ steps) (both_spots w q e) ≡ false
no_key_met f w q e apart steps none =
    met-none f (w.path ++ steps) (both_spots w q e)
    (all-append (OffWay (w.path ++ steps)) (edge_spots w q e) (value_spots w q e)
    (edges-no_key w.path w.around q steps (edge_spots w q e) none (edges-at w q e))
    (values-no_key w.path q steps (value_spots w q e) none (in-values w q e apart)))

under_exact : (f : Choice) (w : Where) (c : Tree) (e : LaidEdge) → EdgeApart e → EdgeExact f (in_edge w) [] e
    → (steps : List Stride)
    → known (map_with (cond (f (spot w (Some []) c)) (hidden_part c) (blank_edge f (in_edge w) [] e))) steps
    ≡ Told (met f (w.path ++ steps) (spot w (Some []) c ∷ both_spots (in_edge w) [] e))
    (at_path (values.map_of tt (plain_pairs e) []) steps)
under_exact f w c e apart h =
    map_exact f w.path e (cond (f (spot w (Some []) c)) (hidden_part c) (blank_edge f (in_edge w) [] e))
    (spot w (Some []) c ∷ both_spots (in_edge w) [] e)
    (λ steps none. met-off f (w.path ++ steps) (spot w (Some []) c) (both_spots (in_edge w) [] e)
    (edge-off w.path [] steps (spot w (Some []) c) none refl refl)
    ∙ no_key_met f (in_edge w) [] e apart steps none)
    (λ k steps. cell_exact (f (spot w (Some []) c)) (met f (w.path ++ keyed k ∷ steps) (both_spots (in_edge w) [] e)) c
    (blank_edge f (in_edge w) [] e) k steps (held_at e k steps) (h k steps)
    ∙ ap (λ (b : Bool). Told b (held_at e k steps))
    (sym (met-first f (w.path ++ keyed k ∷ steps) (spot w (Some []) c) (both_spots (in_edge w) [] e)
    (edge-way w.path [] (keyed k ∷ steps) (spot w (Some []) c) refl refl))))

-- ---- records and lists

-- the value at a step, and other spots
first_exact : (f : Choice) (w : Where) (s t : Stride) (d : Laid) (others : List Spot) (steps : List Stride)
    → Exact f (stepped w s) d → s ≡ t → All (OffWay (w.path ++ t ∷ steps)) others
    → known (blank f (stepped w s) d) steps
    ≡ Told (met f (w.path ++ t ∷ steps) (spots (stepped w s) d ++ others)) (at_path (plain d) steps)
first_exact f w s t d others steps h same off =
    let path : (w.path ++ s ∷ []) ++ steps ≡ w.path ++ t ∷ steps =
    append_assoc w.path (s ∷ []) steps ∙ ap (λ (z : Stride). w.path ++ z ∷ steps) same in
    let none : met f (w.path ++ t ∷ steps) (spots (stepped w s) d ++ others)
    ≡ met f (w.path ++ t ∷ steps) (spots (stepped w s) d) =
    met-append f (w.path ++ t ∷ steps) (spots (stepped w s) d) others
    ∙ ap (λ (b : Bool). met f (w.path ++ t ∷ steps) (spots (stepped w s) d) || b)
    (met-none f (w.path ++ t ∷ steps) others off)
    ∙ or-false (met f (w.path ++ t ∷ steps) (spots (stepped w s) d)) in
    h steps
    ∙ ap (λ (p : List Stride). Told (met f p (spots (stepped w s) d)) (at_path (plain d) steps)) path
    ∙ ap (λ (b : Bool). Told b (at_path (plain d) steps)) (sym none)

-- the value at another step
skip_met : (f : Choice) (w : Where) (s : Stride) (d : Laid) → NamesApart d → (others : List Spot) (b : List Stride)
    → GoesElsewhere s b
    → met f (w.path ++ b) (spots (stepped w s) d ++ others) ≡ met f (w.path ++ b) others
skip_met f w s d apart others b other =
    let off = all-map (IsBelow (w.path ++ s ∷ []) 0) (OffWay (w.path ++ b)) (λ x h.
    let u = within w.path s x.path x.around h in step-off w.path s u.0 b x u.1 other) (spots (stepped w s) d)
    (below-spots (stepped w s) d apart) in
    met-append f (w.path ++ b) (spots (stepped w s) d) others
    ∙ ap (λ (x : Bool). x || met f (w.path ++ b) others) (met-none f (w.path ++ b) (spots (stepped w s) d) off)

-- a step that no field or no item has
fields_met : (f : Choice) (w : Where) (names : List (List ℕ)) (ds : Laids) → FieldsApart names ds → (b : List Stride)
    → ((x : List ℕ) → GoesElsewhere (named x) b) → met f (w.path ++ b) (spots_fields w names ds) ≡ false
fields_met f w names no_laids apart b other = refl
fields_met f w [] (a_laid d ds) apart b other = absurd apart
fields_met f w (x ∷ names) (a_laid d ds) apart b other =
    skip_met f w (named x) d apart.1 (spots_fields (past w (length (trees d))) names ds) b (other x)
    ∙ fields_met f (past w (length (trees d))) names ds apart.2 b other

items_met : (f : Choice) (w : Where) (n : ℕ) (ds : Laids) → ItemsApart ds → (b : List Stride)
    → ((i : ℕ) → GoesElsewhere (item i) b) → met f (w.path ++ b) (spots_items w n ds) ≡ false
items_met f w n no_laids apart b other = refl
items_met f w n (a_laid d ds) apart b other =
    skip_met f w (item n) d apart.0 (spots_items (past w (length (trees d))) (suc n) ds) b (other n)
    ∙ items_met f (past w (length (trees d))) (suc n) ds apart.1 b other

-- what is known of a field, and of an item
abbrev FieldExact : Choice → Where → List (List ℕ) → Laids → Type 0
FieldExact f w names ds =
    (x : List ℕ) (steps : List Stride)
    → known_at (field_at names (blank_fields f w names ds) x) (λ u. known u steps)
    ≡ Told (met f (w.path ++ named x ∷ steps) (spots_fields w names ds))
    (onward (field_at names (plain_all ds) x) (λ u. at_path u steps))

abbrev ItemExact : Choice → Where → ℕ → Laids → Type 0
ItemExact f w n ds =
    (i j : ℕ) → j ≡ n + i → (steps : List Stride)
    → known_at (item_at (blank_items f w n ds) i) (λ u. known u steps)
    ≡ Told (met f (w.path ++ item j ∷ steps) (spots_items w n ds))
    (onward (item_at (plain_all ds) i) (λ u. at_path u steps))

field_exact : (f : Choice) (w : Where) (y : List ℕ) (names : List (List ℕ)) (d : Laid) (ds : Laids)
    → FieldsApart (y ∷ names) (a_laid d ds) → Exact f (stepped w (named y)) d
    → FieldExact f (past w (length (trees d))) names ds → FieldExact f w (y ∷ names) (a_laid d ds)
field_exact f w y names d ds apart here others x steps = go (bytes_eq y x) refl
  where
    go : (b : Bool) → bytes_eq y x ≡ b
        → known_at (cond b (Some (blank f (stepped w (named y)) d)) (field_at names
        (blank_fields f (past w (length (trees d))) names ds) x)) (λ u. known u steps)
        ≡ Told (met f (w.path ++ named x ∷ steps) (spots (stepped w (named y)) d
        ++ spots_fields (past w (length (trees d))) names ds))
        (onward (cond b (Some (plain d)) (field_at names (plain_all ds) x)) (λ u. at_path u steps))
    go true e =
        let same = (bytes_eq-Decides y x).0 e in
        let P : List ℕ → Type 0 = λ x. All (OffWay (w.path ++ named x ∷ steps))
        (spots_fields (past w (length (trees d))) names ds) in
        first_exact f w (named y) (named x) d (spots_fields (past w (length (trees d))) names ds) steps here
        (ap named same)
        (subst P same (fields-off w.path y names steps (spots_fields (past w (length (trees d))) names ds) apart.0
        (in-fields (past w (length (trees d))) names ds apart.2)))
    go false e =
        others x steps
        ∙ ap (λ (b : Bool). Told b (onward (field_at names (plain_all ds) x) (λ u. at_path u steps)))
        (sym (skip_met f w (named y) d apart.1 (spots_fields (past w (length (trees d))) names ds) (named x ∷ steps) e))

item_exact : (f : Choice) (w : Where) (n : ℕ) (d : Laid) (ds : Laids) → ItemsApart (a_laid d ds)
    → Exact f (stepped w (item n)) d → ItemExact f (past w (length (trees d))) (suc n) ds
    → ItemExact f w n (a_laid d ds)
item_exact f w n d ds apart here others zero j e steps =
    let same : n ≡ j = omega (arith, e) in
    let P : ℕ → Type 0 = λ j. All (OffWay (w.path ++ item j ∷ steps))
    (spots_items (past w (length (trees d))) (suc n) ds) in
    first_exact f w (item n) (item j) d (spots_items (past w (length (trees d))) (suc n) ds) steps here (ap item same)
    (subst P same (items-off w.path n steps (spots_items (past w (length (trees d))) (suc n) ds)
    (in-items (past w (length (trees d))) (suc n) ds apart.1)))
item_exact f w n d ds apart here others (suc i) j e steps =
    others i j (omega (arith, e)) steps
    ∙ ap (λ (b : Bool). Told b (onward (item_at (plain_all ds) i) (λ u. at_path u steps)))
    (sym (skip_met f w (item n) d apart.0 (spots_items (past w (length (trees d))) (suc n) ds) (item j ∷ steps)
    (other-number n j (λ s. absurd (omega (arith, e, s))))))

record_exact : (f : Choice) (w : Where) (name : Option (List ℕ)) (names : List (List ℕ)) (ds : Laids)
    → FieldsApart names ds → FieldExact f w names ds → (steps : List Stride)
    → known (values.record_of name names (blank_fields f w names ds)) steps
    ≡ Told (met f (w.path ++ steps) (spots_fields w names ds)) (at_path (values.record_of name names (plain_all ds)) steps)
record_exact f w name names ds apart h [] =
    ap (λ (b : Bool). Told b (Some (values.record_of name names (plain_all ds))))
    (sym (fields_met f w names ds apart [] (λ x. tt)))
record_exact f w name names ds apart h (named x ∷ steps) = h x steps
record_exact f w name names ds apart h (item i ∷ steps) =
    ap (λ (b : Bool). Told b None) (sym (fields_met f w names ds apart (item i ∷ steps) (λ x. refl)))
record_exact f w name names ds apart h (keyed k ∷ steps) =
    ap (λ (b : Bool). Told b None) (sym (fields_met f w names ds apart (keyed k ∷ steps) (λ x. refl)))

list_exact : (f : Choice) (w : Where) (ds : Laids) → ItemsApart ds → ItemExact f w 0 ds → (steps : List Stride)
    → known (values.list_of (blank_items f w 0 ds)) steps
    ≡ Told (met f (w.path ++ steps) (spots_items w 0 ds)) (at_path (values.list_of (plain_all ds)) steps)
list_exact f w ds apart h [] =
    ap (λ (b : Bool). Told b (Some (values.list_of (plain_all ds)))) (sym (items_met f w 0 ds apart [] (λ i. tt)))
list_exact f w ds apart h (named x ∷ steps) =
    ap (λ (b : Bool). Told b None) (sym (items_met f w 0 ds apart (named x ∷ steps) (λ i. refl)))
list_exact f w ds apart h (item i ∷ steps) = h i i (omega arith) steps
list_exact f w ds apart h (keyed k ∷ steps) =
    ap (λ (b : Bool). Told b None) (sym (items_met f w 0 ds apart (keyed k ∷ steps) (λ i. refl)))

leaf_exact : (f : Choice) (w : Where) (q l : List ℕ) (d : Laid) → NamesApart d → Exact f (stepped w (keyed (q ++ l))) d
    → EdgeExact f w q (a_leaf l d)
leaf_exact f w q l d apart here k steps = go (bytes_eq l k) refl
  where
    none : spots (stepped w (keyed (q ++ l))) d ++ [] ≡ spots (stepped w (keyed (q ++ l))) d
    none = append-nil (spots (stepped w (keyed (q ++ l))) d)

    go : (b : Bool) → bytes_eq l k ≡ b
        → known_at (cond b (Some (blank f (stepped w (keyed (q ++ l))) d)) None) (λ u. known u steps)
        ≡ Told (met f (w.path ++ keyed (q ++ k) ∷ steps) (spots (stepped w (keyed (q ++ l))) d))
        (onward (cond b (Some (plain d)) None) (λ u. at_path u steps))
    go true e =
        let same : keyed (q ++ l) ≡ keyed (q ++ k) = ap (λ (z : List ℕ). keyed (q ++ z)) ((bytes_eq-Decides l k).0 e) in
        first_exact f w (keyed (q ++ l)) (keyed (q ++ k)) d [] steps here same tt
        ∙ ap (λ (xs : List Spot). Told (met f (w.path ++ keyed (q ++ k) ∷ steps) xs) (at_path (plain d) steps)) none
    go false e =
        ap (λ (b : Bool). Told b None)
        (sym (ap (met f (w.path ++ keyed (q ++ k) ∷ steps)) (sym none)
        ∙ skip_met f w (keyed (q ++ l)) d apart [] (keyed (q ++ k) ∷ steps) (same-bytes q l k ∙ e)))

-- ---- all values

mutual
  exact : (f : Choice) (w : Where) (d : Laid) → NamesApart d → Exact f w d
  exact f w (number negative size) apart = plain_known (values.number negative size) refl (λ s. refl) (λ s. refl)
  exact f w (bit_string bits) apart = plain_known (values.bit_string bits) refl (λ s. refl) (λ s. refl)
  exact f w (record_of name names ds) apart = record_exact f w name names ds apart (fields_exact f w names ds apart)
  exact f w absent apart = plain_known values.absent refl (λ s. refl) (λ s. refl)
  exact f w (list_of ds) apart = list_exact f w ds apart (items_exact f w 0 ds apart)
  exact f w (ref_to c d) apart = λ steps.
      ref_exact f w c (plain d) (blank f (in_ref w) d) (spots (in_ref w) d) steps (exact f (in_ref w) d apart steps)
  exact f w (ref_to_raw c) apart = λ steps.
      ref_exact f w c (values.raw c) (values.raw c) [] steps
      (plain_known (values.raw c) refl (λ s. refl) (λ s. refl) steps)
  exact f w no_map apart = plain_known empty refl empty_map no_entry
  exact f w (map_under c e) apart = under_exact f w c e apart (edge_exact f (in_edge w) [] e apart)
  exact f w (map_here e) apart =
      map_exact f w.path e (blank_edge f w [] e) (both_spots w [] e) (no_key_met f w [] e apart)
      (edge_exact f w [] e apart)
  exact f w (rest s) apart = plain_known (values.rest s) refl (λ s. refl) (λ s. refl)

  fields_exact : (f : Choice) (w : Where) (names : List (List ℕ)) (ds : Laids) → FieldsApart names ds
      → FieldExact f w names ds
  fields_exact f w [] no_laids apart x steps = refl
  fields_exact f w (y ∷ names) no_laids apart x steps = refl
  fields_exact f w [] (a_laid d ds) apart x steps = absurd apart
  fields_exact f w (y ∷ names) (a_laid d ds) apart x steps =
      field_exact f w y names d ds apart (exact f (stepped w (named y)) d apart.1)
      (fields_exact f (past w (length (trees d))) names ds apart.2) x steps

  items_exact : (f : Choice) (w : Where) (n : ℕ) (ds : Laids) → ItemsApart ds → ItemExact f w n ds
  items_exact f w n no_laids apart i j e steps = refl
  items_exact f w n (a_laid d ds) apart i j e steps =
      item_exact f w n d ds apart (exact f (stepped w (item n)) d apart.0)
      (items_exact f (past w (length (trees d))) (suc n) ds apart.1) i j e steps

  edge_exact : (f : Choice) (w : Where) (q : List ℕ) (e : LaidEdge) → EdgeApart e → EdgeExact f w q e
  edge_exact f w q (a_leaf l d) apart = leaf_exact f w q l d apart (exact f (stepped w (keyed (q ++ l))) d apart)
  edge_exact f w q (a_fork l z a o b) apart =
      fork_exact f w q l z a o b apart.0 apart.1 (edge_exact f (in_edge w) (q ++ (l ++ 0 ∷ [])) a apart.0)
      (edge_exact f (in_edge (past w 1)) (q ++ (l ++ 1 ∷ [])) b apart.1)

-- ---- the root

root_exact : (f : Choice) (r : LaidRoot) → RootApart r → (path : List Stride)
    → known (blank_root f r) path ≡ Told (some_on_way path (filter f (spots_of r))) (at_path (plain_root r) path)
root_exact f (as_it_is c) apart = plain_known (values.raw c) refl (λ s. refl) (λ s. refl)
root_exact f (laid d) apart = exact f at_root d apart

pub knows_exactly : KnowsExactly
knows_exactly schema names t c r lies f path =
    let apart = root_apart schema names t c r lies in
    ap (λ (w : Plain). known w path) (blanks f r apart) ∙ root_exact f r apart path
