-- What is known of a path all of whose spots are kept.
use Rattle.std.specs.Prelude.{not}
use Rattle.std.proofs.Common.{◌≡◌, ℕ, zero, suc, ◌+◌, Bool, true, false, cond, ◌&&◌, ◌||◌, List, [], ◌∷◌, ◌++◌}
use Rattle.std.proofs.Common.{length, Option, Some, None, slice_get, refl, sym, ap, ◌∙◌, subst, append_assoc, arith}
use Rattle.std.specs.Prelude.{bytes_eq}
use Rattle.std.proofs.lemmas.Bool.{eq-eqb}
use Rattle.std.proofs.lemmas.Slice.Eq.{bytes_eq-Decides}
use Rattle.cell_nodes.specs.declared.tree.Tree.{Tree}
use Rattle.schema_leads.specs.Leads.{begins}
use Rattle.typed_value.specs.Paths.{Stride, named, item, keyed, field_at, item_at, entry_at, step_at, onward, at_path}
use Rattle.typed_value.specs.Values.{Plain, PlainPairs, no_pairs, a_pair}
use Rattle.typed_value.specs.Values as values
use Rattle.pruning.specs.declared.Knowledge.TheVariants.{Known, NotKnown}
use Rattle.pruning.specs.Laid.{Laid, number, bit_string, record_of, absent, list_of, ref_to, ref_to_raw, no_map}
use Rattle.pruning.specs.Laid.{map_under, map_here, rest, Laids, no_laids, a_laid, LaidEdge, a_leaf, a_fork, join}
use Rattle.pruning.specs.Laid.{below, plain, plain_all, plain_pairs, trees}
use Rattle.pruning.specs.SpellsLaid.{LaidRoot, as_it_is, laid, plain_root}
use Rattle.pruning.specs.Spots.{Spot, Where, at_root, stepped, past, in_edge, in_ref, spot, same_stride, is_prefix}
use Rattle.pruning.specs.Spots.{enters, needs, kept, unless_kept}
use Rattle.pruning.specs.Blanked.{hidden_of, some_begin}
use Rattle.pruning.specs.Knowing.{is_hidden, hides, known_at, known, as_named}
use Rattle.pruning.specs.Cut.{Choice}
use Rattle.pruning_laws.specs.Cuts.{Parts, below_parts, hidden_part, map_with, fork_part, blank, blank_fields}
use Rattle.pruning_laws.specs.Cuts.{blank_items, blank_edge, blank_root}
use Rattle.pruning_laws.specs.KeyLaws.{begins-append, stripped, zero-not_one, one-not_zero, some_begin-append}
use Rattle.pruning_laws.specs.KeyLaws.{some_begin-same, some_begin-other, or_else, entry-join, entry-below}
use Rattle.pruning_laws.specs.KeyLaws.{entry-other, GoesOn, to_zero, to_one, nowhere, goes_on}

-- ---- what is kept on the way

-- the references `^` at a path
abbrev pub RefsKept : Choice → List Stride → Type 0
RefsKept f m = (x : Spot) → x.path ≡ m → x.prefix ≡ None → f x ≡ false

-- the edges that lead to a key of the map at a path
abbrev pub EdgesKept : Choice → List Stride → Stride → Type 0
EdgesKept f m (named x) = Unit {0}
EdgesKept f m (item i) = Unit {0}
EdgesKept f m (keyed key) = (x : Spot) (q : List ℕ) → x.path ≡ m → x.prefix ≡ Some q → begins q key ≡ true → f x ≡ false

abbrev pub WayKept : Choice → List Stride → List Stride → Type 0
WayKept f m [] = RefsKept f m
WayKept f m (s ∷ steps) = RefsKept f m × EdgesKept f m s × WayKept f (m ++ s ∷ []) steps

-- ---- one step

-- nothing is there in both, or a laid value and the same with parts hidden
abbrev pub Matches : Choice → List Stride → Option Plain → Option Plain → Type 0
Matches f m None None = Unit {0}
Matches f m None (Some x) = ⊥
Matches f m (Some u) None = ⊥
Matches f m (Some u) (Some x) = (w : Where) × (d : Laid) × (w.path ≡ m) × (plain d ≡ u) × (blank f w d ≡ x)

named-same : (w : List Stride) (x y : List ℕ) → bytes_eq x y ≡ true → w ++ named x ∷ [] ≡ w ++ named y ∷ []
named-same w x y e = ap (λ (z : List ℕ). w ++ named z ∷ []) ((bytes_eq-Decides x y).0 e)

field_matches : (f : Choice) (w : Where) (names : List (List ℕ)) (ds : Laids) (name : List ℕ)
    → Matches f (w.path ++ named name ∷ []) (field_at names (plain_all ds) name)
    (field_at names (blank_fields f w names ds) name)
field_matches f w [] ds name = tt
field_matches f w (x ∷ names) no_laids name = tt
field_matches f w (x ∷ names) (a_laid d ds) name =
    go (bytes_eq x name) refl (field_matches f (past w (length (trees d))) names ds name)
  where
    go : (b : Bool) → bytes_eq x name ≡ b
        → Matches f (w.path ++ named name ∷ []) (field_at names (plain_all ds) name)
        (field_at names (blank_fields f (past w (length (trees d))) names ds) name)
        → Matches f (w.path ++ named name ∷ []) (cond b (Some (plain d)) (field_at names (plain_all ds) name))
        (cond b (Some (blank f (stepped w (named x)) d)) (field_at names
        (blank_fields f (past w (length (trees d))) names ds) name))
    go true e ih = (stepped w (named x), d, named-same w.path x name e, refl, refl)
    go false e ih = ih

item_matches : (f : Choice) (w : Where) (n : ℕ) (ds : Laids) (i j : ℕ) → j ≡ n + i
    → Matches f (w.path ++ item j ∷ []) (item_at (plain_all ds) i) (item_at (blank_items f w n ds) i)
item_matches f w n no_laids i j e = tt
item_matches f w n (a_laid d ds) zero j e =
    (stepped w (item n), d, ap (λ (x : ℕ). w.path ++ item x ∷ []) (omega (arith, e)), refl, refl)
item_matches f w n (a_laid d ds) (suc i) j e =
    item_matches f (past w (length (trees d))) (suc n) ds i j (omega (arith, e))

-- what an edge has at a key
pub record EdgeMatches (f : Choice) (m : List Stride) (e : LaidEdge) (x : Parts) (k : List ℕ) : Type 0 where
  pub shown : some_begin x.unknown k ≡ false
  pub there : Matches f m (entry_at (plain_pairs e) k) (entry_at x.pairs k)

abbrev KeyKept : Choice → List Stride → List ℕ → Type 0
KeyKept f m key = (x : Spot) (q : List ℕ) → x.path ≡ m → x.prefix ≡ Some q → begins q key ≡ true → f x ≡ false

or-none : (o : Option Plain) → or_else o None ≡ o
or-none None = refl
or-none (Some v) = refl

-- a key that goes on with 0
zero_matches : (f : Choice) (m : List Stride) (l : List ℕ) (z o : Tree) (a b : LaidEdge) (A B : Parts) (r : List ℕ)
    → EdgeMatches f m a A r → EdgeMatches f m (a_fork l z a o b) (fork_part l A B) ((l ++ 0 ∷ []) ++ r)
zero_matches f m l z o a b A B r h =
    let k = (l ++ 0 ∷ []) ++ r in
    let P : Option Plain → Type 0 = λ u. Matches f m u (entry_at (fork_part l A B).pairs k) in
    let Q : Option Plain → Type 0 = λ u. Matches f m (entry_at (plain_pairs a) r) u in
    let value : (ps qs : PlainPairs) → entry_at (join (below (l ++ 0 ∷ []) ps) (below (l ++ 1 ∷ []) qs)) k ≡ entry_at
    ps r =
    λ ps qs. entry-join (below (l ++ 0 ∷ []) ps) (below (l ++ 1 ∷ []) qs) k
    ∙ (λ i. or_else (entry-below (l ++ 0 ∷ []) ps r i) (entry-other (l ++ 1 ∷ []) qs k (zero-not_one l r) i))
    ∙ or-none (entry_at ps r) in
    record {
      shown = some_begin-append (below_parts (l ++ 0 ∷ []) A.unknown) (below_parts (l ++ 1 ∷ []) B.unknown) k
          ∙ (λ i. (some_begin-same (l ++ 0 ∷ []) A.unknown r ∙ h.shown) i || some_begin-other (l ++ 1 ∷ []) B.unknown
          k (zero-not_one l r) i);
      there = subst P (sym (value (plain_pairs a) (plain_pairs b))) (subst Q (sym (value A.pairs B.pairs)) h.there);
    }

one_matches : (f : Choice) (m : List Stride) (l : List ℕ) (z o : Tree) (a b : LaidEdge) (A B : Parts) (r : List ℕ)
    → EdgeMatches f m b B r → EdgeMatches f m (a_fork l z a o b) (fork_part l A B) ((l ++ 1 ∷ []) ++ r)
one_matches f m l z o a b A B r h =
    let k = (l ++ 1 ∷ []) ++ r in
    let P : Option Plain → Type 0 = λ u. Matches f m u (entry_at (fork_part l A B).pairs k) in
    let Q : Option Plain → Type 0 = λ u. Matches f m (entry_at (plain_pairs b) r) u in
    let value : (ps qs : PlainPairs) → entry_at (join (below (l ++ 0 ∷ []) ps) (below (l ++ 1 ∷ []) qs)) k ≡ entry_at
    qs r =
    λ ps qs. entry-join (below (l ++ 0 ∷ []) ps) (below (l ++ 1 ∷ []) qs) k
    ∙ (λ i. or_else (entry-other (l ++ 0 ∷ []) ps k (one-not_zero l r) i) (entry-below (l ++ 1 ∷ []) qs r i)) in
    record {
      shown = some_begin-append (below_parts (l ++ 0 ∷ []) A.unknown) (below_parts (l ++ 1 ∷ []) B.unknown) k
          ∙ (λ i. some_begin-other (l ++ 0 ∷ []) A.unknown k (one-not_zero l r) i ||
          (some_begin-same (l ++ 1 ∷ []) B.unknown r ∙ h.shown) i);
      there = subst P (sym (value (plain_pairs a) (plain_pairs b))) (subst Q (sym (value A.pairs B.pairs)) h.there);
    }

no_matches : (f : Choice) (m : List Stride) (l : List ℕ) (z o : Tree) (a b : LaidEdge) (A B : Parts) (k : List ℕ)
    → stripped (l ++ 0 ∷ []) k ≡ None → stripped (l ++ 1 ∷ []) k ≡ None
    → EdgeMatches f m (a_fork l z a o b) (fork_part l A B) k
no_matches f m l z o a b A B k x y =
    let P : Option Plain → Type 0 = λ u. Matches f m u (entry_at (fork_part l A B).pairs k) in
    let Q : Option Plain → Type 0 = λ u. Matches f m None u in
    let value : (ps qs : PlainPairs) → entry_at (join (below (l ++ 0 ∷ []) ps) (below (l ++ 1 ∷ []) qs)) k ≡ None =
    λ ps qs. entry-join (below (l ++ 0 ∷ []) ps) (below (l ++ 1 ∷ []) qs) k
    ∙ (λ i. or_else (entry-other (l ++ 0 ∷ []) ps k x i) (entry-other (l ++ 1 ∷ []) qs k y i)) in
    record {
      shown = some_begin-append (below_parts (l ++ 0 ∷ []) A.unknown) (below_parts (l ++ 1 ∷ []) B.unknown) k
          ∙ (λ i. some_begin-other (l ++ 0 ∷ []) A.unknown k x i || some_begin-other (l ++ 1 ∷ []) B.unknown k y i);
      there = subst P (sym (value (plain_pairs a) (plain_pairs b))) (subst Q (sym (value A.pairs B.pairs)) tt);
    }

-- a cell of an edge that leads to the key is kept
cell_matches : (f : Choice) (w : Where) (m : List Stride) (e : LaidEdge) (q p r : List ℕ) (c : Tree) (x : Parts)
    → KeyKept f w.path (q ++ (p ++ r)) → EdgeMatches f m e x r
    → EdgeMatches f m e (cond (f (spot w (Some (q ++ p)) c)) (hidden_part c) x) r
cell_matches f w m e q p r c x kept h =
    let P : Bool → Type 0 = λ b. EdgeMatches f m e (cond b (hidden_part c) x) r in
    let B : List ℕ → Type 0 = λ k. begins (q ++ p) k ≡ true in
    subst P (sym (kept (spot w (Some (q ++ p)) c) (q ++ p) refl refl
    (subst B (append_assoc q p r) (begins-append (q ++ p) r)))) h

leaf_matches : (f : Choice) (w : Where) (q l : List ℕ) (d : Laid) (k : List ℕ)
    → EdgeMatches f (w.path ++ keyed (q ++ k) ∷ []) (a_leaf l d) (blank_edge f w q (a_leaf l d)) k
leaf_matches f w q l d k = record { shown = refl; there = go (bytes_eq l k) refl }
  where
    go : (b : Bool) → bytes_eq l k ≡ b
        → Matches f (w.path ++ keyed (q ++ k) ∷ []) (cond b (Some (plain d)) None)
        (cond b (Some (blank f (stepped w (keyed (q ++ l))) d)) None)
    go true e = (
      stepped w (keyed (q ++ l)),
      d,
      ap (λ (z : List ℕ). w.path ++ keyed (q ++ z) ∷ [])
          ((bytes_eq-Decides l k).0 e),
      refl,
      refl,
    )
    go false e = tt

-- what is left of the two edges of a fork
abbrev pub left_part : Choice → Where → List ℕ → List ℕ → Tree → LaidEdge → Parts
left_part f w q l z a =
    cond (f (spot w (Some (q ++ (l ++ 0 ∷ []))) z)) (hidden_part z) (blank_edge f (in_edge w) (q ++ (l ++ 0 ∷ [])) a)

abbrev pub right_part : Choice → Where → List ℕ → List ℕ → Tree → LaidEdge → Parts
right_part f w q l o b =
    cond (f (spot (past w 1) (Some (q ++ (l ++ 1 ∷ []))) o)) (hidden_part o)
    (blank_edge f (in_edge (past w 1)) (q ++ (l ++ 1 ∷ [])) b)

edge_matches : (f : Choice) (w : Where) (q : List ℕ) (e : LaidEdge) (k : List ℕ) → KeyKept f w.path (q ++ k)
    → EdgeMatches f (w.path ++ keyed (q ++ k) ∷ []) e (blank_edge f w q e) k
edge_matches f w q (a_leaf l d) k kept = leaf_matches f w q l d k
edge_matches f w q (a_fork l z a o b) k kept =
    go (goes_on l k)
    (λ r. edge_matches f (in_edge w) (q ++ (l ++ 0 ∷ [])) a r)
    (λ r. edge_matches f (in_edge (past w 1)) (q ++ (l ++ 1 ∷ [])) b r)
  where
    go : GoesOn l k
        → ((r : List ℕ) → KeyKept f w.path ((q ++ (l ++ 0 ∷ [])) ++ r)
        → EdgeMatches f (w.path ++ keyed ((q ++ (l ++ 0 ∷ [])) ++ r) ∷ []) a
        (blank_edge f (in_edge w) (q ++ (l ++ 0 ∷ [])) a) r)
        → ((r : List ℕ) → KeyKept f w.path ((q ++ (l ++ 1 ∷ [])) ++ r)
        → EdgeMatches f (w.path ++ keyed ((q ++ (l ++ 1 ∷ [])) ++ r) ∷ []) b
        (blank_edge f (in_edge (past w 1)) (q ++ (l ++ 1 ∷ [])) b) r)
        → EdgeMatches f (w.path ++ keyed (q ++ k) ∷ []) (a_fork l z a o b) (blank_edge f w q (a_fork l z a o b)) k
    go (to_zero r e) left right =
        let p = l ++ 0 ∷ [] in
        let K : List ℕ → Type 0 = λ k. KeyKept f w.path (q ++ k) in
        let there = subst K e kept in
        let L : List ℕ → Type 0 = λ k. KeyKept f w.path k in
        let x = left r (subst L (sym (append_assoc q p r)) there) in
        let P : List ℕ → Type 0 = λ k. EdgeMatches f (w.path ++ keyed k ∷ []) a (blank_edge f (in_edge w) (q ++ p) a)
        r in
        let y = subst P (append_assoc q p r) x in
        let c = cell_matches f w (w.path ++ keyed (q ++ (p ++ r)) ∷ []) a q p r z
        (blank_edge f (in_edge w) (q ++ p) a) there y in
        let Q : List ℕ → Type 0 = λ k. EdgeMatches f (w.path ++ keyed (q ++ k) ∷ []) (a_fork l z a o b)
        (blank_edge f w q (a_fork l z a o b)) k in
        subst Q (sym e) (zero_matches f (w.path ++ keyed (q ++ (p ++ r)) ∷ []) l z o a b (left_part f w q l z a)
        (right_part f w q l o b) r c)
    go (to_one r e) left right =
        let p = l ++ 1 ∷ [] in
        let K : List ℕ → Type 0 = λ k. KeyKept f w.path (q ++ k) in
        let there = subst K e kept in
        let L : List ℕ → Type 0 = λ k. KeyKept f w.path k in
        let x = right r (subst L (sym (append_assoc q p r)) there) in
        let P : List ℕ → Type 0 = λ k. EdgeMatches f (w.path ++ keyed k ∷ []) b
        (blank_edge f (in_edge (past w 1)) (q ++ p) b) r in
        let y = subst P (append_assoc q p r) x in
        let c = cell_matches f (past w 1) (w.path ++ keyed (q ++ (p ++ r)) ∷ []) b q p r o
        (blank_edge f (in_edge (past w 1)) (q ++ p) b) there y in
        let Q : List ℕ → Type 0 = λ k. EdgeMatches f (w.path ++ keyed (q ++ k) ∷ []) (a_fork l z a o b)
        (blank_edge f w q (a_fork l z a o b)) k in
        subst Q (sym e) (one_matches f (w.path ++ keyed (q ++ (p ++ r)) ∷ []) l z o a b (left_part f w q l z a)
        (right_part f w q l o b) r c)
    go (nowhere x y) left right = no_matches f (w.path ++ keyed (q ++ k) ∷ []) l z o a b (left_part f w q l z a)
        (right_part f w q l o b) k x y

-- ---- one step of any value

pub record StepMatches (f : Choice) (m : List Stride) (v x : Plain) (s : Stride) : Type 0 where
  pub shown : hides x s ≡ false
  pub there : Matches f (m ++ s ∷ []) (step_at v s) (step_at x s)

map_matches : (f : Choice) (m : List Stride) (e : LaidEdge) (x : Parts) (s : Stride)
    → ((key : List ℕ) → s ≡ keyed key → EdgeMatches f (m ++ keyed key ∷ []) e x key)
    → StepMatches f m (values.map_of tt (plain_pairs e) []) (map_with x) s
map_matches f m e x (named name) h = record { shown = refl; there = tt }
map_matches f m e x (item i) h = record { shown = refl; there = tt }
map_matches f m e x (keyed key) h = let y = h key refl in record { shown = y.shown; there = y.there }

record_matches : (f : Choice) (w : Where) (name : Option (List ℕ)) (names : List (List ℕ)) (ds : Laids) (s : Stride)
    → StepMatches f w.path (values.record_of name names (plain_all ds))
    (values.record_of name names (blank_fields f w names ds)) s
record_matches f w name names ds (named x) = record { shown = refl; there = field_matches f w names ds x }
record_matches f w name names ds (item i) = record { shown = refl; there = tt }
record_matches f w name names ds (keyed k) = record { shown = refl; there = tt }

list_matches : (f : Choice) (w : Where) (ds : Laids) (s : Stride)
    → StepMatches f w.path (values.list_of (plain_all ds)) (values.list_of (blank_items f w 0 ds)) s
list_matches f w ds (named x) = record { shown = refl; there = tt }
list_matches f w ds (item i) = record { shown = refl; there = item_matches f w 0 ds i i (omega arith) }
list_matches f w ds (keyed k) = record { shown = refl; there = tt }

none_match : (f : Choice) (m : List Stride) (s : Stride)
    → StepMatches f m (values.map_of tt no_pairs []) (values.map_of tt no_pairs []) s
none_match f m (named x) = record { shown = refl; there = tt }
none_match f m (item i) = record { shown = refl; there = tt }
none_match f m (keyed k) = record { shown = refl; there = tt }

key_kept : (f : Choice) (m : List Stride) (s : Stride) → EdgesKept f m s → (key : List ℕ) → s ≡ keyed key
    → KeyKept f m key
key_kept f m s kept key e = let P : Stride → Type 0 = EdgesKept f m in subst P e kept

step_matches : (f : Choice) (w : Where) (d : Laid) (s : Stride) → RefsKept f w.path → EdgesKept f w.path s
    → StepMatches f w.path (plain d) (blank f w d) s
step_matches f w (number negative size) s refs edges = record { shown = refl; there = tt }
step_matches f w (bit_string bits) s refs edges = record { shown = refl; there = tt }
step_matches f w (record_of name names ds) s refs edges = record_matches f w name names ds s
step_matches f w absent s refs edges = record { shown = refl; there = tt }
step_matches f w (list_of ds) s refs edges = list_matches f w ds s
step_matches f w (ref_to c d) s refs edges =
    let P : Bool → Type 0 = λ b. StepMatches f w.path (values.ref_to tt (plain d))
    (cond b (values.unknown (hidden_of c)) (values.ref_to tt (blank f (in_ref w) d))) s in
    let x = step_matches f (in_ref w) d s refs edges in
    subst P (sym (refs (spot w None c) refl refl)) (record { shown = x.shown; there = x.there })
step_matches f w (ref_to_raw c) s refs edges =
    let P : Bool → Type 0 = λ b. StepMatches f w.path (values.ref_to tt (values.raw c))
    (cond b (values.unknown (hidden_of c)) (values.ref_to tt (values.raw c))) s in
    subst P (sym (refs (spot w None c) refl refl)) (record { shown = refl; there = tt })
step_matches f w no_map s refs edges = none_match f w.path s
step_matches f w (map_under c e) s refs edges =
    map_matches f w.path e (cond (f (spot w (Some []) c)) (hidden_part c) (blank_edge f (in_edge w) [] e)) s
    (λ key same.
    cell_matches f w (w.path ++ keyed key ∷ []) e [] [] key c (blank_edge f (in_edge w) [] e)
    (key_kept f w.path s edges key same)
    (edge_matches f (in_edge w) [] e key (key_kept f w.path s edges key same)))
step_matches f w (map_here e) s refs edges =
    map_matches f w.path e (blank_edge f w [] e) s (λ key same.
    edge_matches f w [] e key (key_kept f w.path s edges key same))
step_matches f w (rest r) s refs edges = record { shown = refl; there = tt }

-- ---- a whole path

shown_here : (f : Choice) (w : Where) (d : Laid) → RefsKept f w.path → is_hidden (blank f w d) ≡ false
shown_here f w (number negative size) refs = refl
shown_here f w (bit_string bits) refs = refl
shown_here f w (record_of name names ds) refs = refl
shown_here f w absent refs = refl
shown_here f w (list_of ds) refs = refl
shown_here f w (ref_to c d) refs =
    let P : Bool → Type 0 = λ b.
    is_hidden (cond b (values.unknown (hidden_of c)) (values.ref_to tt (blank f (in_ref w) d))) ≡ false in
    subst P (sym (refs (spot w None c) refl refl)) (shown_here f (in_ref w) d refs)
shown_here f w (ref_to_raw c) refs =
    let P : Bool → Type 0 = λ b.
    is_hidden (cond b (values.unknown (hidden_of c)) (values.ref_to tt (values.raw c))) ≡ false in
    subst P (sym (refs (spot w None c) refl refl)) refl
shown_here f w no_map refs = refl
shown_here f w (map_under c e) refs = refl
shown_here f w (map_here e) refs = refl
shown_here f w (rest r) refs = refl

pub known_way : (f : Choice) (steps : List Stride) (w : Where) (d : Laid) → WayKept f w.path steps
    → known (blank f w d) steps ≡ as_named (at_path (plain d) steps)
known_way f [] w d kept = ap (λ (b : Bool). cond b NotKnown Known) (shown_here f w d kept)
known_way f (s ∷ steps) w d kept =
    let x = step_matches f w d s kept.0 kept.1 in
    ap (λ (b : Bool). cond b NotKnown (known_at (step_at (blank f w d) s) (λ u. known u steps))) x.shown
    ∙ go (step_at (plain d) s) (step_at (blank f w d) s) x.there (λ w d. known_way f steps w d)
  where
    go : (a b : Option Plain) → Matches f (w.path ++ s ∷ []) a b
        → ((w : Where) (d : Laid) → WayKept f w.path steps → known (blank f w d) steps ≡ as_named
        (at_path (plain d) steps))
        → known_at b (λ u. known u steps) ≡ as_named (onward a (λ u. at_path u steps))
    go None None h further = refl
    go None (Some y) h further = absurd h
    go (Some u) None h further = absurd h
    go (Some u) (Some y) h further =
        let P : List Stride → Type 0 = λ m. WayKept f m steps in
        ap (λ (z : Plain). known z steps) (sym h.4) ∙ further h.0 h.1 (subst P (sym h.2) kept.2)
        ∙ ap (λ (z : Plain). as_named (at_path z steps)) h.3

-- ---- a chosen path keeps its way

stride-self : (s : Stride) → same_stride s s ≡ true
stride-self (named x) = (bytes_eq-Decides x x).1 refl
stride-self (item i) = eq-eqb i i refl
stride-self (keyed k) = (bytes_eq-Decides k k).1 refl

pub is_prefix-append : (m steps : List Stride) → is_prefix m (m ++ steps) ≡ true
is_prefix-append [] steps = refl
is_prefix-append (s ∷ m) steps = λ i. stride-self s i && is_prefix-append m steps i

enters-append : (q : List ℕ) (m : List Stride) (key : List ℕ) (steps : List Stride) → begins q key ≡ true
    → enters q m (m ++ keyed key ∷ steps) ≡ true
enters-append q [] key steps e = e
enters-append q (s ∷ m) key steps e = λ i. stride-self s i && enters-append q m key steps e i

or-right : (a b : Bool) → b ≡ true → (a || b) ≡ true
or-right true b e = refl
or-right false b e = e

is_kept : (paths : List (List Stride)) (i : ℕ) (path : List Stride) (x : Spot) → slice_get paths i ≡ Some path
    → needs path x x.prefix ≡ true → kept paths x ≡ true
is_kept [] i path x e h = absurd (cc)
is_kept (p ∷ paths) zero path x e h =
    let same : p ≡ path = cc in
    let P : List Stride → Type 0 = λ p. (needs p x x.prefix || kept paths x) ≡ true in
    subst P (sym same) (ap (λ b. b || kept paths x) h)
is_kept (p ∷ paths) (suc i) path x e h = or-right (needs p x x.prefix) (kept paths x) (is_kept paths i path x e h)

refs_kept : (paths : List (List Stride)) (i : ℕ) (path : List Stride) → slice_get paths i ≡ Some path
    → (m steps : List Stride) → path ≡ m ++ steps → RefsKept (unless_kept paths) m
refs_kept paths i path e m steps same x at none =
    ap not (is_kept paths i path x e
    (ap (needs path x) none ∙ or-right (is_prefix path x.path) (is_prefix x.path path)
    ((λ j. is_prefix (at j) (same j)) ∙ is_prefix-append m steps)))

edges_kept : (paths : List (List Stride)) (i : ℕ) (path : List Stride) → slice_get paths i ≡ Some path
    → (m steps : List Stride) (s : Stride) → path ≡ m ++ s ∷ steps → EdgesKept (unless_kept paths) m s
edges_kept paths i path e m steps (named x) same = tt
edges_kept paths i path e m steps (item j) same = tt
edges_kept paths i path e m steps (keyed key) same = λ x q at prefix begin.
    ap not (is_kept paths i path x e
    (ap (needs path x) prefix ∙ or-right (is_prefix path x.path) (enters q x.path path)
    ((λ j. enters q (at j) (same j)) ∙ enters-append q m key steps begin)))

way_kept : (paths : List (List Stride)) (i : ℕ) (path : List Stride) → slice_get paths i ≡ Some path
    → (steps m : List Stride) → path ≡ m ++ steps → WayKept (unless_kept paths) m steps
way_kept paths i path e [] m same = refs_kept paths i path e m [] same
way_kept paths i path e (s ∷ steps) m same = (
  refs_kept paths i path e m (s ∷ steps) same,
  edges_kept paths i path e m steps s same,
  way_kept paths i path e steps (m ++ s ∷ []) (same ∙ sym (append_assoc m (s ∷ []) steps)),
)

-- of each chosen path it is known whether it leads to a value
pub chosen_known : (paths : List (List Stride)) (i : ℕ) (path : List Stride) → slice_get paths i ≡ Some path
    → (r : LaidRoot) → known (blank_root (unless_kept paths) r) path ≡ as_named (at_path (plain_root r) path)
chosen_known paths i path e (as_it_is c) = raw_known path
  where
    raw_known : (path : List Stride) → known (values.raw c) path ≡ as_named (at_path (values.raw c) path)
    raw_known [] = refl
    raw_known (s ∷ steps) = refl
chosen_known paths i path e (laid d) = known_way (unless_kept paths) path at_root d
    (way_kept paths i path e path [] refl)
