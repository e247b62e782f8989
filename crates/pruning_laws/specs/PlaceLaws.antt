-- Each spot of a laid value has a place of its own: a list of spots has at a place what was chosen there.
use Rattle.std.specs.Prelude.{filter}
use Rattle.std.proofs.Common.{◌≡◌, ◌⊎◌, inl, inr, ℕ, suc, ◌<◌, ◌≤◌, Bool, true, false, cond, ◌&&◌, nat_eq, List, []}
use Rattle.std.proofs.Common.{◌∷◌, ◌++◌, length, Option, Some, None, refl, sym, ap, ◌∙◌, subst, append_assoc}
use Rattle.std.proofs.Common.{length-append, arith}
use Rattle.std.proofs.lemmas.Bool.{eq-eqb, eqb-true}
use Rattle.std.proofs.lemmas.List.{append_cancel_left}
use Rattle.std.proofs.lemmas.Slice.Eq.{bytes_eq-Decides}
use Rattle.cell_nodes.specs.declared.tree.Tree.{Tree}
use Rattle.typed_value.specs.Paths.{Stride, named, item, keyed}
use Rattle.pruning.specs.Laid.{Laid, number, bit_string, record_of, absent, list_of, ref_to, ref_to_raw, no_map}
use Rattle.pruning.specs.Laid.{map_under, map_here, rest, Laids, no_laids, a_laid, LaidEdge, a_leaf, a_fork, trees}
use Rattle.pruning.specs.Names.{NotAmong}
use Rattle.pruning.specs.Spots.{Spot, Where, stepped, past, in_edge, in_ref, spot, first_name, other_names, spots}
use Rattle.pruning.specs.Spots.{spots_fields, spots_items, edge_spots, value_spots, same_stride}
use Rattle.pruning.specs.Blanked.{KeyPart, same_path, is_ref_at, ref_at, with_prefix, edges_at}
use Rattle.pruning.specs.Cut.{Choice}

-- ---- names

abbrev pub IsAmong : List ℕ → List (List ℕ) → Type 0
IsAmong x [] = ⊥
IsAmong x (y ∷ ys) = (x ≡ y) ⊎ IsAmong x ys

-- each record has a name for each field, and no two are the same
abbrev mutual
  pub NamesApart : Laid → Type 0
  NamesApart (number negative size) = Unit {0}
  NamesApart (bit_string bits) = Unit {0}
  NamesApart (record_of name names ds) = FieldsApart names ds
  NamesApart absent = Unit {0}
  NamesApart (list_of ds) = ItemsApart ds
  NamesApart (ref_to c d) = NamesApart d
  NamesApart (ref_to_raw c) = Unit {0}
  NamesApart no_map = Unit {0}
  NamesApart (map_under c e) = EdgeApart e
  NamesApart (map_here e) = EdgeApart e
  NamesApart (rest s) = Unit {0}

  pub FieldsApart : List (List ℕ) → Laids → Type 0
  FieldsApart names no_laids = Unit {0}
  FieldsApart [] (a_laid d ds) = ⊥
  FieldsApart (x ∷ names) (a_laid d ds) = NotAmong x names × NamesApart d × FieldsApart names ds

  pub ItemsApart : Laids → Type 0
  ItemsApart no_laids = Unit {0}
  ItemsApart (a_laid d ds) = NamesApart d × ItemsApart ds

  pub EdgeApart : LaidEdge → Type 0
  EdgeApart (a_leaf l d) = NamesApart d
  EdgeApart (a_fork l z a o b) = EdgeApart a × EdgeApart b

pub among-apart : (x y : List ℕ) (names : List (List ℕ)) → NotAmong x names → IsAmong y names → y ≡ x → ⊥
among-apart x y [] h k e = k
among-apart x y (z ∷ zs) h (inl k) e = h.0 (sym e ∙ k)
among-apart x y (z ∷ zs) h (inr k) e = among-apart x y zs h.1 k e

-- ---- all spots of a list

abbrev pub All : (Spot → Type 0) → List Spot → Type 0
All P [] = Unit {0}
All P (x ∷ xs) = P x × All P xs

pub all-append : (P : Spot → Type 0) (xs ys : List Spot) → All P xs → All P ys → All P (xs ++ ys)
all-append P [] ys a b = b
all-append P (x ∷ xs) ys a b = (a.0, all-append P xs ys a.1 b)

pub all-map : (P Q : Spot → Type 0) → ((x : Spot) → P x → Q x) → (xs : List Spot) → All P xs → All Q xs
all-map P Q f [] a = tt
all-map P Q f (x ∷ xs) a = (f x a.0, all-map P Q f xs a.1)

all-chosen : (f : Choice) (P : Spot → Type 0) (xs : List Spot) → All P xs → All P (filter f xs)
all-chosen f P [] a = tt
all-chosen f P (x ∷ xs) a = go (f x) (all-chosen f P xs a.1)
  where
    go : (b : Bool) → All P (filter f xs) → All P (cond b (x ∷ filter f xs) (filter f xs))
    go true h = (a.0, h)
    go false h = h

pub chosen-append : (f : Choice) (xs ys : List Spot) → filter f (xs ++ ys) ≡ filter f xs ++ filter f ys
chosen-append f [] ys = refl
chosen-append f (x ∷ xs) ys = go (f x) (chosen-append f xs ys)
  where
    go : (b : Bool) → filter f (xs ++ ys) ≡ filter f xs ++ filter f ys
        → cond b (x ∷ filter f (xs ++ ys)) (filter f (xs ++ ys)) ≡ cond b (x ∷ filter f xs) (filter f xs) ++ filter f ys
    go true h = ap (λ (l : List Spot). x ∷ l) h
    go false h = h

-- ---- paths

stride-same : (s t : Stride) → same_stride s t ≡ true → s ≡ t
stride-same (named x) (named y) e = ap named ((bytes_eq-Decides x y).0 e)
stride-same (named x) (item j) e = absurd (cc)
stride-same (named x) (keyed k) e = absurd (cc)
stride-same (item i) (named y) e = absurd (cc)
stride-same (item i) (item j) e = ap item (eqb-true i j e)
stride-same (item i) (keyed k) e = absurd (cc)
stride-same (keyed k) (named y) e = absurd (cc)
stride-same (keyed k) (item j) e = absurd (cc)
stride-same (keyed k) (keyed l) e = ap keyed ((bytes_eq-Decides k l).0 e)

pub stride-self : (s : Stride) → same_stride s s ≡ true
stride-self (named x) = (bytes_eq-Decides x x).1 refl
stride-self (item i) = eq-eqb i i refl
stride-self (keyed k) = (bytes_eq-Decides k k).1 refl

path-same : (p q : List Stride) → same_path p q ≡ true → p ≡ q
path-same [] [] e = refl
path-same [] (t ∷ q) e = absurd (cc)
path-same (s ∷ p) [] e = absurd (cc)
path-same (s ∷ p) (t ∷ q) e = go (same_stride s t) refl e (path-same p q)
  where
    go : (b : Bool) → same_stride s t ≡ b → (b && same_path p q) ≡ true → (same_path p q ≡ true → p ≡ q)
        → s ∷ p ≡ t ∷ q
    go true f h ih = λ i. stride-same s t f i ∷ ih h i
    go false f h ih = absurd (cc)

pub path-self : (p : List Stride) → same_path p p ≡ true
path-self [] = refl
path-self (s ∷ p) = λ i. stride-self s i && path-self p i

path-other : (p q : List Stride) → (p ≡ q → ⊥) → same_path p q ≡ false
path-other p q h = go (same_path p q) refl
  where
    go : (b : Bool) → same_path p q ≡ b → b ≡ false
    go true e = absurd (h (path-same p q e))
    go false e = refl

longer : (m : List Stride) (s : Stride) (steps : List Stride) → m ≡ m ++ s ∷ steps → ⊥
longer m s steps e =
    let l : length m ≡ length (m ++ s ∷ steps) = ap length e in
    let n = length-append m (s ∷ steps) in
    omega (arith, l, n)

first_step : Stride → List Stride → Stride
first_step d [] = d
first_step d (s ∷ steps) = s

same_step : (m : List Stride) (s t : Stride) (a b : List Stride) → m ++ s ∷ a ≡ m ++ t ∷ b → s ≡ t
unfolding first_step
same_step m s t a b e = ap (first_step s) (append_cancel_left m (s ∷ a) (t ∷ b) e)

-- ---- places under a place

abbrev pub Under : List Stride → ℕ → List Stride → ℕ → Type 0
Under m k n j = ((n ≡ m) × (k ≤ j)) ⊎ ((s : Stride) × (steps : List Stride) × (n ≡ m ++ s ∷ steps))

pub under-here : (m : List Stride) (k : ℕ) → Under m k m k
under-here m k = inl (refl, omega arith)

under-ref : (m : List Stride) (k : ℕ) (n : List Stride) (j : ℕ) → Under m (suc k) n j → Under m k n j
under-ref m k n j (inl h) = let l = h.1 in inl (h.0, omega (arith, l))
under-ref m k n j (inr h) = inr h

-- one step on
pub within : (m : List Stride) (s : Stride) (n : List Stride) (j : ℕ) → Under (m ++ s ∷ []) 0 n j
    → (steps : List Stride) × (n ≡ m ++ s ∷ steps)
within m s n j (inl h) = ([], h.0)
within m s n j (inr h) = (h.0 ∷ h.1, h.2 ∙ append_assoc m (s ∷ []) (h.0 ∷ h.1))

under-step : (m : List Stride) (k : ℕ) (s : Stride) (n : List Stride) (j : ℕ) → Under (m ++ s ∷ []) 0 n j
    → Under m k n j
under-step m k s n j h = let w = within m s n j h in inr (s, w.0, w.1)

-- ---- lists that have the same at each place under a place

pub record Agree (m : List Stride) (k : ℕ) (S T : List Spot) : Type 0 where
  pub refs : (n : List Stride) (j : ℕ) → Under m k n j → ref_at n j S ≡ ref_at n j T
  pub edges : (n : List Stride) (j : ℕ) → Under m k n j → edges_at n S ≡ edges_at n T

agree-ref : (m : List Stride) (k : ℕ) (S T : List Spot) → Agree m k S T → Agree m (suc k) S T
agree-ref m k S T a = record {
  refs = λ n j u. a.refs n j (under-ref m k n j u);
  edges = λ n j u. a.edges n j (under-ref m k n j u);
}

agree-step : (m : List Stride) (k : ℕ) (S T : List Spot) → Agree m k S T → (s : Stride) → Agree (m ++ s ∷ []) 0 S T
agree-step m k S T a s = record {
  refs = λ n j u. a.refs n j (under-step m k s n j u);
  edges = λ n j u. a.edges n j (under-step m k s n j u);
}

-- a spot that is found at no place under a place
pub record Foreign (m : List Stride) (k : ℕ) (x : Spot) : Type 0 where
  pub refs : (n : List Stride) (j : ℕ) → Under m k n j → is_ref_at n j x x.prefix ≡ false
  pub edges : (n : List Stride) (j : ℕ) → Under m k n j → edges_at n (x ∷ []) ≡ []

edges-skip : (n : List Stride) (x : Spot) (S : List Spot) → edges_at n (x ∷ []) ≡ [] → edges_at n (x ∷ S) ≡ edges_at n S
edges-skip n x S h = go (same_path x.path n) x.prefix h
  where
    go : (b : Bool) (p : Option (List ℕ)) → (◌≡◌ {A = List KeyPart} (cond b (with_prefix x p []) []) [])
        → (◌≡◌ {A = List KeyPart} (cond b (with_prefix x p (edges_at n S)) (edges_at n S)) (edges_at n S))
    go true None h = refl
    go true (Some q) h = absurd (cc)
    go false p h = refl

ref-skip : (n : List Stride) (j : ℕ) (x : Spot) (S : List Spot) → is_ref_at n j x x.prefix ≡ false
    → ref_at n j (x ∷ S) ≡ ref_at n j S
ref-skip n j x S h = ap (λ (b : Bool). cond b (Some x.tree) (ref_at n j S)) h

agree-before : (m : List Stride) (k : ℕ) (xs S : List Spot) → All (Foreign m k) xs → Agree m k S (xs ++ S)
agree-before m k [] S h = record { refs = λ n j u. refl; edges = λ n j u. refl }
agree-before m k (x ∷ xs) S h =
    let a = agree-before m k xs S h.1 in
    let f = h.0 in
    record {
      refs = λ n j u. a.refs n j u ∙ sym (ref-skip n j x (xs ++ S) (f.refs n j u));
      edges = λ n j u. a.edges n j u ∙ sym (edges-skip n x (xs ++ S) (f.edges n j u));
    }

no-refs : (m : List Stride) (k : ℕ) (xs : List Spot) → All (Foreign m k) xs → (n : List Stride) (j : ℕ) → Under m k n j
    → ref_at n j xs ≡ None
no-refs m k [] h n j u = refl
no-refs m k (x ∷ xs) h n j u = let f = h.0 in ref-skip n j x xs (f.refs n j u) ∙ no-refs m k xs h.1 n j u

no-edges : (m : List Stride) (k : ℕ) (xs : List Spot) → All (Foreign m k) xs → (n : List Stride) (j : ℕ) → Under m k n j
    → edges_at n xs ≡ []
no-edges m k [] h n j u = refl
no-edges m k (x ∷ xs) h n j u = let f = h.0 in edges-skip n x xs (f.edges n j u) ∙ no-edges m k xs h.1 n j u

refs-after : (n : List Stride) (j : ℕ) (S xs : List Spot) → ref_at n j xs ≡ None → ref_at n j S ≡ ref_at n j (S ++ xs)
refs-after n j [] xs h = sym h
refs-after n j (x ∷ S) xs h =
    ap (λ (o : Option Tree). cond (is_ref_at n j x x.prefix) (Some x.tree) o) (refs-after n j S xs h)

edges-after : (n : List Stride) (S xs : List Spot) → edges_at n xs ≡ [] → edges_at n S ≡ edges_at n (S ++ xs)
edges-after n [] xs h = sym h
edges-after n (x ∷ S) xs h =
    ap (λ (us : List KeyPart). cond (same_path x.path n) (with_prefix x x.prefix us) us) (edges-after n S xs h)

agree-after : (m : List Stride) (k : ℕ) (S xs : List Spot) → All (Foreign m k) xs → Agree m k S (S ++ xs)
agree-after m k S xs h = record {
  refs = λ n j u. refs-after n j S xs (no-refs m k xs h n j u);
  edges = λ n j u. edges-after n S xs (no-edges m k xs h n j u);
}

-- ---- which spots are foreign

path-foreign : (m : List Stride) (k : ℕ) (x : Spot)
    → ((n : List Stride) (j : ℕ) → Under m k n j → x.path ≡ n → ⊥) → Foreign m k x
path-foreign m k x h = record {
  refs = λ n j u. go n j x.prefix (path-other x.path n (h n j u));
  edges = λ n j u. ap (λ (b : Bool). cond b (with_prefix x x.prefix []) []) (path-other x.path n (h n j u));
}
  where
    go : (n : List Stride) (j : ℕ) (p : Option (List ℕ)) → same_path x.path n ≡ false → is_ref_at n j x p ≡ false
    go n j None e = ap (λ (b : Bool). b && nat_eq x.around j) e
    go n j (Some q) e = refl

-- at another step
step-foreign : (m : List Stride) (s t : Stride) → (s ≡ t → ⊥) → (x : Spot) (steps : List Stride)
    → x.path ≡ m ++ s ∷ steps → Foreign (m ++ t ∷ []) 0 x
step-foreign m s t h x steps e = path-foreign (m ++ t ∷ []) 0 x (λ n j u f.
    let w = within m t n j u in
    h (same_step m s t steps w.0 (sym e ∙ f ∙ w.1)))

-- before a step
here-foreign : (m : List Stride) (t : Stride) (x : Spot) → x.path ≡ m → Foreign (m ++ t ∷ []) 0 x
here-foreign m t x e = path-foreign (m ++ t ∷ []) 0 x (λ n j u f.
    let w = within m t n j u in
    longer m t w.0 (sym e ∙ f ∙ w.1))

-- a reference `^` around
ref-foreign : (w : Where) (c : Tree) → Foreign w.path (suc w.around) (spot w None c)
ref-foreign w c = record { refs = λ n j u. refs n j u; edges = λ n j u. edges (same_path w.path n) }
  where
    edges : (b : Bool) → (◌≡◌ {A = List KeyPart} (cond b [] []) [])
    edges true = refl
    edges false = refl

    other : (k j : ℕ) → suc k ≤ j → nat_eq k j ≡ false
    other k j l = go (nat_eq k j) refl
      where
        go : (b : Bool) → nat_eq k j ≡ b → b ≡ false
        go true e = let s = eqb-true k j e in absurd (omega (arith, s, l))
        go false e = refl

    and-false : (b : Bool) → (b && false) ≡ false
    and-false true = refl
    and-false false = refl

    refs : (n : List Stride) (j : ℕ) → Under w.path (suc w.around) n j → (same_path w.path n && nat_eq w.around j) ≡
        false
    refs n j (inl h) = ap (λ (b : Bool). same_path w.path n && b) (other w.around j h.1) ∙ and-false
        (same_path w.path n)
    refs n j (inr h) =
        ap (λ (b : Bool). b && nat_eq w.around j) (path-other w.path n (λ e. longer w.path h.0 h.1 (e ∙ h.2)))

-- ---- where spots are

abbrev pub IsBelow : List Stride → ℕ → Spot → Type 0
IsBelow m k x = Under m k x.path x.around

abbrev pub InFields : List Stride → List (List ℕ) → Spot → Type 0
InFields m names x = (y : List ℕ) × (steps : List Stride) × (x.path ≡ m ++ named y ∷ steps) × IsAmong y names

abbrev pub InItems : List Stride → ℕ → Spot → Type 0
InItems m i x = (j : ℕ) × (steps : List Stride) × (x.path ≡ m ++ item j ∷ steps) × (i ≤ j)

abbrev pub InValues : List Stride → List ℕ → Spot → Type 0
InValues m q x = (r : List ℕ) × (steps : List Stride) × (x.path ≡ m ++ keyed (q ++ r) ∷ steps)

abbrev pub AtEdges : List Stride → ℕ → List ℕ → Spot → Type 0
AtEdges m k q x = (x.path ≡ m) × (x.around ≡ k) × ((r : List ℕ) × (x.prefix ≡ Some (q ++ r)))

values-deeper : (m : List Stride) (q p : List ℕ) (x : Spot) → InValues m (q ++ p) x → InValues m q x
values-deeper m q p x h =
    (p ++ h.0, h.1, h.2 ∙ ap (λ (k : List ℕ). m ++ keyed k ∷ h.1) (append_assoc q p h.0))

edges-deeper : (m : List Stride) (k : ℕ) (q p : List ℕ) (x : Spot) → AtEdges m k (q ++ p) x → AtEdges m k q x
edges-deeper m k q p x h = (h.0, h.1, (p ++ h.2.0, h.2.1 ∙ ap Some (append_assoc q p h.2.0)))

edge-first : (w : Where) (q p : List ℕ) (c : Tree) → AtEdges w.path w.around q (spot w (Some (q ++ p)) c)
edge-first w q p c = (refl, refl, (p, refl))

pub edges-at : (w : Where) (q : List ℕ) (e : LaidEdge) → All (AtEdges w.path w.around q) (edge_spots w q e)
edges-at w q (a_leaf l d) = tt
edges-at w q (a_fork l z a o b) =
    let x = l ++ 0 ∷ [] in
    let y = l ++ 1 ∷ [] in
    all-append (AtEdges w.path w.around q) (spot w (Some (q ++ x)) z ∷ edge_spots (in_edge w) (q ++ x) a)
    (spot (past w 1) (Some (q ++ y)) o ∷ edge_spots (in_edge (past w 1)) (q ++ y) b) (
      edge-first w q x z,
      all-map (AtEdges w.path w.around (q ++ x)) (AtEdges w.path w.around q)
          (edges-deeper w.path w.around q x) (edge_spots (in_edge w) (q ++ x) a) (edges-at (in_edge w) (q ++ x) a),
    ) (
      edge-first (past w 1) q y o,
      all-map (AtEdges w.path w.around (q ++ y)) (AtEdges w.path w.around q)
          (edges-deeper w.path w.around q y) (edge_spots (in_edge (past w 1)) (q ++ y) b)
          (edges-at (in_edge (past w 1)) (q ++ y) b),
    )

edges-below : (m : List Stride) (k : ℕ) (q : List ℕ) (x : Spot) → AtEdges m k q x → IsBelow m k x
edges-below m k q x h = let e = h.1 in inl (h.0, omega (arith, e))

values-below : (m : List Stride) (k : ℕ) (q : List ℕ) (x : Spot) → InValues m q x → IsBelow m k x
values-below m k q x h = inr (keyed (q ++ h.0), h.1, h.2)

mutual
  pub below-spots : (w : Where) (d : Laid) → NamesApart d → All (IsBelow w.path w.around) (spots w d)
  below-spots w (number negative size) apart = tt
  below-spots w (bit_string bits) apart = tt
  below-spots w (record_of name names ds) apart =
      all-map (InFields w.path names) (IsBelow w.path w.around) (λ x h. inr (named h.0, h.1, h.2))
      (spots_fields w names ds)
      (in-fields w names ds apart)
  below-spots w absent apart = tt
  below-spots w (list_of ds) apart =
      all-map (InItems w.path 0) (IsBelow w.path w.around) (λ x h. inr (item h.0, h.1, h.2)) (spots_items w 0 ds)
      (in-items w 0 ds apart)
  below-spots w (ref_to c d) apart = (
    under-here w.path w.around,
    all-map (IsBelow w.path (suc w.around)) (IsBelow w.path w.around) (λ x. under-ref w.path w.around x.path x.around)
        (spots (in_ref w) d) (below-spots (in_ref w) d apart),
  )
  below-spots w (ref_to_raw c) apart = (under-here w.path w.around, tt)
  below-spots w no_map apart = tt
  below-spots w (map_under c e) apart = (
    under-here w.path w.around,
    all-append (IsBelow w.path w.around) (edge_spots (in_edge w) [] e) (value_spots (in_edge w) [] e)
        (all-map (AtEdges w.path w.around []) (IsBelow w.path w.around) (edges-below w.path w.around [])
        (edge_spots (in_edge w) [] e) (edges-at (in_edge w) [] e))
        (all-map (InValues w.path []) (IsBelow w.path w.around) (values-below w.path w.around [])
        (value_spots (in_edge w) [] e) (in-values (in_edge w) [] e apart)),
  )
  below-spots w (map_here e) apart =
      all-append (IsBelow w.path w.around) (edge_spots w [] e) (value_spots w [] e)
      (all-map (AtEdges w.path w.around []) (IsBelow w.path w.around) (edges-below w.path w.around [])
      (edge_spots w [] e) (edges-at w [] e))
      (all-map (InValues w.path []) (IsBelow w.path w.around) (values-below w.path w.around []) (value_spots w [] e)
      (in-values w [] e apart))
  below-spots w (rest s) apart = tt

  pub in-fields : (w : Where) (names : List (List ℕ)) (ds : Laids) → FieldsApart names ds
      → All (InFields w.path names) (spots_fields w names ds)
  in-fields w names no_laids apart = tt
  in-fields w [] (a_laid d ds) apart = absurd apart
  in-fields w (y ∷ names) (a_laid d ds) apart =
      all-append (InFields w.path (y ∷ names)) (spots (stepped w (named y)) d)
      (spots_fields (past w (length (trees d))) names ds)
      (all-map (IsBelow (w.path ++ named y ∷ []) 0) (InFields w.path (y ∷ names))
      (λ x h. let u = within w.path (named y) x.path x.around h in (y, u.0, u.1, inl refl))
      (spots (stepped w (named y)) d) (below-spots (stepped w (named y)) d apart.1))
      (all-map (InFields w.path names) (InFields w.path (y ∷ names)) (λ x h. (h.0, h.1, h.2, inr h.3))
      (spots_fields (past w (length (trees d))) names ds) (in-fields (past w (length (trees d))) names ds apart.2))

  pub in-items : (w : Where) (i : ℕ) (ds : Laids) → ItemsApart ds → All (InItems w.path i) (spots_items w i ds)
  in-items w i no_laids apart = tt
  in-items w i (a_laid d ds) apart =
      all-append (InItems w.path i) (spots (stepped w (item i)) d) (spots_items (past w (length (trees d))) (suc i) ds)
      (all-map (IsBelow (w.path ++ item i ∷ []) 0) (InItems w.path i)
      (λ x h. let u = within w.path (item i) x.path x.around h in (i, u.0, u.1, omega arith))
      (spots (stepped w (item i)) d) (below-spots (stepped w (item i)) d apart.0))
      (all-map (InItems w.path (suc i)) (InItems w.path i) (λ x h. let l = h.3 in (h.0, h.1, h.2, omega (arith, l)))
      (spots_items (past w (length (trees d))) (suc i) ds) (in-items (past w (length (trees d))) (suc i) ds apart.1))

  pub in-values : (w : Where) (q : List ℕ) (e : LaidEdge) → EdgeApart e → All (InValues w.path q) (value_spots w q e)
  in-values w q (a_leaf l d) apart =
      all-map (IsBelow (w.path ++ keyed (q ++ l) ∷ []) 0) (InValues w.path q)
      (λ x h. let u = within w.path (keyed (q ++ l)) x.path x.around h in (l, u.0, u.1))
      (spots (stepped w (keyed (q ++ l))) d) (below-spots (stepped w (keyed (q ++ l))) d apart)
  in-values w q (a_fork l z a o b) apart =
      all-append (InValues w.path q) (value_spots (in_edge w) (q ++ (l ++ 0 ∷ [])) a)
      (value_spots (in_edge (past w 1)) (q ++ (l ++ 1 ∷ [])) b)
      (all-map (InValues w.path (q ++ (l ++ 0 ∷ []))) (InValues w.path q) (values-deeper w.path q (l ++ 0 ∷ []))
      (value_spots (in_edge w) (q ++ (l ++ 0 ∷ [])) a) (in-values (in_edge w) (q ++ (l ++ 0 ∷ [])) a apart.0))
      (all-map (InValues w.path (q ++ (l ++ 1 ∷ []))) (InValues w.path q) (values-deeper w.path q (l ++ 1 ∷ []))
      (value_spots (in_edge (past w 1)) (q ++ (l ++ 1 ∷ [])) b)
      (in-values (in_edge (past w 1)) (q ++ (l ++ 1 ∷ [])) b apart.1))

-- ---- a list that has at each place of a value what was chosen there

abbrev pub key_parts : List Spot → List KeyPart
key_parts [] = []
key_parts (x ∷ xs) = with_prefix x x.prefix (key_parts xs)

abbrev mutual
  pub RightAt : Choice → List Spot → Where → Laid → Type 0
  RightAt f S w (number negative size) = Unit {0}
  RightAt f S w (bit_string bits) = Unit {0}
  RightAt f S w (record_of name names ds) = RightFields f S w names ds
  RightAt f S w absent = Unit {0}
  RightAt f S w (list_of ds) = RightItems f S w 0 ds
  RightAt f S w (ref_to c d) =
      (ref_at w.path w.around S ≡ cond (f (spot w None c)) (Some c) None) × RightAt f S (in_ref w) d
  RightAt f S w (ref_to_raw c) = ref_at w.path w.around S ≡ cond (f (spot w None c)) (Some c) None
  RightAt f S w no_map = edges_at w.path S ≡ []
  RightAt f S w (map_under c e) =
      (edges_at w.path S ≡ key_parts (filter f (spot w (Some []) c ∷ edge_spots (in_edge w) [] e)))
      × RightEdge f S (in_edge w) [] e
  RightAt f S w (map_here e) =
      (edges_at w.path S ≡ key_parts (filter f (edge_spots w [] e))) × RightEdge f S w [] e
  RightAt f S w (rest s) = Unit {0}

  pub RightFields : Choice → List Spot → Where → List (List ℕ) → Laids → Type 0
  RightFields f S w names no_laids = Unit {0}
  RightFields f S w names (a_laid d ds) =
      RightAt f S (stepped w (named (first_name names))) d × RightFields f S (past w (length (trees d)))
      (other_names names) ds

  pub RightItems : Choice → List Spot → Where → ℕ → Laids → Type 0
  RightItems f S w i no_laids = Unit {0}
  RightItems f S w i (a_laid d ds) =
      RightAt f S (stepped w (item i)) d × RightItems f S (past w (length (trees d))) (suc i) ds

  pub RightEdge : Choice → List Spot → Where → List ℕ → LaidEdge → Type 0
  RightEdge f S w q (a_leaf l d) = RightAt f S (stepped w (keyed (q ++ l))) d
  RightEdge f S w q (a_fork l z a o b) =
      RightEdge f S (in_edge w) (q ++ (l ++ 0 ∷ [])) a × RightEdge f S (in_edge (past w 1)) (q ++ (l ++ 1 ∷ [])) b

-- lists that agree at all names from here on, at all items, at all keys
abbrev AgreeFields : List Stride → List (List ℕ) → Laids → List Spot → List Spot → Type 0
AgreeFields m names no_laids S T = Unit {0}
AgreeFields m names (a_laid d ds) S T =
    Agree (m ++ named (first_name names) ∷ []) 0 S T × AgreeFields m (other_names names) ds S T

abbrev AgreeItems : List Stride → ℕ → List Spot → List Spot → Type 0
AgreeItems m i S T = (j : ℕ) → i ≤ j → Agree (m ++ item j ∷ []) 0 S T

abbrev AgreeKeys : List Stride → List ℕ → List Spot → List Spot → Type 0
AgreeKeys m q S T = (r : List ℕ) → Agree (m ++ keyed (q ++ r) ∷ []) 0 S T

keys-deeper : (m : List Stride) (q p : List ℕ) (S T : List Spot) → AgreeKeys m q S T → AgreeKeys m (q ++ p) S T
keys-deeper m q p S T a r =
    let P : List ℕ → Type 0 = λ k. Agree (m ++ keyed k ∷ []) 0 S T in
    subst P (sym (append_assoc q p r)) (a (p ++ r))

every-field : (m : List Stride) (k : ℕ) (S T : List Spot) → Agree m k S T → (names : List (List ℕ)) (ds : Laids)
    → AgreeFields m names ds S T
every-field m k S T a names no_laids = tt
every-field m k S T a names (a_laid d ds) =
    (agree-step m k S T a (named (first_name names)), every-field m k S T a (other_names names) ds)

mutual
  right-same : (f : Choice) (S T : List Spot) (w : Where) (d : Laid) → Agree w.path w.around S T → RightAt f S w d
      → RightAt f T w d
  right-same f S T w (number negative size) a h = tt
  right-same f S T w (bit_string bits) a h = tt
  right-same f S T w (record_of name names ds) a h =
      fields-same f S T w names ds (every-field w.path w.around S T a names ds) h
  right-same f S T w absent a h = tt
  right-same f S T w (list_of ds) a h =
      items-same f S T w 0 ds (λ j l. agree-step w.path w.around S T a (item j)) h
  right-same f S T w (ref_to c d) a h = (
    sym (a.refs w.path w.around (under-here w.path w.around)) ∙ h.0,
    right-same f S T (in_ref w) d (agree-ref w.path w.around S T a) h.1,
  )
  right-same f S T w (ref_to_raw c) a h = sym (a.refs w.path w.around (under-here w.path w.around)) ∙ h
  right-same f S T w no_map a h = sym (a.edges w.path w.around (under-here w.path w.around)) ∙ h
  right-same f S T w (map_under c e) a h = (
    sym (a.edges w.path w.around (under-here w.path w.around)) ∙ h.0,
    edge-same f S T (in_edge w) [] e (λ r. agree-step w.path w.around S T a (keyed r)) h.1,
  )
  right-same f S T w (map_here e) a h = (
    sym (a.edges w.path w.around (under-here w.path w.around)) ∙ h.0,
    edge-same f S T w [] e (λ r. agree-step w.path w.around S T a (keyed r)) h.1,
  )
  right-same f S T w (rest s) a h = tt

  fields-same : (f : Choice) (S T : List Spot) (w : Where) (names : List (List ℕ)) (ds : Laids)
      → AgreeFields w.path names ds S T → RightFields f S w names ds → RightFields f T w names ds
  fields-same f S T w names no_laids a h = tt
  fields-same f S T w names (a_laid d ds) a h = (
    right-same f S T (stepped w (named (first_name names))) d a.0 h.0,
    fields-same f S T (past w (length (trees d))) (other_names names) ds a.1 h.1,
  )

  items-same : (f : Choice) (S T : List Spot) (w : Where) (i : ℕ) (ds : Laids) → AgreeItems w.path i S T
      → RightItems f S w i ds → RightItems f T w i ds
  items-same f S T w i no_laids a h = tt
  items-same f S T w i (a_laid d ds) a h = (
    right-same f S T (stepped w (item i)) d (a i (omega arith)) h.0,
    items-same f S T (past w (length (trees d))) (suc i) ds (λ j l. a j (omega (arith, l))) h.1,
  )

  edge-same : (f : Choice) (S T : List Spot) (w : Where) (q : List ℕ) (e : LaidEdge) → AgreeKeys w.path q S T
      → RightEdge f S w q e → RightEdge f T w q e
  edge-same f S T w q (a_leaf l d) a h = right-same f S T (stepped w (keyed (q ++ l))) d (a l) h
  edge-same f S T w q (a_fork l z x o y) a h = (
    edge-same f S T (in_edge w) (q ++ (l ++ 0 ∷ [])) x (keys-deeper w.path q (l ++ 0 ∷ []) S T a) h.0,
    edge-same f S T (in_edge (past w 1)) (q ++ (l ++ 1 ∷ [])) y (keys-deeper w.path q (l ++ 1 ∷ []) S T a) h.1,
  )

-- ---- the list of what was chosen

-- the spots of the fields before are foreign to those after, and the other way round
fields-foreign : (m : List Stride) (y : List ℕ) (names : List (List ℕ)) (xs : List Spot) → NotAmong y names
    → All (InFields m names) xs → All (Foreign (m ++ named y ∷ []) 0) xs
fields-foreign m y names xs apart =
    all-map (InFields m names) (Foreign (m ++ named y ∷ []) 0) (λ x h.
    step-foreign m (named h.0) (named y) (λ e. among-apart y h.0 names apart h.3 (name-same e)) x h.1 h.2) xs
  where
    name : Stride → List ℕ
    name (named x) = x
    name (item i) = []
    name (keyed k) = []

    name-same : {x y : List ℕ} → named x ≡ named y → x ≡ y
    name-same e = ap name e

field-agrees : (m : List Stride) (y : List ℕ) (xs S : List Spot) → All (IsBelow (m ++ named y ∷ []) 0) xs
    → (names : List (List ℕ)) (ds : Laids) → FieldsApart names ds → NotAmong y names
    → AgreeFields m names ds S (xs ++ S)
field-agrees m y xs S below names no_laids shape apart = tt
field-agrees m y xs S below [] (a_laid d ds) shape apart = absurd shape
field-agrees m y xs S below (z ∷ names) (a_laid d ds) shape apart = (
  agree-before (m ++ named z ∷ []) 0 xs S
      (all-map (IsBelow (m ++ named y ∷ []) 0) (Foreign (m ++ named z ∷ []) 0) (λ x h.
      let u = within m (named y) x.path x.around h in
      step-foreign m (named y) (named z) (λ e. apart.0 (ap name e)) x u.0 u.1) xs below),
  field-agrees m y xs S below names ds shape.2 apart.1,
)
  where
    name : Stride → List ℕ
    name (named x) = x
    name (item i) = []
    name (keyed k) = []

number_of : Stride → ℕ
number_of (named x) = 0
number_of (item i) = i
number_of (keyed k) = 0

key_of : Stride → List ℕ
key_of (named x) = []
key_of (item i) = []
key_of (keyed k) = k

other-item : (i j : ℕ) → i < j → item j ≡ item i → ⊥
unfolding number_of
other-item i j l e = let s : j ≡ i = ap number_of e in omega (arith, s, l)

other-key : (q l a b : List ℕ) → keyed ((q ++ (l ++ 1 ∷ [])) ++ a) ≡ keyed ((q ++ (l ++ 0 ∷ [])) ++ b) → ⊥
unfolding key_of
other-key q l a b e =
    let s : (q ++ (l ++ 1 ∷ [])) ++ a ≡ (q ++ (l ++ 0 ∷ [])) ++ b = ap key_of e in
    let t : (l ++ 1 ∷ []) ++ a ≡ (l ++ 0 ∷ []) ++ b =
    append_cancel_left q ((l ++ 1 ∷ []) ++ a) ((l ++ 0 ∷ []) ++ b)
    (sym (append_assoc q (l ++ 1 ∷ []) a) ∙ s ∙ append_assoc q (l ++ 0 ∷ []) b) in
    let u = append_cancel_left l (1 ∷ a) (0 ∷ b) (sym (append_assoc l (1 ∷ []) a) ∙ t ∙ append_assoc l (0 ∷ []) b) in
    absurd (cc)

edges-all : (m : List Stride) (k : ℕ) (q : List ℕ) (xs : List Spot) → All (AtEdges m k q) xs → edges_at m xs ≡
    key_parts xs
edges-all m k q [] h = refl
edges-all m k q (x ∷ xs) h =
    ap (λ (b : Bool). cond b (with_prefix x x.prefix (edges_at m xs)) (edges_at m xs))
    (ap (λ (p : List Stride). same_path p m) h.0.0 ∙ path-self m)
    ∙ ap (with_prefix x x.prefix) (edges-all m k q xs h.1)

values-none : (m : List Stride) (q : List ℕ) (xs : List Spot) → All (InValues m q) xs → edges_at m xs ≡ []
values-none m q [] h = refl
values-none m q (x ∷ xs) h =
    ap (λ (b : Bool). cond b (with_prefix x x.prefix (edges_at m xs)) (edges_at m xs))
    (path-other x.path m (λ e. longer m (keyed (q ++ h.0.0)) h.0.1 (sym e ∙ h.0.2)))
    ∙ values-none m q xs h.1

-- a map with its edges, and what is below its keys
map-right : (f : Choice) (w v : Where) (es : List Spot) (e : LaidEdge) → v.path ≡ w.path
    → All (AtEdges w.path w.around []) es → All (InValues w.path []) (value_spots v [] e)
    → RightEdge f (filter f (value_spots v [] e)) v [] e
    → (edges_at w.path (filter f (es ++ value_spots v [] e)) ≡ key_parts (filter f es))
    × RightEdge f (filter f (es ++ value_spots v [] e)) v [] e
map-right f w v es e same edges values right =
    let A = filter f es in
    let B = filter f (value_spots v [] e) in
    let both : filter f (es ++ value_spots v [] e) ≡ A ++ B = chosen-append f es (value_spots v [] e) in
    let P : List Spot → Type 0 = λ S.
    (edges_at w.path S ≡ key_parts (filter f es)) × RightEdge f S v [] e in
    let ea = all-chosen f (AtEdges w.path w.around []) es edges in
    let vb = all-chosen f (InValues w.path []) (value_spots v [] e) values in
    subst P (sym both) (
      sym (edges-after w.path A B (values-none w.path [] B vb)) ∙ edges-all w.path w.around [] A ea,
      edge-same f B (A ++ B) v [] e (λ r.
          agree-before (v.path ++ keyed r ∷ []) 0 A B
          (all-map (AtEdges w.path w.around []) (Foreign (v.path ++ keyed r ∷ []) 0)
          (λ x h. here-foreign v.path (keyed r) x (h.0 ∙ sym same)) A ea)) right,
    )

mutual
  pub right-spots : (f : Choice) (w : Where) (d : Laid) → NamesApart d → RightAt f (filter f (spots w d)) w d
  right-spots f w (number negative size) apart = tt
  right-spots f w (bit_string bits) apart = tt
  right-spots f w (record_of name names ds) apart = right-fields f w names ds apart
  right-spots f w absent apart = tt
  right-spots f w (list_of ds) apart = right-items f w 0 ds apart
  right-spots f w (ref_to c d) apart =
      go (f (spot w None c)) (right-spots f (in_ref w) d apart)
      (all-chosen f (IsBelow w.path (suc w.around)) (spots (in_ref w) d) (below-spots (in_ref w) d apart))
    where
      T : List Spot
      T = filter f (spots (in_ref w) d)

      self : is_ref_at w.path w.around (spot w None c) None ≡ true
      self = λ i. path-self w.path i && eq-eqb w.around w.around refl i

      absent-here : (xs : List Spot) → All (IsBelow w.path (suc w.around)) xs → ref_at w.path w.around xs ≡ None
      absent-here [] h = refl
      absent-here (x ∷ xs) h = ref-skip w.path w.around x xs (miss x x.prefix h.0) ∙ absent-here xs h.1
        where
          and-false : (b : Bool) → (b && false) ≡ false
          and-false true = refl
          and-false false = refl

          miss : (x : Spot) (p : Option (List ℕ)) → IsBelow w.path (suc w.around) x → is_ref_at w.path w.around x p ≡
              false
          miss x (Some q) h = refl
          miss x None (inl h) =
              let l = h.1 in
              ap (λ (b : Bool). same_path x.path w.path && b) (other x.around w.around l) ∙ and-false
              (same_path x.path w.path)
            where
              other : (k j : ℕ) → suc j ≤ k → nat_eq k j ≡ false
              other k j l = go (nat_eq k j) refl
                where
                  go : (b : Bool) → nat_eq k j ≡ b → b ≡ false
                  go true e = let s = eqb-true k j e in absurd (omega (arith, s, l))
                  go false e = refl
          miss x None (inr h) =
              ap (λ (b : Bool). b && nat_eq x.around w.around)
              (path-other x.path w.path (λ e. longer w.path h.0 h.1 (sym e ∙ h.2)))

      go : (b : Bool) → RightAt f (filter f (spots (in_ref w) d)) (in_ref w) d
          → All (IsBelow w.path (suc w.around)) (filter f (spots (in_ref w) d))
          → (ref_at w.path w.around (cond b (spot w None c ∷ filter f (spots (in_ref w) d))
          (filter f (spots (in_ref w) d))) ≡ cond b (Some c) None)
          × RightAt f (cond b (spot w None c ∷ filter f (spots (in_ref w) d)) (filter f (spots (in_ref w) d)))
          (in_ref w) d
      go true r h = (
        ap (λ (t : Bool). cond t (Some c) (ref_at w.path w.around (filter f (spots (in_ref w) d)))) self,
        right-same f (filter f (spots (in_ref w) d)) (spot w None c ∷ filter f (spots (in_ref w) d)) (in_ref w) d
            (agree-before w.path (suc w.around) (spot w None c ∷ []) (filter f (spots (in_ref w) d))
            (ref-foreign w c, tt)) r,
      )
      go false r h = (absent-here (filter f (spots (in_ref w) d)) h, r)
  right-spots f w (ref_to_raw c) apart = go (f (spot w None c))
    where
      go : (b : Bool) → ref_at w.path w.around (cond b (spot w None c ∷ []) []) ≡ cond b (Some c) None
      go true =
          let self : is_ref_at w.path w.around (spot w None c) None ≡ true =
          λ i. path-self w.path i && eq-eqb w.around w.around refl i in
          ap (λ (t : Bool). cond t (Some c) None) self
      go false = refl
  right-spots f w no_map apart = refl
  right-spots f w (map_under c e) apart =
      map-right f w (in_edge w) (spot w (Some []) c ∷ edge_spots (in_edge w) [] e) e refl
      ((refl, refl, ([], refl)), edges-at (in_edge w) [] e) (in-values (in_edge w) [] e apart)
      (right-edge f (in_edge w) [] e apart)
  right-spots f w (map_here e) apart =
      map-right f w w (edge_spots w [] e) e refl (edges-at w [] e) (in-values w [] e apart) (right-edge f w [] e apart)
  right-spots f w (rest s) apart = tt

  right-fields : (f : Choice) (w : Where) (names : List (List ℕ)) (ds : Laids) → FieldsApart names ds
      → RightFields f (filter f (spots_fields w names ds)) w names ds
  right-fields f w names no_laids apart = tt
  right-fields f w [] (a_laid d ds) apart = absurd apart
  right-fields f w (y ∷ names) (a_laid d ds) apart =
      let u = stepped w (named y) in
      let v = past w (length (trees d)) in
      let A = filter f (spots (stepped w (named y)) d) in
      let B = filter f (spots_fields (past w (length (trees d))) names ds) in
      let both : filter f (spots (stepped w (named y)) d ++ spots_fields (past w (length (trees d))) names ds) ≡ A ++
      B =
      chosen-append f (spots (stepped w (named y)) d) (spots_fields (past w (length (trees d))) names ds) in
      let P : List Spot → Type 0 = λ S. RightAt f S (stepped w (named y)) d × RightFields f S
      (past w (length (trees d))) names ds in
      let a = all-chosen f (IsBelow (w.path ++ named y ∷ []) 0) (spots (stepped w (named y)) d)
      (below-spots (stepped w (named y)) d apart.1) in
      let b = all-chosen f (InFields w.path names) (spots_fields (past w (length (trees d))) names ds)
      (in-fields (past w (length (trees d))) names ds apart.2) in
      subst P (sym both) (
        right-same f A (A ++ B) (stepped w (named y)) d
            (agree-after (w.path ++ named y ∷ []) 0 A B (fields-foreign w.path y names B apart.0 b))
            (right-spots f (stepped w (named y)) d apart.1),
        fields-same f B (A ++ B) (past w (length (trees d))) names ds
            (field-agrees w.path y A B a names ds apart.2 apart.0)
            (right-fields f (past w (length (trees d))) names ds apart.2),
      )

  right-items : (f : Choice) (w : Where) (i : ℕ) (ds : Laids) → ItemsApart ds
      → RightItems f (filter f (spots_items w i ds)) w i ds
  right-items f w i no_laids apart = tt
  right-items f w i (a_laid d ds) apart =
      let A = filter f (spots (stepped w (item i)) d) in
      let B = filter f (spots_items (past w (length (trees d))) (suc i) ds) in
      let both : filter f (spots (stepped w (item i)) d ++ spots_items (past w (length (trees d))) (suc i) ds) ≡ A ++
      B =
      chosen-append f (spots (stepped w (item i)) d) (spots_items (past w (length (trees d))) (suc i) ds) in
      let P : List Spot → Type 0 = λ S. RightAt f S (stepped w (item i)) d × RightItems f S
      (past w (length (trees d))) (suc i) ds in
      let a = all-chosen f (IsBelow (w.path ++ item i ∷ []) 0) (spots (stepped w (item i)) d)
      (below-spots (stepped w (item i)) d apart.0) in
      let b = all-chosen f (InItems w.path (suc i)) (spots_items (past w (length (trees d))) (suc i) ds)
      (in-items (past w (length (trees d))) (suc i) ds apart.1) in
      subst P (sym both) (
        right-same f A (A ++ B) (stepped w (item i)) d
            (agree-after (w.path ++ item i ∷ []) 0 A B
            (all-map (InItems w.path (suc i)) (Foreign (w.path ++ item i ∷ []) 0)
            (λ x h. step-foreign w.path (item h.0) (item i) (λ e. let l = h.3 in other-item i h.0 (omega (arith, l))
            e) x h.1 h.2) B b))
            (right-spots f (stepped w (item i)) d apart.0),
        items-same f B (A ++ B) (past w (length (trees d))) (suc i) ds
            (λ j l. agree-before (w.path ++ item j ∷ []) 0 A B
            (all-map (IsBelow (w.path ++ item i ∷ []) 0) (Foreign (w.path ++ item j ∷ []) 0)
            (λ x h. let u = within w.path (item i) x.path x.around h in
            step-foreign w.path (item i) (item j) (λ e. other-item i j (omega (arith, l)) (sym e)) x u.0 u.1) A a))
            (right-items f (past w (length (trees d))) (suc i) ds apart.1),
      )

  right-edge : (f : Choice) (w : Where) (q : List ℕ) (e : LaidEdge) → EdgeApart e
      → RightEdge f (filter f (value_spots w q e)) w q e
  right-edge f w q (a_leaf l d) apart = right-spots f (stepped w (keyed (q ++ l))) d apart
  right-edge f w q (a_fork l z x o y) apart =
      let p = q ++ (l ++ 0 ∷ []) in
      let r = q ++ (l ++ 1 ∷ []) in
      let A = filter f (value_spots (in_edge w) (q ++ (l ++ 0 ∷ [])) x) in
      let B = filter f (value_spots (in_edge (past w 1)) (q ++ (l ++ 1 ∷ [])) y) in
      let both : filter f (value_spots (in_edge w) (q ++ (l ++ 0 ∷ [])) x ++ value_spots (in_edge (past w 1))
      (q ++ (l ++ 1 ∷ [])) y) ≡ A ++ B =
      chosen-append f (value_spots (in_edge w) (q ++ (l ++ 0 ∷ [])) x)
      (value_spots (in_edge (past w 1)) (q ++ (l ++ 1 ∷ [])) y) in
      let P : List Spot → Type 0 = λ S. RightEdge f S (in_edge w) (q ++ (l ++ 0 ∷ [])) x × RightEdge f S
      (in_edge (past w 1)) (q ++ (l ++ 1 ∷ [])) y in
      let a = all-chosen f (InValues w.path p) (value_spots (in_edge w) (q ++ (l ++ 0 ∷ [])) x)
      (in-values (in_edge w) p x apart.0) in
      let b = all-chosen f (InValues w.path r) (value_spots (in_edge (past w 1)) (q ++ (l ++ 1 ∷ [])) y)
      (in-values (in_edge (past w 1)) r y apart.1) in
      subst P (sym both) (
        edge-same f A (A ++ B) (in_edge w) p x (λ k.
            agree-after (w.path ++ keyed (p ++ k) ∷ []) 0 A B
            (all-map (InValues w.path r) (Foreign (w.path ++ keyed (p ++ k) ∷ []) 0)
            (λ s h. step-foreign w.path (keyed (r ++ h.0)) (keyed (p ++ k)) (other-key q l h.0 k) s h.1 h.2) B b))
            (right-edge f (in_edge w) p x apart.0),
        edge-same f B (A ++ B) (in_edge (past w 1)) r y (λ k.
            agree-before (w.path ++ keyed (r ++ k) ∷ []) 0 A B
            (all-map (InValues w.path p) (Foreign (w.path ++ keyed (r ++ k) ∷ []) 0)
            (λ s h. step-foreign w.path (keyed (p ++ h.0)) (keyed (r ++ k)) (λ e. other-key q l k h.0 (sym e)) s h.1
            h.2) A a))
            (right-edge f (in_edge (past w 1)) r y apart.1),
      )
