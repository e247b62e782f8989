-- A value blanked at a list of its spots is the value with just these spots hidden.
use Rattle.std.specs.Prelude.{filter}
use Rattle.std.proofs.Common.{◌≡◌, ℕ, suc, Bool, true, false, cond, ◌||◌, List, [], ◌∷◌, ◌++◌, length, Option, Some}
use Rattle.std.proofs.Common.{None, refl, sym, ap, ◌∙◌, subst, append_assoc}
use Rattle.std.proofs.lemmas.List.{append-nil}
use Rattle.cell_nodes.specs.declared.tree.Tree.{Tree}
use Rattle.schema_leads.specs.Leads.{begins}
use Rattle.typed_value.specs.Paths.{Stride, named, item, keyed}
use Rattle.typed_value.specs.Values.{Plain, Plains, PlainPairs, no_vals, a_val, no_pairs, a_pair}
use Rattle.typed_value.specs.Values as values
use Rattle.pruning.specs.Laid.{Laid, number, bit_string, record_of, absent, list_of, ref_to, ref_to_raw, no_map}
use Rattle.pruning.specs.Laid.{map_under, map_here, rest, Laids, no_laids, a_laid, LaidEdge, a_leaf, a_fork, join}
use Rattle.pruning.specs.Laid.{below, plain, plain_all, plain_pairs, trees}
use Rattle.pruning.specs.SpellsLaid.{LaidRoot, as_it_is, laid, plain_root}
use Rattle.pruning.specs.Spots.{Spot, Where, at_root, stepped, past, in_edge, in_ref, spot, first_name, other_names}
use Rattle.pruning.specs.Spots.{spots, edge_spots, spots_of}
use Rattle.pruning.specs.Blanked.{KeyPart, hidden_of, blanked_ref, with_prefix, edges_at, some_begin, outermost}
use Rattle.pruning.specs.Blanked.{put_all, blanked, blanked_fields, blanked_items, blanked_pairs, Blanked}
use Rattle.pruning.specs.Cut.{Choice}
use Rattle.pruning_laws.specs.Cuts.{Parts, below_parts, fork_part, hidden_part, map_with, blank, blank_fields}
use Rattle.pruning_laws.specs.Cuts.{blank_items, blank_edge, blank_root}
use Rattle.pruning_laws.specs.KeyLaws.{begins-append, some_begin-append}
use Rattle.pruning_laws.specs.KnownLaws.{left_part, right_part}
use Rattle.pruning_laws.specs.TrieLaws.{AllBelow, AllDeeper, below-append, deeper-append, below-deeper, deeper-below}
use Rattle.pruning_laws.specs.TrieLaws.{below-parts, Sides, sides-left, sides-right, outermost-append, outermost-one}
use Rattle.pruning_laws.specs.TrieLaws.{InOrder, put-order, order-fork, below-below, parts-append, parts-nothing}
use Rattle.pruning_laws.specs.TrieLaws.{pairs-below, pairs-join, pairs-nothing}
use Rattle.pruning_laws.specs.PlaceLaws.{NamesApart, chosen-append, key_parts, RightAt, RightFields, RightItems}
use Rattle.pruning_laws.specs.PlaceLaws.{RightEdge, right-spots}

-- ---- the edges that are hidden

-- what was chosen among edges below q, and what is left unknown of them
pub record Outer (q : List ℕ) (us : List KeyPart) (x : Parts) : Type 0 where
  pub all_below : AllBelow q us
  pub outer : outermost us ≡ below_parts q x.unknown
  pub order : InOrder (below_parts q x.unknown)

key_parts-append : (xs ys : List Spot) → key_parts (xs ++ ys) ≡ key_parts xs ++ key_parts ys
key_parts-append [] ys = refl
key_parts-append (x ∷ xs) ys = go x.prefix (key_parts-append xs ys)
  where
    go : (p : Option (List ℕ)) → key_parts (xs ++ ys) ≡ key_parts xs ++ key_parts ys
        → with_prefix x p (key_parts (xs ++ ys)) ≡ with_prefix x p (key_parts xs) ++ key_parts ys
    go None h = h
    go (Some q) h = ap (λ (l : List KeyPart). (q, hidden_of x.tree) ∷ l) h

-- the edge of a cell: hidden itself, or what is hidden below it
cell_outer : (f : Choice) (w : Where) (q : List ℕ) (c : Tree) (xs : List Spot) (x : Parts)
    → AllDeeper q (key_parts (filter f xs)) → Outer q (key_parts (filter f xs)) x
    → Outer q (key_parts (filter f (spot w (Some q) c ∷ xs))) (cond (f (spot w (Some q) c)) (hidden_part c) x)
cell_outer f w q c xs x deep o = go (f (spot w (Some q) c))
  where
    go : (b : Bool) → Outer q (key_parts (cond b (spot w (Some q) c ∷ filter f xs) (filter f xs)))
        (cond b (hidden_part c) x)
    go true = record {
      all_below = (([], sym (append-nil q)), deeper-below q (key_parts (filter f xs)) deep);
      outer = outermost-one (q, hidden_of c) (key_parts (filter f xs)) deep
          ∙ (λ i. ((sym (append-nil q)) i, hidden_of c) ∷ []);
      order = tt;
    }
    go false = o

-- the two sides of a fork
fork_outer : (q l : List ℕ) (us vs : List KeyPart) (X Y : Parts) → Outer (q ++ (l ++ 0 ∷ [])) us X
    → Outer (q ++ (l ++ 1 ∷ [])) vs Y → Outer q (us ++ vs) (fork_part l X Y)
fork_outer q l us vs X Y x y =
    let p = q ++ (l ++ 0 ∷ []) in
    let r = q ++ (l ++ 1 ∷ []) in
    let same : below_parts q (fork_part l X Y).unknown ≡ below_parts p X.unknown ++ below_parts r Y.unknown =
    parts-append q (below_parts (l ++ 0 ∷ []) X.unknown) (below_parts (l ++ 1 ∷ []) Y.unknown)
    ∙ (λ i. below-below q (l ++ 0 ∷ []) X.unknown i ++ below-below q (l ++ 1 ∷ []) Y.unknown i) in
    record {
      all_below = below-append q us vs (shorter q (l ++ 0 ∷ []) us x.all_below)
          (shorter q (l ++ 1 ∷ []) vs y.all_below);
      outer = outermost-append p r (sides-left q l) (sides-right q l) us vs x.all_below y.all_below
          ∙ (λ i. x.outer i ++ y.outer i) ∙ sym same;
      order = subst InOrder (sym same)
          (order-fork q l (below_parts p X.unknown) (below_parts r Y.unknown) (below-parts p X.unknown)
          (below-parts r Y.unknown) x.order y.order);
    }
  where
    shorter : (q p : List ℕ) (us : List KeyPart) → AllBelow (q ++ p) us → AllBelow q us
    shorter q p [] h = tt
    shorter q p (u ∷ us) h = ((p ++ h.0.0, h.0.1 ∙ append_assoc q p h.0.0), shorter q p us h.1)

after_bit : (q l : List ℕ) (b : ℕ) (us : List KeyPart) → AllBelow (q ++ (l ++ b ∷ [])) us → AllDeeper q us
after_bit q [] b us h = below-deeper q b [] us h
after_bit q (x ∷ l) b us h = below-deeper q x (l ++ b ∷ []) us h

pub record EdgeOuter (f : Choice) (w : Where) (q : List ℕ) (e : LaidEdge) : Type 0 where
  pub deep : AllDeeper q (key_parts (filter f (edge_spots w q e)))
  pub outer : Outer q (key_parts (filter f (edge_spots w q e))) (blank_edge f w q e)

pub edge_outer : (f : Choice) (w : Where) (q : List ℕ) (e : LaidEdge) → EdgeOuter f w q e
edge_outer f w q (a_leaf l d) = record { deep = tt; outer = record { all_below = tt; outer = refl; order = tt } }
edge_outer f w q (a_fork l z a o b) =
    let p = q ++ (l ++ 0 ∷ []) in
    let r = q ++ (l ++ 1 ∷ []) in
    let x = edge_outer f (in_edge w) (q ++ (l ++ 0 ∷ [])) a in
    let y = edge_outer f (in_edge (past w 1)) (q ++ (l ++ 1 ∷ [])) b in
    let A = spot w (Some p) z ∷ edge_spots (in_edge w) p a in
    let B = spot (past w 1) (Some r) o ∷ edge_spots (in_edge (past w 1)) r b in
    let left = cell_outer f w p z (edge_spots (in_edge w) p a) (blank_edge f (in_edge w) p a) x.deep x.outer in
    let right = cell_outer f (past w 1) r o (edge_spots (in_edge (past w 1)) r b)
    (blank_edge f (in_edge (past w 1)) r b) y.deep y.outer in
    let us = key_parts (filter f (spot w (Some p) z ∷ edge_spots (in_edge w) p a)) in
    let vs = key_parts (filter f (spot (past w 1) (Some r) o ∷ edge_spots (in_edge (past w 1)) r b)) in
    let same : key_parts (filter f ((spot w (Some p) z ∷ edge_spots (in_edge w) p a) ++
    (spot (past w 1) (Some r) o ∷ edge_spots (in_edge (past w 1)) r b))) ≡ us ++ vs =
    ap key_parts (chosen-append f (spot w (Some p) z ∷ edge_spots (in_edge w) p a)
    (spot (past w 1) (Some r) o ∷ edge_spots (in_edge (past w 1)) r b))
    ∙ key_parts-append (filter f (spot w (Some p) z ∷ edge_spots (in_edge w) p a))
    (filter f (spot (past w 1) (Some r) o ∷ edge_spots (in_edge (past w 1)) r b)) in
    let P : List KeyPart → Type 0 = λ ks. AllDeeper q ks in
    let Q : List KeyPart → Type 0 = λ ks. Outer q ks (fork_part l (left_part f w q l z a) (right_part f w q l o b)) in
    record {
      deep = subst P (sym same) (deeper-append q us vs (after_bit q l 0 us left.all_below)
          (after_bit q l 1 vs right.all_below));
      outer = subst Q (sym same) (fork_outer q l us vs (left_part f w q l z a) (right_part f w q l o b) left right);
    }

-- ---- the pairs that stay

pairs-two : (S : List Spot) (m : List Stride) (us : List KeyPart) (ps qs : PlainPairs)
    → blanked_pairs S m us (join ps qs) ≡ join (blanked_pairs S m us ps) (blanked_pairs S m us qs)
pairs-two S m us no_pairs qs = refl
pairs-two S m us (a_pair k v ps) qs = go (some_begin us k) (pairs-two S m us ps qs)
  where
    go : (b : Bool) → blanked_pairs S m us (join ps qs) ≡ join (blanked_pairs S m us ps) (blanked_pairs S m us qs)
        → cond b (blanked_pairs S m us (join ps qs)) (a_pair k (blanked S (m ++ keyed k ∷ []) 0 v)
        (blanked_pairs S m us (join ps qs)))
        ≡ join (cond b (blanked_pairs S m us ps) (a_pair k (blanked S (m ++ keyed k ∷ []) 0 v)
        (blanked_pairs S m us ps))) (blanked_pairs S m us qs)
    go true h = h
    go false h = ap (a_pair k (blanked S (m ++ keyed k ∷ []) 0 v)) h

none-begin : (p q : List ℕ) → Sides p q → (us : List KeyPart) → AllBelow p us → (k : List ℕ)
    → some_begin us (q ++ k) ≡ false
none-begin p q sides [] h k = refl
none-begin p q sides (u ∷ us) h k =
    λ i. (ap (λ (x : List ℕ). begins x (q ++ k)) h.0.1 ∙ sides h.0.0 k) i
    || none-begin p q sides us h.1 k i

or-false : (b : Bool) → (b || false) ≡ b
or-false true = refl
or-false false = refl

pairs-left : (S : List Spot) (m : List Stride) (p q : List ℕ) → Sides q p → (us vs : List KeyPart) → AllBelow q vs
    → (ps : PlainPairs) → blanked_pairs S m (us ++ vs) (below p ps) ≡ blanked_pairs S m us (below p ps)
pairs-left S m p q sides us vs h no_pairs = refl
pairs-left S m p q sides us vs h (a_pair k v ps) =
    let e : some_begin (us ++ vs) (p ++ k) ≡ some_begin us (p ++ k) =
    some_begin-append us vs (p ++ k)
    ∙ ap (λ (b : Bool). some_begin us (p ++ k) || b) (none-begin q p sides vs h k) ∙ or-false
    (some_begin us (p ++ k)) in
    λ i. cond (e i) (pairs-left S m p q sides us vs h ps i)
    (a_pair (p ++ k) (blanked S (m ++ keyed (p ++ k) ∷ []) 0 v) (pairs-left S m p q sides us vs h ps i))

pairs-right : (S : List Spot) (m : List Stride) (p q : List ℕ) → Sides p q → (us vs : List KeyPart) → AllBelow p us
    → (ps : PlainPairs) → blanked_pairs S m (us ++ vs) (below q ps) ≡ blanked_pairs S m vs (below q ps)
pairs-right S m p q sides us vs h no_pairs = refl
pairs-right S m p q sides us vs h (a_pair k v ps) =
    let e : some_begin (us ++ vs) (q ++ k) ≡ some_begin vs (q ++ k) =
    some_begin-append us vs (q ++ k)
    ∙ ap (λ (b : Bool). b || some_begin vs (q ++ k)) (none-begin p q sides us h k) in
    λ i. cond (e i) (pairs-right S m p q sides us vs h ps i)
    (a_pair (q ++ k) (blanked S (m ++ keyed (q ++ k) ∷ []) 0 v) (pairs-right S m p q sides us vs h ps i))

-- below a hidden edge nothing stays
pairs-hidden : (S : List Spot) (m : List Stride) (p : List ℕ) (c : Tree) (ps : PlainPairs)
    → blanked_pairs S m (below_parts p (([], hidden_of c) ∷ [])) (below p ps) ≡ no_pairs
pairs-hidden S m p c no_pairs = refl
pairs-hidden S m p c (a_pair k v ps) =
    let e : some_begin (below_parts p (([], hidden_of c) ∷ [])) (p ++ k) ≡ true =
    ap (λ (x : List ℕ). begins x (p ++ k) || false) (append-nil p)
    ∙ ap (λ (b : Bool). b || false) (begins-append p k) in
    ap (λ (b : Bool). cond b (blanked_pairs S m (below_parts p (([], hidden_of c) ∷ [])) (below p ps))
    (a_pair (p ++ k) (blanked S (m ++ keyed (p ++ k) ∷ []) 0 v)
    (blanked_pairs S m (below_parts p (([], hidden_of c) ∷ [])) (below p ps)))) e
    ∙ pairs-hidden S m p c ps

-- the pairs below q of what is left are those that blanking leaves
abbrev PairsStay : List Spot → List Stride → List ℕ → PlainPairs → Parts → Type 0
PairsStay S m q ps x = blanked_pairs S m (below_parts q x.unknown) (below q ps) ≡ below q x.pairs

cell_stays : (S : List Spot) (m : List Stride) (q : List ℕ) (c : Tree) (ps : PlainPairs) (x : Parts) (b : Bool)
    → PairsStay S m q ps x → PairsStay S m q ps (cond b (hidden_part c) x)
cell_stays S m q c ps x true h = pairs-hidden S m q c ps
cell_stays S m q c ps x false h = h

fork_stays : (S : List Spot) (m : List Stride) (q l : List ℕ) (ps qs : PlainPairs) (X Y : Parts)
    → PairsStay S m (q ++ (l ++ 0 ∷ [])) ps X → PairsStay S m (q ++ (l ++ 1 ∷ [])) qs Y
    → PairsStay S m q (join (below (l ++ 0 ∷ []) ps) (below (l ++ 1 ∷ []) qs)) (fork_part l X Y)
fork_stays S m q l ps qs X Y x y =
    let p = q ++ (l ++ 0 ∷ []) in
    let r = q ++ (l ++ 1 ∷ []) in
    let us = below_parts p X.unknown in
    let vs = below_parts r Y.unknown in
    let parts : below_parts q (fork_part l X Y).unknown ≡ us ++ vs =
    parts-append q (below_parts (l ++ 0 ∷ []) X.unknown) (below_parts (l ++ 1 ∷ []) Y.unknown)
    ∙ (λ i. below-below q (l ++ 0 ∷ []) X.unknown i ++ below-below q (l ++ 1 ∷ []) Y.unknown i) in
    let pairs : (as2 bs : PlainPairs) → below q (join (below (l ++ 0 ∷ []) as2) (below (l ++ 1 ∷ []) bs)) ≡ join
    (below p as2) (below r bs) =
    λ as2 bs. pairs-join q (below (l ++ 0 ∷ []) as2) (below (l ++ 1 ∷ []) bs)
    ∙ (λ i. join (pairs-below q (l ++ 0 ∷ []) as2 i) (pairs-below q (l ++ 1 ∷ []) bs i)) in
    (λ i. blanked_pairs S m (parts i) (pairs ps qs i))
    ∙ pairs-two S m (us ++ vs) (below p ps) (below r qs)
    ∙ (λ i. join
    ((pairs-left S m p r (sides-right q l) us vs (below-parts r Y.unknown) ps ∙ x) i)
    ((pairs-right S m p r (sides-left q l) us vs (below-parts p X.unknown) qs ∙ y) i))
    ∙ sym (pairs X.pairs Y.pairs)

-- ---- values

-- a map by its edges
map_blanked : (S : List Spot) (m : List Stride) (us : List KeyPart) (ps : PlainPairs) (x : Parts) → edges_at m S ≡ us
    → Outer [] us x → PairsStay S m [] ps x
    → (◌≡◌ {A = Plain} (values.map_of tt (blanked_pairs S m (outermost (edges_at m S)) ps)
    (put_all (outermost (edges_at m S)) [])) (map_with x))
map_blanked S m us ps x e o stay =
    let out : outermost (edges_at m S) ≡ below_parts [] x.unknown = ap outermost e ∙ o.outer in
    let pairs : blanked_pairs S m (below_parts [] x.unknown) ps ≡ x.pairs =
    ap (blanked_pairs S m (below_parts [] x.unknown)) (sym (pairs-nothing ps)) ∙ stay ∙ pairs-nothing x.pairs in
    (λ i. values.map_of tt (blanked_pairs S m (out i) ps) (put_all (out i) []))
    ∙ (λ i. values.map_of tt (pairs i) ((put-order (below_parts [] x.unknown) o.order ∙ parts-nothing x.unknown) i))

mutual
  pub blank_right : (f : Choice) (S : List Spot) (w : Where) (d : Laid) → RightAt f S w d
      → blanked S w.path w.around (plain d) ≡ blank f w d
  blank_right f S w (number negative size) h = refl
  blank_right f S w (bit_string bits) h = refl
  blank_right f S w (record_of name names ds) h = ap (values.record_of name names) (fields_right f S w names ds h)
  blank_right f S w absent h = refl
  blank_right f S w (list_of ds) h = ap values.list_of (items_right f S w 0 ds h)
  blank_right f S w (ref_to c d) h =
      (λ i. blanked_ref (h.0 i) (blank_right f S (in_ref w) d h.1 i)) ∙ go (f (spot w None c))
    where
      go : (b : Bool) → blanked_ref (cond b (Some c) None) (blank f (in_ref w) d)
          ≡ cond b (values.unknown (hidden_of c)) (values.ref_to tt (blank f (in_ref w) d))
      go true = refl
      go false = refl
  blank_right f S w (ref_to_raw c) h = ap (λ (o : Option Tree). blanked_ref o (values.raw c)) h ∙ go (f (spot w None c))
    where
      go : (b : Bool) → blanked_ref (cond b (Some c) None) (values.raw c)
          ≡ cond b (values.unknown (hidden_of c)) (values.ref_to tt (values.raw c))
      go true = refl
      go false = refl
  blank_right f S w no_map h = λ i. values.map_of tt no_pairs (put_all (outermost (h i)) [])
  blank_right f S w (map_under c e) h =
      let x = edge_outer f (in_edge w) [] e in
      map_blanked S w.path (key_parts (filter f (spot w (Some []) c ∷ edge_spots (in_edge w) [] e))) (plain_pairs e)
      (cond (f (spot w (Some []) c)) (hidden_part c) (blank_edge f (in_edge w) [] e)) h.0
      (cell_outer f w [] c (edge_spots (in_edge w) [] e) (blank_edge f (in_edge w) [] e) x.deep x.outer)
      (cell_stays S w.path [] c (plain_pairs e) (blank_edge f (in_edge w) [] e) (f (spot w (Some []) c))
      (edge_right f S (in_edge w) [] e h.1))
  blank_right f S w (map_here e) h =
      let x = edge_outer f w [] e in
      map_blanked S w.path (key_parts (filter f (edge_spots w [] e))) (plain_pairs e) (blank_edge f w [] e) h.0 x.outer
      (edge_right f S w [] e h.1)
  blank_right f S w (rest s) h = refl

  fields_right : (f : Choice) (S : List Spot) (w : Where) (names : List (List ℕ)) (ds : Laids)
      → RightFields f S w names ds → blanked_fields S w.path names (plain_all ds) ≡ blank_fields f w names ds
  fields_right f S w names no_laids h = refl
  fields_right f S w names (a_laid d ds) h =
      λ i. a_val (blank_right f S (stepped w (named (first_name names))) d h.0 i)
      (fields_right f S (past w (length (trees d))) (other_names names) ds h.1 i)

  items_right : (f : Choice) (S : List Spot) (w : Where) (n : ℕ) (ds : Laids) → RightItems f S w n ds
      → blanked_items S w.path n (plain_all ds) ≡ blank_items f w n ds
  items_right f S w n no_laids h = refl
  items_right f S w n (a_laid d ds) h =
      λ i. a_val (blank_right f S (stepped w (item n)) d h.0 i)
      (items_right f S (past w (length (trees d))) (suc n) ds h.1 i)

  edge_right : (f : Choice) (S : List Spot) (w : Where) (q : List ℕ) (e : LaidEdge) → RightEdge f S w q e
      → PairsStay S w.path q (plain_pairs e) (blank_edge f w q e)
  edge_right f S w q (a_leaf l d) h =
      λ i. a_pair (q ++ l) (blank_right f S (stepped w (keyed (q ++ l))) d h i) no_pairs
  edge_right f S w q (a_fork l z a o b) h =
      fork_stays S w.path q l (plain_pairs a) (plain_pairs b) (left_part f w q l z a) (right_part f w q l o b)
      (cell_stays S w.path (q ++ (l ++ 0 ∷ [])) z (plain_pairs a) (blank_edge f (in_edge w) (q ++ (l ++ 0 ∷ [])) a)
      (f (spot w (Some (q ++ (l ++ 0 ∷ []))) z)) (edge_right f S (in_edge w) (q ++ (l ++ 0 ∷ [])) a h.0))
      (cell_stays S w.path (q ++ (l ++ 1 ∷ [])) o (plain_pairs b)
      (blank_edge f (in_edge (past w 1)) (q ++ (l ++ 1 ∷ [])) b)
      (f (spot (past w 1) (Some (q ++ (l ++ 1 ∷ []))) o)) (edge_right f S (in_edge (past w 1)) (q ++ (l ++ 1 ∷ [])) b
      h.1))

-- each record of the value has a name of its own for each field
abbrev pub RootApart : LaidRoot → Type 0
RootApart (as_it_is c) = Unit {0}
RootApart (laid d) = NamesApart d

pub blanks : (f : Choice) (r : LaidRoot) → RootApart r → Blanked (plain_root r) (filter f (spots_of r)) ≡ blank_root f r
blanks f (as_it_is c) apart = refl
blanks f (laid d) apart = blank_right f (filter f (spots at_root d)) at_root d (right-spots f at_root d apart)
