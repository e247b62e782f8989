-- The pairs of an edge: the one of a leaf, or those whose keys go on with 0 and then those whose keys go on with 1.
use Rattle.std.proofs.Common.{◌≡◌, ℕ, zero, suc, ◌-◌, ◌<◌, ◌≤◌, List, [], ◌∷◌, ◌++◌, Some, refl, sym, ap}
use Rattle.std.proofs.Common.{◌∙◌, subst, arith, append_assoc, length, length-append, map, take, drop, slice_get}
use Rattle.std.proofs.lemmas.Option.{same_Some}
use Rattle.cell_nodes.specs.declared.tree.Tree.{Tree}
use Rattle.typed_value.specs.Values.{Plain, PlainPairs, a_pair, levels_by, no_pairs}
use Rattle.typed_value.specs.View.{pair_of, pairs_of, value}
use Rattle.typed_value.specs.declared.value.Value.{Value}
use Rattle.pruning.specs.Laid.{LaidEdge, a_fork, a_leaf, below, join, plain, plain_pairs}
use Rattle.pruning.specs.Laid.{Laid}
use Rattle.pruning_laws.specs.TrieLaws.{pairs-below, pairs-join}
use Rattle.pruned_proof.specs.Walks.{HasBit, Is, IsEdge}

-- ---- keys

keys_of : PlainPairs → List (List ℕ)
keys_of no_pairs = []
keys_of (a_pair k v ps) = k ∷ keys_of ps

abbrev pub keys_in : List (List ℕ × Value) → List (List ℕ)
keys_in xs = map (λ p. p.0) xs

keys-view : (xs : List (List ℕ × Value)) → keys_of (pairs_of (map pair_of xs)) ≡ keys_in xs
unfolding keys_of
keys-view [] = refl
keys-view (x ∷ xs) = ap (λ (z : List (List ℕ)). x.0 ∷ z) (keys-view xs)

keys-join : (ps qs : PlainPairs) → keys_of (join ps qs) ≡ keys_of ps ++ keys_of qs
unfolding keys_of
keys-join no_pairs qs = refl
keys-join (a_pair k v ps) qs = ap (λ (z : List (List ℕ)). k ∷ z) (keys-join ps qs)

count-below : (p : List ℕ) (ps : PlainPairs) → length (keys_of (below p ps)) ≡ length (keys_of ps)
unfolding keys_of
count-below p no_pairs = refl
count-below p (a_pair k v ps) = ap suc (count-below p ps)

-- a key that begins with these bits
pub record Begins (p k : List ℕ) : Type 0 where
  pub rest : List ℕ
  pub is : k ≡ p ++ rest

keys-begin : (p : List ℕ) (ps : PlainPairs) (i : ℕ) (k : List ℕ) → slice_get (keys_of (below p ps)) i ≡ Some k → Begins p k
unfolding keys_of
keys-begin p no_pairs i k at = absurd (cc)
keys-begin p (a_pair l v ps) zero k at = record { rest = l; is = sym (same_Some (p ++ l) k at) }
keys-begin p (a_pair l v ps) (suc i) k at = keys-begin p ps i k at

get-left : (xs ys : List (List ℕ)) (i : ℕ) → i < length xs → slice_get (xs ++ ys) i ≡ slice_get xs i
get-left [] ys i lt = absurd (omega (arith, lt))
get-left (x ∷ xs) ys zero lt = refl
get-left (x ∷ xs) ys (suc i) lt = get-left xs ys i (omega (arith, lt))

get-right : (xs ys : List (List ℕ)) (i : ℕ) → length xs ≤ i → slice_get (xs ++ ys) i ≡ slice_get ys (i - length xs)
get-right [] ys i le = let all : i ≡ i - 0 = omega arith in ap (slice_get ys) all
get-right (x ∷ xs) ys zero le = absurd (omega (arith, le))
get-right (x ∷ xs) ys (suc i) le =
    let less : i - length xs ≡ suc i - suc (length xs) = omega arith in
    get-right xs ys i (omega (arith, le)) ∙ ap (slice_get ys) less

-- an edge has a pair
edge-some : (e : LaidEdge) → 0 < length (keys_of (plain_pairs e))
unfolding keys_of
edge-some (a_leaf l d) = omega arith
edge-some (a_fork l z a o b) =
    let left = below (l ++ 0 ∷ []) (plain_pairs a) in
    let right = below (l ++ 1 ∷ []) (plain_pairs b) in
    let all = ap length (keys-join left right) in
    let both = length-append (keys_of left) (keys_of right) in
    let first = count-below (l ++ 0 ∷ []) (plain_pairs a) in
    let some = edge-some a in
    omega (arith, all, both, first, some)

below-some : (p : List ℕ) (e : LaidEdge) → 0 < length (keys_of (below p (plain_pairs e)))
below-some p e =
    let some = edge-some e in
    let same = count-below p (plain_pairs e) in
    omega (arith, some, same)

-- ---- lists of pairs

pair_key : (k l : List ℕ) (v w : Plain) (ps qs : PlainPairs) → a_pair k v ps ≡ a_pair l w qs → k ≡ l
pair_key k l v w ps qs e = cc

pair_value : (k l : List ℕ) (v w : Plain) (ps qs : PlainPairs) → a_pair k v ps ≡ a_pair l w qs → v ≡ w
pair_value k l v w ps qs e = cc

pair_rest : (k l : List ℕ) (v w : Plain) (ps qs : PlainPairs) → a_pair k v ps ≡ a_pair l w qs → ps ≡ qs
pair_rest k l v w ps qs e = cc

record Split (ps qs : PlainPairs) (xs : List (List ℕ × Plain)) : Type 0 where
  few : length (keys_of ps) ≤ length xs
  left : ps ≡ pairs_of (take (length (keys_of ps)) xs)
  right : qs ≡ pairs_of (drop (length (keys_of ps)) xs)

split : (ps qs : PlainPairs) (xs : List (List ℕ × Plain)) → join ps qs ≡ pairs_of xs → Split ps qs xs
unfolding keys_of
split no_pairs qs xs e = record { few = omega arith; left = refl; right = e }
split (a_pair k v ps) qs [] e = absurd (cc)
split (a_pair k v ps) qs (x ∷ xs) e =
    let r = split ps qs xs (pair_rest k x.0 v x.1 (join ps qs) (pairs_of xs) e) in
    let key = pair_key k x.0 v x.1 (join ps qs) (pairs_of xs) e in
    let val = pair_value k x.0 v x.1 (join ps qs) (pairs_of xs) e in
    let few = r.few in
    record { few = omega (arith, few); left = (λ i. a_pair (key i) (val i) (r.left i)); right = r.right }

levels-take : (n : ℕ) (xs : List (List ℕ × Plain)) → levels_by (pairs_of (take n xs)) ≤ levels_by (pairs_of xs)
levels-take zero xs = omega arith
levels-take (suc n) [] = omega arith
levels-take (suc n) (x ∷ xs) = let less = levels-take n xs in omega (arith, less)

levels-drop : (n : ℕ) (xs : List (List ℕ × Plain)) → levels_by (pairs_of (drop n xs)) ≤ levels_by (pairs_of xs)
levels-drop zero xs = omega arith
levels-drop (suc n) [] = omega arith
levels-drop (suc n) (x ∷ xs) = let less = levels-drop n xs in omega (arith, less)

take-pairs : (n : ℕ) (xs : List (List ℕ × Value)) → take n (map pair_of xs) ≡ map pair_of (take n xs)
take-pairs zero xs = refl
take-pairs (suc n) [] = refl
take-pairs (suc n) (x ∷ xs) = ap (λ (z : List (List ℕ × Plain)). pair_of x ∷ z) (take-pairs n xs)

drop-pairs : (n : ℕ) (xs : List (List ℕ × Value)) → drop n (map pair_of xs) ≡ map pair_of (drop n xs)
drop-pairs zero xs = refl
drop-pairs (suc n) [] = refl
drop-pairs (suc n) (x ∷ xs) = drop-pairs n xs

count-pairs : (xs : List (List ℕ × Value)) → length (map pair_of xs) ≡ length xs
count-pairs [] = refl
count-pairs (x ∷ xs) = ap suc (count-pairs xs)

count-keys : (xs : List (List ℕ × Value)) → length (keys_in xs) ≡ length xs
count-keys [] = refl
count-keys (x ∷ xs) = ap suc (count-keys xs)

-- ---- a leaf

-- an edge has a pair
pub no_edge : (q : List ℕ) (e : LaidEdge) (xs : List (List ℕ × Value)) (most : ℕ)
    → IsEdge q e (pairs_of (map pair_of xs)) most → xs ≡ [] → ⊥
unfolding keys_of
no_edge q e xs most is none =
    let some = below-some q e in
    let P : List (List ℕ × Value) → Type 0 = λ z. below q (plain_pairs e) ≡ pairs_of (map pair_of z) in
    let same = ap (λ (z : PlainPairs). length (keys_of z)) (subst P none is.pairs) in
    omega (arith, some, same)

pub record IsLeaf (q : List ℕ) (e : LaidEdge) (x : List ℕ × Value) (most : ℕ) : Type 0 where
  pub label : List ℕ
  pub laid : Laid
  pub is : e ≡ a_leaf label laid
  pub key : x.0 ≡ q ++ label
  pub holds : Is laid (value x.1) most

pub leaf_alone : (q : List ℕ) (e : LaidEdge) (x : List ℕ × Value) (most : ℕ)
    → IsEdge q e (pairs_of (map pair_of (x ∷ []))) most → IsLeaf q e x most
unfolding keys_of
leaf_alone q (a_leaf l d) x most is =
    let key = pair_key (q ++ l) x.0 (plain d) (value x.1) no_pairs no_pairs is.pairs in
    let val = pair_value (q ++ l) x.0 (plain d) (value x.1) no_pairs no_pairs is.pairs in
    let deep = is.deep in
    record { label = l; laid = d; is = refl; key = sym key; holds = record { value = val; deep = omega (arith, deep) } }
leaf_alone q (a_fork l z a o b) x most is =
    let left = below (l ++ 0 ∷ []) (plain_pairs a) in
    let right = below (l ++ 1 ∷ []) (plain_pairs b) in
    let all = ap (λ (z : PlainPairs). length (keys_of z)) is.pairs in
    let whole = count-below q (join left right) in
    let joined = ap length (keys-join left right) in
    let both = length-append (keys_of left) (keys_of right) in
    let zeros = below-some (l ++ 0 ∷ []) a in
    let ones = below-some (l ++ 1 ∷ []) b in
    absurd (omega (arith, all, whole, joined, both, zeros, ones))

-- ---- a fork

pub record Forked (q l : List ℕ) (a b : LaidEdge) (xs : List (List ℕ × Value)) (most : ℕ) : Type 0 where
  pub count : ℕ
  pub some_zero : 0 < count
  pub some_one : count < length xs
  pub zeros : IsEdge (q ++ (l ++ 0 ∷ [])) a (pairs_of (map pair_of (take count xs))) most
  pub ones : IsEdge (q ++ (l ++ 1 ∷ [])) b (pairs_of (map pair_of (drop count xs))) most
  pub begin_zero : (i : ℕ) (k : List ℕ) → i < count → slice_get (keys_in xs) i ≡ Some k → Begins (q ++ (l ++ 0 ∷ [])) k
  pub begin_one : (i : ℕ) (k : List ℕ) → count ≤ i → slice_get (keys_in xs) i ≡ Some k → Begins (q ++ (l ++ 1 ∷ [])) k

forked : (q l : List ℕ) (a b : LaidEdge) (xs : List (List ℕ × Value)) (most : ℕ)
    → below q (join (below (l ++ 0 ∷ []) (plain_pairs a)) (below (l ++ 1 ∷ []) (plain_pairs b))) ≡ pairs_of (map pair_of xs)
    → levels_by (pairs_of (map pair_of xs)) ≤ most → Forked q l a b xs most
unfolding keys_of
forked q l a b xs most is deep =
    let A = plain_pairs a in
    let B = plain_pairs b in
    let L = l ++ 0 ∷ [] in
    let R = l ++ 1 ∷ [] in
    let zs = below (q ++ L) A in
    let os = below (q ++ R) B in
    let sides : below q (join (below L A) (below R B)) ≡ join zs os =
    pairs-join q (below L A) (below R B) ∙ (λ i. join (pairs-below q L A i) (pairs-below q R B i)) in
    let joined : join zs os ≡ pairs_of (map pair_of xs) = sym sides ∙ is in
    let s = split zs os (map pair_of xs) joined in
    let n = length (keys_of zs) in
    let keys : keys_in xs ≡ keys_of zs ++ keys_of os =
    sym (keys-view xs) ∙ ap keys_of (sym joined) ∙ keys-join zs os in
    let some_zero = below-some (q ++ L) a in
    let some_one = below-some (q ++ R) b in
    let long = ap length keys in
    let both = length-append (keys_of zs) (keys_of os) in
    let here = count-keys xs in
    let lower = levels-take n (map pair_of xs) in
    let upper = levels-drop n (map pair_of xs) in
    let same_left = ap (λ (z : List (List ℕ × Plain)). levels_by (pairs_of z)) (take-pairs n xs) in
    let same_right = ap (λ (z : List (List ℕ × Plain)). levels_by (pairs_of z)) (drop-pairs n xs) in
    record {
      count = n;
      some_zero = some_zero;
      some_one = omega (arith, some_one, long, both, here);
      zeros = record {
        pairs = s.left ∙ ap pairs_of (take-pairs n xs);
        deep = omega (arith, deep, lower, same_left);
      };
      ones = record {
        pairs = s.right ∙ ap pairs_of (drop-pairs n xs);
        deep = omega (arith, deep, upper, same_right);
      };
      begin_zero = λ i k lt at. keys-begin (q ++ L) A i k
          (sym (get-left (keys_of zs) (keys_of os) i lt) ∙ ap (λ (z : List (List ℕ)). slice_get z i) (sym keys) ∙ at);
      begin_one = λ i k le at. keys-begin (q ++ R) B (i - n) k
          (sym (get-right (keys_of zs) (keys_of os) i le) ∙ ap (λ (z : List (List ℕ)). slice_get z i) (sym keys) ∙ at);
    }

pub record IsFork (q : List ℕ) (e : LaidEdge) (xs : List (List ℕ × Value)) (most : ℕ) : Type 0 where
  pub label : List ℕ
  pub zero_cell : Tree
  pub zeros : LaidEdge
  pub one_cell : Tree
  pub ones : LaidEdge
  pub is : e ≡ a_fork label zero_cell zeros one_cell ones
  pub forked : Forked q label zeros ones xs most

pub fork_of : (q : List ℕ) (e : LaidEdge) (x y : List ℕ × Value) (xs : List (List ℕ × Value)) (most : ℕ)
    → IsEdge q e (pairs_of (map pair_of (x ∷ (y ∷ xs)))) most → IsFork q e (x ∷ (y ∷ xs)) most
fork_of q (a_leaf l d) x y xs most is =
    let more = pair_rest (q ++ l) x.0 (plain d) (value x.1) no_pairs (pairs_of (map pair_of (y ∷ xs))) is.pairs in
    absurd (cc)
fork_of q (a_fork l z a o b) x y xs most is = record {
  label = l;
  zero_cell = z;
  zeros = a;
  one_cell = o;
  ones = b;
  is = refl;
  forked = forked q l a b (x ∷ (y ∷ xs)) most is.pairs is.deep;
}

-- ---- the bit where the keys part

pub seam : (q l r : List ℕ) (b : ℕ) → (q ++ (l ++ b ∷ [])) ++ r ≡ (q ++ l) ++ b ∷ r
seam q l r b =
    ap (λ (z : List ℕ). z ++ r) (sym (append_assoc q l (b ∷ []))) ∙ append_assoc (q ++ l) (b ∷ []) r

bit-there : (p r : List ℕ) (b : ℕ) → slice_get (p ++ b ∷ r) (length p) ≡ Some b
bit-there [] r b = refl
bit-there (c ∷ p) r b = bit-there p r b

has_bit : (q l : List ℕ) (b : ℕ) (k : List ℕ) → Begins (q ++ (l ++ b ∷ [])) k → slice_get k (length (q ++ l)) ≡ Some b
has_bit q l b k x =
    ap (λ (z : List ℕ). slice_get z (length (q ++ l))) (x.is ∙ seam q l x.rest b) ∙ bit-there (q ++ l) x.rest b

-- where the pairs turn
pub record Turns (q l : List ℕ) (xs : List (List ℕ × Value)) (n : ℕ) : Type 0 where
  pub within : n ≤ length xs
  pub zeros : (i : ℕ) → i < n → HasBit (length (q ++ l)) 0 i (keys_in xs)
  pub ones : (i : ℕ) → n ≤ i → i < length xs → HasBit (length (q ++ l)) 1 i (keys_in xs)

pub turns : (q l : List ℕ) (a b : LaidEdge) (xs : List (List ℕ × Value)) (most : ℕ) (x : Forked q l a b xs most)
    → Turns q l xs x.count
turns q l a b xs most x = record {
  within = (let low = x.some_one in omega (arith, low));
  zeros = λ i lt k at. has_bit q l 0 k (x.begin_zero i k lt at);
  ones = λ i le lt k at. has_bit q l 1 k (x.begin_one i k le at);
}
