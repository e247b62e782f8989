-- The keys of a fork share its label, and part at the bit after it.
use Rattle.std.proofs.Common.{◌≡◌, ℕ, ◌-◌, Bool, true, false, cond, List, [], ◌∷◌, ◌++◌, length, drop, refl, sym, ap, ◌∙◌, nat_eq}
use Rattle.std.proofs.lemmas.Bool.{eq-eqb}
use Rattle.hashmap_labels.specs.Steps.{when_true, when_false}
use Rattle.typed_value.specs.Values.{Plain, PlainPairs, no_pairs, a_pair}
use Rattle.declared_maps.specs.Records.{joined, pairs_under, fork_pairs}
use Rattle.declared_maps.specs.MapRecords.{shared, last_key, with_bit, after_bit, edge_record, fork_record, fork_by, edge_by}

-- ---- what keys share

shared_bits : (p k l : List ℕ) → shared ((p ++ 0 ∷ []) ++ k) ((p ++ 1 ∷ []) ++ l) ≡ p
shared_bits [] k l = refl
shared_bits (x ∷ p) k l =
    when_true (nat_eq x x) (x ∷ shared ((p ++ 0 ∷ []) ++ k) ((p ++ 1 ∷ []) ++ l)) [] (eq-eqb x x refl)
    ∙ ap (λ (z : List ℕ). x ∷ z) (shared_bits p k l)

last_of_joined : (k a l : List ℕ) (v : Plain) (xs qs : PlainPairs)
    → last_key k (joined (pairs_under a xs) (a_pair l v qs)) ≡ last_key l qs
last_of_joined k a l v no_pairs qs = refl
last_of_joined k a l v (a_pair j w xs) qs = last_of_joined (a ++ j) a l v xs qs

last_under : (b l : List ℕ) (ys : PlainPairs) → last_key (b ++ l) (pairs_under b ys) ≡ b ++ last_key l ys
last_under b l no_pairs = refl
last_under b l (a_pair j w ys) = last_under b j ys

-- ---- where they part

drop_past : (p k : List ℕ) (c : ℕ) → drop (length p) ((p ++ c ∷ []) ++ k) ≡ c ∷ k
drop_past [] k c = refl
drop_past (x ∷ p) k c = drop_past p k c

with_joined : (b : ℕ) (k : List ℕ) (v : Plain) (xs ys : PlainPairs)
    → with_bit b k v (joined xs ys) ≡ joined (with_bit b k v xs) ys
with_joined b [] v xs ys = refl
with_joined b (c ∷ k) v xs ys = go (nat_eq c b)
  where
    go : (t : Bool) → cond t (a_pair k v (joined xs ys)) (joined xs ys) ≡ joined (cond t (a_pair k v xs) xs) ys
    go true = refl
    go false = refl

after_joined : (n b : ℕ) (xs ys : PlainPairs) → after_bit n b (joined xs ys) ≡ joined (after_bit n b xs) (after_bit n b ys)
after_joined n b no_pairs ys = refl
after_joined n b (a_pair k v xs) ys =
    ap (with_bit b (drop n k) v) (after_joined n b xs ys) ∙ with_joined b (drop n k) v (after_bit n b xs) (after_bit n b ys)

after_same : (p : List ℕ) (c : ℕ) (xs : PlainPairs) → after_bit (length p) c (pairs_under (p ++ c ∷ []) xs) ≡ xs
after_same p c no_pairs = refl
after_same p c (a_pair k v xs) =
    (λ i. with_bit c (drop_past p k c i) v (after_same p c xs i)) ∙ when_true (nat_eq c c) (a_pair k v xs) xs (eq-eqb c c refl)

after_other : (p : List ℕ) (b c : ℕ) (xs : PlainPairs) → nat_eq c b ≡ false
    → after_bit (length p) b (pairs_under (p ++ c ∷ []) xs) ≡ no_pairs
after_other p b c no_pairs e = refl
after_other p b c (a_pair k v xs) e =
    (λ i. with_bit b (drop_past p k c i) v (after_other p b c xs e i)) ∙ when_false (nat_eq c b) (a_pair k v no_pairs) no_pairs e

joined_none : (xs : PlainPairs) → joined xs no_pairs ≡ xs
joined_none no_pairs = refl
joined_none (a_pair k v xs) = ap (a_pair k v) (joined_none xs)

zeros : (p : List ℕ) (xs ys : PlainPairs) → after_bit (length p) 0 (fork_pairs p xs ys) ≡ xs
zeros p xs ys =
    after_joined (length p) 0 (pairs_under (p ++ 0 ∷ []) xs) (pairs_under (p ++ 1 ∷ []) ys)
    ∙ (λ i. joined (after_same p 0 xs i) (after_other p 0 1 ys refl i)) ∙ joined_none xs

ones : (p : List ℕ) (xs ys : PlainPairs) → after_bit (length p) 1 (fork_pairs p xs ys) ≡ ys
ones p xs ys =
    after_joined (length p) 1 (pairs_under (p ++ 0 ∷ []) xs) (pairs_under (p ++ 1 ∷ []) ys)
    ∙ (λ i. joined (after_other p 1 0 xs refl i) (after_same p 1 ys i))

-- ---- the record of a fork

-- some pairs
abbrev pub Some_pairs : PlainPairs → Type 0
Some_pairs ps = (k : List ℕ) × (v : Plain) × (qs : PlainPairs) × (ps ≡ a_pair k v qs)

-- with both parts written out
parted : (part : ℕ → PlainPairs → Plain) (n : ℕ) (p k l : List ℕ) (v w : Plain) (xs ys : PlainPairs)
    → (let ps : PlainPairs = fork_pairs p (a_pair k v xs) (a_pair l w ys) in edge_by part n ps ≡ fork_by part n p ps)
parted part n p k l v w no_pairs ys =
    ap (λ (z : List ℕ). fork_by part n z (fork_pairs p (a_pair k v no_pairs) (a_pair l w ys)))
    (ap (shared ((p ++ 0 ∷ []) ++ k)) (last_under (p ++ 1 ∷ []) l ys) ∙ shared_bits p k (last_key l ys))
parted part n p k l v w (a_pair j u xs) ys =
    ap (λ (z : List ℕ). fork_by part n z (fork_pairs p (a_pair k v (a_pair j u xs)) (a_pair l w ys)))
    (ap (shared ((p ++ 0 ∷ []) ++ k)) (last_of_joined ((p ++ 0 ∷ []) ++ j) (p ++ 0 ∷ []) ((p ++ 1 ∷ []) ++ l) w xs (pairs_under (p ++ 1 ∷ []) ys) ∙ last_under (p ++ 1 ∷ []) l ys)
    ∙ shared_bits p k (last_key l ys))

pub fork_is : (part : ℕ → PlainPairs → Plain) (n m : ℕ) (p : List ℕ) (xs ys : PlainPairs) → Some_pairs xs → Some_pairs ys
    → n - length p - 1 ≡ m
    → edge_by part n (fork_pairs p xs ys) ≡ edge_record n p (fork_record (part m xs) (part m ys))
fork_is part n m p xs ys x y below =
    (λ i. edge_by part n (fork_pairs p (x.3 i) (y.3 i)))
    ∙ parted part n p x.0 y.0 x.1 y.1 x.2 y.2
    ∙ (λ i. edge_record n p (fork_record (part (below i) (zeros p (a_pair x.0 x.1 x.2) (a_pair y.0 y.1 y.2) i)) (part (below i) (ones p (a_pair x.0 x.1 x.2) (a_pair y.0 y.1 y.2) i))))
    ∙ (λ i. edge_record n p (fork_record (part m ((sym x.3) i)) (part m ((sym y.3) i))))

pub some_joined : (p : List ℕ) (xs ys : PlainPairs) → Some_pairs xs → Some_pairs (fork_pairs p xs ys)
some_joined p xs ys x =
    ((p ++ 0 ∷ []) ++ x.0, x.1, joined (pairs_under (p ++ 0 ∷ []) x.2) (pairs_under (p ++ 1 ∷ []) ys), ap (λ z. fork_pairs p z ys) x.3)
