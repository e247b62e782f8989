-- How often a name stands in a list, and a name that stands in none.
use Rattle.std.proofs.Common.{◌≡◌, ◌⊎◌, inl, inr, ℕ, ◌+◌, ◌<◌, ◌≤◌, ◌==◌, Bool, true, false, cond, List, [], ◌∷◌, ◌++◌, length, map, bytes_eq, refl, sym, ap, ◌∙◌, arith, length-append}
use Rattle.std.proofs.lemmas.List.Sums.{sum_by-append}
use Rattle.std.proofs.lemmas.List.{length-map}
use Rattle.std.proofs.lemmas.Slice.Eq.{bytes_eq-Decides}
use Rattle.std.proofs.lemmas.Bool.{eqb-true, eq-eqb}
use Rattle.tlb_syntax.specs.Tree.{SchemaView, ConstructorView}
use Rattle.tlb_syntax.specs.Written.{constructors_of, WithinCounts}
use Rattle.syntax_check.specs.Judge.{count_of}

pub same_name : (x y : List ℕ) → bytes_eq x y ≡ true → x ≡ y
same_name x y e = (bytes_eq-Decides x y).0 e

pub is_same_name : (x : List ℕ) → bytes_eq x x ≡ true
is_same_name x = (bytes_eq-Decides x x).1 refl

pub equal_number : (a b : ℕ) → (a == b) ≡ true → a ≡ b
equal_number a b e = eqb-true a b e

pub number_equal : (a b : ℕ) → a ≡ b → (a == b) ≡ true
number_equal a b e = eq-eqb a b e

abbrev one_if : Bool → ℕ
one_if b = cond b 1 0

pub count_append : (x : List ℕ) (xs ys : List (List ℕ)) → count_of x (xs ++ ys) ≡ count_of x xs + count_of x ys
count_append x xs ys = sum_by-append (λ y. cond (bytes_eq y x) 1 0) xs ys

pub count_one : (x y : List ℕ) → count_of x (y ∷ []) ≡ one_if (bytes_eq y x)
count_one x y = let k : 0 + one_if (bytes_eq y x) ≡ one_if (bytes_eq y x) = omega arith in k

pub count_itself : (x : List ℕ) → count_of x (x ∷ []) ≡ 1
count_itself x = count_one x x ∙ ap one_if (is_same_name x)

pub count_cons : (x y : List ℕ) (ys : List (List ℕ)) → count_of x (y ∷ ys) ≡ one_if (bytes_eq y x) + count_of x ys
count_cons x y ys = count_append x (y ∷ []) ys ∙ ap (λ n. n + count_of x ys) (count_one x y)

-- one more name changes the count of no other
pub count_more : (x y : List ℕ) (names : List (List ℕ))
    → ((x ≡ y) × (count_of x (names ++ y ∷ []) ≡ count_of y names + 1))
    ⊎ (count_of x (names ++ y ∷ []) ≡ count_of x names)
count_more x y names = go (bytes_eq y x) refl
  where
    go : (b : Bool) → bytes_eq y x ≡ b → ((x ≡ y) × (count_of x (names ++ y ∷ []) ≡ count_of y names + 1))
        ⊎ (count_of x (names ++ y ∷ []) ≡ count_of x names)
    go true e =
        let same : x ≡ y = sym (same_name y x e) in
        let k : count_of x (y ∷ []) ≡ 1 = count_one x y ∙ ap one_if e in
        inl (
          same,
          count_append x names (y ∷ []) ∙ ap (λ n. count_of x names + n) k ∙ ap (λ z. count_of z names + 1)
              same,
        )
    go false e =
        let k : count_of x (y ∷ []) ≡ 0 = count_one x y ∙ ap one_if e in
        let s = count_append x names (y ∷ []) in
        inr (omega arith)

-- ---- a name longer than all

pub fresh : List (List ℕ) → List ℕ
fresh [] = 0 ∷ []
fresh (y ∷ ys) = y ++ fresh ys

abbrev total : List (List ℕ) → ℕ
total [] = 0
total (y ∷ ys) = length y + total ys

fresh_long : (names : List (List ℕ)) → total names < length (fresh names)
unfolding fresh
fresh_long [] = omega arith
fresh_long (y ∷ ys) = let k = fresh_long ys in omega (arith, length-append y (fresh ys))

count_long : (names : List (List ℕ)) (x : List ℕ) → total names < length x → count_of x names ≡ 0
count_long [] x h = refl
count_long (y ∷ ys) x h = count_cons x y ys ∙ differ (bytes_eq y x) refl (count_long ys x (omega arith))
  where
    differ : (b : Bool) → bytes_eq y x ≡ b → count_of x ys ≡ 0 → one_if (bytes_eq y x) + count_of x ys ≡ 0
    differ true e k = absurd (omega (arith, ap length (same_name y x e)))
    differ false e k = let j : one_if (bytes_eq y x) ≡ 0 = ap one_if e in omega arith

pub count_fresh : (names : List (List ℕ)) → count_of (fresh names) names ≡ 0
count_fresh names = count_long names (fresh names) (fresh_long names)

-- ---- the names of a schema's types

abbrev pub types_of : SchemaView → List (List ℕ)
types_of s = map (λ (c : ConstructorView). c.result) s

pub count_types : (s : SchemaView) (x : List ℕ) → count_of x (types_of s) ≡ constructors_of s x
count_types [] x = refl
count_types (c ∷ s) x =
    count_cons x c.result (types_of s) ∙ ap (λ n. one_if (bytes_eq c.result x) + n) (count_types s x)
    ∙ sym (sum_by-append (λ (d : ConstructorView). cond (bytes_eq d.result x) 1 0) (c ∷ []) s
    ∙ ap (λ n. n + constructors_of s x) one)
  where
    one : 0 + one_if (bytes_eq c.result x) ≡ one_if (bytes_eq c.result x)
    one = omega arith

-- lists of names within the limits
pub record NamesWithinCounts (names : List (List ℕ)) : Type 0 where
  pub all : length names ≤ 4096
  pub of_one : (x : List ℕ) → count_of x names ≤ 256

pub counts_types : (s : SchemaView) → NamesWithinCounts (types_of s) → WithinCounts s
counts_types s h = record {
  all = let k = length-map s (λ (c : ConstructorView). c.result) in omega (arith, h.all);
  of_one = λ x. let k = count_types s x in omega (arith, h.of_one x);
}

pub types_counts : (s : SchemaView) → WithinCounts s → NamesWithinCounts (types_of s)
types_counts s h = record {
  all = let k = length-map s (λ (c : ConstructorView). c.result) in omega (arith, h.all);
  of_one = λ x. let k = count_types s x in omega (arith, h.of_one x);
}
