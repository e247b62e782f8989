-- The test for a key before another says what `Before` says.
use Rattle.std.proofs.Common.{◌≡◌, ◌⊎◌, inl, inr, ℕ, ◌<◌, Bool, true, false, ◌&&◌, ◌||◌, List, [], ◌∷◌, nat_lt, nat_eq, refl, ap, ◌∙◌}
use Rattle.std.proofs.lemmas.Bool.{lt-ltb, ltb-true, eq-eqb, eqb-true}
use Rattle.hashmap_tree.specs.Merged.{is_before}
use Rattle.hashmap_tree.specs.Order.{Before}

pub before-true : (a b : List ℕ) → is_before a b ≡ true → Before a b
before-true [] b e = cc
before-true (x ∷ a) [] e = cc
before-true (x ∷ a) (y ∷ b) e = go (nat_lt x y) (nat_eq x y) refl refl e (before-true a b)
  where
    go : (l q : Bool) → nat_lt x y ≡ l → nat_eq x y ≡ q → (l || (q && is_before a b)) ≡ true
        → (is_before a b ≡ true → Before a b) → (x < y) ⊎ ((x ≡ y) × Before a b)
    go true q el eq e ih = inl (ltb-true x y el)
    go false true el eq e ih = inr (eqb-true x y eq, ih e)
    go false false el eq e ih = cc

pub true-before : (a b : List ℕ) → Before a b → is_before a b ≡ true
true-before [] b h = absurd h
true-before (x ∷ a) [] h = absurd h
true-before (x ∷ a) (y ∷ b) h = go h (true-before a b)
  where
    or-right : (l r : Bool) → r ≡ true → (l || r) ≡ true
    or-right true r e = refl
    or-right false r e = e

    go : (x < y) ⊎ ((x ≡ y) × Before a b) → (Before a b → is_before a b ≡ true)
        → (nat_lt x y || (nat_eq x y && is_before a b)) ≡ true
    go (inl l) ih = ap (λ t. t || (nat_eq x y && is_before a b)) (lt-ltb x y l)
    go (inr h) ih =
        or-right (nat_lt x y) (nat_eq x y && is_before a b) (ap (λ t. t && is_before a b) (eq-eqb x y h.0) ∙ ih h.1)
