-- The keys of a dictionary's contents are in the order in which a text writes them.
use Rattle.std.proofs.Common.{◌≡◌, inl, inr, ℕ, subst, refl, arith, List, [], ◌∷◌, length, take, Bool, true, false, ◌==◌}
use Rattle.std.specs.Prelude.{bytes_eq}
use Rattle.std.proofs.lemmas.Bool.{lt-ltb, ne_eqb, eq-eqb}
use Rattle.std.proofs.lemmas.List.{take_all}
use Rattle.std.proofs.lemmas.Slice.Eq.{bytes_eq-Decides}
use Rattle.hashmap_tree.specs.Order.{Before}
use Rattle.hashmap_tree.specs.OrderedLaws.{never-before}
use Rattle.value_text.specs.Text.{comes_before}
use Rattle.value_text.specs.Writes.{comes_after}

before-comes : (a b : List ℕ) → Before a b → comes_before a b ≡ true
before-comes [] b h = absurd h
before-comes (x ∷ a) [] h = absurd h
before-comes (x ∷ a) (y ∷ b) (inl l) =
    let other : (x == y) ≡ false = ne_eqb x y (λ e. omega (arith, l, e)) in
    rw (other, lt-ltb x y l) refl
before-comes (x ∷ a) (y ∷ b) (inr h) =
    let same : (x == y) ≡ true = eq-eqb x y h.0 in rw same (before-comes a b h.1)

other-keys : (a b : List ℕ) → Before a b → bytes_eq b a ≡ false
other-keys a b h = by_test (bytes_eq b a) refl
  where
    by_test : (t : Bool) → bytes_eq b a ≡ t → bytes_eq b a ≡ false
    by_test true e =
        let same : b ≡ a = (bytes_eq-Decides b a).0 e in
        let P : List ℕ → Type 0 = λ x. Before a x in
        absurd (never-before a (subst P same h))
    by_test false e = e

pub after-comes : (n : ℕ) (a b : List ℕ) → length a ≡ n → length b ≡ n → Before a b → comes_after a b ≡ true
after-comes n a b l k h =
    let all : take (length a) b ≡ b = take_all (length a) b (omega (arith, l, k)) in
    rw (before-comes a b h, all, other-keys a b h) refl
