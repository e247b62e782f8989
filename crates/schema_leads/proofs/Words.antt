-- Words among others.
use Rattle.std.proofs.Common.{◌≡◌, ◌⊎◌, inl, inr, Bool, true, false, List, [], ◌∷◌, refl, sym, ap, ◌∙◌}
use Rattle.std.specs.Prelude.{◌||◌, cond, bytes_eq}
use Rattle.std.specs.List.{list_any}
use Rattle.std.specs.Cmp.{IsEquivalence}
use Rattle.std.proofs.lemmas.Bool.{false≢true, or_cases, or_left, or_right}
use Rattle.std.proofs.lemmas.Slice.Eq.{bytes_eq-Decides}
use Rattle.kind_terms.specs.Words.{Word, is_among}
use Rattle.tlb_guard.specs.DeclaredTypes.{distinct}

pub same_word : (x y : Word) → bytes_eq x y ≡ true → x ≡ y
same_word x y e = (bytes_eq-Decides x y).0 e

pub self_word : (x : Word) → bytes_eq x x ≡ true
self_word x = (bytes_eq-Decides x x).1 refl

-- two truths that follow from each other are one
pub same_truth : (a b : Bool) → (a ≡ true → b ≡ true) → (b ≡ true → a ≡ true) → a ≡ b
same_truth true b f g = sym (f refl)
same_truth false true f g = g refl
same_truth false false f g = refl

swapped : (x y : Word) → bytes_eq x y ≡ true → bytes_eq y x ≡ true
swapped x y e = (bytes_eq-Decides y x).1 (sym (same_word x y e))

pub flipped : (x y : Word) → bytes_eq x y ≡ bytes_eq y x
flipped x y = same_truth (bytes_eq x y) (bytes_eq y x) (swapped x y) (swapped y x)

pub words_equiv : IsEquivalence bytes_eq
words_equiv = record {
  refl = self_word;
  symm = flipped;
  congr = λ x y z e. ap (λ w. bytes_eq w z) (same_word x y e);
}

-- a word that is among others is among the distinct ones of them
pub among_distinct : (x : Word) (xs : List Word) → is_among xs x ≡ true → is_among (distinct xs) x ≡ true
among_distinct x [] e = e
among_distinct x (y ∷ ys) e = at_first (among_distinct x ys) (is_among ys y) refl (or_cases (bytes_eq x y) (is_among ys x) e)
  where
    at_first : (is_among ys x ≡ true → is_among (distinct ys) x ≡ true) → (b : Bool) → is_among ys y ≡ b → (bytes_eq x y ≡ true) ⊎ (is_among ys x ≡ true)
        → is_among (cond b (distinct ys) (y ∷ distinct ys)) x ≡ true
    at_first rest true is (inl h) = rest (ap (is_among ys) (same_word x y h) ∙ is)
    at_first rest true is (inr h) = rest h
    at_first rest false is (inl h) = or_left (bytes_eq x y) (is_among (distinct ys) x) h
    at_first rest false is (inr h) = or_right (bytes_eq x y) (is_among (distinct ys) x) (rest h)

-- a test that a word passes is passed by some word of a list that has it
pub any_among : (p : Word → Bool) (xs : List Word) (x : Word) → is_among xs x ≡ true → p x ≡ true → list_any p xs ≡ true
any_among p [] x e h = absurd (false≢true e)
any_among p (y ∷ ys) x e h = by_cases (λ is. any_among p ys x is h) (or_cases (bytes_eq x y) (is_among ys x) e)
  where
    by_cases : (is_among ys x ≡ true → list_any p ys ≡ true) → (bytes_eq x y ≡ true) ⊎ (is_among ys x ≡ true) → (p y || list_any p ys) ≡ true
    by_cases rest (inl is) = or_left (p y) (list_any p ys) (ap p (sym (same_word x y is)) ∙ h)
    by_cases rest (inr is) = or_right (p y) (list_any p ys) (rest is)
