-- Tests that hold of some member of a list, and the declared types.
use Rattle.std.proofs.Common.{◌≡◌, ◌⊎◌, inl, inr, Bool, true, false, List, [], ◌∷◌, refl, sym, ap, ◌∙◌, map}
use Rattle.std.specs.Prelude.{◌||◌, cond, bytes_eq}
use Rattle.std.specs.List.{list_any}
use Rattle.std.proofs.lemmas.Bool.{false≢true, or_cases, or_left, or_right}
use Rattle.std.proofs.lemmas.Slice.Eq.{bytes_eq-Decides}
use Rattle.tlb_syntax.specs.Tree.{ConstructorView, SchemaView}
use Rattle.kind_terms.specs.Words.{Word, is_among}
use Rattle.kind_terms.specs.Dictionaries.{of_type}
use Rattle.tlb_guard.specs.DeclaredTypes.{distinct, result_of, declared_types}
use Rattle.tlb_guard.proofs.Rounds.{IsMember}

-- two tests joined
pub or_weaker : (a b c d : Bool) → (a ≡ true → c ≡ true) → (b ≡ true → d ≡ true) → (a || b) ≡ true → (c || d) ≡ true
or_weaker a b c d f g e = by_cases (or_cases a b e)
  where
    by_cases : (a ≡ true) ⊎ (b ≡ true) → (c || d) ≡ true
    by_cases (inl h) = or_left c d (f h)
    by_cases (inr h) = or_right c d (g h)

-- a weaker test holds of some member where a stronger one does
pub any_weaker : {A : Type 0} (p q : A → Bool) → ((x : A) → p x ≡ true → q x ≡ true) → (xs : List A) → list_any p xs ≡ true → list_any q xs ≡ true
any_weaker p q w [] e = e
any_weaker p q w (x ∷ xs) e = or_weaker (p x) (list_any p xs) (q x) (list_any q xs) (w x) (any_weaker p q w xs) e

-- one more word, among distinct ones
at_distinct : (x y : Word) (ys : List Word) (b : Bool) → is_among ys y ≡ b → (is_among ys x ≡ true → IsMember (distinct ys) x)
    → (bytes_eq x y ≡ true) ⊎ (is_among ys x ≡ true) → IsMember (cond b (distinct ys) (y ∷ distinct ys)) x
at_distinct x y ys true is rest (inl h) =
    let same : x ≡ y = (bytes_eq-Decides x y).0 h in
    let there : is_among ys x ≡ true = ap (is_among ys) same ∙ is in rest there
at_distinct x y ys true is rest (inr h) = rest h
at_distinct x y ys false is rest (inl h) = inl (sym ((bytes_eq-Decides x y).0 h))
at_distinct x y ys false is rest (inr h) = inr (rest h)

-- a word that is among others is a member of the distinct ones of them
pub among_distinct : (x : Word) (xs : List Word) → is_among xs x ≡ true → IsMember (distinct xs) x
among_distinct x [] e = absurd (false≢true e)
among_distinct x (y ∷ ys) e =
    at_distinct x y ys (is_among ys y) refl (among_distinct x ys) (or_cases (bytes_eq x y) (is_among ys x) e)

at_constructor : (test : ConstructorView → Bool) (c : ConstructorView) (cs : SchemaView) (x : Word) (b : Bool) → bytes_eq c.result x ≡ b
    → (list_any test (of_type cs x) ≡ true → is_among (map result_of cs) x ≡ true)
    → list_any test (cond b (c ∷ of_type cs x) (of_type cs x)) ≡ true → (bytes_eq x c.result || is_among (map result_of cs) x) ≡ true
at_constructor test c cs x true is rest h =
    let same = (bytes_eq-Decides c.result x).0 is in
    or_left (bytes_eq x c.result) (is_among (map result_of cs) x) ((bytes_eq-Decides x c.result).1 (sym same))
at_constructor test c cs x false is rest h = or_right (bytes_eq x c.result) (is_among (map result_of cs) x) (rest h)

-- a type with a constructor that passes a test is among the declared types
pub has_constructor : (test : ConstructorView → Bool) (types : SchemaView) (x : Word) → list_any test (of_type types x) ≡ true → is_among (map result_of types) x ≡ true
has_constructor test [] x e = absurd (false≢true e)
has_constructor test (c ∷ cs) x e = at_constructor test c cs x (bytes_eq c.result x) refl (has_constructor test cs x) e

pub is_declared : (test : ConstructorView → Bool) (types : SchemaView) (x : Word) → list_any test (of_type types x) ≡ true → IsMember (declared_types types) x
is_declared test types x e = among_distinct x (map result_of types) (has_constructor test types x e)
