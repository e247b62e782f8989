-- The parameters that exposures name.
use Rattle.std.proofs.Common.{◌≡◌, ℕ, zero, suc, ◌+◌, ◌<◌, ◌≤◌, ◌⊎◌, inl, inr, Bool, true, false, None, List, [], ◌∷◌, ◌++◌, length, map, take, get_or, refl, sym, ap, ◌∙◌, arith}
use Rattle.std.specs.Prelude.{◌==◌, ◌&&◌, ◌||◌, cond, nat_lt, filter, bytes_eq}
use Rattle.std.specs.List.{list_any, list_all}
use Rattle.std.proofs.lemmas.Bool.{cases_lt, cases_order, lt-ltb, le-ltb, ne_eqb, eq-eqb}
use Rattle.std.proofs.lemmas.List.{take_more, map-append}
use Rattle.std.proofs.lemmas.List.Folds.{list_any-append}
use Rattle.std.proofs.lemmas.List.Elements.{filter-append}
use Rattle.tlb_syntax.specs.Tree.{ConstructorView, SchemaView}
use Rattle.tlb_syntax.specs.declared.tree.Constructor.{Constructor}
use Rattle.tlb_syntax.specs.declared.tree.Expr.{Expr}
use Rattle.tlb_syntax.specs.View.{constructor, expr, exprs}
use Rattle.kind_terms.specs.Words.{Word}
use Rattle.kind_terms.specs.Params.{bare_name}
use Rattle.tlb_guard.specs.declared.rules.Rule.{Rule}
use Rattle.tlb_guard.specs.declared.exposures.Exposure.{Exposure}
use Rattle.tlb_guard.specs.Rounds.{Test}
use Rattle.tlb_guard.specs.DeclaredTypes.{Parameter, variable_at}
use Rattle.tlb_guard.specs.Exposed.{ExposedTerm, a_variable, Exposed, is_variable_called}
use Rattle.tlb_guard.specs.Views.{term_by, exposed_as, exposed_in, is_through}
use Rattle.tlb_guard.specs.Variables.{AddsRules, at_place, called, called_among, is_called_at, named_by}
use Rattle.tlb_guard.proofs.ParameterRules.{adds_as, adds_more, or_none}

and_none : (b : Bool) → (b && false) ≡ false
and_none true = refl
and_none false = refl

or_same : (t y : Bool) → (t || (y && t)) ≡ t
or_same true y = refl
or_same false y = and_none y

-- ---- places

pub variable_there : (es : List Expr) (i : ℕ) (e : Expr) → i < length es → e ≡ get_or es i e → variable_at (exprs es) i ≡ bare_name (expr e)
variable_there [] i e lt is = absurd (omega (arith, lt))
variable_there (d ∷ es) zero e lt is = ap (λ z. bare_name (expr z)) (sym is)
variable_there (d ∷ es) (suc i) e lt is = variable_there es i e (omega (arith, lt)) is

variable_past : (es : List Expr) (i : ℕ) → length es ≤ i → variable_at (exprs es) i ≡ None
variable_past [] i le = refl
variable_past (d ∷ es) zero le = absurd (omega (arith, le))
variable_past (d ∷ es) (suc i) le = variable_past es i (omega (arith, le))

either : (b x y z t : Bool) → (x || y) ≡ z → ((b && (x && t)) || (b && (y && t))) ≡ (b && (z && t))
either false x y z t e = refl
either true true y z t e = or_same t y ∙ ap (λ w. w && t) e
either true false y z t e = ap (λ w. w && t) e

module _ (s : SchemaView) (c : ConstructorView) (v : Word) (through : List ℕ) (i : ℕ) where
  here_true : is_called_at c v i ≡ true → (n : ℕ) → ((nat_lt n i && is_called_at c v n) || (n == i)) ≡ (nat_lt n (i + 1) && is_called_at c v n)
  here_true is n = by_cases (cases_order n i)
    where
      by_cases : (n ≡ i) ⊎ ((n < i) ⊎ (i < n)) → ((nat_lt n i && is_called_at c v n) || (n == i)) ≡ (nat_lt n (i + 1) && is_called_at c v n)
      by_cases (inl e) =
          ap (λ z. (z && is_called_at c v n) || (n == i)) (le-ltb n i (omega (arith, e)))
          ∙ eq-eqb n i e ∙ sym is ∙ ap (is_called_at c v) (sym e) ∙ sym (ap (λ z. z && is_called_at c v n) (lt-ltb n (i + 1) (omega (arith, e))))
      by_cases (inr (inl lt)) =
          ap (λ z. (z && is_called_at c v n) || (n == i)) (lt-ltb n i lt)
          ∙ ap (λ z. is_called_at c v n || z) (ne_eqb n i (λ e. omega (arith, e, lt))) ∙ or_none (is_called_at c v n)
          ∙ sym (ap (λ z. z && is_called_at c v n) (lt-ltb n (i + 1) (omega (arith, lt))))
      by_cases (inr (inr lt)) =
          ap (λ z. (z && is_called_at c v n) || (n == i)) (le-ltb n i (omega (arith, lt)))
          ∙ ne_eqb n i (λ e. omega (arith, e, lt))
          ∙ sym (ap (λ z. z && is_called_at c v n) (le-ltb n (i + 1) (omega (arith, lt))))

  here_false : is_called_at c v i ≡ false → (n : ℕ) → (nat_lt n i && is_called_at c v n) ≡ (nat_lt n (i + 1) && is_called_at c v n)
  here_false is n = by_cases (cases_order n i)
    where
      by_cases : (n ≡ i) ⊎ ((n < i) ⊎ (i < n)) → (nat_lt n i && is_called_at c v n) ≡ (nat_lt n (i + 1) && is_called_at c v n)
      by_cases (inl e) =
          ap (λ z. z && is_called_at c v n) (le-ltb n i (omega (arith, e)))
          ∙ sym is ∙ ap (is_called_at c v) (sym e) ∙ sym (ap (λ z. z && is_called_at c v n) (lt-ltb n (i + 1) (omega (arith, e))))
      by_cases (inr (inl lt)) =
          ap (λ z. z && is_called_at c v n) (lt-ltb n i lt ∙ sym (lt-ltb n (i + 1) (omega (arith, lt))))
      by_cases (inr (inr lt)) =
          ap (λ z. z && is_called_at c v n) (le-ltb n i (omega (arith, lt)) ∙ sym (le-ltb n (i + 1) (omega (arith, lt))))

  pub one_called : (old mid new : List Rule) → is_called_at c v i ≡ true → AddsRules s (called_among c v through i) old mid → AddsRules s (at_place c.result i through) mid new
      → AddsRules s (called_among c v through (i + 1)) old new
  one_called old mid new is first second =
      adds_more s (called_among c v through i) (at_place c.result i through) (called_among c v through (i + 1)) old mid new first second
      (λ t p typed.
      either (bytes_eq c.result p.of) (nat_lt p.place i && is_called_at c v p.place) (p.place == i) (nat_lt p.place (i + 1) && is_called_at c v p.place)
      (list_all t through) (here_true is p.place))

  pub none_called : (old new : List Rule) → is_called_at c v i ≡ false → AddsRules s (called_among c v through i) old new → AddsRules s (called_among c v through (i + 1)) old new
  none_called old new is first =
      adds_as s (called_among c v through i) (called_among c v through (i + 1)) old new first
      (λ t p. ap (λ z. bytes_eq c.result p.of && (z && list_all t through)) (here_false is p.place))

-- at the last place
pub all_called : (s : SchemaView) (d : Constructor) (v : Word) (through : List ℕ) (i : ℕ) (old new : List Rule) → length d.params ≤ i
    → AddsRules s (called_among (constructor d) v through i) old new → AddsRules s (called (constructor d) v through) old new
all_called s d v through i old new le first =
    adds_as s (called_among (constructor d) v through i) (called (constructor d) v through) old new first
    (λ t p. ap (λ z. bytes_eq d.result p.of && (z && list_all t through)) (whole p.place))
  where
    whole : (n : ℕ) → (nat_lt n i && is_called_at (constructor d) v n) ≡ is_called_at (constructor d) v n
    whole n = by_cases (cases_lt n i)
      where
        by_cases : (n < i) ⊎ (i ≤ n) → (nat_lt n i && is_called_at (constructor d) v n) ≡ is_called_at (constructor d) v n
        by_cases (inl lt) = ap (λ z. z && is_called_at (constructor d) v n) (lt-ltb n i lt)
        by_cases (inr ge) =
            ap (λ z. z && is_called_at (constructor d) v n) (le-ltb n i ge)
            ∙ sym (ap (λ o. is_variable_called o (a_variable v)) (variable_past d.params n (omega (arith, le, ge))))

-- ---- exposures

module _ (s : SchemaView) (c : ConstructorView) where
  abbrev named : Parameter → Exposed → Bool
  named p e = is_variable_called (variable_at c.params p.place) e.term

  one_named : (p : Parameter) (b : Bool) (l : Exposure) (f : ExposedTerm) → term_by s l.term ≡ f
      → list_any (named p) (map (exposed_as s) (cond b (l ∷ []) [])) ≡ (is_variable_called (variable_at c.params p.place) f && b)
  one_named p true l f is = ap (λ z. is_variable_called (variable_at c.params p.place) z || false) is ∙ same (is_variable_called (variable_at c.params p.place) f)
    where
      same : (a : Bool) → (a || false) ≡ (a && true)
      same true = refl
      same false = refl
  one_named p false l f is = sym (and_none (is_variable_called (variable_at c.params p.place) f))

  pub variable_exposure : (l : Exposure) (v : Word) (old new : List Rule) → term_by s l.term ≡ a_variable v → AddsRules s (called c v l.through) old new
      → AddsRules s (named_by s c (l ∷ [])) old new
  variable_exposure l v old new is first =
      adds_as s (called c v l.through) (named_by s c (l ∷ [])) old new first
      (λ t p. ap (λ z. bytes_eq c.result p.of && z) (sym (one_named p (is_through t l) l (a_variable v) is)))

  split_and : (b x y : Bool) → ((b && x) || (b && y)) ≡ (b && (x || y))
  split_and true x y = refl
  split_and false x y = refl

  pub one_exposure : (exposures : List Exposure) (i : ℕ) (l : Exposure) (old mid new : List Rule) → i < length exposures → l ≡ get_or exposures i l
      → AddsRules s (named_by s c (take i exposures)) old mid → AddsRules s (named_by s c (l ∷ [])) mid new → AddsRules s (named_by s c (take (i + 1) exposures)) old new
  one_exposure exposures i l old mid new lt is first second =
      adds_more s (named_by s c (take i exposures)) (named_by s c (l ∷ [])) (named_by s c (take (i + 1) exposures)) old mid new first second
      (λ t p typed.
      split_and (bytes_eq c.result p.of) (list_any (named p) (exposed_in s t (take i exposures))) (list_any (named p) (exposed_in s t (l ∷ [])))
      ∙ ap (λ z. bytes_eq c.result p.of && z) (whole t p))
    where
      whole : (t : Test ℕ) (p : Parameter)
          → (list_any (named p) (exposed_in s t (take i exposures)) || list_any (named p) (exposed_in s t (l ∷ []))) ≡ list_any (named p) (exposed_in s t (take (i + 1) exposures))
      whole t p =
          sym (list_any-append (named p) (exposed_in s t (take i exposures)) (exposed_in s t (l ∷ [])))
          ∙ ap (list_any (named p)) (sym (map-append (exposed_as s) (filter (is_through t) (take i exposures)) (filter (is_through t) (l ∷ []))))
          ∙ ap (λ z. list_any (named p) (map (exposed_as s) z)) (sym (filter-append (is_through t) (take i exposures) (l ∷ [])))
          ∙ ap (λ z. list_any (named p) (exposed_in s t z)) (ap (λ z. take i exposures ++ z ∷ []) is ∙ sym (take_more exposures i l lt))
