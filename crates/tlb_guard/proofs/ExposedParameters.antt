-- The least set under the rules of parameters is the last round of what is exposed.
use Rattle.std.proofs.Common.{◌≡◌, ℕ, zero, suc, ◌+◌, ◌*◌, ◌<◌, ◌≤◌, ◌⊎◌, inl, inr, Bool, true, false, Option, None, Some, List, [], ◌∷◌, length, map, take, get_or, refl, sym, ap, ◌∙◌, subst, arith, add-one}
use Rattle.std.specs.Prelude.{◌&&◌, ◌||◌, cond, nat_lt, max, All, bytes_eq, slice_get, option_map}
use Rattle.std.specs.List.{list_any}
use Rattle.std.proofs.Math.Bool.{or_assoc}
use Rattle.std.proofs.Math.Path.{fun_ext}
use Rattle.std.proofs.lemmas.Bool.{cases_lt, lt-ltb}
use Rattle.std.proofs.lemmas.List.{take_all, length-map}
use Rattle.std.proofs.lemmas.Option.{slice_get_past}
use Rattle.tlb_syntax.specs.Tree.{ConstructorView, SchemaView, ExprList, ItemList, no_exprs, an_expr}
use Rattle.tlb_syntax.specs.declared.tree.Constructor.{Constructor}
use Rattle.tlb_syntax.specs.View.{constructor}
use Rattle.kind_terms.specs.Words.{Word}
use Rattle.kind_terms.specs.Dictionaries.{of_type}
use Rattle.kind_terms.specs.Params.{kinds, kinds_of_exprs}
use Rattle.kind_terms.specs.Types.{count}
use Rattle.tlb_guard.specs.declared.rules.Rule.{Rule}
use Rattle.tlb_guard.specs.declared.exposures.Exposure.{Exposure}
use Rattle.tlb_guard.specs.Rounds.{Test, round}
use Rattle.tlb_guard.specs.Facts.{IsBelow, IsLeast, gives, holds}
use Rattle.tlb_guard.specs.Numbering.{parameter_at, parameter_number, parameters_in, passes, place_of, types_in, views, width}
use Rattle.tlb_guard.specs.DeclaredTypes.{Parameter, declared_types, is_type_kind, is_type_parameter, kinds_of_type, parameter_count, variable_at}
use Rattle.tlb_guard.specs.Empty.{may_take_nothing}
use Rattle.tlb_guard.specs.Exposed.{Exposed, Known, exposed_by, exposed_parameters, exposed_rules, exposes_variable}
use Rattle.tlb_guard.specs.Views.{exposed_in, knowing}
use Rattle.tlb_guard.specs.Variables.{AddsRules, AreExposures, named_at, named_by, names}
use Rattle.tlb_guard.proofs.LeastRounds.{least_seen}
use Rattle.tlb_guard.proofs.Numberings.{kinds_at_place}
use Rattle.tlb_guard.proofs.EmptyRules.{none_of_type}
use Rattle.tlb_guard.proofs.ExposedRules.{all_places, count_is, exposed_mono, exposed_within}
use Rattle.tlb_guard.proofs.ParameterRules.{adds_as, adds_more, or_none}

-- ---- constructor by constructor

abbrev pub named_until : List Constructor → List (List Exposure) → SchemaView → ℕ → Test ℕ → Parameter → Bool
named_until cs exposures s i t p = named_at p (views (take i cs)) (map (exposed_in s t) (take i exposures))

named_more : (p : Parameter) (f : List Exposure → List Exposed) (cs : List Constructor) (exposures : List (List Exposure)) (i : ℕ) (c : Constructor) (l : List Exposure)
    → i < length cs → i < length exposures → c ≡ get_or cs i c → l ≡ get_or exposures i l
    → (named_at p (views (take i cs)) (map f (take i exposures)) || names p (constructor c) (f l))
    ≡ named_at p (views (take (suc i) cs)) (map f (take (suc i) exposures))
named_more p f [] exposures i c l lt below is at = absurd (omega (arith, lt))
named_more p f (d ∷ ds) [] i c l lt below is at = absurd (omega (arith, below))
named_more p f (d ∷ ds) (g ∷ gs) zero c l lt below is at =
    ap (λ z. names p (constructor z) (f l)) is ∙ ap (λ z. names p (constructor d) (f z)) at ∙ sym (or_none (names p (constructor d) (f g)))
named_more p f (d ∷ ds) (g ∷ gs) (suc i) c l lt below is at =
    or_assoc (names p (constructor d) (f g)) (named_at p (views (take i ds)) (map f (take i gs))) (names p (constructor c) (f l))
    ∙ ap (λ z. names p (constructor d) (f g) || z) (named_more p f ds gs i c l (omega (arith, lt)) (omega (arith, below)) is at)

pub one_constructor : (s : SchemaView) (cs : List Constructor) (exposures : List (List Exposure)) (i : ℕ) (c : Constructor) (l : List Exposure) (old mid new : List Rule)
    → i < length cs → i < length exposures → c ≡ get_or cs i c → l ≡ get_or exposures i l
    → AddsRules s (named_until cs exposures s i) old mid → AddsRules s (named_by s (constructor c) l) mid new → AddsRules s (named_until cs exposures s (i + 1)) old new
one_constructor s cs exposures i c l old mid new lt below is at first second =
    adds_more s (named_until cs exposures s i) (named_by s (constructor c) l) (named_until cs exposures s (i + 1)) old mid new first second
    (λ t p typed.
    named_more p (exposed_in s t) cs exposures i c l lt below is at
    ∙ ap (λ n. named_until cs exposures s n t p) (sym (add-one i)))

pub all_constructors : (s : SchemaView) (cs : List Constructor) (exposures : List (List Exposure)) (i : ℕ) (old new : List Rule) → length cs ≤ i → length exposures ≤ i
    → AddsRules s (named_until cs exposures s i) old new → AddsRules s (λ t p. named_at p (views cs) (map (exposed_in s t) exposures)) old new
all_constructors s cs exposures i old new le bounded first =
    adds_as s (named_until cs exposures s i) (λ t p. named_at p (views cs) (map (exposed_in s t) exposures)) old new first
    (λ t p. ap (λ z. named_at p (views z) (map (exposed_in s t) (take i exposures))) (take_all i cs le)
    ∙ ap (λ z. named_at p (views cs) (map (exposed_in s t) z)) (take_all i exposures bounded))

-- ---- one use of the rules

named_of : (k : Known) (p : Parameter) (b : Bool) (c : ConstructorView) (cs : SchemaView) (r : Bool)
    → r ≡ list_any (λ (d : ConstructorView). exposes_variable k (variable_at d.params p.place) d) cs
    → ((b && exposes_variable k (variable_at c.params p.place) c) || r)
    ≡ list_any (λ (d : ConstructorView). exposes_variable k (variable_at d.params p.place) d) (cond b (c ∷ cs) cs)
named_of k p true c cs r e = ap (λ z. exposes_variable k (variable_at c.params p.place) c || z) e
named_of k p false c cs r e = e

named_known : (k : Known) (p : Parameter) (s : SchemaView) → named_at p s (map (exposed_by k) s)
    ≡ list_any (λ (c : ConstructorView). exposes_variable k (variable_at c.params p.place) c) (of_type s p.of)
named_known k p [] = refl
named_known k p (c ∷ cs) =
    named_of k p (bytes_eq c.result p.of) c (of_type cs p.of) (named_at p cs (map (exposed_by k) cs)) (named_known k p cs)

length-kinds : (is : ItemList) (es : ExprList) → length (kinds_of_exprs is es) ≡ count es
length-kinds is no_exprs = refl
length-kinds is (an_expr e es) = ap suc (length-kinds is es)

count_within : (s : SchemaView) (m : ℕ) (c : ConstructorView) → slice_get s m ≡ Some c → count c.params ≤ width s
count_within [] m c e = absurd (cc)
count_within (d ∷ ds) zero c e =
    let same : d ≡ c = cc in
    let P : ConstructorView → Type 0 = λ z. count z.params ≤ max (count d.params) (width ds) in
    subst P same (omega arith)
count_within (d ∷ ds) (suc m) c e = let h = count_within ds m c e in omega (arith, h)

-- a type parameter has a number
past_none : (s : SchemaView) (x : Word) (m place : ℕ) → place_of s x ≡ Some m → width s ≤ place → is_type_kind (slice_get (kinds_of_type s x) place) ≡ false
past_none s x m place at le = by_cases (slice_get s m) refl (kinds_at_place s x m at)
  where
    by_cases : (o : Option ConstructorView) → slice_get s m ≡ o → option_map kinds o ≡ Some (kinds_of_type s x) → is_type_kind (slice_get (kinds_of_type s x) place) ≡ false
    by_cases None is e = absurd (cc)
    by_cases (Some c) is e =
        let same : kinds c ≡ kinds_of_type s x = cc in
        let size = ap length same in
        let bounded = count_within s m c is in
        let kept = length-kinds c.items c.params in
        ap is_type_kind (slice_get_past (kinds_of_type s x) place (omega (arith, size, bounded, kept, le)))

and_past : (i b : Bool) → i ≡ false → (i && b) ≡ false
and_past i b e = ap (λ z. z && b) e

and_nothing : (i b : Bool) → b ≡ false → (i && b) ≡ false
and_nothing true b e = e
and_nothing false b e = refl

no_number : (w place m : ℕ) → parameter_at w place (Some m) ≡ None → w ≤ place
no_number w place m e = by_cases (nat_lt place w) refl (cases_lt place w)
  where
    by_cases : (b : Bool) → nat_lt place w ≡ b → (place < w) ⊎ (w ≤ place) → w ≤ place
    by_cases b is (inr le) = le
    by_cases b is (inl lt) = absurd (differ (sym (ap (λ z. cond z (Some (m * w + place)) None) (lt-ltb place w lt)) ∙ e))
      where
        differ : Some (m * w + place) ≡ None → ⊥
        differ g = cc

-- a parameter without a number is no type parameter of a type with constructors
unnumbered : (s : SchemaView) (p : Parameter) (test : ConstructorView → Bool) (o : Option ℕ) → place_of s p.of ≡ o → parameter_at (width s) p.place o ≡ None
    → (is_type_parameter s p && list_any test (of_type s p.of)) ≡ false
unnumbered s p test None at e = and_nothing (is_type_parameter s p) (list_any test (of_type s p.of)) (none_of_type test s p.of at)
unnumbered s p test (Some m) at e =
    and_past (is_type_parameter s p) (list_any test (of_type s p.of)) (past_none s p.of m p.place at (no_number (width s) p.place m e))

module _ (s : SchemaView) (empty : List Bool) (exposures : List (List Exposure)) (rules : List Rule) (are : AreExposures s empty exposures)
    (adds : AddsRules s (λ t p. named_at p s (map (exposed_in s t) exposures)) [] rules) where
  test_at : Test ℕ → Parameter → ConstructorView → Bool
  test_at t p c = exposes_variable (knowing s empty t) (variable_at c.params p.place) c

  tied_at : (t : Test ℕ) (p : Parameter) (o : Option ℕ) → parameter_number s p ≡ o
      → exposed_rules s (types_in s (holds empty)) (parameters_in s t) p ≡ passes (gives rules [] t) o
  unfolding test_at
  tied_at t p None e = unnumbered s p (test_at t p) (place_of s p.of) refl e
  tied_at t p (Some n) e =
      ap (λ z. is_type_parameter s p && z) (sym (ap (named_at p s) (are t) ∙ named_known (knowing s empty t) p s))
      ∙ sym (adds.given t p n e)

  pub exposed_tied : (t : Test ℕ) (p : Parameter) → exposed_rules s (types_in s (holds empty)) (parameters_in s t) p ≡ parameters_in s (gives rules [] t) p
  exposed_tied t p = tied_at t p (parameter_number s p) refl

  -- the least set is what is exposed
  pub exposed_last : ((x : Word) → types_in s (holds empty) x ≡ may_take_nothing s x) → (count : ℕ) (found : List Bool) → IsLeast rules [] count found
      → (p : Parameter) → parameters_in s (holds found) p ≡ exposed_parameters s p
  exposed_last known count found least p =
      let e = types_in s (holds empty) in
      let same : e ≡ may_take_nothing s = fun_ext known in
      least_seen (exposed_rules s e) (exposed_mono s e) (parameter_number s) rules [] exposed_tied (all_places s (declared_types s)) (exposed_within s e)
      count found least p
      ∙ ap (λ n. round (exposed_rules s e) n p) (count_is s)
      ∙ ap (λ z. round (exposed_rules s z) (parameter_count s) p) same

-- ---- the bounds

pub rules_below : (cs : List Constructor) (test : Test ℕ → Parameter → Bool) (rules : List Rule) (n : ℕ) → n ≡ length cs * width (views cs)
    → AddsRules (views cs) test [] rules → All (IsBelow n) rules
rules_below cs test rules n is adds =
    let P : ℕ → Type 0 = λ z. All (IsBelow z) rules in
    let same : length (views cs) * width (views cs) ≡ n = ap (λ z. z * width (views cs)) (length-map cs constructor) ∙ sym is in
    subst P same (adds.below (λ k d lt. absurd (none k lt)))
  where
    none : (k : ℕ) → k < 0 → ⊥
    none k lt = omega (arith, lt)
