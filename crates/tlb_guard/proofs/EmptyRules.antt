-- The rules by which types may take nothing.
use Rattle.std.proofs.Common.{◌≡◌, ℕ, suc, ◌+◌, ◌<◌, ◌≤◌, Bool, true, false, List, [], ◌∷◌, ◌++◌, length, take, refl, sym, ap, ◌∙◌, subst, arith}
use Rattle.std.specs.Prelude.{◌&&◌, ◌||◌, ◌==◌, cond, Option, Some, None, Result, Ok, Err, IfOk, option_map, All, bytes_eq, slice_index_or}
use Rattle.std.specs.List.{list_all, list_any}
use Rattle.std.proofs.lemmas.Bool.{eqb-true, eq-eqb}
use Rattle.std.proofs.lemmas.Slice.Eq.{bytes_eq-Decides}
use Rattle.std.proofs.lemmas.List.{length-map, map-append}
use Rattle.std.proofs.Math.ListN.{get_or-map}
use Rattle.std.proofs.lemmas.List.Folds.{list_any-append}
use Rattle.std.proofs.lemmas.List.Elements.{All-push, filter-append}
use Rattle.std.proofs.lemmas.Grind.{common_steps}
use Rattle.tlb_syntax.specs.declared.tree.Constructor.{Constructor}
use Rattle.tlb_syntax.specs.Tree.{ConstructorView, SchemaView}
use Rattle.tlb_syntax.specs.View.{constructor}
use Rattle.kind_terms.specs.Words.{Word}
use Rattle.kind_terms.specs.Dictionaries.{of_type}
use Rattle.tlb_guard.specs.declared.rules.Rule.{Rule}
use Rattle.tlb_guard.specs.Rounds.{Test}
use Rattle.tlb_guard.specs.DeclaredTypes.{declared_types}
use Rattle.tlb_guard.specs.Empty.{empty_rules, may_be_empty_constructor, may_take_nothing}
use Rattle.tlb_guard.specs.Facts.{IsBelow, IsLeast, gives, holds}
use Rattle.tlb_guard.specs.Numbering.{passes, place_of, types_in, views, word_at}
use Rattle.tlb_guard.specs.Views.{AddsRule, AreTypes}
use Rattle.tlb_guard.proofs.LeastRounds.{gives_by, least_seen}
use Rattle.tlb_guard.proofs.Numberings.{place_word, some_place, position-cons}
use Rattle.tlb_guard.proofs.Rounds.{same_truth}
use Rattle.tlb_guard.proofs.LaterRounds.{empty_mono, empty_within}

abbrev pub rule : ℕ → List ℕ → Rule
rule head body = record { head = head; body = body }

-- ---- one rule

and_false : (b : Bool) → (b && false) ≡ false
and_false true = refl
and_false false = refl

or_false : (b : Bool) → (b || false) ≡ b
or_false true = refl
or_false false = refl

-- two types are one where their places are
same_places : (s : SchemaView) (x y : Word) (n m : ℕ) → place_of s x ≡ Some n → place_of s y ≡ Some m → (m == n) ≡ bytes_eq y x
same_places s x y n m at there =
    same_truth (m == n) (bytes_eq y x)
    (λ e. (bytes_eq-Decides y x).1 (sym (place_word s y m there).1 ∙ ap (word_at s) (eqb-true m n e) ∙ (place_word s x n at).1))
    (λ e. eq-eqb m n (some_same m n (sym there ∙ ap (place_of s) ((bytes_eq-Decides y x).0 e) ∙ at)))
  where
    some_same : (i j : ℕ) → Some i ≡ Some j → i ≡ j
    some_same i j e = cc

pub one_rule : (s : SchemaView) (c : ConstructorView) (rules : List Rule) (head : ℕ) (body : List ℕ) → place_of s c.result ≡ Some head → AreTypes s body
    → ((t : Test ℕ) → may_be_empty_constructor (types_in s t) c ≡ list_all t body) → AddsRule s c rules (rules ++ rule head body ∷ [])
one_rule s c rules head body place types needs = record {
  below = λ h. All-push (IsBelow (length s)) rules (rule head body) h ((place_word s c.result head place).0, types);
  given = λ t x n m at there.
      list_any-append (gives_by t n) rules (rule head body ∷ [])
      ∙ ap (λ b. gives rules [] t n || b) (or_false ((head == n) && list_all t body))
      ∙ ap (λ b. gives rules [] t n || (b && list_all t body)) (same_places s x c.result n head at place)
      ∙ ap (λ b. gives rules [] t n || (bytes_eq c.result x && b)) (sym (needs t));
}

-- ---- all rules

-- the rules of the first constructors of a schema
pub record AreEmptyRules (s : SchemaView) (cs : List Constructor) (rules : List Rule) : Type 0 where
  pub below : All (IsBelow (length s)) rules
  pub given : (t : Test ℕ) (x : Word) (n : ℕ) → place_of s x ≡ Some n
      → gives rules [] t n ≡ list_any (may_be_empty_constructor (types_in s t)) (of_type (views cs) x)

any_of_one : (p : ConstructorView → Bool) (c : ConstructorView) (x : Word) (b : Bool) → bytes_eq c.result x ≡ b → list_any p (cond b (c ∷ []) []) ≡ (b && p c)
any_of_one p c x true e = or_false (p c)
any_of_one p c x false e = refl

place_at_index : (cs : List Constructor) (i : ℕ) (c : Constructor) → i < length cs → c ≡ slice_index_or cs i c → (m : ℕ) × (place_of (views cs) c.result ≡ Some m)
place_at_index cs i c lt is =
    let size : length (views cs) ≡ length cs = length-map cs constructor in
    some_place (views cs) c.result i (constructor c) (omega (arith, size, lt))
    (ap (λ (d : ConstructorView). d.result) (get_or-map constructor cs i c) ∙ ap (λ (d : Constructor). d.result) (sym is))

pub rules_more : (cs : List Constructor) (i : ℕ) (c : Constructor) (old new : List Rule) → i < length cs → c ≡ slice_index_or cs i c
    → AddsRule (views cs) (constructor c) old new → AreEmptyRules (views cs) (take i cs) old → AreEmptyRules (views cs) (take (i + 1) cs) new
rules_more cs i c old new lt is adds before = record {
  below = adds.below before.below;
  given = λ t x n at.
      let s = views cs in
      let may = may_be_empty_constructor (types_in s t) in
      let place : (m : ℕ) × (place_of (views cs) c.result ≡ Some m) = place_at_index cs i c lt is in
      let more : take (i + 1) cs ≡ take i cs ++ c ∷ [] = grind (arith, common_steps) in
      adds.given t x n place.0 at place.1
      ∙ ap (λ b. b || (bytes_eq c.result x && may (constructor c))) (before.given t x n at)
      ∙ ap (λ b. list_any may (of_type (views (take i cs)) x) || b) (sym (any_of_one may (constructor c) x (bytes_eq c.result x) refl))
      ∙ sym (list_any-append may (of_type (views (take i cs)) x) (of_type (constructor c ∷ []) x))
      ∙ sym (ap (list_any may) (filter-append (λ (d : ConstructorView). bytes_eq d.result x) (views (take i cs)) (constructor c ∷ [])))
      ∙ sym (ap (λ ds. list_any may (of_type ds x)) (map-append constructor (take i cs) (c ∷ [])))
      ∙ sym (ap (λ ds. list_any may (of_type (views ds) x)) more);
}

none_at : (test : ConstructorView → Bool) (c : ConstructorView) (cs : SchemaView) (x : Word) (b : Bool) (o : Option ℕ) → place_of cs x ≡ o
    → (place_of cs x ≡ None → list_any test (of_type cs x) ≡ false)
    → cond b (Some 0) (option_map suc o) ≡ None → list_any test (cond b (c ∷ of_type cs x) (of_type cs x)) ≡ false
none_at test c cs x true o is rest e = absurd (cc)
none_at test c cs x false None is rest e = rest is
none_at test c cs x false (Some m) is rest e = absurd (cc)

pub none_of_type : (test : ConstructorView → Bool) (s : SchemaView) (x : Word) → place_of s x ≡ None → list_any test (of_type s x) ≡ false
none_of_type test [] x none = refl
none_of_type test (c ∷ cs) x none =
    none_at test c cs x (bytes_eq c.result x) (place_of cs x) refl (none_of_type test cs x)
    (sym (position-cons (λ (d : ConstructorView). bytes_eq d.result x) c cs) ∙ none)

tied_at : (s : SchemaView) (rules : List Rule) (t : Test ℕ) (x : Word) (o : Option ℕ) → place_of s x ≡ o
    → ((n : ℕ) → place_of s x ≡ Some n → gives rules [] t n ≡ empty_rules s (types_in s t) x)
    → empty_rules s (types_in s t) x ≡ passes (gives rules [] t) o
tied_at s rules t x None is given = none_of_type (may_be_empty_constructor (types_in s t)) s x is
tied_at s rules t x (Some n) is given = sym (given n is)

-- the least set of the rules of all constructors
pub empty_found : (cs : List Constructor) (rules : List Rule) (i : ℕ) (found : List Bool) → length cs ≤ i → AreEmptyRules (views cs) (take i cs) rules
    → IsLeast rules [] (length cs) found → (x : Word) → types_in (views cs) (holds found) x ≡ may_take_nothing (views cs) x
empty_found cs rules i found le all least x =
    let s = views cs in
    let whole : take i cs ≡ cs = grind (arith, common_steps) in
    least_seen (empty_rules s) (empty_mono s) (place_of s) rules []
    (λ t y. tied_at s rules t y (place_of s y) refl (λ n at. all.given t y n at ∙ ap (λ ds. list_any (may_be_empty_constructor (types_in s t)) (of_type (views ds) y)) whole))
    (declared_types s) (empty_within s) (length cs) found least x

pub empty_if : {E : Type 0} (cs ds : List Constructor) (rules rs : List Rule) (i : ℕ) (r : Result (List Bool) E) → ds ≡ cs → rs ≡ rules → length cs ≤ i
    → AreEmptyRules (views cs) (take i cs) rules → IfOk r (IsLeast rs [] (length ds))
    → IfOk r (λ found. (x : List ℕ) → types_in (views cs) (holds found) x ≡ may_take_nothing (views cs) x)
empty_if cs ds rules rs i (Ok found) same_types same_rules le all least =
    let P : List Rule → Type 0 = λ z. IsLeast z [] (length cs) found in
    let R : List Constructor → Type 0 = λ z. IsLeast rs [] (length z) found in
    empty_found cs rules i found le all (subst P same_rules (subst R same_types least))
empty_if cs ds rules rs i (Err e) same_types same_rules le all least = tt
