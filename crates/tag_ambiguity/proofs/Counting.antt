-- How many types are declared: as many as have their first constructor at its own place.
use Rattle.std.proofs.Common.{◌≡◌, ◌∙◌, ◌≤◌, ◌+◌, ℕ, zero, suc, Bool, true, false, List, [], ◌∷◌, ◌++◌, length, take, refl, sym, ap, arith, map}
use Rattle.std.specs.Prelude.{Option, Some, None, option_map, slice_get, bytes_eq, nat_eq, cond, not, ◌||◌}
use Rattle.std.proofs.lemmas.Bool.{eq-eqb, eqb-true}
use Rattle.std.proofs.lemmas.List.{length-map}
use Rattle.std.proofs.lemmas.Bool.Decides.{nat_tests}
use Rattle.std.proofs.lemmas.Slice.Eq.{bytes_eq-Decides}
use Rattle.tlb_syntax.specs.Tree.{ConstructorView, SchemaView}
use Rattle.kind_terms.specs.Words.{Word, is_among}
use Rattle.tlb_guard.specs.DeclaredTypes.{distinct, result_of}
use Rattle.tlb_guard.specs.Numbering.{place_of}
use Rattle.core_form.specs.Core.{Declaration}
use Rattle.schema_core.specs.Cores.{cores_after}
use Rattle.lead_table.specs.declared.heads.Head.{Head}
use Rattle.lead_table.specs.Heads.{AreHeads}
use Rattle.schema_leads.specs.Leads.{type_count}
use Rattle.schema_leads.specs.Tags.{cores, tag_of}
use Rattle.tag_ambiguity.proofs.Listing.{head_at, mapped, whole}
use Rattle.tag_ambiguity.proofs.Places.{place_cons, some_same}

-- ---- one more word

among_more : (xs : List Word) (x y : Word) → is_among (xs ++ x ∷ []) y ≡ (is_among xs y || bytes_eq y x)
among_more [] x y = by (bytes_eq y x)
  where
    by : (b : Bool) → (b || false) ≡ b
    by true = refl
    by false = refl
among_more (z ∷ xs) x y = by (bytes_eq y z) (among_more xs x y)
  where
    by : (b : Bool) → is_among (xs ++ x ∷ []) y ≡ (is_among xs y || bytes_eq y x) → (b || is_among (xs ++ x ∷ []) y) ≡ ((b || is_among xs y) || bytes_eq y x)
    by true rest = refl
    by false rest = rest

-- one less where it is among them
abbrev new_one : Bool → ℕ
new_one true = 0
new_one false = 1

pub distinct_more : (xs : List Word) (x : Word) → length (distinct (xs ++ x ∷ [])) ≡ length (distinct xs) + new_one (is_among xs x)
distinct_more [] x = refl
distinct_more (y ∷ ys) x =
    by (is_among (ys ++ x ∷ []) y) (is_among ys y) (bytes_eq y x) (bytes_eq x y) (is_among ys x) (among_more ys x y) other_way same_one (distinct_more ys x)
  where
    other_way : bytes_eq y x ≡ bytes_eq x y
    other_way = way (bytes_eq y x) (bytes_eq x y) (λ e. (bytes_eq-Decides x y).1 (sym ((bytes_eq-Decides y x).0 e))) (λ e. (bytes_eq-Decides y x).1 (sym ((bytes_eq-Decides x y).0 e)))
      where
        way : (a b : Bool) → (a ≡ true → b ≡ true) → (b ≡ true → a ≡ true) → a ≡ b
        way true b f g = sym (f refl)
        way false true f g = g refl
        way false false f g = refl

    same_one : bytes_eq y x ≡ true → is_among ys y ≡ is_among ys x
    same_one e = ap (is_among ys) ((bytes_eq-Decides y x).0 e)

    by : (after among same way there : Bool) → after ≡ (among || same) → same ≡ way → (same ≡ true → among ≡ there)
        → length (distinct (ys ++ x ∷ [])) ≡ length (distinct ys) + new_one there
        → length (cond after (distinct (ys ++ x ∷ [])) (y ∷ distinct (ys ++ x ∷ [])))
        ≡ length (cond among (distinct ys) (y ∷ distinct ys)) + new_one (way || there)
    by true true true true true a w h rest = rest
    by true true true true false a w h rest = cc (h refl)
    by true false true true true a w h rest = cc (h refl)
    by true false true true false a w h rest = omega (arith, rest)
    by true true false false there a w h rest = rest
    by true false false false there a w h rest = cc
    by false true same way there a w h rest = cc
    by false false true way there a w h rest = cc
    by false false false false there a w h rest = omega (arith, rest)
    by after among true false there a w h rest = cc
    by after among false true there a w h rest = cc

-- ---- by places

types_of : (types before cs : SchemaView) → map (λ (d : Declaration). d.of_type) (cores_after types tag_of before cs) ≡ map result_of cs
types_of types before [] = refl
types_of types before (c ∷ cs) = ap (λ z. c.result ∷ z) (types_of types (before ++ c ∷ []) cs)

pub declared_types : (s : SchemaView) → map (λ (d : Declaration). d.of_type) (cores s) ≡ map result_of s
declared_types s = types_of s [] s

among_at : (c : ConstructorView) (cs : SchemaView) (x : Word) (b way : Bool) (o : Option ℕ) (k n : ℕ) → b ≡ way
    → ((m : ℕ) → o ≡ Some m → is_among (take k (map result_of cs)) x ≡ not (nat_eq m k)) → cond b (Some 0) (option_map suc o) ≡ Some n
    → (way || is_among (take k (map result_of cs)) x) ≡ not (nat_eq n (suc k))
among_at c cs x true true o k n w rest e = let is : zero ≡ n = some_same zero n e in grind (arith, nat_tests)
among_at c cs x false false (Some m) k n w rest e =
    let is : suc m ≡ n = some_same (suc m) n e in
    let test : nat_eq m k ≡ nat_eq (suc m) (suc k) = grind (arith, nat_tests) in
    rest m refl ∙ ap not test ∙ ap (λ z. not (nat_eq z (suc k))) is
among_at c cs x false false None k n w rest e = cc
among_at c cs x true false o k n w rest e = cc
among_at c cs x false true o k n w rest e = cc

-- a type is among those before a constructor unless it is the first of its type
pub among_before : (s : SchemaView) (k : ℕ) (c : ConstructorView) (n : ℕ) → slice_get s k ≡ Some c → place_of s c.result ≡ Some n
    → is_among (take k (map result_of s)) c.result ≡ not (nat_eq n k)
among_before [] k c n there e = cc
among_before (d ∷ cs) zero c n there e =
    let is : d ≡ c = some_same d c there in
    let same : bytes_eq d.result c.result ≡ true = (bytes_eq-Decides d.result c.result).1 (ap (λ (z : ConstructorView). z.result) is) in
    let at : zero ≡ n = some_same zero n (sym (ap (λ b. cond b (Some 0) (option_map suc (place_of cs c.result))) same) ∙ sym (place_cons d cs c.result) ∙ e) in
    ap (λ z. not (nat_eq z 0)) at
among_before (d ∷ cs) (suc k) c n there e =
    among_at d cs c.result (bytes_eq d.result c.result) (bytes_eq c.result d.result) (place_of cs c.result) k n other_way
    (λ m is. among_before cs k c m there is) (sym (place_cons d cs c.result) ∙ e)
  where
    way : (a b : Bool) → (a ≡ true → b ≡ true) → (b ≡ true → a ≡ true) → a ≡ b
    way true b f g = sym (f refl)
    way false true f g = g refl
    way false false f g = refl

    other_way : bytes_eq d.result c.result ≡ bytes_eq c.result d.result
    other_way =
        way (bytes_eq d.result c.result) (bytes_eq c.result d.result) (λ e. (bytes_eq-Decides c.result d.result).1 (sym ((bytes_eq-Decides d.result c.result).0 e)))
        (λ e. (bytes_eq-Decides d.result c.result).1 (sym ((bytes_eq-Decides c.result d.result).0 e)))

pub distinct_few : (xs : List Word) → length (distinct xs) ≤ length xs
distinct_few [] = omega arith
distinct_few (x ∷ xs) = by (is_among xs x) (distinct_few xs)
  where
    by : (b : Bool) → length (distinct xs) ≤ length xs → length (cond b (distinct xs) (x ∷ distinct xs)) ≤ suc (length xs)
    by true few = omega (arith, few)
    by false few = omega (arith, few)

-- ---- one more head

grown : {X : Type 0} (xs : List X) (k : ℕ) (x : X) → slice_get xs k ≡ Some x → take (suc k) xs ≡ take k xs ++ x ∷ []
grown [] k x e = cc
grown (y ∷ xs) zero x e = ap (λ z. z ∷ []) (some_same y x e)
grown (y ∷ xs) (suc k) x e = ap (λ z. y ∷ z) (grown xs k x e)

step : (s : SchemaView) (hs : List Head) (k : ℕ) (h : Head) (b : Bool) → AreHeads s s hs → slice_get hs k ≡ Some h → nat_eq h.of_type k ≡ b
    → length (distinct (take (k + 1) (map result_of s))) ≡ length (distinct (take k (map result_of s))) + new_one (not b)
step s hs k h b are there is =
    let c = head_at s s hs k h are there in
    let x = c.constructor.result in
    let e : k + 1 ≡ suc k = omega arith in
    ap (λ n. length (distinct (take n (map result_of s)))) e
    ∙ ap (λ z. length (distinct z)) (grown (map result_of s) k x (mapped result_of s k c.constructor c.there))
    ∙ distinct_more (take k (map result_of s)) x
    ∙ ap (λ a. length (distinct (take k (map result_of s))) + new_one a)
    (among_before s k c.constructor h.of_type c.there c.head.of_type ∙ ap not is)

pub counted_first : (s : SchemaView) (hs : List Head) (k n : ℕ) (h : Head) → AreHeads s s hs → slice_get hs k ≡ Some h → h.of_type ≡ k
    → n ≡ length (distinct (take k (map result_of s))) → n + 1 ≡ length (distinct (take (k + 1) (map result_of s)))
counted_first s hs k n h are there is so_far = omega (arith, so_far, step s hs k h true are there (eq-eqb h.of_type k is))

pub counted_other : (s : SchemaView) (hs : List Head) (k n : ℕ) (h : Head) → AreHeads s s hs → slice_get hs k ≡ Some h → (h.of_type ≡ k → ⊥)
    → n ≡ length (distinct (take k (map result_of s))) → n ≡ length (distinct (take (k + 1) (map result_of s)))
counted_other s hs k n h are there other so_far = omega (arith, so_far, step s hs k h false are there (off (nat_eq h.of_type k) refl))
  where
    off : (b : Bool) → nat_eq h.of_type k ≡ b → b ≡ false
    off true e = absurd (other (eqb-true h.of_type k e))
    off false e = refl

pub counted : (s : SchemaView) (k n : ℕ) → length s ≤ k → n ≡ length (distinct (take k (map result_of s))) → n ≡ type_count (cores s)
counted s k n end so_far =
    so_far ∙ ap (λ z. length (distinct z)) (whole (map result_of s) k (omega (arith, end, length-map s result_of)) ∙ sym (declared_types s))
