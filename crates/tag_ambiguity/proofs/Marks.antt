-- The marks of constructors, and what they say of two of them.
use Rattle.std.proofs.Common.{◌≡◌, ◌∙◌, ◌<◌, ◌+◌, ℕ, zero, suc, Bool, true, false, List, [], ◌∷◌, ◌++◌, length, take, refl, sym, ap, arith, get_or, map, ◌↔◌}
use Rattle.std.specs.Prelude.{IsTrue, Some, slice_get, nat_eq, ◌||◌, ◌&&◌}
use Rattle.std.proofs.lemmas.List.{length-map, map-append}
use Rattle.std.proofs.lemmas.Bool.{eq-eqb, eqb-true}
use Rattle.bit_slice.specs.Bits.{BeginsWith}
use Rattle.tlb_syntax.specs.Tree.{SchemaView}
use Rattle.core_form.specs.Core.{Declaration, Input}
use Rattle.schema_leads.specs.Tags.{cores}
use Rattle.schema_leads.specs.Leads.{Leads, begins, leads}
use Rattle.schema_leads.specs.Separation.{are_apart, are_separated, excluding}
use Rattle.tag_ambiguity.specs.declared.inputs.Input.{Input as ProgramInput}
use Rattle.tag_ambiguity.specs.Inputs.{inputs_by, plain_inputs}
use Rattle.tag_ambiguity.specs.Pairs.{AreMarks}
use Rattle.tag_ambiguity.proofs.Listing.{core_count, got, mapped, some_same, within}
use Rattle.tag_ambiguity.proofs.Patterns.{plain_excluding}

pub read : {X : Type 0} (xs : List X) (k : ℕ) (d x : X) → slice_get xs k ≡ Some x → get_or xs k d ≡ x
read xs k d x e = some_same (get_or xs k d) x (sym (got xs k d (within xs k x e)) ∙ e)

pub lead_mark : (s : SchemaView) (ls : List Leads) (inputs : List (List ProgramInput)) (i : ℕ) (d : Declaration) (x : Leads) → AreMarks s ls inputs
    → slice_get (cores s) i ≡ Some d → get_or ls i x ≡ leads (cores s) d
lead_mark s ls inputs i d x marks there =
    ap (λ z. get_or z i x) marks.are_leads
    ∙ read (map (leads (cores s)) (cores s)) i x (leads (cores s) d) (mapped (leads (cores s)) (cores s) i d there)

abbrev plain_of : Declaration → List Input
plain_of d = plain_inputs d.core.inputs

pub input_mark : (s : SchemaView) (ls : List Leads) (inputs : List (List ProgramInput)) (i : ℕ) (d : Declaration) (x : List ProgramInput) → AreMarks s ls inputs
    → slice_get (cores s) i ≡ Some d → inputs_by (get_or inputs i x) ≡ plain_inputs d.core.inputs
input_mark s ls inputs i d x marks there =
    let are : map inputs_by inputs ≡ map plain_of (cores s) = marks.are_inputs in
    let lt : i < length inputs =
    omega (arith, ap length are, length-map inputs inputs_by, length-map (cores s) plain_of, within (cores s) i d there) in
    some_same (inputs_by (get_or inputs i x)) (plain_inputs d.core.inputs)
    (sym (mapped inputs_by inputs i (get_or inputs i x) (got inputs i x lt)) ∙ ap (λ z. slice_get z i) are ∙ mapped plain_of (cores s) i d there)

-- two constructors by their marks
pub same_answer : (s : SchemaView) (d e : Declaration) (ls ks : Leads) (ps qs : List ProgramInput) → ls ≡ leads (cores s) d → ks ≡ leads (cores s) e
    → inputs_by ps ≡ plain_inputs d.core.inputs → inputs_by qs ≡ plain_inputs e.core.inputs
    → (are_apart ls ks || excluding (inputs_by ps) (inputs_by qs)) ≡ are_separated (cores s) d e
same_answer s d e ls ks ps qs l k p q =
    ap (λ z. are_apart z ks || excluding (inputs_by ps) (inputs_by qs)) l
    ∙ ap (λ z. are_apart (leads (cores s) d) z || excluding (inputs_by ps) (inputs_by qs)) k
    ∙ ap (λ z. are_apart (leads (cores s) d) (leads (cores s) e) || excluding z (inputs_by qs)) p
    ∙ ap (λ z. are_apart (leads (cores s) d) (leads (cores s) e) || excluding (plain_inputs d.core.inputs) z) q
    ∙ ap (λ b. are_apart (leads (cores s) d) (leads (cores s) e) || b) (plain_excluding d.core.inputs e.core.inputs)

-- ---- whether bits begin with others

begins_from : (xs ys : List ℕ) → BeginsWith ys xs → begins xs ys ≡ true
begins_from [] ys e = refl
begins_from (x ∷ xs) [] e = cc
begins_from (x ∷ xs) (y ∷ ys) e =
    let first : y ≡ x = cc in
    let rest : take (length xs) ys ≡ xs = cc in
    let same : nat_eq x y ≡ true = eq-eqb x y (sym first) in
    ap (λ b. b && begins xs ys) same ∙ begins_from xs ys rest

begins_to : (xs ys : List ℕ) → begins xs ys ≡ true → BeginsWith ys xs
begins_to [] ys e = refl
begins_to (x ∷ xs) [] e = cc
begins_to (x ∷ xs) (y ∷ ys) e = by (nat_eq x y) (eqb-true x y) (begins_to xs ys) e
  where
    by : (b : Bool) → (b ≡ true → x ≡ y) → (begins xs ys ≡ true → BeginsWith ys xs) → (b && begins xs ys) ≡ true → take (suc (length xs)) (y ∷ ys) ≡ x ∷ xs
    by true same rest is = ap (λ z. z ∷ take (length xs) ys) (sym (same refl)) ∙ ap (λ z. x ∷ z) (rest is)
    by false same rest is = cc

pub tested_begin : (b : Bool) (xs ys : List ℕ) → IsTrue b ↔ BeginsWith ys xs → b ≡ begins xs ys
tested_begin true xs ys h = sym (begins_from xs ys (h.0 refl))
tested_begin false xs ys h = off (begins xs ys) refl
  where
    off : (c : Bool) → begins xs ys ≡ c → false ≡ c
    off true is = h.1 (begins_to xs ys is)
    off false is = refl

-- ---- one more constructor

pub one_more : (s : SchemaView) (inputs new : List (List ProgramInput)) (one : List ProgramInput) (k : ℕ) (d : Declaration)
    → map inputs_by inputs ≡ map (λ (d : Declaration). plain_inputs d.core.inputs) (take k (cores s)) → new ≡ inputs ++ one ∷ []
    → slice_get (cores s) k ≡ Some d → inputs_by one ≡ plain_inputs d.core.inputs
    → map inputs_by new ≡ map (λ (d : Declaration). plain_inputs d.core.inputs) (take (k + 1) (cores s))
one_more s inputs new one k d so_far is there same =
    let e : k + 1 ≡ suc k = omega arith in
    ap (map inputs_by) is ∙ map-append inputs_by inputs (one ∷ [])
    ∙ ap (λ z. z ++ inputs_by one ∷ []) so_far ∙ ap (λ z. map plain_of (take k (cores s)) ++ z ∷ []) same
    ∙ sym (grown plain_of (cores s) k d there) ∙ ap (λ n. map plain_of (take n (cores s))) (sym e)
  where
    grown : {X Y : Type 0} (f : X → Y) (xs : List X) (n : ℕ) (x : X) → slice_get xs n ≡ Some x → map f (take (suc n) xs) ≡ map f (take n xs) ++ f x ∷ []
    grown f [] n x e = cc
    grown f (y ∷ xs) zero x e = ap (λ z. f z ∷ []) (some_same y x e)
    grown f (y ∷ xs) (suc n) x e = ap (λ z. f y ∷ z) (grown f xs n x e)

-- ---- how many there are

pub lead_marks : (s : SchemaView) (ls : List Leads) (inputs : List (List ProgramInput)) → AreMarks s ls inputs → length ls ≡ length s
lead_marks s ls inputs marks = omega (arith, ap length marks.are_leads, length-map (cores s) (leads (cores s)), core_count s [] s)

pub input_marks : (s : SchemaView) (ls : List Leads) (inputs : List (List ProgramInput)) → AreMarks s ls inputs → length inputs ≡ length s
input_marks s ls inputs marks =
    let are : map inputs_by inputs ≡ map plain_of (cores s) = marks.are_inputs in
    omega (arith, ap length are, length-map inputs inputs_by, length-map (cores s) plain_of, core_count s [] s)
