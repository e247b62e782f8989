-- The constructor of a type that is entered, the one of a name, and the one of a number.
use Rattle.std.proofs.Common.{◌≡◌, ◌∙◌, ◌<◌, ◌≤◌, ◌+◌, ◌↔◌, Bool, true, false, ℕ, zero, suc, List, [], ◌∷◌, length}
use Rattle.std.proofs.Common.{Option, Some, inl, inr, ap, arith, get_or, refl, subst, sym, take}
use Rattle.std.specs.Prelude.{IsTrue, is_some, option_map, slice_get}
use Rattle.std.proofs.lemmas.Bool.{both_ways, cases_lt}
use Rattle.std.proofs.lemmas.Option.{same_Some, slice_get_within, slice_get-get_or}
use Rattle.tlb_syntax.specs.Tree.{ConstructorView, SchemaView}
use Rattle.kind_terms.specs.Dictionaries.{of_type}
use Rattle.kind_terms.specs.Words.{Word}
use Rattle.closed_type.specs.View.{AnArg, joined}
use Rattle.core_form.specs.Closed.{ClosedArgs}
use Rattle.core_form.specs.Core.{CoreSchema, Declaration}
use Rattle.core_form.specs.Fit.{fit}
use Rattle.schema_leads.specs.Leads.{Leads, leads, some_begins}
use Rattle.schema_leads.specs.Tags.{cores}
use Rattle.tag_ambiguity.specs.Judged.{EntersOne}
use Rattle.type_index.specs.Index.{places_of}
use Rattle.field_plan.specs.Choosing.{AreShownApart, AreSmall, Enters, IsNamed, IsShownAt}
use Rattle.field_plan.proofs.Declared.{core_at, core_count, place_is, place_of}
use Rattle.field_plan.proofs.Fitting.{can_enter, numbers_of, small_numbers}

-- ---- a type's constructors

pub place_within : (s : SchemaView) (x : Word) (k c : ℕ) → slice_get (places_of s x) k ≡ Some c → c < length (cores s)
place_within s x k c e =
    let p = place_is 0 s x k c e in
    omega (arith, p.is, slice_get_within s p.place p.stands.constructor p.stands.there, core_count s [] s)

-- the constructor at a place of a type is of that type
pub place_type : (s : SchemaView) (x : Word) (k c : ℕ) (d : Declaration) → slice_get (places_of s x) k ≡ Some c
    → slice_get (cores s) c ≡ Some d → d.of_type ≡ x
place_type s x k c d e there =
    let p = place_is 0 s x k c e in
    let o = core_at s [] s c d there in
    let same_place : p.place ≡ c = omega (arith, p.is) in
    let same : p.stands.constructor ≡ o.constructor =
    same_Some _ _ (sym p.stands.there ∙ ap (slice_get s) same_place ∙ o.there) in
    ap (λ (z : Declaration). z.of_type) o.is ∙ ap (λ (z : ConstructorView). z.result) (sym same) ∙ p.stands.type

pub record IsAmong (places : List ℕ) (c : ℕ) : Type 0 where
  pub place : ℕ
  pub there : slice_get places place ≡ Some c

-- a constructor of the type has a place in it
pub type_place : (s : SchemaView) (x : Word) (c : ℕ) (d : Declaration) → slice_get (cores s) c ≡ Some d → d.of_type ≡ x
    → IsAmong (places_of s x) c
type_place s x c d there type =
    let o = core_at s [] s c d there in record {
      place = length (of_type (take c s) x);
      there =
          place_of 0 s x c o.constructor o.there (sym (ap (λ (z : Declaration). z.of_type) o.is) ∙ type)
          ∙ ap Some (omega arith);
    }

pub place_at : (s : SchemaView) (x : Word) (items : List ℕ) (k : ℕ) → items ≡ places_of s x → k < length items
    → slice_get (places_of s x) k ≡ Some (get_or items k 0)
place_at s x items k are lt = ap (λ z. slice_get z k) (sym are) ∙ slice_get-get_or items k 0 lt

-- a core form at a place
pub record IsThere (s : CoreSchema) (c : ℕ) : Type 0 where
  pub declaration : Declaration
  pub there : slice_get s c ≡ Some declaration

pub there_at : (s : CoreSchema) (c : ℕ) → c < length s → IsThere s c
there_at [] c lt = absurd (omega (arith, lt))
there_at (d ∷ s) zero lt = record { declaration = d; there = refl }
there_at (d ∷ s) (suc c) lt =
    let r = there_at s c (omega (arith, lt)) in record { declaration = r.declaration; there = r.there }

-- what is had of a core form that is there
pub had : {X : Type 0} (f : Declaration → X) (o : Option Declaration) (d : Declaration) (x : X) → option_map f o ≡ Some x
    → o ≡ Some d → x ≡ f d
had f o d x e there = same_Some x (f d) (sym e ∙ ap (option_map f) there)

-- ---- the constructor that is entered

-- none of the first so many places of a type has what is sought
abbrev pub NoneBefore : CoreSchema → (Declaration → Type 0) → List ℕ → ℕ → Type 0
NoneBefore s P places n =
    (k c : ℕ) (d : Declaration) → k < n → slice_get places k ≡ Some c → slice_get s c ≡ Some d → P d → ⊥

pub none_of_none : (s : CoreSchema) (P : Declaration → Type 0) (places : List ℕ) → NoneBefore s P places 0
none_of_none s P places = λ k c d lt. absurd (omega (arith, lt))

pub none_of_more : (s : CoreSchema) (P : Declaration → Type 0) (places : List ℕ) (n c : ℕ) (d : Declaration)
    → NoneBefore s P places n → slice_get places n ≡ Some c → slice_get s c ≡ Some d → (P d → ⊥) → NoneBefore s P places (n + 1)
none_of_more s P places n c d before here there not_it = λ k b e lt at core h. elim (cases_lt k n) [
  | inl less ↦ before k b e less at core h
  | inr le ↦
      let k_is : k ≡ n = omega (arith, lt, le) in
      let b_is : b ≡ c = same_Some b c (sym at ∙ ap (slice_get places) k_is ∙ here) in
      let e_is : e ≡ d = same_Some e d (sym core ∙ ap (slice_get s) b_is ∙ there) in
      not_it (subst P e_is h)
]

-- where no place has it, no constructor of the type has it
pub none_at_all : (s : SchemaView) (x : Word) (P : Declaration → Type 0) (n : ℕ) → ((d : Declaration) → P d → d.of_type ≡ x)
    → NoneBefore (cores s) P (places_of s x) n → length (places_of s x) ≤ n → (c : ℕ) (d : Declaration)
    → slice_get (cores s) c ≡ Some d → P d → ⊥
none_at_all s x P n type none all c d there h =
    let a = type_place s x c d there (type d h) in
    none a.place c d (omega (arith, slice_get_within (places_of s x) a.place c a.there, all)) a.there there h

pub one_entered : (s : SchemaView) (x : Word) (given : List AnArg) (bits : List ℕ) → EntersOne s → AreSmall given
    → (i j : ℕ) (d e : Declaration) → slice_get (cores s) i ≡ Some d → slice_get (cores s) j ≡ Some e
    → Enters (cores s) x (joined given) bits d → Enters (cores s) x (joined given) bits e → i ≡ j
one_entered s x given bits one small i j d e here there h k =
    one i j d e (numbers_of given) bits here there (h.of_type ∙ sym k.of_type) (small_numbers given small)
    (can_enter (cores s) x given bits d h) (can_enter (cores s) x given bits e k)

pub one_named : (s : SchemaView) (x name : Word) (given : List AnArg) → AreShownApart (cores s) → (i j : ℕ) (d e : Declaration)
    → slice_get (cores s) i ≡ Some d → slice_get (cores s) j ≡ Some e → IsNamed x (joined given) name d
    → IsNamed x (joined given) name e → i ≡ j
one_named s x name given apart i j d e here there h k =
    apart i j d e here there (h.of_type ∙ sym k.of_type) (h.shown ∙ sym k.shown)

-- ---- numbers

-- a constructor's number is one more than its place in its type
pub number_is : (s : SchemaView) (x : Word) (k c : ℕ) (d : Declaration) → slice_get (places_of s x) k ≡ Some c
    → slice_get (cores s) c ≡ Some d → d.number ≡ k + 1
number_is s x k c d e there =
    let p = place_is 0 s x k c e in
    let o = core_at s [] s c d there in
    let same_place : p.place ≡ c = omega (arith, p.is) in
    let same : p.stands.constructor ≡ o.constructor =
    same_Some _ _ (sym p.stands.there ∙ ap (slice_get s) same_place ∙ o.there) in
    let type : o.constructor.result ≡ x = ap (λ (z : ConstructorView). z.result) (sym same) ∙ p.stands.type in
    ap (λ (z : Declaration). z.number) o.is
    ∙ ap (λ y. length (of_type (take c s) y) + 1) type
    ∙ ap (λ q. length (of_type (take q s) x) + 1) (sym same_place)
    ∙ ap (λ n. n + 1) p.stands.before

pub numbered_place : (s : SchemaView) (x : Word) (c k : ℕ) (d : Declaration) → slice_get (cores s) c ≡ Some d → d.of_type ≡ x
    → d.number ≡ k + 1 → slice_get (places_of s x) k ≡ Some c
numbered_place s x c k d there type number =
    let a = type_place s x c d there type in
    let is = number_is s x a.place c d a.there there in
    let same : a.place ≡ k = omega (arith, is, number) in
    sym (ap (slice_get (places_of s x)) same) ∙ a.there

pub number_positive : (s : SchemaView) (c : ℕ) (d : Declaration) → slice_get (cores s) c ≡ Some d → 0 < d.number
number_positive s c d there =
    let a = type_place s d.of_type c d there refl in
    omega (arith, number_is s d.of_type a.place c d a.there there)

-- ---- what the tests of one constructor say

pub entered : (s : SchemaView) (x : Word) (args : ClosedArgs) (bits : List ℕ) (k p : ℕ) (d : Declaration) (met begun : Bool)
    (ls : Leads) → slice_get (places_of s x) k ≡ Some p → slice_get (cores s) p ≡ Some d → met ≡ is_some (fit d.core args)
    → met ≡ true → option_map (leads (cores s)) (slice_get (cores s) p) ≡ Some ls → begun ≡ some_begins ls bits → begun ≡ true
    → Enters (cores s) x args bits d
entered s x args bits k p d met begun ls here there fits is leads_are begins begun_is = record {
  of_type = place_type s x k p d here there;
  fits = sym fits ∙ is;
  begins =
      ap (λ z. some_begins z bits) (sym (had (leads (cores s)) (slice_get (cores s) p) d ls leads_are there))
      ∙ sym begins ∙ begun_is;
}

pub not_begun : (s : CoreSchema) (d : Declaration) (p : ℕ) (begun : Bool) (ls : Leads) (bits : List ℕ) → slice_get s p ≡ Some d
    → option_map (leads s) (slice_get s p) ≡ Some ls → begun ≡ some_begins ls bits → begun ≡ false
    → some_begins (leads s d) bits ≡ true → ⊥
not_begun s d p begun ls bits there leads_are begins no_lead begun_is =
    let is : ls ≡ leads s d = had (leads s) (slice_get s p) d ls leads_are there in
    both_ways begun no_lead (begins ∙ ap (λ z. some_begins z bits) is ∙ begun_is)

pub is_named : (s : SchemaView) (x name word : Word) (args : ClosedArgs) (k p : ℕ) (d : Declaration) (same met : Bool)
    → slice_get (places_of s x) k ≡ Some p → slice_get (cores s) p ≡ Some d
    → option_map (λ (d : Declaration). d.shown) (slice_get (cores s) p) ≡ Some word → IsTrue same ↔ (word ≡ name) → same ≡ true
    → met ≡ is_some (fit d.core args) → met ≡ true → IsNamed x args name d
is_named s x name word args k p d same met here there shown is same_is fits fit_is = record {
  of_type = place_type s x k p d here there;
  shown = sym (had (λ (d : Declaration). d.shown) (slice_get (cores s) p) d word shown there) ∙ is.0 same_is;
  fits = sym fits ∙ fit_is;
}

pub not_named : (s : CoreSchema) (d : Declaration) (p : ℕ) (name word : Word) (same : Bool) → slice_get s p ≡ Some d
    → option_map (λ (d : Declaration). d.shown) (slice_get s p) ≡ Some word → IsTrue same ↔ (word ≡ name) → same ≡ false
    → d.shown ≡ name → ⊥
not_named s d p name word same there shown is no_name e =
    both_ways same no_name (is.1 (had (λ (d : Declaration). d.shown) (slice_get s p) d word shown there ∙ e))

-- ---- how the constructor at a place is shown

pub none_at_zero : (s : SchemaView) (x name : Word) (n : ℕ) → (1 ≤ n → ⊥) → IsShownAt (cores s) x n name → ⊥
none_at_zero s x name n below h = below (omega (arith, number_positive s h.place h.declaration h.there, h.number))

pub none_past : (s : SchemaView) (x name : Word) (n k : ℕ) (items : List ℕ) → items ≡ places_of s x → n ≡ k + 1
    → length items ≤ k → IsShownAt (cores s) x n name → ⊥
none_past s x name n k items are number past h =
    let at = numbered_place s x h.place k h.declaration h.there h.of_type (h.number ∙ number) in
    omega (arith, slice_get_within (places_of s x) k h.place at, ap length are, past)

pub shown_here : (s : SchemaView) (x name word : Word) (n k p : ℕ) (d : Declaration) → slice_get (places_of s x) k ≡ Some p
    → slice_get (cores s) p ≡ Some d → n ≡ k + 1 → word ≡ d.shown → (Some word ≡ Some name) ↔ IsShownAt (cores s) x n name
shown_here s x name word n k p d here there number shown = (
  λ e. record {
    place = p;
    declaration = d;
    there = there;
    of_type = place_type s x k p d here there;
    number = number_is s x k p d here there ∙ sym number;
    shown = sym shown ∙ same_Some word name e;
  },
  λ h.
      let at = numbered_place s x h.place k h.declaration h.there h.of_type (h.number ∙ number) in
      let same_place : h.place ≡ p = same_Some h.place p (sym at ∙ here) in
      let same : h.declaration ≡ d =
      same_Some h.declaration d (sym h.there ∙ ap (slice_get (cores s)) same_place ∙ there) in
      ap Some (shown ∙ ap (λ (z : Declaration). z.shown) (sym same) ∙ h.shown),
)
