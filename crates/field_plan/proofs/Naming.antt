-- What constructors are called by, one after another.
use Rattle.std.proofs.Common.{◌≡◌, ◌∙◌, ◌<◌, ◌≤◌, ◌+◌, ℕ, zero, suc, List, [], ◌∷◌, ◌++◌, length, map, take, refl, sym, ap, arith, get_or}
use Rattle.std.proofs.Common.{Bor, Option, Some, None, inl, inr}
use Rattle.std.specs.Prelude.{option_map, slice_get, Result, Ok, Err, MatchResult}
use Rattle.std.specs.List.Sorted.{IsBinarySearchResult}
use Rattle.std.specs.Ordering.{nat_cmp}
use Rattle.std.specs.Option.{option_copied}
use Rattle.std.proofs.lemmas.Bool.{cases_lt}
use Rattle.std.proofs.lemmas.List.{length-map, map-append}
use Rattle.std.proofs.lemmas.List.Sorted.{searched}
use Rattle.std.proofs.lemmas.Option.{none-some, same_Some, slice_get_within, slice_get-get_or, slice_get-map, get_or_from_slice_get}
use Rattle.tlb_syntax.specs.Tree.{SchemaView}
use Rattle.kind_terms.specs.Words.{Word}
use Rattle.core_form.specs.Core.{CoreSchema, Declaration}
use Rattle.schema_leads.specs.Tags.{cores, tag_of}
use Rattle.tlb_syntax.specs.declared.tree.Constructor.{Constructor}
use Rattle.tlb_syntax.specs.View.{constructor}
use Rattle.kind_terms.specs.Dictionaries.{of_type}
use Rattle.schema_core.specs.Cores.{declaration_of, number_after, shown_name}
use Rattle.type_index.specs.Index.{places_of}
use Rattle.field_plan.specs.Names.{name_of}
use Rattle.field_plan.specs.declared.names.ConstructorName.{ConstructorName}
use Rattle.field_plan.proofs.Declared.{core_at, core_count, core_of, few_of, places_ascend}
use Rattle.field_plan.proofs.Choice.{number_is, type_place}

found : (s : SchemaView) (x : Word) (place : ℕ) (r : Result ℕ ℕ) → IsBinarySearchResult (λ y. nat_cmp y place) (places_of s x) r
    → MatchResult r (λ i. (i < length (places_of s x)) × (get_or (places_of s x) i 0 ≡ place))
    (λ i. (i ≤ length (places_of s x)) × ((k : ℕ) → k < i → get_or (places_of s x) k 0 < place)
    × ((k : ℕ) → i ≤ k → k < length (places_of s x) → place < get_or (places_of s x) k 0))
found s x place r h = searched (places_of s x) place r h (places_ascend 0 s x)

-- a place that is found is one less than the number
pub number_found : (s : SchemaView) (x : Word) (place before : ℕ) (d : Declaration)
    → IsBinarySearchResult (λ y. nat_cmp y place) (places_of s x) (Ok before) → slice_get (cores s) place ≡ Some d
    → before + 1 ≡ d.number
number_found s x place before d h there =
    let is = found s x place (Ok before) h in
    let at : slice_get (places_of s x) before ≡ Some place = slice_get-get_or (places_of s x) before 0 is.0 ∙ ap Some is.1 in
    sym (number_is s x before place d at there)

-- a constructor's place is among those of its type
pub place_found : (s : SchemaView) (place before : ℕ) (d : Declaration)
    → IsBinarySearchResult (λ y. nat_cmp y place) (places_of s d.of_type) (Err before) → slice_get (cores s) place ≡ Some d → ⊥
place_found s place before d h there =
    let is = found s d.of_type place (Err before) h in
    let a = type_place s d.of_type place d there refl in
    let at = get_or_from_slice_get (places_of s d.of_type) a.place place 0 a.there in
    let within = slice_get_within (places_of s d.of_type) a.place place a.there in
    elim (cases_lt a.place before) [
      | inl lt ↦ let below = is.1 a.place lt in omega (arith, below, at)
      | inr le ↦ let above = is.2 a.place le within in omega (arith, above, at)
    ]

-- ---- the constructor at a place

-- the core form of a constructor of the program
pub record IsOfConstructor (xs : List Constructor) (place : ℕ) (c : Constructor) (x : Word) : Type 0 where
  pub declaration : Declaration
  pub there : slice_get (cores (map constructor xs)) place ≡ Some declaration
  pub type : declaration.of_type ≡ x
  pub number : declaration.number ≡ number_after (take place (map constructor xs)) (constructor c)
  pub shown : declaration.shown ≡ shown_name c.name (number_after (take place (map constructor xs)) (constructor c))

pub of_named : (xs : List Constructor) (place : ℕ) (c : Constructor) (x : Word) → place < length xs → c ≡ get_or xs place c
    → x ≡ c.result → IsOfConstructor xs place c x
of_named xs place c x lt is type =
    let s = map constructor xs in
    let at : slice_get s place ≡ Some (constructor c) =
    slice_get-map constructor xs place ∙ ap (option_map constructor) (slice_get-get_or xs place c lt ∙ ap Some (sym is)) in
    record {
      declaration = declaration_of s (tag_of (constructor c)) (take place s) (constructor c);
      there = core_of s [] s place (constructor c) at;
      type = sym type;
      number = refl;
      shown = refl;
    }

-- its type has a place for it
pub not_empty : (s : SchemaView) (x : Word) (place : ℕ) (d : Declaration) → slice_get (cores s) place ≡ Some d → d.of_type ≡ x
    → places_of s x ≡ [] → ⊥
not_empty s x place d there type none =
    let a = type_place s x place d there type in
    none-some place (ap (λ z. slice_get z a.place) (sym none) ∙ a.there)

pub small_number : (xs : List Constructor) (place : ℕ) (d : Declaration) → length xs ≤ 4096
    → slice_get (cores (map constructor xs)) place ≡ Some d → d.number ≤ 4097
small_number xs place d few there =
    let s = map constructor xs in
    let o = core_at s [] s place d there in
    let is : d.number ≡ length (of_type (take place s) o.constructor.result) + 1 = ap (λ (z : Declaration). z.number) o.is in
    omega (arith, is, few_of s place o.constructor.result (omega (arith, few, length-map xs constructor)))

-- ---- lists that grow

take_next : {X : Type 0} (xs : List X) (k : ℕ) (x : X) → slice_get xs k ≡ Some x → take (suc k) xs ≡ take k xs ++ x ∷ []
take_next [] k x e = cc
take_next (y ∷ xs) zero x e = ap (λ z. z ∷ []) (same_Some y x e)
take_next (y ∷ xs) (suc k) x e = ap (λ z. y ∷ z) (take_next xs k x e)

pub named_next : (s : CoreSchema) (names new : List ConstructorName) (one : ConstructorName) (k : ℕ) (d : Declaration)
    → names ≡ map name_of (take k s) → new ≡ names ++ one ∷ [] → slice_get s k ≡ Some d → one ≡ name_of d
    → new ≡ map name_of (take (k + 1) s)
named_next s names new one k d so_far is there same =
    let next : k + 1 ≡ suc k = omega arith in
    is ∙ ap (λ z. z ++ one ∷ []) so_far ∙ ap (λ z. map name_of (take k s) ++ z ∷ []) same
    ∙ sym (map-append name_of (take k s) (d ∷ []))
    ∙ ap (map name_of) (sym (take_next s k d there) ∙ ap (λ n. take n s) (sym next))

-- ---- what a plan keeps of names

pub name_there : (s : SchemaView) (names : List ConstructorName) (n c : ℕ) → names ≡ map name_of (cores s) → n ≡ length s
    → c < n → None ≡ slice_get names c → ⊥
name_there s names n c are size lt none =
    let many : length names ≡ length s = ap length are ∙ length-map (cores s) name_of ∙ core_count s [] s in
    let within : c < length names = omega (arith, many, size, lt) in
    let d : ConstructorName = record { shown = []; number = 0 } in
    none-some (get_or names c d) (none ∙ slice_get-get_or names c d within)

pub name_at : (s : SchemaView) (names : List ConstructorName) (c : ℕ) (n : ConstructorName) → names ≡ map name_of (cores s)
    → slice_get names c ≡ Some n → option_map name_of (slice_get (cores s) c) ≡ Some n
name_at s names c n are there =
    sym (slice_get-map name_of (cores s) c) ∙ ap (λ z. slice_get z c) (sym are) ∙ there

looked_up : {A : Type 0} (o : Option (Bor A)) → option_map (λ (x : Bor A). x.now) o ≡ option_copied o
looked_up None = refl
looked_up (Some x) = refl

-- what a constructor is called by
pub named_as : (xs : List Constructor) (place : ℕ) (c : Constructor) (x shown : Word) (number : ℕ) (name : Option (Bor Word))
    → (at : IsOfConstructor xs place c x) → number ≡ at.declaration.number → option_copied name ≡ c.name
    → shown ≡ shown_name (option_map (λ (y : Bor Word). y.now) name) number
    → (◌≡◌ {A = ConstructorName} (record { shown = shown; number = number }) (name_of at.declaration))
named_as xs place c x shown number name at number_is name_is is =
    let shown_is : shown ≡ at.declaration.shown =
    is ∙ ap (λ o. shown_name o number) (looked_up name ∙ name_is) ∙ ap (shown_name c.name) (number_is ∙ at.number) ∙ sym at.shown in
    λ i. record { shown = shown_is i; number = number_is i }
