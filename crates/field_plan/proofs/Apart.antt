-- Two constructors of one type are shown by different names.
use Rattle.std.proofs.Common.{◌≡◌, ◌∙◌, ◌<◌, ◌≤◌, ◌+◌, ◌^◌, inl, inr, Bool, true, false, not, ◌||◌, ◌&&◌, cond, ℕ, zero, suc, List, [], ◌∷◌, ◌++◌, length, take, refl, sym, ap}
use Rattle.std.proofs.Common.{subst, arith, append_assoc, bytes_eq, Option, Some, None}
use Rattle.std.specs.Prelude.{All, codes, decimal, slice_get}
use Rattle.std.specs.List.{list_all, list_any}
use Rattle.std.proofs.lemmas.Bool.{cases_lt, false≢true}
use Rattle.std.proofs.lemmas.Fmt.{decimal_injective}
use Rattle.std.proofs.lemmas.List.{append-nil}
use Rattle.std.proofs.lemmas.List.Elements.{All-filter, filter_passes}
use Rattle.std.proofs.lemmas.Option.{same_Some}
use Rattle.std.proofs.lemmas.Slice.Eq.{bytes_eq-Decides}
use Rattle.tlb_lexer.specs.Bytes.{is_letter, is_name_byte}
use Rattle.tlb_lexer.specs.Spelling.{is_name}
use Rattle.tlb_syntax.specs.Limits.{AreConstructors, IsWordOrNone}
use Rattle.tlb_syntax.specs.Tree.{ConstructorView, SchemaView}
use Rattle.kind_terms.specs.Classes.{is_dictionary}
use Rattle.kind_terms.specs.Dictionaries.{of_type}
use Rattle.kind_terms.specs.Words.{Word}
use Rattle.kind_declarations.specs.Headings.{is_word, same_name}
use Rattle.tlb_kinds.specs.Kept.{IsKept}
use Rattle.tlb_kinds.specs.Refusals.{kept_of, ordinary}
use Rattle.kinded_schema.specs.Kinded.{AreDeclarations, IsDeclaration, IsInOrder}
use Rattle.kinded_schema.specs.SchemaLaws.{kept_in_order}
use Rattle.core_form.specs.Core.{Declaration}
use Rattle.schema_core.specs.Cores.{shown_name}
use Rattle.schema_leads.specs.Tags.{cores}
use Rattle.schema_leads.specs.Separation.{CanEnter}
use Rattle.accepted_schema.specs.Accepted.{IsAccepted}
use Rattle.accepted_schema.specs.Laws.{OneConstructor}
use Rattle.tag_ambiguity.specs.Judged.{EntersOne}
use Rattle.type_index.specs.Index.{places_of}
use Rattle.field_plan.specs.Choosing.{AreShownApart}
use Rattle.field_plan.proofs.Declared.{core_at, few_of, place_of}

-- ---- a schema in which nothing is passed over

off : (b : Bool) → not b ≡ true → b ≡ false
off true e = cc
off false e = refl

pub is_kept : (s : SchemaView) → IsAccepted s → kept_of s ≡ s → IsKept s
is_kept s ok whole =
    let is_plain : ConstructorView → Bool = λ c. not c.exotic in
    let is_other : ConstructorView → Bool = λ c. not (is_dictionary c.result) in
    let P : SchemaView → Type 0 = λ z. All (λ (c : ConstructorView). is_plain c ≡ true) z in
    let Q : SchemaView → Type 0 = λ z. All (λ (c : ConstructorView). is_other c ≡ true) z in
    let plain : P s = subst P whole (All-filter is_other (λ c. is_plain c ≡ true) (ordinary s) (filter_passes is_plain s)) in
    let other : Q s = subst Q whole (filter_passes is_other (ordinary s)) in
    record {
      kinded = ok.kinded;
      within = ok.within;
      ordinary = λ k c lt. off _ (plain k c lt);
      no_dictionaries = λ k c lt. off _ (other k c lt);
    }

-- ---- names

declared_at : (types before cs : SchemaView) (i : ℕ) (c : ConstructorView) → AreDeclarations types before cs
    → slice_get cs i ≡ Some c → IsDeclaration types (before ++ take i cs) c
declared_at types before [] i c h e = cc
declared_at types before (d ∷ cs) zero c h e =
    let P : ConstructorView → Type 0 = λ z. IsDeclaration types before z in
    let Q : SchemaView → Type 0 = λ z. IsDeclaration types z c in
    subst Q (sym (append-nil before)) (subst P (same_Some d c e) h.0)
declared_at types before (d ∷ cs) (suc i) c h e =
    let Q : SchemaView → Type 0 = λ z. IsDeclaration types z c in
    subst Q (append_assoc before (d ∷ []) (take i cs)) (declared_at types (before ++ d ∷ []) cs i c h.1 e)

named_at : (cs : SchemaView) (i : ℕ) (c : ConstructorView) → AreConstructors cs → slice_get cs i ≡ Some c → IsWordOrNone c.name
named_at [] i c h e = cc
named_at (d ∷ cs) zero c h e = let P : ConstructorView → Type 0 = λ z. IsWordOrNone z.name in subst P (same_Some d c e) h.0.name
named_at (d ∷ cs) (suc i) c h e = named_at cs i c h.1 e

left_false : (a b : Bool) → (a || b) ≡ false → a ≡ false
left_false true b e = cc
left_false false b e = refl

right_false : (a b : Bool) → (a || b) ≡ false → b ≡ false
right_false true b e = cc
right_false false b e = e

-- none of those before is named so
not_named : (test : ConstructorView → Bool) (x : Word) (cs : SchemaView) (i j : ℕ) (c : ConstructorView) → i < j
    → slice_get cs i ≡ Some c → c.result ≡ x → list_any test (of_type (take j cs) x) ≡ false → test c ≡ false
not_named test x [] i j c lt e type none = cc
not_named test x (d ∷ cs) i zero c lt e type none = absurd (omega (arith, lt))
not_named test x (d ∷ cs) zero (suc j) c lt e type none =
    let same : d ≡ c = same_Some d c e in
    let is : bytes_eq d.result x ≡ true = (bytes_eq-Decides d.result x).1 (ap (λ (z : ConstructorView). z.result) same ∙ type) in
    ap test (sym same)
    ∙ left_false (test d) (list_any test (of_type (take j cs) x))
    (sym (ap (λ (b : Bool). list_any test (cond b (d ∷ of_type (take j cs) x) (of_type (take j cs) x))) is) ∙ none)
not_named test x (d ∷ cs) (suc i) (suc j) c lt e type none =
    not_named test x cs i j c (omega (arith, lt)) e type (rest (bytes_eq d.result x) none)
  where
    rest : (b : Bool) → list_any test (cond b (d ∷ of_type (take j cs) x) (of_type (take j cs) x)) ≡ false
        → list_any test (of_type (take j cs) x) ≡ false
    rest true e = right_false (test d) (list_any test (of_type (take j cs) x)) e
    rest false e = e

-- a name begins with a letter, and a shown number with `_`
letter_first : (x digits : Word) → is_name x ≡ true → x ≡ codes "_" ++ digits → ⊥
letter_first [] digits h e = cc
letter_first (b ∷ x) digits h e =
    let same : b ≡ 95 = cc in
    let P : ℕ → Type 0 = λ z. (is_letter z && list_all is_name_byte x) ≡ true in
    false≢true (subst P same h)

apart_by : (m n : Option Word) (i j : ℕ) → IsWordOrNone m → IsWordOrNone n → i < 2 ^ 64 → j < 2 ^ 64
    → ((x : Word) → m ≡ Some x → n ≡ Some x → ⊥) → (i ≡ j → ⊥) → shown_name m i ≡ shown_name n j → ⊥
apart_by (Some x) (Some y) i j w v li lj names numbers e = names y (ap Some e) refl
apart_by (Some x) None i j w v li lj names numbers e = letter_first x (decimal j) w.spelled e
apart_by None (Some y) i j w v li lj names numbers e = letter_first y (decimal i) v.spelled (sym e)
apart_by None None i j w v li lj names numbers e =
    let same : decimal i ≡ decimal j = cc in numbers (decimal_injective i j li lj same)

-- ---- two constructors

small : (s : SchemaView) (i : ℕ) (x : Word) → length s ≤ 4096 → length (of_type (take i s) x) + 1 < 2 ^ 64
small s i x few = omega (arith, few_of s i x few)

-- the later of two declarations of a type is not named as the earlier one, and both stand at different places of it
pub record AreApart (s : SchemaView) (i j : ℕ) (c e : ConstructorView) : Type 0 where
  pub names : (x : Word) → c.name ≡ Some x → e.name ≡ Some x → ⊥
  pub numbers : length (of_type (take i s) c.result) ≡ length (of_type (take j s) e.result) → ⊥

are_apart : (s : SchemaView) → IsInOrder s → (i j : ℕ) (c e : ConstructorView) → i < j → slice_get s i ≡ Some c
    → slice_get s j ≡ Some e → c.result ≡ e.result → AreApart s i j c e
are_apart s ok i j c e lt here there type =
    let new = (declared_at s [] s j e ok.declarations there).heading.new in
    let other = not_named (same_name e.name) e.result s i j c lt here type new in
    record {
      names = λ x m n.
          let test : same_name e.name c ≡ true =
          ap (λ o. same_name o c) n ∙ ap (λ o. is_word o x) m ∙ (bytes_eq-Decides x x).1 refl in
          false≢true (sym other ∙ test);
      numbers = λ same.
          let first = place_of 0 s c.result i c here refl in
          let second = place_of 0 s e.result j e there refl in
          let moved : length (of_type (take i s) c.result) ≡ length (of_type (take j s) c.result) =
          same ∙ ap (λ x. length (of_type (take j s) x)) (sym type) in
          let second_here : slice_get (places_of s c.result) (length (of_type (take j s) c.result)) ≡ Some (0 + j) =
          ap (λ x. slice_get (places_of s x) (length (of_type (take j s) x))) type ∙ second in
          let both : Some (0 + i) ≡ Some (0 + j) = sym first ∙ ap (slice_get (places_of s c.result)) moved ∙ second_here in
          let places = same_Some (0 + i) (0 + j) both in
          omega (arith, lt, places);
    }

-- so they are shown by different names
later_apart : (s : SchemaView) → IsInOrder s → AreConstructors s → length s ≤ 4096 → (i j : ℕ) (d e : Declaration) → i < j
    → slice_get (cores s) i ≡ Some d → slice_get (cores s) j ≡ Some e → d.of_type ≡ e.of_type → d.shown ≡ e.shown → ⊥
later_apart s ok within few i j d e lt here there type same =
    let a = core_at s [] s i d here in
    let b = core_at s [] s j e there in
    let c = a.constructor in
    let f = b.constructor in
    let apart = are_apart s ok i j c f lt a.there b.there
    (sym (ap (λ (z : Declaration). z.of_type) a.is) ∙ type ∙ ap (λ (z : Declaration). z.of_type) b.is) in
    let m = length (of_type (take i s) c.result) in
    let n = length (of_type (take j s) f.result) in
    apart_by c.name f.name (m + 1) (n + 1) (named_at s i c within a.there) (named_at s j f within b.there)
    (small s i c.result few) (small s j f.result few) apart.names (λ k. apart.numbers (omega (arith, k)))
    (sym (ap (λ (z : Declaration). z.shown) a.is) ∙ same ∙ ap (λ (z : Declaration). z.shown) b.is)

pub shown_apart : (s : SchemaView) → IsAccepted s → kept_of s ≡ s → AreShownApart (cores s)
shown_apart s ok whole =
    let order = kept_in_order s (is_kept s ok whole) in
    let within = ok.within.constructors in
    let few = ok.within.counts.all in
    λ i j d e here there type same. elim (cases_lt i j) [
      | inl lt ↦ absurd (later_apart s order within few i j d e lt here there type same)
      | inr le ↦ elim (cases_lt j i) [
        | inl lt ↦ absurd (later_apart s order within few j i e d lt there here (sym type) (sym same))
        | inr ge ↦ omega (arith, le, ge)
      ]
    ]

-- at most one constructor of an accepted schema is entered
pub enters_one : (s : SchemaView) → OneConstructor → IsAccepted s → kept_of s ≡ s → EntersOne s
enters_one s one ok whole =
    let P : SchemaView → Type 0 = λ z.
    (i j : ℕ) (d e : Declaration) (ns bits : List ℕ) → slice_get (cores z) i ≡ Some d → slice_get (cores z) j ≡ Some e
    → d.of_type ≡ e.of_type → All (λ n. n < 2 ^ 32) ns → CanEnter (cores z) d ns bits → CanEnter (cores z) e ns bits
    → i ≡ j in
    subst P whole (one s ok)
