-- In an accepted schema two constructors of one type are shown by different names.
use Rattle.std.proofs.Common.{◌≡◌, ◌⊎◌, inl, inr, ℕ, zero, suc, ◌+◌, ◌<◌, ◌≤◌, ◌^◌, List, [], ◌∷◌, ◌++◌, length}
use Rattle.std.proofs.Common.{length-append}
use Rattle.std.proofs.Common.{Option, Some, None, Bool, true, false, cond, refl, sym, ap, ◌∙◌, subst, arith, slice_get}
use Rattle.std.specs.Prelude.{bytes_eq, filter, nat_lt}
use Rattle.std.specs.List.{list_any}
use Rattle.std.proofs.lemmas.Bool.{ltb-false, ltb-true, or_parts}
use Rattle.std.proofs.lemmas.Fmt.{decimal_injective}
use Rattle.std.proofs.lemmas.List.Elements.{filter-append}
use Rattle.std.proofs.lemmas.Slice.Eq.{bytes_eq-Decides}
use Rattle.tlb_lexer.specs.Spelling.{is_name}
use Rattle.tlb_syntax.specs.Limits.{IsWord, IsWordOrNone, IsConstructor, AreConstructors}
use Rattle.tlb_syntax.specs.Tree.{ConstructorView, SchemaView}
use Rattle.kind_terms.specs.Dictionaries.{of_type}
use Rattle.kind_terms.specs.Words.{Word}
use Rattle.kind_declarations.specs.declared.error.Cause.TheVariants.{TwiceNamed}
use Rattle.kind_declarations.specs.Headings.{is_constructor_twice, same_name}
use Rattle.kind_declarations.specs.Nodes.{heading_nodes}
use Rattle.kind_declarations.specs.Faults.{faults}
use Rattle.kinded_core.specs.Clean.{AreClean}
use Rattle.kinded_core.specs.CleanLaws.{clean_nodes, append_none, map_none}
use Rattle.tlb_kinds.specs.Laws.{KeptStaysWithin}
use Rattle.tlb_kinds.specs.Refusals.{IsKinded, kept_of, ordinary, refusals, of_headings}
use Rattle.tlb_kinds.specs.Spots.{heading, refusal_at}
use Rattle.core_form.specs.Core.{Declaration}
use Rattle.schema_core.specs.Cores.{cores_after, declaration_of, shown_name, number_after}
use Rattle.schema_leads.specs.Tags.{tag_of}
use Rattle.accepted_schema.specs.Accepted.{IsAccepted, kept_cores}
use Rattle.accepted_building.specs.NamedApart.{AreBothNamed, IsNamedApart, AreNamedApart}

-- ---- the headings of a schema without a refusal

-- of each of these, no declaration after it is of its type and has its name
abbrev AllApart : SchemaView → SchemaView → Type 0
AllApart [] later = Unit {0}
AllApart (c ∷ cs) later = IsNamedApart c later × AllApart cs later

-- each of these is not named as this one
abbrev NoneNamed : SchemaView → ConstructorView → Type 0
NoneNamed [] c = Unit {0}
NoneNamed (b ∷ bs) c = (AreBothNamed b c → ⊥) × NoneNamed bs c

apart-more : (before : SchemaView) (c : ConstructorView) (cs : SchemaView) → NoneNamed before c → AllApart before cs
    → AllApart before (c ∷ cs)
apart-more [] c cs n a = tt
apart-more (b ∷ bs) c cs n a = ((n.0, a.0), apart-more bs c cs n.1 a.1)

apart-both : (xs ys later : SchemaView) → AllApart (xs ++ ys) later → AllApart xs later × AllApart ys later
apart-both [] ys later h = (tt, h)
apart-both (x ∷ xs) ys later h = let p = apart-both xs ys later h.1 in ((h.0, p.0), p.1)

same-name : (name : Option Word) (b c : ConstructorView) (x : Word) → name ≡ Some x → b.name ≡ Some x
    → same_name name b ≡ true
same-name name b c x e f = rw (e, f) ((bytes_eq-Decides x x).1 refl)

none-named : (before : SchemaView) (c : ConstructorView) → list_any (same_name c.name) (of_type before c.result) ≡ false
    → NoneNamed before c
none-named [] c h = tt
none-named (b ∷ bs) c h = by_type (bytes_eq b.result c.result) refl h (none-named bs c)
  where
    by_type : (t : Bool) → bytes_eq b.result c.result ≡ t
        → list_any (same_name c.name) (cond t (b ∷ of_type bs c.result) (of_type bs c.result)) ≡ false
        → (list_any (same_name c.name) (of_type bs c.result) ≡ false → NoneNamed bs c) → NoneNamed (b ∷ bs) c
    by_type true e g rest =
        let p = or_parts (same_name c.name b) (list_any (same_name c.name) (of_type bs c.result)) g in
        (named_not p.0, rest p.1)
      where
        named_not : same_name c.name b ≡ false → AreBothNamed b c → ⊥
        named_not f s = let t = same-name c.name b c s.name s.second s.first in cc
    by_type false e g rest = (typed_not, rest g)
      where
        typed_not : AreBothNamed b c → ⊥
        typed_not s = let t = (bytes_eq-Decides b.result c.result).1 s.type in cc

pub headings-apart : (before cs : SchemaView) → of_headings before cs ≡ [] → AllApart before cs × AreNamedApart cs
headings-apart before [] h = (none before, tt)
  where
    none : (bs : SchemaView) → AllApart bs []
    none [] = tt
    none (b ∷ bs) = (tt, none bs)
headings-apart before (c ∷ cs) h =
    let here = heading before c in
    let p = append_none _ (of_headings (before ++ c ∷ []) cs) h in
    let clean : AreClean (heading_nodes here) = clean_nodes (heading_nodes here)
    (map_none (refusal_at here) (faults (heading_nodes here)) p.0) in
    let alone : is_constructor_twice here ≡ false = clean.0 TwiceNamed in
    let rest = headings-apart (before ++ c ∷ []) cs p.1 in
    let both = apart-both before (c ∷ []) cs rest.0 in
    (apart-more before c cs (none-named before c alone) both.0, (both.1.0, rest.1))

-- ---- fewer declarations

apart-filtered : (test : ConstructorView → Bool) (c : ConstructorView) (cs : SchemaView) → IsNamedApart c cs
    → IsNamedApart c (filter test cs)
apart-filtered test c [] h = tt
apart-filtered test c (d ∷ ds) h = by_test (test d) (apart-filtered test c ds h.1)
  where
    by_test : (b : Bool) → IsNamedApart c (filter test ds)
        → IsNamedApart c (cond b (d ∷ filter test ds) (filter test ds))
    by_test true rest = (h.0, rest)
    by_test false rest = rest

all-filtered : (test : ConstructorView → Bool) (cs : SchemaView) → AreNamedApart cs → AreNamedApart (filter test cs)
all-filtered test [] h = tt
all-filtered test (c ∷ cs) h = by_test (test c) (all-filtered test cs h.1)
  where
    by_test : (b : Bool) → AreNamedApart (filter test cs)
        → AreNamedApart (cond b (c ∷ filter test cs) (filter test cs))
    by_test true rest = (apart-filtered test c cs h.0, rest)
    by_test false rest = rest

pub kept_named_apart : (s : SchemaView) → IsKinded s → AreNamedApart (kept_of s)
unfolding refusals
kept_named_apart s k =
    let p = append_none (of_headings [] (ordinary s)) _ k in
    all-filtered _ (ordinary s) (headings-apart [] (ordinary s) p.0).1

-- ---- shown names

first_byte : List ℕ → ℕ
first_byte [] = 0
first_byte (b ∷ bs) = b

rest_of : List ℕ → List ℕ
rest_of [] = []
rest_of (b ∷ bs) = bs

-- a word begins with a letter, and the shown name of a constructor without a name with `_`
no_word : (x : Word) (n : ℕ) → IsWord x → x ≡ shown_name None n → ⊥
unfolding first_byte
no_word [] n w e = let s = w.spelled in absurd (cc)
no_word (b ∷ bs) n w e =
    let P : ℕ → Type 0 = λ b. is_name (b ∷ bs) ≡ true in
    let s = subst P (ap first_byte e) w.spelled in
    absurd (cc)

one_number : (m n : ℕ) → m < 2 ^ 64 → n < 2 ^ 64 → shown_name None m ≡ shown_name None n → m ≡ n
unfolding rest_of
one_number m n a b e = decimal_injective m n a b (ap rest_of e)

-- shown alike, two constructors of one type have one name, or one number
shown_alike : (b c : ConstructorView) (m n : ℕ) → IsWordOrNone b.name → IsWordOrNone c.name → m < 2 ^ 64 → n < 2 ^ 64
    → b.result ≡ c.result → shown_name b.name m ≡ shown_name c.name n → AreBothNamed b c ⊎ (m ≡ n)
shown_alike b c m n u v l k same e = by_names b.name c.name refl refl u v e
  where
    by_names : (x y : Option Word) → b.name ≡ x → c.name ≡ y → IsWordOrNone x → IsWordOrNone y
        → shown_name x m ≡ shown_name y n → AreBothNamed b c ⊎ (m ≡ n)
    by_names (Some x) (Some y) f g u v e =
        inl (record { type = same; name = x; first = f; second = g ∙ ap (λ (z : Word). Some z) (sym e) })
    by_names (Some x) None f g u v e = absurd (no_word x n u e)
    by_names None (Some y) f g u v e = absurd (no_word y m v (sym e))
    by_names None None f g u v e = inr (one_number m n l k e)

-- ---- declarations by their place

of_type_more : (before : SchemaView) (c : ConstructorView) (r : Word)
    → length (of_type before r) ≤ length (of_type (before ++ c ∷ []) r)
of_type_more before c r =
    let e : of_type (before ++ c ∷ []) r ≡ of_type before r ++ of_type (c ∷ []) r = filter-append _ before (c ∷ []) in
    let l = length-append (of_type before r) (of_type (c ∷ []) r) in
    let k = ap length e in
    omega (arith, l, k)

of_type_one : (before : SchemaView) (c : ConstructorView) (r : Word) → c.result ≡ r
    → length (of_type (before ++ c ∷ []) r) ≡ length (of_type before r) + 1
of_type_one before c r same =
    let e : of_type (before ++ c ∷ []) r ≡ of_type before r ++ of_type (c ∷ []) r = filter-append _ before (c ∷ []) in
    let l = length-append (of_type before r) (of_type (c ∷ []) r) in
    let k = ap length e in
    let t = (bytes_eq-Decides c.result r).1 same in
    let one : length (of_type (c ∷ []) r) ≡ 1 = ap (λ b. length (cond b (c ∷ []) [])) t in
    omega (arith, l, k, one)

of_type_few : (cs : SchemaView) (r : Word) → length (of_type cs r) ≤ length cs
of_type_few [] r = omega arith
of_type_few (c ∷ cs) r = by_test (bytes_eq c.result r) (of_type_few cs r)
  where
    by_test : (b : Bool) → length (of_type cs r) ≤ length cs
        → length (cond b (c ∷ of_type cs r) (of_type cs r)) ≤ suc (length cs)
    by_test true l = omega (arith, l)
    by_test false l = omega (arith, l)

-- the constructor of a declaration after these, and its number among those of its type
record IsShown (before cs : SchemaView) (i : ℕ) (d : Declaration) : Type 0 where
  constructor : ConstructorView
  there : slice_get cs i ≡ Some constructor
  type : d.of_type ≡ constructor.result
  number : ℕ
  shown : d.shown ≡ shown_name constructor.name number
  above : length (of_type before constructor.result) < number
  below : number ≤ length before + length cs

first_shown : (types : SchemaView) (tag : List ℕ) (before : SchemaView) (c : ConstructorView) (cs : SchemaView)
    (d : Declaration) → declaration_of types tag before c ≡ d → IsShown before (c ∷ cs) 0 d
first_shown types tag before c cs d e = record {
  constructor = c;
  there = refl;
  type = ap (λ (x : Declaration). x.of_type) (sym e);
  number = number_after before c;
  shown = ap (λ (x : Declaration). x.shown) (sym e);
  above = omega arith;
  below = let l = of_type_few before c.result in omega (arith, l);
}

shown_at : (types : SchemaView) (tag : ConstructorView → List ℕ) (before cs : SchemaView) (i : ℕ) (d : Declaration)
    → slice_get (cores_after types tag before cs) i ≡ Some d → IsShown before cs i d
shown_at types tag before [] i d e = absurd (grind arith)
shown_at types tag before (c ∷ cs) zero d e =
    let same : declaration_of types (tag c) before c ≡ d = cc in
    first_shown types (tag c) before c cs d same
shown_at types tag before (c ∷ cs) (suc i) d e =
    let rest = shown_at types tag (before ++ c ∷ []) cs i d e in
    let more = of_type_more before c rest.constructor.result in
    let far = rest.above in
    let low = rest.below in
    let l = length-append before (c ∷ []) in
    record {
      constructor = rest.constructor;
      there = rest.there;
      type = rest.type;
      number = rest.number;
      shown = rest.shown;
      above = omega (arith, more, far);
      below = omega (arith, low, l);
    }

named_apart_at : (c : ConstructorView) (cs : SchemaView) (i : ℕ) (d : ConstructorView) → IsNamedApart c cs
    → slice_get cs i ≡ Some d → AreBothNamed c d → ⊥
named_apart_at c [] i d h e b = absurd (grind arith)
named_apart_at c (x ∷ cs) zero d h e b =
    let same : d ≡ x = cc in
    let P : ConstructorView → Type 0 = AreBothNamed c in
    h.0 (subst P same b)
named_apart_at c (x ∷ cs) (suc i) d h e b = named_apart_at c cs i d h.1 e b

pub constructor_at : (cs : SchemaView) (i : ℕ) (c : ConstructorView) → AreConstructors cs → slice_get cs i ≡ Some c
    → IsConstructor c
constructor_at [] i c h e = absurd (grind arith)
constructor_at (d ∷ cs) zero c h e = let same : d ≡ c = cc in subst IsConstructor same h.0
constructor_at (d ∷ cs) (suc i) c h e = constructor_at cs i c h.1 e

not_alike : (c : ConstructorView) (cs : SchemaView) (j : ℕ) (d : ConstructorView) (m n : ℕ) → IsNamedApart c cs
    → slice_get cs j ≡ Some d → m < n → AreBothNamed c d ⊎ (m ≡ n) → ⊥
not_alike c cs j d m n apart there less (inl both) = named_apart_at c cs j d apart there both
not_alike c cs j d m n apart there less (inr same) = omega (arith, less, same)

-- two declarations of one type are shown apart
shown_apart : (types : SchemaView) (tag : ConstructorView → List ℕ) (before cs : SchemaView) → AreConstructors cs
    → AreNamedApart cs → length before + length cs < 2 ^ 64 → (i j : ℕ) (d e : Declaration) → i < j
    → slice_get (cores_after types tag before cs) i ≡ Some d → slice_get (cores_after types tag before cs) j ≡ Some e
    → d.of_type ≡ e.of_type → d.shown ≡ e.shown → ⊥
shown_apart types tag before [] a n few i j d e less p q same alike = absurd (grind arith)
shown_apart types tag before (c ∷ cs) a n few zero zero d e less p q same alike = absurd (omega (arith, less))
shown_apart types tag before (c ∷ cs) a n few (suc i) zero d e less p q same alike = absurd (omega (arith, less))
shown_apart types tag before (c ∷ cs) a n few zero (suc j) d e less p q same alike =
    let l = length-append before (c ∷ []) in
    let y = shown_at types tag (before ++ c ∷ []) cs j e q in
    let is : declaration_of types (tag c) before c ≡ d = cc in
    let type : c.result ≡ d.of_type = ap (λ (x : Declaration). x.of_type) is in
    let shown : shown_name c.name (number_after before c) ≡ d.shown = ap (λ (x : Declaration). x.shown) is in
    let one : c.result ≡ y.constructor.result = type ∙ same ∙ y.type in
    let low = y.below in
    let far = y.above in
    let few_before = of_type_few before c.result in
    let count = of_type_one before c y.constructor.result one in
    let there = ap (λ r. length (of_type before r)) one in
    not_alike c cs j y.constructor (number_after before c) y.number n.0 y.there
    (omega (arith, far, count, there))
    (shown_alike c y.constructor (number_after before c) y.number a.0.name
    (constructor_at cs j y.constructor a.1 y.there).name (omega (arith, few, few_before)) (omega (arith, few, low, l))
    one (shown ∙ alike ∙ y.shown))
shown_apart types tag before (c ∷ cs) a n few (suc i) (suc j) d e less p q same alike =
    let l = length-append before (c ∷ []) in
    shown_apart types tag (before ++ c ∷ []) cs a.1 n.1 (omega (arith, few, l)) i j d e (omega (arith, less)) p q same
    alike

by_order : (i j : ℕ) (a b : Bool) → nat_lt i j ≡ a → nat_lt j i ≡ b → (i < j → ⊥) → (j < i → ⊥) → i ≡ j
by_order i j true b e f x y = absurd (x (ltb-true i j e))
by_order i j false true e f x y = absurd (y (ltb-true j i f))
by_order i j false false e f x y =
    let l = ltb-false i j e in
    let k = ltb-false j i f in
    omega (arith, l, k)

pub accepted_shown_apart : KeptStaysWithin → (s : SchemaView) → IsAccepted s → (i j : ℕ) (d e : Declaration)
    → slice_get (kept_cores s) i ≡ Some d → slice_get (kept_cores s) j ≡ Some e → d.of_type ≡ e.of_type
    → d.shown ≡ e.shown → i ≡ j
accepted_shown_apart within s ok i j d e p q same alike =
    let limits = within s ok.within in
    let few = limits.counts.all in
    let named = kept_named_apart s ok.kinded in
    let apart = shown_apart (kept_of s) tag_of [] (kept_of s) limits.constructors named (omega (arith, few)) in
    by_order i j (nat_lt i j) (nat_lt j i) refl refl
    (λ less. apart i j d e less p q same alike) (λ less. apart j i e d less q p (sym same) (sym alike))
