-- Schemas without a refusal by their tags have short tags and separated constructors, and the other way round.
use Rattle.std.proofs.Common.{◌≡◌, ◌∙◌, ◌<◌, ◌≤◌, ap, sym, refl, subst, arith, ℕ, zero, suc, Bool, true, false, not, ◌&&◌, List, [], ◌∷◌, ◌++◌, length, Some, nat_lt}
use Rattle.std.specs.Prelude.{slice_get, bytes_eq, if◌then◌else◌, leb}
use Rattle.std.specs.List.{flat_map}
use Rattle.std.proofs.lemmas.Bool.{false≢true}
use Rattle.std.proofs.lemmas.Bool.Decides.{Decides-ltb}
use Rattle.std.proofs.lemmas.Slice.Eq.{bytes_eq-Decides}
use Rattle.core_form.specs.Core.{Word, Declaration, CoreSchema}
use Rattle.schema_leads.specs.Laws.{SeparationIsDecided}
use Rattle.schema_leads.specs.Separation.{are_separated}
use Rattle.accepted_schema.specs.Accepted.{HasShortTags, AreAllSeparated}
use Rattle.accepted_schema.specs.NoneLaws.{both_none}
use Rattle.accepted_schema.specs.Refusals.{of_tag, of_tags, of_pair, of_later, of_pairs, of_type_of, tag_refusals}

-- ---- lists without elements

join_none : {X : Type 0} (xs ys : List X) → xs ≡ [] → ys ≡ [] → xs ++ ys ≡ []
join_none xs ys e h = ap (λ zs. zs ++ ys) e ∙ h

-- one element where the test holds
none_off : {X : Type 0} (b : Bool) (x : X) → (if b then x ∷ [] else []) ≡ [] → b ≡ false
none_off true x e = absurd (omega (arith, ap length e))
none_off false x e = refl

off_none : {X : Type 0} (b : Bool) (xs : List X) → b ≡ false → (if b then xs else []) ≡ []
off_none true xs e = absurd (false≢true (sym e))
off_none false xs e = refl

on_none : {X : Type 0} (b : Bool) (xs : List X) → b ≡ true → (if b then xs else []) ≡ [] → xs ≡ []
on_none true xs on e = e
on_none false xs on e = absurd (false≢true on)

some_same : {X : Type 0} (x y : X) → Some x ≡ Some y → x ≡ y
some_same x y e = cc

none_at : {X Y : Type 0} (f : X → List Y) (xs : List X) (i : ℕ) (x : X) → flat_map f xs ≡ [] → slice_get xs i ≡ Some x → f x ≡ []
none_at f [] i x e there = absurd (grind arith)
none_at f (y ∷ xs) zero x e there = subst (λ z. f z ≡ []) (some_same y x there) (both_none (f y) (flat_map f xs) e).first
none_at f (y ∷ xs) (suc i) x e there = none_at f xs i x (both_none (f y) (flat_map f xs) e).second there

all_none : {X Y : Type 0} (f : X → List Y) (xs : List X) → ((i : ℕ) (x : X) → slice_get xs i ≡ Some x → f x ≡ []) → flat_map f xs ≡ []
all_none f [] each = refl
all_none f (y ∷ xs) each = join_none (f y) (flat_map f xs) (each zero y refl) (all_none f xs (λ i x there. each (suc i) x there))

-- ---- tags

pub short_tags : (s : CoreSchema) → of_tags s ≡ [] → HasShortTags s
short_tags s e i d there = by (nat_lt 63 (length d.core.tag)) (Decides-ltb 63 (length d.core.tag)).1 (none_off _ _ (none_at of_tag s i d e there))
  where
    by : (b : Bool) → (63 < length d.core.tag → b ≡ true) → b ≡ false → length d.core.tag ≤ 63
    by b long off = order (leb (length d.core.tag) 63) refl
      where
        order : (c : Bool) → leb (length d.core.tag) 63 ≡ c → length d.core.tag ≤ 63
        order true is = grind (arith, is)
        order false is = absurd (false≢true (sym off ∙ long (grind (arith, is))))

pub no_long_tags : (s : CoreSchema) → HasShortTags s → of_tags s ≡ []
no_long_tags s short = all_none of_tag s (λ i d there. off_none _ _ (off (nat_lt 63 (length d.core.tag)) (Decides-ltb 63 (length d.core.tag)).0 (short i d there)))
  where
    off : {n : ℕ} (b : Bool) → (b ≡ true → 63 < n) → n ≤ 63 → b ≡ false
    off true is le = absurd (omega (arith, is refl, le))
    off false is le = refl

-- ---- pairs

tested_off : (a b : Bool) → a ≡ true → (a && not b) ≡ false → b ≡ true
tested_off true true on e = refl
tested_off true false on e = absurd (false≢true (sym e))
tested_off false b on e = absurd (false≢true on)

separated_off : (a b : Bool) → (a ≡ true → b ≡ true) → (a && not b) ≡ false
separated_off true true h = refl
separated_off true false h = absurd (false≢true (h refl))
separated_off false b h = refl

same_type : (d e : Declaration) → d.of_type ≡ e.of_type → bytes_eq e.of_type d.of_type ≡ true
same_type d e same = (bytes_eq-Decides e.of_type d.of_type).1 (sym same)

later_separated : (s : CoreSchema) (d : Declaration) (es : CoreSchema) (j : ℕ) (e : Declaration) → of_later s d es ≡ []
    → slice_get es j ≡ Some e → d.of_type ≡ e.of_type → are_separated s d e ≡ true
later_separated s d es j e none there same =
    tested_off (bytes_eq e.of_type d.of_type) (are_separated s d e) (same_type d e same) (none_off _ _ (none_at (of_pair s d) es j e none there))

pub pairs_separated : (s : CoreSchema) (x : Word) (ds : CoreSchema) (i j : ℕ) (d e : Declaration) → of_pairs s x ds ≡ [] → i < j
    → slice_get ds i ≡ Some d → slice_get ds j ≡ Some e → d.of_type ≡ x → e.of_type ≡ x → are_separated s d e ≡ true
pairs_separated s x [] i j d e none less first second of_d of_e = absurd (grind arith)
pairs_separated s x (c ∷ ds) i zero d e none less first second of_d of_e = absurd (omega (arith, less))
pairs_separated s x (c ∷ ds) zero (suc j) d e none less first second of_d of_e =
    let is : c ≡ d = some_same c d first in
    let here = (both_none (if bytes_eq c.of_type x then of_later s c ds else []) (of_pairs s x ds) none).first in
    let of_c : c.of_type ≡ x = ap (λ (y : Declaration). y.of_type) is ∙ of_d in
    let later : of_later s c ds ≡ [] = on_none (bytes_eq c.of_type x) (of_later s c ds) ((bytes_eq-Decides c.of_type x).1 of_c) here in
    subst (λ y. are_separated s y e ≡ true) is (later_separated s c ds j e later second (of_c ∙ sym of_e))
pairs_separated s x (c ∷ ds) (suc i) (suc j) d e none less first second of_d of_e =
    pairs_separated s x ds i j d e (both_none (if bytes_eq c.of_type x then of_later s c ds else []) (of_pairs s x ds) none).second
    (omega (arith, less)) first second of_d of_e

pub all_separated : SeparationIsDecided → (s : CoreSchema) → flat_map (of_type_of s) s ≡ [] → AreAllSeparated s
all_separated decided s none i j d e less first second same =
    (decided s d e).0 (pairs_separated s d.of_type s i j d e (none_at (of_type_of s) s i d none first) less first second refl (sym same))

-- constructors of which each two are separated, among all
abbrev AreApart : CoreSchema → CoreSchema → Type 0
AreApart s ds =
    (i j : ℕ) (d e : Declaration) → i < j → slice_get ds i ≡ Some d → slice_get ds j ≡ Some e → d.of_type ≡ e.of_type → are_separated s d e ≡ true

no_later : (s : CoreSchema) (d : Declaration) (es : CoreSchema) → ((j : ℕ) (e : Declaration) → slice_get es j ≡ Some e → d.of_type ≡ e.of_type → are_separated s d e ≡ true)
    → of_later s d es ≡ []
no_later s d es apart =
    all_none (of_pair s d) es (λ j e there. off_none _ _ (separated_off (bytes_eq e.of_type d.of_type) (are_separated s d e)
    (λ same. apart j e there (sym ((bytes_eq-Decides e.of_type d.of_type).0 same)))))

no_pairs : (s : CoreSchema) (x : Word) (ds : CoreSchema) → AreApart s ds → of_pairs s x ds ≡ []
no_pairs s x [] apart = refl
no_pairs s x (d ∷ ds) apart =
    join_none (if bytes_eq d.of_type x then of_later s d ds else []) (of_pairs s x ds)
    (either (bytes_eq d.of_type x) (of_later s d ds) (no_later s d ds (λ j e there same. apart zero (suc j) d e (omega arith) refl there same)))
    (no_pairs s x ds (λ i j c e less first second same. apart (suc i) (suc j) c e (omega (arith, less)) first second same))
  where
    either : {X : Type 0} (b : Bool) (xs : List X) → xs ≡ [] → (if b then xs else []) ≡ []
    either true xs e = e
    either false xs e = refl

pub no_ambiguity : SeparationIsDecided → (s : CoreSchema) → AreAllSeparated s → flat_map (of_type_of s) s ≡ []
no_ambiguity decided s apart =
    all_none (of_type_of s) s (λ k d there. no_pairs s d.of_type s (λ i j c e less first second same. (decided s c e).1 (apart i j c e less first second same)))

-- ---- all

pub record NoRefusal (s : CoreSchema) : Type 0 where
  pub short : HasShortTags s
  pub separated : AreAllSeparated s

pub no_refusal : SeparationIsDecided → (s : CoreSchema) → tag_refusals s ≡ [] → NoRefusal s
unfolding tag_refusals
no_refusal decided s e =
    let both = both_none (of_tags s) (flat_map (of_type_of s) s) e in
    record { short = short_tags s both.first; separated = all_separated decided s both.second }

pub refused_none : SeparationIsDecided → (s : CoreSchema) → HasShortTags s → AreAllSeparated s → tag_refusals s ≡ []
unfolding tag_refusals
refused_none decided s short separated =
    join_none (of_tags s) (flat_map (of_type_of s) s) (no_long_tags s short) (no_ambiguity decided s separated)
