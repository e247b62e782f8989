-- What is separated is decided by the test, and of two separated constructors not both can be entered.
use Rattle.std.proofs.Common.{◌≡◌, ℕ, suc, ◌<◌, ◌^◌, inl, inr, true, List, [], ◌∷◌, refl, sym, ◌∙◌, arith}
use Rattle.std.specs.Prelude.{◌||◌, ◌&&◌, not, nat_eq, All}
use Rattle.std.specs.List.{list_all}
use Rattle.std.proofs.lemmas.Bool.{false≢true, or_cases, or_left, or_right, and_parts, and_from, not-true, both_ways, eqb-true, eq-eqb}
use Rattle.core_form.specs.Core.{Input, number, type}
use Rattle.schema_leads.specs.Leads.{begins, Leads, leads, some_begins}
use Rattle.schema_leads.specs.Separation.{are_apart, Excluding, AreSeparated, exclude, excluding, are_separated, Meets}
use Rattle.schema_leads.specs.PatternLaws.{exclude_sound, exclude_complete}
use Rattle.schema_leads.specs.Laws.{SeparationIsDecided, SeparatedEnterOne}

excluding_sound : (ps qs : List Input) → excluding ps qs ≡ true → Excluding ps qs
excluding_sound [] qs e = absurd (false≢true e)
excluding_sound (number p ∷ ps) [] e = absurd (false≢true e)
excluding_sound (number p ∷ ps) (type w ∷ qs) e = absurd (false≢true e)
excluding_sound (number p ∷ ps) (number q ∷ qs) e = elim (or_cases (exclude p q) (excluding ps qs) e) [
  | inl h ↦ inl (exclude_sound p q h)
  | inr h ↦ inr (excluding_sound ps qs h)
]
excluding_sound (type v ∷ ps) [] e = absurd (false≢true e)
excluding_sound (type v ∷ ps) (number q ∷ qs) e = absurd (false≢true e)
excluding_sound (type v ∷ ps) (type w ∷ qs) e = excluding_sound ps qs e

excluding_complete : (ps qs : List Input) → Excluding ps qs → excluding ps qs ≡ true
excluding_complete [] qs h = absurd h
excluding_complete (number p ∷ ps) [] h = absurd h
excluding_complete (number p ∷ ps) (type w ∷ qs) h = absurd h
excluding_complete (number p ∷ ps) (number q ∷ qs) (inl h) = or_left (exclude p q) (excluding ps qs) (exclude_complete p q h)
excluding_complete (number p ∷ ps) (number q ∷ qs) (inr h) = or_right (exclude p q) (excluding ps qs) (excluding_complete ps qs h)
excluding_complete (type v ∷ ps) [] h = absurd h
excluding_complete (type v ∷ ps) (number q ∷ qs) h = absurd h
excluding_complete (type v ∷ ps) (type w ∷ qs) h = excluding_complete ps qs h

pub separation_is_decided : SeparationIsDecided
separation_is_decided s c e = (sound, complete)
  where
    sound : are_separated s c e ≡ true → AreSeparated s c e
    sound t = elim (or_cases (are_apart (leads s c) (leads s e)) (excluding c.core.inputs e.core.inputs) t) [
      | inl h ↦ inl h
      | inr h ↦ inr (excluding_sound c.core.inputs e.core.inputs h)
    ]

    complete : AreSeparated s c e → are_separated s c e ≡ true
    complete (inl h) = or_left (are_apart (leads s c) (leads s e)) (excluding c.core.inputs e.core.inputs) h
    complete (inr h) = or_right (are_apart (leads s c) (leads s e)) (excluding c.core.inputs e.core.inputs) (excluding_complete c.core.inputs e.core.inputs h)

-- ---- leads

-- two beginnings of the same bits
one_begins : (l k bits : List ℕ) → begins l bits ≡ true → begins k bits ≡ true → (begins l k || begins k l) ≡ true
one_begins [] k bits e f = refl
one_begins (b ∷ l) [] bits e f = refl
one_begins (b ∷ l) (a ∷ k) [] e f = absurd (false≢true e)
one_begins (b ∷ l) (a ∷ k) (c ∷ bits) e f =
    let x = and_parts (nat_eq b c) (begins l bits) e in
    let y = and_parts (nat_eq a c) (begins k bits) f in
    let same : b ≡ a = eqb-true b c x.0 ∙ sym (eqb-true a c y.0) in
    elim (or_cases (begins l k) (begins k l) (one_begins l k bits x.1 y.1)) [
      | inl h ↦ or_left (nat_eq b a && begins l k) (nat_eq a b && begins k l) (and_from (nat_eq b a) (begins l k) (eq-eqb b a same) h)
      | inr h ↦ or_right (nat_eq b a && begins l k) (nat_eq a b && begins k l) (and_from (nat_eq a b) (begins k l) (eq-eqb a b (sym same)) h)
    ]

apart_from : (l : List ℕ) (bits : List ℕ) → begins l bits ≡ true → (ks : Leads) → list_all (λ k. not (begins l k || begins k l)) ks ≡ true
    → some_begins ks bits ≡ true → ⊥
apart_from l bits e [] all f = false≢true f
apart_from l bits e (k ∷ ks) all f =
    let r = and_parts (not (begins l k || begins k l)) (list_all (λ k. not (begins l k || begins k l)) ks) all in
    elim (or_cases (begins k bits) (some_begins ks bits) f) [
      | inl h ↦ both_ways (begins l k || begins k l) (not-true (begins l k || begins k l) r.0) (one_begins l k bits e h)
      | inr h ↦ apart_from l bits e ks r.1 h
    ]

all_apart : (ls ks : Leads) (bits : List ℕ) → are_apart ls ks ≡ true → some_begins ls bits ≡ true → some_begins ks bits ≡ true → ⊥
all_apart [] ks bits all e f = false≢true e
all_apart (l ∷ ls) ks bits all e f =
    let r = and_parts (list_all (λ k. not (begins l k || begins k l)) ks) (are_apart ls ks) all in
    elim (or_cases (begins l bits) (some_begins ls bits) e) [
      | inl h ↦ apart_from l bits h ks r.0 f
      | inr h ↦ all_apart ls ks bits r.1 h f
    ]

-- ---- inputs

all_excluded : (ps qs : List Input) → Excluding ps qs → (ns : List ℕ) → All (λ n. n < 2 ^ 32) ns → Meets ps ns → Meets qs ns → ⊥
all_excluded [] qs h ns small a b = absurd h
all_excluded (number p ∷ ps) [] h ns small a b = absurd h
all_excluded (number p ∷ ps) (type w ∷ qs) h ns small a b = absurd h
all_excluded (number p ∷ ps) (number q ∷ qs) h [] small a b = absurd a
all_excluded (number p ∷ ps) (number q ∷ qs) (inl h) (n ∷ ns) small a b = h n a.0.0 b.0.0 (small 0 0 (omega arith)) a.0.1 b.0.1
all_excluded (number p ∷ ps) (number q ∷ qs) (inr h) (n ∷ ns) small a b =
    all_excluded ps qs h ns (λ k d lt. small (suc k) d (omega (arith, lt))) a.1 b.1
all_excluded (type v ∷ ps) [] h ns small a b = absurd h
all_excluded (type v ∷ ps) (number q ∷ qs) h ns small a b = absurd h
all_excluded (type v ∷ ps) (type w ∷ qs) h ns small a b = all_excluded ps qs h ns small a b

pub separated_enter_one : SeparatedEnterOne
separated_enter_one s c e ns bits small (inl h) a b = all_apart (leads s c) (leads s e) bits h a.begins b.begins
separated_enter_one s c e ns bits small (inr h) a b = all_excluded c.core.inputs e.core.inputs h ns small a.meets b.meets
