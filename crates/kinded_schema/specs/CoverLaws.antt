-- The names in scope are among the names of fields before.
use Rattle.std.proofs.Common.{◌≡◌, ◌⊎◌, inl, inr, ap, sym, ◌∙◌, refl, List, [], ◌∷◌, ◌++◌, Bool, true, false, ◌||◌, cond, subst}
use Rattle.std.proofs.Common.{append_assoc}
use Rattle.std.specs.Prelude.{Option, Some, None, is_some, bytes_eq}
use Rattle.std.specs.List.{list_any}
use Rattle.std.proofs.lemmas.Bool.{or_parts, false≢true}
use Rattle.std.proofs.lemmas.List.{append-nil}
use Rattle.std.proofs.lemmas.List.Folds.{list_any-append}
use Rattle.std.proofs.lemmas.Slice.Eq.{bytes_eq-Decides}
use Rattle.tlb_syntax.specs.Tree.{ItemView, implicit, check, explicit}
use Rattle.kind_terms.specs.Words.{Word, is_among}
use Rattle.kind_terms.specs.declared.scope.Meaning.{Meaning}
use Rattle.kind_terms.specs.Scopes.{Binding, Scope, after, declares, field_meaning, field_names, implicit_meaning, in_scope}
use Rattle.kind_terms.specs.Scopes.{binding, inside, meaning_in}

abbrev pub Covers : List Word → Scope → Type 0
Covers fields s = (x : Word) → in_scope s x ≡ true → is_among fields x ≡ true

other_truth : (b c : Bool) → (b ≡ true → c ≡ true) → c ≡ false → b ≡ false
other_truth true c f gone = absurd (false≢true (sym gone ∙ f refl))
other_truth false c f gone = refl

or_left_true : (a b : Bool) → a ≡ true → (a || b) ≡ true
or_left_true true b h = refl
or_left_true false b h = cc

or_right_true : (a b : Bool) → b ≡ true → (a || b) ≡ true
or_right_true true b h = refl
or_right_true false b h = h

either_true : (a b : Bool) → (a || b) ≡ true → (a ≡ true) ⊎ (b ≡ true)
either_true true b h = inl refl
either_true false b h = inr h

among_left : (xs ys : List Word) (x : Word) → is_among xs x ≡ true → is_among (xs ++ ys) x ≡ true
among_left xs ys x h = list_any-append (bytes_eq x) xs ys ∙ or_left_true (is_among xs x) (is_among ys x) h

among_right : (xs ys : List Word) (x : Word) → is_among ys x ≡ true → is_among (xs ++ ys) x ≡ true
among_right xs ys x h = list_any-append (bytes_eq x) xs ys ∙ or_right_true (is_among xs x) (is_among ys x) h

-- a name that is none of the fields, and none of other names, is new
pub is_new : (fields inner : List Word) (s : Scope) (x : Word) → Covers fields s → is_among (fields ++ inner) x ≡ false
    → in_scope s x ≡ false
is_new fields inner s x covers none =
    let both = or_parts (is_among fields x) (is_among inner x) (sym (list_any-append (bytes_eq x) fields inner) ∙ none) in
    other_truth (in_scope s x) (is_among fields x) (covers x) both.0

pub covers_with : (fields more : List Word) (s : Scope) → Covers fields s → Covers (fields ++ more) s
covers_with fields more s covers x h = among_left fields more x (covers x h)

pub covers_inside : (fields : List Word) (s : Scope) → Covers fields s → Covers fields (inside s)
covers_inside fields s covers x h =
    covers x (ap (λ bs. is_some (meaning_in bs x)) (sym (append-nil (s.around ++ s.own))) ∙ h)

in_one : (t : Bool) (m : Meaning) (rest : Option Meaning) (b : Bool) → is_some rest ≡ b
    → is_some (cond t (Some m) rest) ≡ (t || b)
in_one true m rest b is = refl
in_one false m rest b is = is

or_assoc : (a b c : Bool) → (a || (b || c)) ≡ ((a || b) || c)
or_assoc true b c = refl
or_assoc false b c = refl

in_append : (bs cs : List Binding) (x : Word)
    → is_some (meaning_in (bs ++ cs) x) ≡ (is_some (meaning_in bs x) || is_some (meaning_in cs x))
in_append [] cs x = refl
in_append (b ∷ bs) cs x =
    in_one (bytes_eq b.name x) b.meaning (meaning_in (bs ++ cs) x) _ (in_append bs cs x)
    ∙ or_assoc (bytes_eq b.name x) (is_some (meaning_in bs x)) (is_some (meaning_in cs x))
    ∙ ap (λ z. z || is_some (meaning_in cs x))
    (sym (in_one (bytes_eq b.name x) b.meaning (meaning_in bs x) (is_some (meaning_in bs x)) refl))

pub same_name : (y x : Word) → bytes_eq y x ≡ true → bytes_eq x y ≡ true
same_name y x h = (bytes_eq-Decides x y).1 (sym ((bytes_eq-Decides y x).0 h))

one_name : (y x : Word) (m : Meaning) → is_some (meaning_in (binding y m ∷ []) x) ≡ true → is_among (y ∷ []) x ≡ true
one_name y x m h = or_left_true (bytes_eq x y) false (same_name y x (found (bytes_eq y x) h))
  where
    found : (t : Bool) → is_some (cond t (Some m) None) ≡ true → t ≡ true
    found true k = refl
    found false k = cc

declared_names : (i : ItemView) (x : Word) → is_some (meaning_in (declares i) x) ≡ true → is_among (field_names i) x ≡ true
declared_names (implicit y k) x h = one_name y x (implicit_meaning k) h
declared_names (check a op b) x h = cc
declared_names (explicit None t) x h = cc
declared_names (explicit (Some y) t) x h = one_name y x (field_meaning t) h

pub covers_next : (fields : List Word) (s : Scope) (i : ItemView) → Covers fields s → Covers (fields ++ field_names i) (after s i)
covers_next fields s i covers x h =
    let parted : (is_some (meaning_in (s.around ++ s.own) x) || is_some (meaning_in (declares i) x)) ≡ true =
    sym (in_append (s.around ++ s.own) (declares i) x)
    ∙ ap (λ bs. is_some (meaning_in bs x)) (append_assoc s.around s.own (declares i)) ∙ h in
    elim (either_true (is_some (meaning_in (s.around ++ s.own) x)) (is_some (meaning_in (declares i) x)) parted) [
      | inl old ↦ among_left fields (field_names i) x (covers x old)
      | inr new ↦ among_right fields (field_names i) x (declared_names i x new)
    ]
