-- What is reached.
use Rattle.std.proofs.Common.{◌≡◌, suc, ◌⊎◌, inl, inr, Bool, true, List, [], ◌∷◌, sym}
use Rattle.std.specs.Prelude.{◌&&◌, bytes_eq}
use Rattle.std.specs.List.{list_any}
use Rattle.std.proofs.lemmas.Bool.{false≢true, or_cases, or_left, or_right, and_parts, and_from}
use Rattle.std.proofs.lemmas.Slice.Eq.{bytes_eq-Decides}
use Rattle.tlb_syntax.specs.Tree.{ConstructorView}
use Rattle.kind_terms.specs.Words.{Word}
use Rattle.tlb_guard.specs.Rounds.{Test, IsPart}
use Rattle.tlb_guard.specs.DeclaredTypes.{declared_types}
use Rattle.tlb_guard.specs.Exposed.{Known, Exposed, is_type, exposed_by}
use Rattle.tlb_guard.specs.Cycles.{is_edge, back_rules}
use Rattle.tlb_guard.specs.Laws.{ReachedWithinTypeCount}
use Rattle.tlb_guard.proofs.Rounds.{IsMember, IsMonotone, IsWithin, within_last}
use Rattle.tlb_guard.proofs.Lists.{any_weaker, is_declared}

step_weaker : (k : Known) (x : Word) (p q : Test Word) → IsPart p q → (y : Word) → (is_edge k x y && p y) ≡ true → (is_edge k x y && q y) ≡ true
step_weaker k x p q part y e =
    let h = and_parts (is_edge k x y) (p y) e in and_from (is_edge k x y) (q y) h.0 (part y h.1)

pub back_mono : (k : Known) (end : Word) → IsMonotone (back_rules k end)
back_mono k end p q part x e = by_cases (or_cases (bytes_eq x end) (list_any (λ y. is_edge k x y && p y) (declared_types k.types)) e)
  where
    by_cases : (bytes_eq x end ≡ true) ⊎ (list_any (λ y. is_edge k x y && p y) (declared_types k.types) ≡ true) → back_rules k end q x ≡ true
    by_cases (inl h) = or_left (bytes_eq x end) (list_any (λ y. is_edge k x y && q y) (declared_types k.types)) h
    by_cases (inr h) =
        or_right (bytes_eq x end) (list_any (λ y. is_edge k x y && q y) (declared_types k.types))
        (any_weaker (λ y. is_edge k x y && p y) (λ y. is_edge k x y && q y) (step_weaker k x p q part) (declared_types k.types) h)

-- a type with an edge is a declared one
has_edge : (k : Known) (x y : Word) → is_edge k x y ≡ true → IsMember (declared_types k.types) x
has_edge k x y e = is_declared (λ (c : ConstructorView). list_any (λ (e : Exposed). is_type y e.term) (exposed_by k c)) k.types x e

edge_and : (k : Known) (x : Word) (p : Test Word) (y : Word) (b : Bool) → (b ≡ true → IsMember (declared_types k.types) x)
    → ((is_edge k x y && p y) ≡ true) ⊎ (b ≡ true) → IsMember (declared_types k.types) x
edge_and k x p y b rest (inl h) = has_edge k x y (and_parts (is_edge k x y) (p y) h).0
edge_and k x p y b rest (inr h) = rest h

edge_declared : (k : Known) (x : Word) (p : Test Word) (ys : List Word) → list_any (λ y. is_edge k x y && p y) ys ≡ true → IsMember (declared_types k.types) x
edge_declared k x p [] e = absurd (false≢true e)
edge_declared k x p (y ∷ ys) e =
    edge_and k x p y (list_any (λ z. is_edge k x z && p z) ys) (edge_declared k x p ys)
    (or_cases (is_edge k x y && p y) (list_any (λ z. is_edge k x z && p z) ys) e)

pub back_within : (k : Known) (end : Word) → IsWithin (end ∷ declared_types k.types) (back_rules k end)
back_within k end p x e = by_cases (or_cases (bytes_eq x end) (list_any (λ y. is_edge k x y && p y) (declared_types k.types)) e)
  where
    by_cases : (bytes_eq x end ≡ true) ⊎ (list_any (λ y. is_edge k x y && p y) (declared_types k.types) ≡ true) → (end ≡ x) ⊎ IsMember (declared_types k.types) x
    by_cases (inl h) = inl (sym ((bytes_eq-Decides x end).0 h))
    by_cases (inr h) = inr (edge_declared k x p (declared_types k.types) h)

pub reached_within_type_count : ReachedWithinTypeCount
reached_within_type_count k n from end e =
    within_last (back_rules k end) (back_mono k end) (end ∷ declared_types k.types) (back_within k end) (suc n) from e
