-- What is separated is so in either order.
use Rattle.std.proofs.Common.{◌≡◌, inl, inr, refl, Bool, true, false, not, ◌||◌, ℕ, List, [], ◌∷◌}
use Rattle.std.specs.List.{list_all}
use Rattle.std.proofs.lemmas.Bool.{and_parts, and_from}
use Rattle.core_form.specs.Core.{Declaration, CoreSchema, Input, number, type}
use Rattle.schema_leads.specs.Leads.{Leads, begins, leads}
use Rattle.schema_leads.specs.Separation.{are_apart, AreSeparated, Excluding}

either_order : (a b : Bool) → not (a || b) ≡ true → not (b || a) ≡ true
either_order true true e = e
either_order true false e = e
either_order false true e = e
either_order false false e = e

abbrev ApartFrom : Leads → List ℕ → Type 0
ApartFrom ls k = list_all (λ l. not (begins k l || begins l k)) ls ≡ true

-- one of the second list is apart from all of the first
column : (ls : Leads) (k : List ℕ) (ks : Leads) → are_apart ls (k ∷ ks) ≡ true
    → ApartFrom ls k × (are_apart ls ks ≡ true)
column [] k ks e = (refl, refl)
column (l ∷ ls) k ks e =
    let both = and_parts (list_all (λ x. not (begins l x || begins x l)) (k ∷ ks)) (are_apart ls (k ∷ ks)) e in
    let row = and_parts (not (begins l k || begins k l)) (list_all (λ x. not (begins l x || begins x l)) ks) both.0 in
    let rest = column ls k ks both.1 in (
      and_from _ _ (either_order (begins l k) (begins k l) row.0) rest.0,
      and_from _ _ row.1 rest.1,
    )

apart_order : (ls ks : Leads) → are_apart ls ks ≡ true → are_apart ks ls ≡ true
apart_order ls [] e = refl
apart_order ls (k ∷ ks) e = let parts = column ls k ks e in and_from _ _ parts.0 (apart_order ls ks parts.1)

excluding_order : (ps qs : List Input) → Excluding ps qs → Excluding qs ps
excluding_order (number p ∷ ps) (number q ∷ qs) (inl h) = inl (λ x y z few f g. h x z y few g f)
excluding_order (number p ∷ ps) (number q ∷ qs) (inr h) = inr (excluding_order ps qs h)
excluding_order (type v ∷ ps) (type w ∷ qs) h = excluding_order ps qs h
excluding_order [] qs h = elim h [ ]
excluding_order (number p ∷ ps) [] h = elim h [ ]
excluding_order (number p ∷ ps) (type w ∷ qs) h = elim h [ ]
excluding_order (type v ∷ ps) [] h = elim h [ ]
excluding_order (type v ∷ ps) (number q ∷ qs) h = elim h [ ]

pub separated_order : (s : CoreSchema) (d e : Declaration) → AreSeparated s d e → AreSeparated s e d
separated_order s d e (inl apart) = inl (apart_order (leads s d) (leads s e) apart)
separated_order s d e (inr h) = inr (excluding_order d.core.inputs e.core.inputs h)
