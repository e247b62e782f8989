-- What follows for the guard of a schema without a refusal.
use Rattle.std.proofs.Common.{◌≡◌, ◌<◌, ◌+◌, ap, refl, arith, ℕ, zero, suc, List, [], ◌∷◌, ◌++◌, length, Option, Some}
use Rattle.std.proofs.Common.{None}
use Rattle.std.specs.Prelude.{option_map}
use Rattle.tlb_syntax.specs.Tree.{SchemaView}
use Rattle.tlb_guard.specs.Cycles.{ItemIndex, item_index, or_else, first_from, first_unguarded, first_unguarded_item}
use Rattle.tlb_guard.specs.Exposed.{Known, known}
use Rattle.tlb_kinds.specs.Refusals.{IsKinded, kept_of, ordinary, refusals, refusals_within, of_headings, of_contents}
use Rattle.tlb_kinds.specs.Refusals.{of_guard, of_place, unguarded_at}
use Rattle.schema_leads.specs.FirstFields.{IsGuarded}
use Rattle.accepted_schema.specs.NoneLaws.{both_none}

by_first : (k : Known) (n most : ℕ) (found : Option ℕ) (later : Option ItemIndex) (p : ItemIndex) → n < most
    → (later ≡ Some p → p.constructor < most) → or_else (option_map (item_index n) found) later ≡ Some p
    → p.constructor < most
by_first k n most None later p here others e = others e
by_first k n most (Some i) later p here others e = omega (arith, here, ap (λ o. number n o) e)
  where
    number : ℕ → Option ItemIndex → ℕ
    number n None = n
    number n (Some p) = p.constructor

place_within : (k : Known) (n : ℕ) (cs : SchemaView) (p : ItemIndex) → first_from k n cs ≡ Some p
    → p.constructor < n + length cs
place_within k n [] p e = absurd (grind arith)
place_within k n (c ∷ cs) p e =
    by_first k n (n + length (c ∷ cs)) (first_unguarded_item k c) (first_from k (n + 1) cs) p (omega arith)
    (λ later. omega (arith, place_within k (n + 1) cs p later)) e

refused_there : (before s : SchemaView) (n item : ℕ) → n < length s → unguarded_at before s n item ≡ [] → ⊥
refused_there before [] n item less e = omega (arith, less)
refused_there before (c ∷ cs) zero item less e = omega (arith, ap length e)
refused_there before (c ∷ cs) (suc n) item less e = refused_there (before ++ c ∷ []) cs n item (omega (arith, less)) e

found_none : (s : SchemaView) (found : Option ItemIndex) → first_unguarded s ≡ found → of_place s found ≡ []
    → first_unguarded s ≡ None
unfolding first_unguarded
found_none s None is none = is
found_none s (Some p) is none = absurd (refused_there [] s p.constructor p.item (omega (
  arith,
  place_within
      (known s) 0 s p is,
)) none)

-- a schema without a refusal is guarded
pub kinded_is_guarded : (s : SchemaView) → IsKinded s → IsGuarded (kept_of s)
unfolding refusals refusals_within
kinded_is_guarded s e =
    let within = both_none (of_headings [] (ordinary s)) (refusals_within (kept_of s)) e in
    let guard = both_none (of_contents (kept_of s) [] (kept_of s)) (of_guard (kept_of s)) within.second in
    found_none (kept_of s) (first_unguarded (kept_of s)) refl guard.second
