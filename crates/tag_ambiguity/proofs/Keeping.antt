-- A schema in which nothing is passed over.
use Rattle.std.proofs.Common.{◌≡◌, ◌∙◌, ◌⊎◌, inl, inr, sym, Some, ap, refl, subst, Bool, false, [], ◌∷◌, zero, suc, arith}
use Rattle.std.specs.Prelude.{None, All, filter, not, cond}
use Rattle.tlb_syntax.specs.Tree.{ConstructorView, SchemaView}
use Rattle.kind_terms.specs.Classes.{is_dictionary}
use Rattle.kind_terms.specs.Dictionaries.{without_dictionaries}
use Rattle.tlb_kinds.specs.Kept.{IsNoDictionary, IsOrdinary}
use Rattle.tlb_kinds.specs.Refusals.{IsKinded, kept_of}
use Rattle.schema_leads.specs.FirstFields.{IsGuarded}
use Rattle.schema_leads.specs.Tags.{cores}
use Rattle.tlb_syntax.specs.Limits.{IsWithinLimits}
use Rattle.accepted_schema.specs.Accepted.{IsAccepted, kept_cores}
use Rattle.accepted_schema.specs.GuardLaws.{kinded_is_guarded}
use Rattle.accepted_schema.specs.Laws.{AcceptedHasNoRefusal, AcceptedOrRefused, OneConstructor}
use Rattle.accepted_schema.specs.Refusals.{TagRefusal, first_of, first_tag_refusal, tag_refusals}
use Rattle.tag_ambiguity.specs.Judged.{EntersOne}

module _ (out : ConstructorView → Bool) where
  none_out : (s : SchemaView) → All (λ (c : ConstructorView). out c ≡ false) s → filter (λ (c : ConstructorView). not (out c)) s ≡ s
  none_out [] all = refl
  none_out (c ∷ cs) all =
      ap (λ b. cond (not b) (c ∷ filter (λ (d : ConstructorView). not (out d)) cs) (filter (λ (d : ConstructorView). not (out d)) cs)) (all zero c (omega arith))
      ∙ ap (λ z. c ∷ z) (none_out cs (λ k d lt. all (suc k) d (omega (arith, lt))))

pub nothing_passed_over : (s : SchemaView) → All IsOrdinary s → All IsNoDictionary s → kept_of s ≡ s
nothing_passed_over s all_ordinary none =
    ap without_dictionaries (none_out (λ c. c.exotic) s all_ordinary) ∙ none_out (λ c. is_dictionary c.result) s none

-- so it is guarded
pub kept_is_guarded : (s : SchemaView) → IsKinded s → All IsOrdinary s → All IsNoDictionary s → IsGuarded s
kept_is_guarded s kinded all_ordinary none =
    subst IsGuarded (nothing_passed_over s all_ordinary none) (kinded_is_guarded s kinded)

-- and accepted where it has no refusal by its tags
pub accepted_by : AcceptedOrRefused → (s : SchemaView) → IsWithinLimits s → IsKinded s → kept_of s ≡ s → tag_refusals (cores s) ≡ [] → IsAccepted s
accepted_by law s within kinded kept none = by (law s within kinded)
  where
    by : IsAccepted s ⊎ ((r : TagRefusal) × (first_tag_refusal (kept_cores s) ≡ Some r)) → IsAccepted s
    by (inl ok) = ok
    by (inr h) =
        let found : None ≡ Some h.0 = sym (ap (λ z. first_of (tag_refusals (cores z))) kept ∙ ap first_of none) ∙ h.1 in cc

pub no_refusals : AcceptedHasNoRefusal → (s : SchemaView) → kept_of s ≡ s → IsAccepted s → tag_refusals (cores s) ≡ []
no_refusals law s kept ok = ap (λ z. tag_refusals (cores z)) (sym kept) ∙ law s ok

pub enters_one : OneConstructor → (s : SchemaView) → kept_of s ≡ s → IsAccepted s → EntersOne s
enters_one law s kept ok = let P : SchemaView → Type 0 = λ z. EntersOne z in subst P kept (law s ok)
