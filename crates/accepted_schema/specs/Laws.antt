-- What the laws say: facts about the definitions alone.
use Rattle.std.specs.Prelude.{ℕ, ◌≡◌, ◌⊎◌, ◌↔◌, ◌^◌, ◌<◌}
use Rattle.std.specs.Prelude.{List, [], All, Some, None, slice_get}
use Rattle.tlb_syntax.specs.Limits.{IsWithinLimits}
use Rattle.tlb_syntax.specs.Tree.{SchemaView}
use Rattle.tlb_kinds.specs.Refusals.{IsKinded, kept_of}
use Rattle.core_form.specs.Core.{Declaration}
use Rattle.schema_leads.specs.Separation.{CanEnter}
use Rattle.accepted_schema.specs.Accepted.{IsAccepted, kept_cores}
use Rattle.accepted_schema.specs.FirstCause.{first_cause}
use Rattle.accepted_schema.specs.Refusals.{TagRefusal, tag_refusals, first_tag_refusal}

-- a schema without a refusal by its kinds is accepted, or has a first refusal by its tags
abbrev pub AcceptedOrRefused : Type 0
AcceptedOrRefused =
    (s : SchemaView) → IsWithinLimits s → IsKinded s
    → IsAccepted s ⊎ ((r : TagRefusal) × (first_tag_refusal (kept_cores s) ≡ Some r))

-- a schema within the limits of a text is accepted exactly where it has no first refusal
abbrev pub AcceptedWithoutCause : Type 0
AcceptedWithoutCause = (s : SchemaView) → IsWithinLimits s → IsAccepted s ↔ (first_cause s ≡ None)

-- an accepted one has no refusal by its tags
abbrev pub AcceptedHasNoRefusal : Type 0
AcceptedHasNoRefusal = (s : SchemaView) → IsAccepted s → tag_refusals (kept_cores s) ≡ []

-- an accepted schema is accepted without the declarations that are passed over
abbrev pub AcceptedStays : Type 0
AcceptedStays = (s : SchemaView) → IsAccepted s → IsAccepted (kept_of s)

-- at most one constructor of a type has patterns that meet these input numbers and a lead that begins these bits
abbrev pub OneConstructor : Type 0
OneConstructor =
    (s : SchemaView) → IsAccepted s → (i j : ℕ) (d e : Declaration) (ns bits : List ℕ)
    → slice_get (kept_cores s) i ≡ Some d → slice_get (kept_cores s) j ≡ Some e → d.of_type ≡ e.of_type
    → All (λ n. n < 2 ^ 32) ns → CanEnter (kept_cores s) d ns bits
    → CanEnter (kept_cores s) e ns bits → i ≡ j
