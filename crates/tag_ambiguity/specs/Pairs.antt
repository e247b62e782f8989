-- The refusals of the pairs of a type, by the places of its constructors; and what two constructors are told apart by.
use Rattle.std.specs.Prelude.{ℕ, ◌≡◌, List, [], ◌∷◌, ◌++◌, map, Option, Some, None, slice_get, if◌then◌else◌}
use Rattle.std.specs.List.{flat_map}
use Rattle.tlb_syntax.specs.Tree.{SchemaView}
use Rattle.core_form.specs.Core.{Declaration, CoreSchema}
use Rattle.schema_leads.specs.Tags.{cores}
use Rattle.schema_leads.specs.Leads.{Leads, leads}
use Rattle.schema_leads.specs.Separation.{are_separated}
use Rattle.accepted_schema.specs.Refusals.{TagRefusal, ambiguous}
use Rattle.tag_ambiguity.specs.declared.inputs.Input.{Input as ProgramInput}
use Rattle.tag_ambiguity.specs.Inputs.{inputs_by, plain_inputs}

-- of a constructor and one at a place
abbrev pub against : CoreSchema → Declaration → Option Declaration → List TagRefusal
against s d None = []
against s d (Some e) = if are_separated s d e then [] else ambiguous d.of_type d.shown e.shown ∷ []

-- of a constructor and those at these places
abbrev pub against_all : CoreSchema → Declaration → List ℕ → List TagRefusal
against_all s d places = flat_map (λ i. against s d (slice_get s i)) places

abbrev pub against_later : CoreSchema → Option Declaration → List ℕ → List TagRefusal
against_later s None places = []
against_later s (Some d) places = against_all s d places

-- of all pairs, by the first of a pair and then by the second
abbrev pub pairs_at : CoreSchema → List ℕ → List TagRefusal
pairs_at s [] = []
pairs_at s (i ∷ places) = against_later s (slice_get s i) places ++ pairs_at s places

-- ---- the marks of constructors

-- the leads and the inputs of each constructor of the schema
pub record AreMarks (s : SchemaView) (lead_lists : List Leads) (inputs : List (List ProgramInput)) : Type 0 where
  pub are_leads : lead_lists ≡ map (leads (cores s)) (cores s)
  pub are_inputs : map inputs_by inputs ≡ map (λ (d : Declaration). plain_inputs d.core.inputs) (cores s)

-- the answer for two constructors of the schema at these places
abbrev pub AtPlaces : SchemaView → ℕ → ℕ → (Declaration → Declaration → Type 0) → Type 0
AtPlaces s i j P =
    (d e : Declaration) → slice_get (cores s) i ≡ Some d → slice_get (cores s) j ≡ Some e → P d e
