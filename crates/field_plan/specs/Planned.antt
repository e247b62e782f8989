-- A plan stands for its schema.
use Rattle.std.specs.Prelude.{ℕ, ◌≡◌, List, Some, length, slice_get}
use Rattle.tlb_syntax.specs.Tree.{SchemaView}
use Rattle.core_form.specs.Core.{Declaration}
use Rattle.schema_leads.specs.Tags.{cores}
use Rattle.flat_form.specs.declared.lists.ConstructorPlan.{ConstructorPlan}
use Rattle.flat_form.specs.declared.lists.Flat.{Flat}
use Rattle.flat_form.specs.Sound.{IsFlat}
use Rattle.flat_form.specs.Entries.{StandsFor}
use Rattle.tag_ambiguity.specs.Judged.{EntersOne}
use Rattle.type_index.specs.Index.{IsTypeIndex}
use Rattle.type_index.specs.declared.index.TypeIndex.{TypeIndex}
use Rattle.field_plan.specs.Choosing.{AreShownApart}
use Rattle.field_plan.specs.Names.{AreNames}
use Rattle.field_plan.specs.declared.names.ConstructorName.{ConstructorName}

-- the lists are sound, and what each constructor has stands for its core form
pub record Planned (s : SchemaView) (f : Flat) (plans : List ConstructorPlan) : Type 0 where
  pub flat : IsFlat f
  pub count : length plans ≡ length s
  pub stand : (c : ℕ) (d : Declaration) (p : ConstructorPlan) → slice_get (cores s) c ≡ Some d
      → slice_get plans c ≡ Some p → StandsFor f p d.core

-- What a plan keeps: beside what stands for its schema, where the constructors of a type are found and what they are
-- called by; at most one of them is entered, and their names differ.
pub record IsPlan (s : SchemaView) (f : Flat) (plans : List ConstructorPlan) (types : TypeIndex)
    (called : List ConstructorName) : Type 0 where
  pub planned : Planned s f plans
  pub index : IsTypeIndex types s
  pub names : AreNames (cores s) called
  pub one_constructor : EntersOne s
  pub apart : AreShownApart (cores s)
