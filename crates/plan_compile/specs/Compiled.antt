-- The flat form of a schema.
use Rattle.std.specs.Prelude.{ℕ, List, [], ◌∷◌}
use Rattle.tlb_syntax.specs.Tree.{ConstructorView, SchemaView}
use Rattle.flat_form.specs.declared.lists.ConstructorPlan.{ConstructorPlan}
use Rattle.flat_form.specs.declared.lists.Flat.{Flat}
use Rattle.flat_form.specs.Sound.{IsFlat}
use Rattle.flat_form.specs.Entries.{StandsFor}
use Rattle.schema_core.specs.CoreOf.{core_of}
use Rattle.plan_compile.specs.declared.compile.CompiledSchema.{CompiledSchema}

-- it stands for the core form of this declaration, whatever its tag
abbrev pub IsPlanOf : Flat → SchemaView → ConstructorView → ConstructorPlan → Type 0
IsPlanOf f types c p = (tag : List ℕ) → StandsFor f p (core_of types tag c)

-- one by one
abbrev pub ArePlansOf : Flat → SchemaView → SchemaView → List ConstructorPlan → Type 0
ArePlansOf f types [] [] = Unit {0}
ArePlansOf f types [] (p ∷ ps) = ⊥
ArePlansOf f types (c ∷ cs) [] = ⊥
ArePlansOf f types (c ∷ cs) (p ∷ ps) = IsPlanOf f types c p × ArePlansOf f types cs ps

-- the lists are sound, and each constructor of the schema has what stands for its core form
pub record IsCompiled (types : SchemaView) (s : CompiledSchema) : Type 0 where
  pub flat : IsFlat s.flat
  pub constructors : ArePlansOf s.flat types types s.constructors
