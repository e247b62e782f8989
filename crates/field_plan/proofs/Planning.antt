-- What was compiled stands for the core forms of the schema.
use Rattle.std.proofs.Common.{◌≡◌, ℕ, zero, suc, List, [], ◌∷◌, ◌++◌, Some, refl, ap, subst, slice_get, length}
use Rattle.tlb_syntax.specs.Tree.{ConstructorView, SchemaView}
use Rattle.core_form.specs.Core.{Declaration}
use Rattle.schema_core.specs.Cores.{cores_after, declaration_of}
use Rattle.schema_leads.specs.Tags.{tag_of}
use Rattle.flat_form.specs.declared.lists.ConstructorPlan.{ConstructorPlan}
use Rattle.flat_form.specs.declared.lists.Flat.{Flat}
use Rattle.flat_form.specs.Entries.{StandsFor}
use Rattle.plan_compile.specs.declared.compile.CompiledSchema.{CompiledSchema}
use Rattle.plan_compile.specs.Compiled.{ArePlansOf, IsCompiled, IsPlanOf}
use Rattle.field_plan.specs.Planned.{Planned}

one_plan : (f : Flat) (types before : SchemaView) (c : ConstructorView) (p q : ConstructorPlan) (d : Declaration)
    → IsPlanOf f types c p → Some p ≡ Some q → Some (declaration_of types (tag_of c) before c) ≡ Some d → StandsFor f q d.core
one_plan f types before c p q d h plan declaration =
    let same : p ≡ q = cc in
    let is : declaration_of types (tag_of c) before c ≡ d = cc in
    let P : ConstructorPlan → Type 0 = λ z. StandsFor f z d.core in
    let Q : Declaration → Type 0 = λ z. StandsFor f p z.core in
    subst P same (subst Q is (h (tag_of c)))

plans_stand : (f : Flat) (types before cs : SchemaView) (ps : List ConstructorPlan) → ArePlansOf f types cs ps
    → (i : ℕ) (d : Declaration) (p : ConstructorPlan) → slice_get (cores_after types tag_of before cs) i ≡ Some d
    → slice_get ps i ≡ Some p → StandsFor f p d.core
plans_stand f types before [] [] h i d p core plan = cc
plans_stand f types before [] (q ∷ ps) h i d p core plan = absurd h
plans_stand f types before (c ∷ cs) [] h i d p core plan = absurd h
plans_stand f types before (c ∷ cs) (q ∷ ps) h zero d p core plan = one_plan f types before c q p d h.0 plan core
plans_stand f types before (c ∷ cs) (q ∷ ps) h (suc i) d p core plan = plans_stand f types (before ++ c ∷ []) cs ps h.1 i d p core plan

plans_count : (f : Flat) (types cs : SchemaView) (ps : List ConstructorPlan) → ArePlansOf f types cs ps → length ps ≡ length cs
plans_count f types [] [] h = refl
plans_count f types [] (p ∷ ps) h = absurd h
plans_count f types (c ∷ cs) [] h = absurd h
plans_count f types (c ∷ cs) (p ∷ ps) h = ap suc (plans_count f types cs ps h.1)

pub is_planned : (s : SchemaView) (compiled : CompiledSchema) → IsCompiled s compiled → Planned s compiled.flat compiled.constructors
is_planned s compiled h = record {
  flat = h.flat;
  count = plans_count compiled.flat s s compiled.constructors h.constructors;
  stand = plans_stand compiled.flat s [] s compiled.constructors h.constructors;
}
