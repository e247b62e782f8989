-- Turns of the loop over constructors.
use Rattle.std.proofs.Common.{◌≡◌, ℕ, suc, zero, ◌+◌, ◌<◌, ◌≤◌, List, [], ◌∷◌, ◌++◌, None, refl, ap, sym, ◌∙◌, subst}
use Rattle.std.proofs.Common.{map}
use Rattle.std.proofs.Common.{take, length, get_or, arith}
use Rattle.std.proofs.lemmas.Grind.{common_steps}
use Rattle.tlb_syntax.specs.Tree.{ConstructorView, SchemaView}
use Rattle.tlb_syntax.specs.View.{constructor, exprs as exprs_view, items as items_view}
use Rattle.tlb_syntax.specs.declared.tree.Expr.{Expr as Term}
use Rattle.tlb_syntax.specs.declared.tree.Item.{Item}
use Rattle.schema_core.specs.Names.{Names}
use Rattle.plan_compile.specs.Views.{names_by}
use Rattle.plan_compile.specs.declared.names.InScope.{InScope}
use Rattle.tlb_syntax.specs.declared.tree.Constructor.{Constructor}
use Rattle.core_form.specs.Core.{Constructor as CoreConstructor}
use Rattle.schema_core.specs.CoreOf.{core_of, inputs_of, items_of, names_after, names_at_result, outputs_of}
use Rattle.schema_core.specs.Slots.{slots_in}
use Rattle.flat_form.specs.declared.lists.Flat.{Flat}
use Rattle.flat_form.specs.declared.lists.PlanOp.{PlanOp}
use Rattle.flat_form.specs.declared.lists.ConstructorPlan.{ConstructorPlan}
use Rattle.flat_form.specs.Stands.{input_of, items_in, range, type_at}
use Rattle.flat_form.specs.Sound.{ConditionsGovern, IsFlat, OpsAreSound}
use Rattle.flat_form.specs.Growth.{Adds}
use Rattle.flat_form.specs.Parts.{AreOps, items_so_far}
use Rattle.flat_form.specs.Entries.{StandsFor}
use Rattle.flat_form.specs.GrowthLaws.{adds_on, length_begins, range_begins, record_sound, record_stays}
use Rattle.plan_compile.specs.Compiled.{IsPlanOf, ArePlansOf}
use Rattle.plan_compile.specs.Results.{AreOutputs}
use Rattle.plan_compile.proofs.Outputs.{numbers_grow, numbers_stand}

pub stands_grows : (f g : Flat) (p : ConstructorPlan) (c : CoreConstructor) → IsFlat f → Adds f g → StandsFor f p c
    → StandsFor g p c
stands_grows f g p c flat adds h =
    let longer : length f.ops ≤ length g.ops = length_begins f.ops g.ops adds.grows.ops in
    let same : range g.ops p.entry.first p.entry.count ≡ range f.ops p.entry.first p.entry.count = range_begins f.ops g.ops p.entry.first p.entry.count adds.grows.ops h.there in
    let P : List PlanOp → Type 0 = OpsAreSound g (length g.types) in
    let Q : List PlanOp → Type 0 = ConditionsGovern in
    record {
      there = omega (arith, h.there);
      sound = subst P (sym same) (record_sound f g (range f.ops p.entry.first p.entry.count) adds h.sound);
      items = ap (items_in g (type_at g) None) same ∙ record_stays f g (range f.ops p.entry.first p.entry.count) flat adds h.sound ∙ h.items;
      slots = h.slots;
      inputs = h.inputs;
      plain = numbers_grow f g p.outputs adds.grows h.plain;
      outputs = numbers_stand f g p.outputs adds.grows h.plain ∙ h.outputs;
      conditions = subst Q (sym same) h.conditions;
    }

pub plans_grow : (f g : Flat) (types cs : SchemaView) (ps : List ConstructorPlan) → IsFlat f → Adds f g
    → ArePlansOf f types cs ps → ArePlansOf g types cs ps
plans_grow f g types [] [] flat adds h = tt
plans_grow f g types [] (p ∷ ps) flat adds h = h
plans_grow f g types (c ∷ cs) [] flat adds h = h
plans_grow f g types (c ∷ cs) (p ∷ ps) flat adds h = ((λ tag. stands_grows f g p (core_of types tag c) flat adds (h.0 tag)), plans_grow f g types cs ps flat adds h.1)

plans_more : (f : Flat) (types cs : SchemaView) (ps : List ConstructorPlan) (c : ConstructorView) (p : ConstructorPlan)
    → ArePlansOf f types cs ps → IsPlanOf f types c p → ArePlansOf f types (cs ++ c ∷ []) (ps ++ p ∷ [])
plans_more f types [] [] c p h k = (k, tt)
plans_more f types [] (x ∷ ps) c p h k = absurd h
plans_more f types (b ∷ cs) [] c p h k = absurd h
plans_more f types (b ∷ cs) (x ∷ ps) c p h k = (h.0, plans_more f types cs ps c p h.1 k)

take_more : (all : List Constructor) (i : ℕ) (d : Constructor) → i < length all
    → map constructor (take (i + 1) all) ≡ map constructor (take i all) ++ constructor (get_or all i d) ∷ []
take_more [] i d lt = absurd (omega arith)
take_more (x ∷ xs) zero d lt = grind (arith, common_steps)
take_more (x ∷ xs) (suc i) d lt =
    let e : suc i + 1 ≡ suc (i + 1) = omega arith in
    ap (λ z. map constructor (take z (x ∷ xs))) e ∙ ap (λ z. constructor x ∷ z) (take_more xs i d (omega arith))

take_all : (all : List Constructor) (i : ℕ) → length all ≤ i → map constructor (take i all) ≡ map constructor all
take_all [] zero le = refl
take_all [] (suc i) le = refl
take_all (x ∷ xs) zero le = absurd (omega arith)
take_all (x ∷ xs) (suc i) le = ap (λ z. constructor x ∷ z) (take_all xs i (omega arith))

pub plans_turn : (f h : Flat) (types : SchemaView) (all : List Constructor) (i : ℕ) (here : Constructor)
    (ps new : List ConstructorPlan) (p : ConstructorPlan) → i < length all → here ≡ get_or all i here → IsFlat f
    → Adds f h
    → ArePlansOf f types (map constructor (take i all)) ps → IsPlanOf h types (constructor here) p → new ≡ ps ++ p ∷ []
    → ArePlansOf h types (map constructor (take (i + 1) all)) new
plans_turn f h types all i here ps new p lt is flat adds so_far one kept =
    let P : List ConstructorPlan → Type 0 = ArePlansOf h types (map constructor (take (i + 1) all)) in
    let Q : SchemaView → Type 0 = λ z. ArePlansOf h types z (ps ++ p ∷ []) in
    let R : Constructor → Type 0 = λ z. ArePlansOf h types (map constructor (take i all) ++ constructor z ∷ []) (ps ++ p ∷ []) in
    let grown : ArePlansOf h types (map constructor (take i all)) ps =
    plans_grow f h types (map constructor (take i all)) ps flat adds so_far in
    subst P (sym kept)
    (subst Q (sym (take_more all i here lt))
    (subst R is (plans_more h types (map constructor (take i all)) ps (constructor here) p grown one)))

pub plans_done : (f : Flat) (types : SchemaView) (all : List Constructor) (i : ℕ) (ps : List ConstructorPlan)
    → length all ≤ i
    → ArePlansOf f types (map constructor (take i all)) ps → ArePlansOf f types (map constructor all) ps
plans_done f types all i ps over so_far =
    let P : SchemaView → Type 0 = λ z. ArePlansOf f types z ps in subst P (take_all all i over) so_far

-- what was made for a constructor stands for it: its operations were added to g, and its outputs then
pub plan_made : (g h k : Flat) (types : SchemaView) (c : ConstructorView) (ops : List PlanOp) (p : ConstructorPlan)
    → IsFlat g → Adds g h → Adds h k → AreOps g ops → items_so_far g ops ≡ items_of types [] 0 1 0 c.items
    → p.entry.count ≡ length ops → p.entry.first + length ops ≤ length h.ops
    → range h.ops p.entry.first (length ops) ≡ ops
    → p.entry.slots ≡ 0 + slots_in c.items → map input_of p.inputs ≡ inputs_of (names_at_result c) c.params
    → AreOutputs k p.outputs (outputs_of (names_at_result c) c.params) → IsPlanOf k types c p
plan_made g h k types c ops p flat adds later are items count within is slots inputs outputs tag =
    let there : p.entry.first + p.entry.count ≤ length h.ops = omega arith in
    let longer : length h.ops ≤ length k.ops = length_begins h.ops k.ops later.grows.ops in
    let same : range k.ops p.entry.first p.entry.count ≡ ops = range_begins h.ops k.ops p.entry.first p.entry.count later.grows.ops there ∙ ap (range h.ops p.entry.first) count ∙ is in
    let both : Adds g k = adds_on g h k adds later in
    let P : List PlanOp → Type 0 = OpsAreSound k (length k.types) in
    let Q : List PlanOp → Type 0 = ConditionsGovern in
    record {
      there = omega arith;
      sound = subst P (sym same) (record_sound g k ops both are.sound);
      items = ap (items_in k (type_at k) None) same ∙ record_stays g k ops flat both are.sound ∙ items;
      slots = omega arith;
      inputs = inputs;
      plain = outputs.plain;
      outputs = outputs.stand;
      conditions = subst Q (sym same) are.conditions;
    }

-- the names in scope of a result
pub names_then : (c : ConstructorView) (none names : List InScope) (items : List Item) → none ≡ []
    → items_view items ≡ c.items
    → names_by names ≡ names_after (items_view items) (names_by none) 0 → names_by names ≡ names_at_result c
names_then c none names items empty same after =
    after ∙ ap (λ z. names_after (items_view items) (names_by z) 0) empty ∙ ap (λ z. names_after z [] 0) same

pub outputs_then : (f : Flat) (numbers : List ℕ) (c : ConstructorView) (names seen : List InScope)
    (params all : List Term)
    → seen ≡ names → names_by names ≡ names_at_result c → params ≡ all
    → AreOutputs f numbers (outputs_of (names_by seen) (exprs_view params))
    → AreOutputs f numbers (outputs_of (names_at_result c) (exprs_view all))
outputs_then f numbers c names seen params all same is whole are =
    let P : List InScope → Type 0 = λ z. AreOutputs f numbers (outputs_of (names_by z) (exprs_view params)) in
    let Q : Names → Type 0 = λ z. AreOutputs f numbers (outputs_of z (exprs_view params)) in
    let R : List Term → Type 0 = λ z. AreOutputs f numbers (outputs_of (names_at_result c) (exprs_view z)) in
    subst R whole (subst Q is (subst P same are))
