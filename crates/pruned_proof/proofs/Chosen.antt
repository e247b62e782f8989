-- The constructor that a record is shown by, and the fields that are due of it.
use Rattle.std.proofs.Common.{◌≡◌, ℕ, zero, suc, ◌+◌, ◌<◌, List, [], ◌∷◌, ◌++◌, All, Option, Some}
use Rattle.std.proofs.Common.{None, IsSome, length, map, refl, ap, sym, ◌∙◌, subst, arith}
use Rattle.std.proofs.Common.{slice_get, option_map, is_some}
use Rattle.std.proofs.lemmas.Bool.{false≢true}
use Rattle.std.proofs.lemmas.Option.{none-some, same_Some}
use Rattle.core_form.specs.Closed.{ClosedArgs}
use Rattle.core_form.specs.Closed as closed
use Rattle.core_form.specs.Core.{CoreSchema, Declaration, Word}
use Rattle.core_form.specs.Fit.{fit, meet_all}
use Rattle.core_form.specs.Scope.{Scope, unset, values_in}
use Rattle.field_plan.specs.Choosing.{IsNamed}
use Rattle.field_plan.specs.Planned.{Planned}
use Rattle.flat_form.specs.Entries.{StandsFor}
use Rattle.flat_form.specs.Sound.{IsPlainNumber, IsRange, OpsAreSound}
use Rattle.flat_form.specs.Stands.{expr_at, input_of, items_in, range, record_at, type_at}
use Rattle.flat_form.specs.declared.lists.ConstructorPlan.{ConstructorPlan}
use Rattle.flat_form.specs.declared.lists.Entry.{Entry}
use Rattle.flat_form.specs.declared.lists.Flat.{Flat}
use Rattle.flat_form.specs.declared.lists.PlanInput.{PlanInput}
use Rattle.flat_form.specs.declared.lists.PlanOp.{PlanOp}
use Rattle.hashmap_tree.specs.Entries.{Slice}
use Rattle.nat_solver.specs.Number.{Expr}
use Rattle.schema_core.specs.Cores.{cores_after}
use Rattle.schema_leads.specs.Tags.{cores, tag_of}
use Rattle.spelling.specs.Goals.{typed}
use Rattle.spelling_laws.specs.FitLaws.{fit_complete}
use Rattle.tlb_syntax.specs.Tree.{SchemaView}
use Rattle.typed_value.specs.Values.{Plain, Plains, levels, levels_in}
use Rattle.typed_value.specs.Values as values
use Rattle.typed_value.specs.View.{names_in, vals_in}
use Rattle.pruning.specs.Laid.{Laid, number, bit_string, record_of, absent, list_of, ref_to, ref_to_raw, no_map}
use Rattle.pruning.specs.Laid.{map_under, map_here, rest, plain_all}
use Rattle.pruning.specs.SpellsLaid.{SpellsLaidShape}
use Rattle.pruned_proof.specs.Walks.{Due, Is, Lies}
use Rattle.pruned_proof.specs.Wanted.{Rests, cut_for, cut_fields_for}
use Rattle.pruned_proof.specs.declared.cutting.Cutting.{Cutting}

-- an element of a list at a number below its length
pub some_there : {A : Type 0} (xs : List A) (k : ℕ) → k < length xs → (x : A) × (slice_get xs k ≡ Some x)
some_there [] k below = absurd (omega (arith, below))
some_there (x ∷ xs) zero below = (x, refl)
some_there (x ∷ xs) (suc k) below = some_there xs k (omega (arith, below))

-- ---- a constructor of a plan

pub core_count : (types before cs : SchemaView) → length (cores_after types tag_of before cs) ≡ length cs
core_count types before [] = refl
core_count types before (c ∷ cs) = ap suc (core_count types (before ++ c ∷ []) cs)

-- what is known of an element
pub had : {A B : Type 0} (g : A → B) (o : Option A) (x : A) (y : B) → o ≡ Some x → option_map g o ≡ Some y → g x ≡ y
had g o x y at is = same_Some (g x) y (sym (ap (option_map g) at) ∙ is)

pub some_of : {A : Type 0} (o : Option A) → IsSome o → (x : A) × (o ≡ Some x)
some_of None there = absurd (false≢true there)
some_of (Some x) there = (x, refl)

-- a constructor by its number: its core form, and what stands for it
pub record Built (s : SchemaView) (f : Flat) (plans : List ConstructorPlan) (c : ℕ) : Type 0 where
  pub declaration : Declaration
  pub plan : ConstructorPlan
  pub there : slice_get (cores s) c ≡ Some declaration
  pub planned : slice_get plans c ≡ Some plan
  pub stands : StandsFor f plan declaration.core

pub built_at : (s : SchemaView) (f : Flat) (plans : List ConstructorPlan) (c : ℕ) → Planned s f plans → c < length plans
    → Built s f plans c
built_at s f plans c p below =
    let few : c < length (cores s) = omega (arith, below, p.count, core_count s [] s) in
    let d = some_there (cores s) c few in
    let q = some_there plans c below in
    record { declaration = d.0; plan = q.0; there = d.1; planned = q.1; stands = p.stand c d.0 q.0 d.1 q.1 }

abbrev pub EntryIs : List ConstructorPlan → ℕ → Entry → Type 0
EntryIs plans c e = option_map (λ (p : ConstructorPlan). p.entry) (slice_get plans c) ≡ Some e

abbrev pub InputsAre : List ConstructorPlan → ℕ → List PlanInput → Type 0
InputsAre plans c xs = option_map (λ (p : ConstructorPlan). p.inputs) (slice_get plans c) ≡ Some xs

abbrev pub OutputsAre : List ConstructorPlan → ℕ → List ℕ → Type 0
OutputsAre plans c xs = option_map (λ (p : ConstructorPlan). p.outputs) (slice_get plans c) ≡ Some xs

module _ (s : SchemaView) (f : Flat) (plans : List ConstructorPlan) (c : ℕ) (planned : Planned s f plans)
    (below : c < length plans) (e : Entry) (entry : EntryIs plans c e) where
  pub entry_range : IsRange f.ops e.first e.count
  entry_range =
      let b = built_at s f plans c planned below in
      let same = had (λ (p : ConstructorPlan). p.entry) (slice_get plans c) b.plan e b.planned entry in
      let T : Entry → Type 0 = λ z. IsRange f.ops z.first z.count in
      subst T same b.stands.there

  pub entry_sound : OpsAreSound f (length f.types) (range f.ops e.first e.count)
  entry_sound =
      let b = built_at s f plans c planned below in
      let same = had (λ (p : ConstructorPlan). p.entry) (slice_get plans c) b.plan e b.planned entry in
      let T : Entry → Type 0 = λ z. OpsAreSound f (length f.types) (range f.ops z.first z.count) in
      subst T same b.stands.sound

  -- at its core form
  module _ (d : Declaration) (there : slice_get (cores s) c ≡ Some d) where
    pub entry_items : record_at f e.first e.count ≡ d.core.items
    entry_items =
        let q = some_there plans c below in
        let st = planned.stand c d q.0 there q.1 in
        let same = had (λ (p : ConstructorPlan). p.entry) (slice_get plans c) q.0 e q.1 entry in
        ap (λ (z : Entry). record_at f z.first z.count) (sym same) ∙ st.items

    pub entry_fit : (inputs : List PlanInput) (args : ClosedArgs) → InputsAre plans c inputs
        → meet_all (map input_of inputs) args (unset e.slots) ≡ fit d.core args
    entry_fit inputs args are =
        let q = some_there plans c below in
        let st = planned.stand c d q.0 there q.1 in
        let same = had (λ (p : ConstructorPlan). p.entry) (slice_get plans c) q.0 e q.1 entry in
        let ins = had (λ (p : ConstructorPlan). p.inputs) (slice_get plans c) q.0 inputs q.1 are in
        ap (λ z. meet_all (map input_of z) args (unset e.slots)) (sym ins)
        ∙ ap (λ (z : Entry). meet_all (map input_of q.0.inputs) args (unset z.slots)) (sym same)
        ∙ ap (λ z. meet_all z args (unset q.0.entry.slots)) st.inputs
        ∙ ap (λ z. meet_all d.core.inputs args (unset z)) st.slots

    pub entry_outputs : (outs : List ℕ) → OutputsAre plans c outs → map (expr_at f) outs ≡ d.core.outputs
    entry_outputs outs are =
        let q = some_there plans c below in
        let st = planned.stand c d q.0 there q.1 in
        let same = had (λ (p : ConstructorPlan). p.outputs) (slice_get plans c) q.0 outs q.1 are in
        ap (map (expr_at f)) (sym same) ∙ st.outputs

-- where it fits, its inputs are met
pub fits_some : (s : SchemaView) (f : Flat) (plans : List ConstructorPlan) (c : ℕ) → Planned s f plans → c < length plans
    → (e : Entry) → EntryIs plans c e → (inputs : List PlanInput) (args : ClosedArgs) → InputsAre plans c inputs
    → ((d : Declaration) → slice_get (cores s) c ≡ Some d → IsSome (fit d.core args))
    → None ≡ meet_all (map input_of inputs) args (unset e.slots) → ⊥
fits_some s f plans c planned below e entry inputs args are fits none =
    let b = built_at s f plans c planned below in
    let o = some_of (fit b.declaration.core args) (fits b.declaration b.there) in
    none-some o.0 (none ∙ entry_fit s f plans c planned below e entry b.declaration b.there inputs args are ∙ o.1)

-- what the inputs bind
pub fit_binds : (s : SchemaView) (f : Flat) (plans : List ConstructorPlan) (c : ℕ) → Planned s f plans → c < length plans
    → (e : Entry) → EntryIs plans c e → (d : Declaration) → slice_get (cores s) c ≡ Some d
    → (inputs : List PlanInput) (args : ClosedArgs) → InputsAre plans c inputs → (bound scope : Scope)
    → Some bound ≡ meet_all (map input_of inputs) args (unset e.slots) → fit d.core args ≡ Some scope → bound ≡ scope
fit_binds s f plans c planned below e entry d there inputs args are bound scope met fits =
    same_Some bound scope (met ∙ entry_fit s f plans c planned below e entry d there inputs args are ∙ fits)

-- the operations of its record, as they were looked up
pub entry_ops : (s : SchemaView) (f : Flat) (plans : List ConstructorPlan) (c : ℕ) → Planned s f plans → c < length plans
    → (e : Entry) → EntryIs plans c e → (d : Declaration) → slice_get (cores s) c ≡ Some d
    → (ops : List PlanOp) → ops ≡ range f.ops e.first e.count → items_in f (type_at f) None ops ≡ d.core.items
entry_ops s f plans c planned below e entry d there ops is =
    ap (items_in f (type_at f) None) is ∙ entry_items s f plans c planned below e entry d there

pub outputs_plain : (s : SchemaView) (f : Flat) (plans : List ConstructorPlan) (c : ℕ) → Planned s f plans → c < length plans
    → (outs : List ℕ) → OutputsAre plans c outs → All (IsPlainNumber f) outs
outputs_plain s f plans c planned below outs are =
    let b = built_at s f plans c planned below in
    let same = had (λ (p : ConstructorPlan). p.outputs) (slice_get plans c) b.plan outs b.planned are in
    let T : List ℕ → Type 0 = λ z. All (IsPlainNumber f) z in
    subst T same b.stands.plain

-- ---- a record of a declared type

-- The constructor that is shown by the record's name, and its fields that are due.
pub record Shown (schema : CoreSchema) (k : Rests) (most : ℕ) (type : Word) (args : ClosedArgs) (name : Option Word)
    (fields : List (List ℕ × Plain)) (d : Laid) (outs : List ℕ) (after : Slice) (cell : Cutting) : Type 0 where
  pub shown : Word
  pub called : name ≡ Some shown
  pub at : ℕ
  pub declaration : Declaration
  pub there : slice_get schema at ≡ Some declaration
  pub of_type : declaration.of_type ≡ type
  pub is_shown : declaration.shown ≡ shown
  pub scope : Scope
  pub fits : fit declaration.core args ≡ Some scope
  pub end : Scope
  pub due : Due schema k most end after (cell.made.items ++ cut_for k d) declaration.core.items scope fields cell
  pub outputs : values_in declaration.core.outputs end ≡ Some outs

record_name : (a b : Option Word) (xs ys : List (List ℕ)) (vs ws : Plains)
    → values.record_of a xs vs ≡ values.record_of b ys ws → a ≡ b
record_name a b xs ys vs ws e = cc

record_names : (a b : Option Word) (xs ys : List (List ℕ)) (vs ws : Plains)
    → values.record_of a xs vs ≡ values.record_of b ys ws → xs ≡ ys
record_names a b xs ys vs ws e = cc

record_values : (a b : Option Word) (xs ys : List (List ℕ)) (vs ws : Plains)
    → values.record_of a xs vs ≡ values.record_of b ys ws → vs ≡ ws
record_values a b xs ys vs ws e = cc

module _ (schema : CoreSchema) (k : Rests) (most : ℕ) (type : Word) (args : ClosedArgs) (name : Option Word)
    (fields : List (List ℕ × Plain)) (cell : Cutting) (outs : List ℕ) (after : Slice) where
  pub shown_by : (d : Laid) → Is d (values.record_of name (names_in fields) (vals_in fields)) (most + 1)
      → Lies (SpellsLaidShape schema d (typed (closed.named type args))) cell.left outs after
      → Shown schema k most type args name fields d outs after cell
  shown_by (number negative size) is l = let e = is.value in absurd (cc)
  shown_by (bit_string bits) is l = let e = is.value in absurd (cc)
  shown_by (record_of (Some shown) names ds) is l =
      let s = l.spelled in
      let meets = s.5 in
      let names_are = record_names (Some shown) name names (names_in fields) (plain_all ds) (vals_in fields) is.value in
      let values_are = record_values (Some shown) name names (names_in fields) (plain_all ds) (vals_in fields) is.value in
      let taken = s.7 in
      let deep = is.deep in
      record {
        shown = shown;
        called = sym (record_name (Some shown) name names (names_in fields) (plain_all ds) (vals_in fields) is.value);
        at = s.0;
        declaration = s.1;
        there = meets.there;
        of_type = meets.of_type;
        is_shown = meets.shown;
        scope = s.2;
        fits = fit_complete s.1.core args s.2 meets.fitting;
        end = s.4;
        due = record {
          laids = ds;
          are = record { values = values_are; deep = omega (arith, deep) };
          before = s.3;
          refs = sym taken.refs ∙ l.refs;
          clean = l.clean;
          spelled = s.8;
          made = ap (λ (z : List (List ℕ)). cell.made.items ++ cut_fields_for k z ds) (sym names_are);
        };
        outputs = s.9;
      }
  shown_by (record_of None names ds) is l = absurd l.spelled
  shown_by absent is l = let e = is.value in absurd (cc)
  shown_by (list_of ds) is l = let e = is.value in absurd (cc)
  shown_by (ref_to c d) is l = let e = is.value in absurd (cc)
  shown_by (ref_to_raw c) is l = let e = is.value in absurd (cc)
  shown_by no_map is l = let e = is.value in absurd (cc)
  shown_by (map_under c e) is l = let e = is.value in absurd (cc)
  shown_by (map_here e) is l = let e = is.value in absurd (cc)
  shown_by (rest s) is l = let e = is.value in absurd (cc)

  -- it is found by its name
  pub found_named : (d : Laid) (x : Shown schema k most type args name fields d outs after cell) (word : Word)
      → name ≡ Some word → IsNamed type args word x.declaration
  found_named d x word is =
      let same : x.shown ≡ word = same_Some x.shown word (sym x.called ∙ is) in
      record { of_type = x.of_type; shown = x.is_shown ∙ same; fits = ap is_some x.fits }

pub planned_there : (s : SchemaView) (f : Flat) (plans : List ConstructorPlan) (c : ℕ) → Planned s f plans
    → c < length (cores s) → c < length plans
planned_there s f plans c p below =
    let count = core_count s [] s in
    let all = p.count in
    omega (arith, below, count, all)

pub outputs_are : (exprs core : List Expr) (scope end : Scope) (found : Option (List ℕ)) (outs : List ℕ) → exprs ≡ core
    → found ≡ values_in exprs scope → scope ≡ end → values_in core end ≡ Some outs → found ≡ Some outs
outputs_are exprs core scope end found outs same is at all =
    is ∙ ap (λ (z : List Expr). values_in z scope) same ∙ ap (λ (z : Scope). values_in core z) at ∙ all
