-- A constructor that is entered, and the declared type that it is of.
use Rattle.std.proofs.Common.{◌≡◌, ℕ, zero, suc, ◌+◌, ◌<◌, ◌≤◌, List, [], ◌∷◌, ◌++◌, All, Bool, true, false, Option, Some}
use Rattle.std.proofs.Common.{None, IsSome, Result, Ok, Err, length, map, drop, take, refl, ap, sym, ◌∙◌, subst, arith}
use Rattle.std.proofs.Common.{slice_get, option_map, nat_le, cond}
use Rattle.std.proofs.lemmas.Bool.{false≢true, le-leb}
use Rattle.std.proofs.lemmas.Option.{none-some, same_Some}
use Rattle.bit_slice.specs.Bits.{taken}
use Rattle.tlb_syntax.specs.Tree.{SchemaView}
use Rattle.schema_core.specs.Cores.{cores_after}
use Rattle.schema_leads.specs.Tags.{cores, tag_of}
use Rattle.core_form.specs.Closed.{ClosedArgs}
use Rattle.core_form.specs.Core.{Constructor}
use Rattle.core_form.specs.Fit.{fit, meet_all}
use Rattle.core_form.specs.Scope.{unset}
use Rattle.flat_form.specs.Entries.{StandsFor}
use Rattle.flat_form.specs.Sound.{IsPlainNumber, IsRange, OpsAreSound}
use Rattle.flat_form.specs.Stands.{expr_at, input_of, items_in, range, record_at, type_at}
use Rattle.flat_form.specs.declared.lists.ConstructorPlan.{ConstructorPlan}
use Rattle.flat_form.specs.declared.lists.Entry.{Entry}
use Rattle.flat_form.specs.declared.lists.Flat.{Flat}
use Rattle.flat_form.specs.declared.lists.PlanInput.{PlanInput}
use Rattle.flat_form.specs.declared.lists.PlanOp.{PlanOp}
use Rattle.field_plan.specs.Planned.{Planned}
use Rattle.core_form.specs.Core.{CoreSchema, Declaration, Items, Word, field_names}
use Rattle.core_form.specs.Scope.{Scope, values_in}
use Rattle.hashmap_tree.specs.Entries.{Slice}
use Rattle.nat_solver.specs.Number.{Expr}
use Rattle.plan_reading.specs.StopLaws.{stops_at, stops_moved, stops_then}
use Rattle.plan_reading.specs.Stops.{Stops, StopsAt}
use Rattle.plan_reading.specs.declared.stop.StopError.{StopError}
use Rattle.spelling.specs.Places.{Place, Spot, result_of, start, stuck}
use Rattle.spelling.specs.PlainReader.{◌>>=◌, Choice, Found, Got, Reader, after_tag, known, read_declared, read_fields}
use Rattle.spelling.specs.declared.Cause.TheVariants.{NoConstructor, Overflow}
use Rattle.spelling_laws.specs.StepLaws.{when_true}
use Rattle.typed_value.specs.Values.{Plains, record_of}
use Rattle.typed_value.specs.View.{value}
use Rattle.typed_value.specs.declared.value.Value.{Value}
use Rattle.cell_nodes.specs.declared.tree.Tree.{Tree}
use Rattle.typed_reader.specs.Begun.{entered}
use Rattle.typed_reader.proofs.Steps.{goes_on, stops_same}

-- an element of a list at a number below its length
pub some_there : {A : Type 0} (xs : List A) (k : ℕ) → k < length xs → (x : A) × (slice_get xs k ≡ Some x)
some_there [] k below = absurd (omega (arith, below))
some_there (x ∷ xs) zero below = (x, refl)
some_there (x ∷ xs) (suc k) below = some_there xs k (omega (arith, below))

-- what a constructor gives, by its fields
abbrev result : Declaration → Got → Result Found Place
result d x =
    known (result_of (start d)) (values_in d.core.outputs x.1)
    >>= (λ outs. Ok (let y : Found = (record_of (Some d.shown) (field_names d.core.items) x.0, outs, x.2) in y))

pub constructor_read : (R : Reader) (d : Declaration) (items : Items) (exprs : List Expr) (scope after : Scope) (q : ℕ)
    (s left : Slice) (names : List Word) (vs : Plains) (outs : List ℕ)
    → items ≡ d.core.items → exprs ≡ d.core.outputs → names ≡ field_names items
    → read_fields R (start d) items scope q s ≡ Ok (let x : Got = (vs, after, left) in x)
    → Some outs ≡ values_in exprs after
    → entered R d scope q s ≡ Ok (let y : Found = (record_of (Some d.shown) names vs, outs, left) in y)
constructor_read R d items exprs scope after q s left names vs outs same_items same_exprs named read known_outs =
    let x : Got = (vs, after, left) in
    goes_on (read_fields R (start d) d.core.items scope q s) (result d) x
    (ap (λ is. read_fields R (start d) is scope q s) (sym same_items) ∙ read)
    ∙ ap (λ o. known (result_of (start d)) o
    >>= (λ outs. Ok (let y : Found = (record_of (Some d.shown) (field_names d.core.items) vs, outs, left) in y)))
    (sym (known_outs ∙ ap (λ es. values_in es after) same_exprs))
    ∙ ap (λ ns. Ok (let y : Found = (record_of (Some d.shown) ns vs, outs, left) in y))
    (sym (named ∙ ap field_names same_items))

pub constructor_stops : (R : Reader) (d : Declaration) (items : Items) (scope : Scope) (q : ℕ) (s : Slice) (e : StopError)
    → items ≡ d.core.items
    → Stops (start d) e (read_fields R (start d) items scope q s)
    → Stops (start d) e (entered R d scope q s)
constructor_stops R d items scope q s e same_items stop =
    stops_then (start d) e (read_fields R (start d) d.core.items scope q s) (result d)
    (stops_same (start d) e (read_fields R (start d) d.core.items scope q s) (read_fields R (start d) items scope q s)
    (ap (λ is. read_fields R (start d) is scope q s) (sym same_items)) stop)

pub constructor_overflows : (R : Reader) (d : Declaration) (items : Items) (exprs : List Expr) (scope after : Scope) (q : ℕ)
    (s left : Slice) (vs : Plains) (e : StopError)
    → items ≡ d.core.items → exprs ≡ d.core.outputs
    → read_fields R (start d) items scope q s ≡ Ok (let x : Got = (vs, after, left) in x)
    → None ≡ values_in exprs after
    → StopsAt (start d) e (stuck (result_of (start d)) Overflow)
    → Stops (start d) e (entered R d scope q s)
constructor_overflows R d items exprs scope after q s left vs e same_items same_exprs read unknown at =
    let x : Got = (vs, after, left) in
    stops_at (start d) e (stuck (result_of (start d)) Overflow) (entered R d scope q s) at
    (goes_on (read_fields R (start d) d.core.items scope q s) (result d) x
    (ap (λ is. read_fields R (start d) is scope q s) (sym same_items) ∙ read)
    ∙ ap (λ o. known (result_of (start d)) o
    >>= (λ outs. Ok (let y : Found = (record_of (Some d.shown) (field_names d.core.items) vs, outs, left) in y)))
    (sym (unknown ∙ ap (λ es. values_in es after) same_exprs)))

-- ---- a declared type, by the choice

pub none_enters : (R : Reader) (h : Spot) (o : Option Choice) (q : ℕ) (s : Slice) (e : StopError)
    → o ≡ None → StopsAt h e (stuck h NoConstructor) → Stops h e (read_declared R h o q s)
none_enters R h o q s e none at =
    stops_at h e (stuck h NoConstructor) (read_declared R h o q s) at (ap (λ z. read_declared R h z q s) none)

pub one_enters : (R : Reader) (h : Spot) (o : Option Choice) (d : Declaration) (scope : Scope) (q : ℕ) (s : Slice)
    → o ≡ Some (let c : Choice = (d, scope) in c)
    → read_declared R h o q s ≡ entered R d scope q (after_tag d.core.tag s)
one_enters R h o d scope q s one = ap (λ z. read_declared R h z q s) one

-- ---- a constructor of a plan

pub core_count : (types before cs : SchemaView) → length (cores_after types tag_of before cs) ≡ length cs
core_count types before [] = refl
core_count types before (c ∷ cs) = ap suc (core_count types (before ++ c ∷ []) cs)

-- what is known of an element
pub had : {A B : Type 0} (g : A → B) (o : Option A) (x : A) (y : B) → o ≡ Some x → option_map g o ≡ Some y → g x ≡ y
had g o x y at is = same_Some (g x) y (sym (ap (option_map g) at) ∙ is)

pub some_of : {A : Type 0} (o : Option A) → IsSome o → (x : A) × (o ≡ Some x)
some_of None there = absurd (false≢true there)
some_of (Some x) there = (x, refl)

-- a constructor by its number: its core form, and what stands for it
pub record Built (s : SchemaView) (f : Flat) (plans : List ConstructorPlan) (c : ℕ) : Type 0 where
  pub declaration : Declaration
  pub plan : ConstructorPlan
  pub there : slice_get (cores s) c ≡ Some declaration
  pub planned : slice_get plans c ≡ Some plan
  pub stands : StandsFor f plan declaration.core

pub built_at : (s : SchemaView) (f : Flat) (plans : List ConstructorPlan) (c : ℕ) → Planned s f plans → c < length plans
    → Built s f plans c
built_at s f plans c p below =
    let few : c < length (cores s) = omega (arith, below, p.count, core_count s [] s) in
    let d = some_there (cores s) c few in
    let q = some_there plans c below in
    record { declaration = d.0; plan = q.0; there = d.1; planned = q.1; stands = p.stand c d.0 q.0 d.1 q.1 }

abbrev EntryIs : List ConstructorPlan → ℕ → Entry → Type 0
EntryIs plans c e = option_map (λ (p : ConstructorPlan). p.entry) (slice_get plans c) ≡ Some e

abbrev InputsAre : List ConstructorPlan → ℕ → List PlanInput → Type 0
InputsAre plans c xs = option_map (λ (p : ConstructorPlan). p.inputs) (slice_get plans c) ≡ Some xs

abbrev OutputsAre : List ConstructorPlan → ℕ → List ℕ → Type 0
OutputsAre plans c xs = option_map (λ (p : ConstructorPlan). p.outputs) (slice_get plans c) ≡ Some xs

module _ (s : SchemaView) (f : Flat) (plans : List ConstructorPlan) (c : ℕ) (planned : Planned s f plans)
    (below : c < length plans) (e : Entry) (entry : EntryIs plans c e) where
  pub entry_range : IsRange f.ops e.first e.count
  entry_range =
      let b = built_at s f plans c planned below in
      let same = had (λ (p : ConstructorPlan). p.entry) (slice_get plans c) b.plan e b.planned entry in
      let T : Entry → Type 0 = λ z. IsRange f.ops z.first z.count in
      subst T same b.stands.there

  pub entry_sound : OpsAreSound f (length f.types) (range f.ops e.first e.count)
  entry_sound =
      let b = built_at s f plans c planned below in
      let same = had (λ (p : ConstructorPlan). p.entry) (slice_get plans c) b.plan e b.planned entry in
      let T : Entry → Type 0 = λ z. OpsAreSound f (length f.types) (range f.ops z.first z.count) in
      subst T same b.stands.sound

  -- at its core form
  module _ (d : Declaration) (there : slice_get (cores s) c ≡ Some d) where
    pub entry_items : record_at f e.first e.count ≡ d.core.items
    entry_items =
        let q = some_there plans c below in
        let st = planned.stand c d q.0 there q.1 in
        let same = had (λ (p : ConstructorPlan). p.entry) (slice_get plans c) q.0 e q.1 entry in
        ap (λ (z : Entry). record_at f z.first z.count) (sym same) ∙ st.items

    pub entry_fit : (inputs : List PlanInput) (args : ClosedArgs) → InputsAre plans c inputs
        → meet_all (map input_of inputs) args (unset e.slots) ≡ fit d.core args
    entry_fit inputs args are =
        let q = some_there plans c below in
        let st = planned.stand c d q.0 there q.1 in
        let same = had (λ (p : ConstructorPlan). p.entry) (slice_get plans c) q.0 e q.1 entry in
        let ins = had (λ (p : ConstructorPlan). p.inputs) (slice_get plans c) q.0 inputs q.1 are in
        ap (λ z. meet_all (map input_of z) args (unset e.slots)) (sym ins)
        ∙ ap (λ (z : Entry). meet_all (map input_of q.0.inputs) args (unset z.slots)) (sym same)
        ∙ ap (λ z. meet_all z args (unset q.0.entry.slots)) st.inputs
        ∙ ap (λ z. meet_all d.core.inputs args (unset z)) st.slots

    pub entry_outputs : (outs : List ℕ) → OutputsAre plans c outs → map (expr_at f) outs ≡ d.core.outputs
    entry_outputs outs are =
        let q = some_there plans c below in
        let st = planned.stand c d q.0 there q.1 in
        let same = had (λ (p : ConstructorPlan). p.outputs) (slice_get plans c) q.0 outs q.1 are in
        ap (map (expr_at f)) (sym same) ∙ st.outputs

-- where it fits, its inputs are met
pub fits_some : (s : SchemaView) (f : Flat) (plans : List ConstructorPlan) (c : ℕ) → Planned s f plans → c < length plans
    → (e : Entry) → EntryIs plans c e → (inputs : List PlanInput) (args : ClosedArgs) → InputsAre plans c inputs
    → ((d : Declaration) → slice_get (cores s) c ≡ Some d → IsSome (fit d.core args))
    → None ≡ meet_all (map input_of inputs) args (unset e.slots) → ⊥
fits_some s f plans c planned below e entry inputs args are fits none =
    let b = built_at s f plans c planned below in
    let o = some_of (fit b.declaration.core args) (fits b.declaration b.there) in
    none-some o.0 (none ∙ entry_fit s f plans c planned below e entry b.declaration b.there inputs args are ∙ o.1)

-- what the inputs bind
pub fit_binds : (s : SchemaView) (f : Flat) (plans : List ConstructorPlan) (c : ℕ) → Planned s f plans → c < length plans
    → (e : Entry) → EntryIs plans c e → (d : Declaration) → slice_get (cores s) c ≡ Some d
    → (inputs : List PlanInput) (args : ClosedArgs) → InputsAre plans c inputs → (bound scope : Scope)
    → Some bound ≡ meet_all (map input_of inputs) args (unset e.slots) → fit d.core args ≡ Some scope → bound ≡ scope
fit_binds s f plans c planned below e entry d there inputs args are bound scope met fits =
    same_Some bound scope (met ∙ entry_fit s f plans c planned below e entry d there inputs args are ∙ fits)

-- the operations of its record, as they were looked up
pub entry_ops : (s : SchemaView) (f : Flat) (plans : List ConstructorPlan) (c : ℕ) → Planned s f plans → c < length plans
    → (e : Entry) → EntryIs plans c e → (d : Declaration) → slice_get (cores s) c ≡ Some d
    → (ops : List PlanOp) → ops ≡ range f.ops e.first e.count → items_in f (type_at f) None ops ≡ d.core.items
entry_ops s f plans c planned below e entry d there ops is =
    ap (items_in f (type_at f) None) is ∙ entry_items s f plans c planned below e entry d there

pub outputs_plain : (s : SchemaView) (f : Flat) (plans : List ConstructorPlan) (c : ℕ) → Planned s f plans → c < length plans
    → (outs : List ℕ) → OutputsAre plans c outs → All (IsPlainNumber f) outs
outputs_plain s f plans c planned below outs are =
    let b = built_at s f plans c planned below in
    let same = had (λ (p : ConstructorPlan). p.outputs) (slice_get plans c) b.plan outs b.planned are in
    let T : List ℕ → Type 0 = λ z. All (IsPlainNumber f) z in
    subst T same b.stands.plain

-- ---- after the tag

taken_some : (b : Bool) (x y : List ℕ × List ℕ) → cond b (Some x) None ≡ Some y → x ≡ y
taken_some true x y e = same_Some x y e
taken_some false x y e = cc

pub tag_there : (s : SchemaView) (c : ℕ) → c < length (cores s) → c < length s
tag_there s c below = omega (arith, below, core_count s [] s)

pub taken_within : (n : ℕ) (bits : List ℕ) → n ≤ length bits → None ≡ taken n bits → ⊥
taken_within n bits within none =
    let some : taken n bits ≡ Some (take n bits, drop n bits) =
    when_true {A = Option (List ℕ × List ℕ)} (nat_le n (length bits)) (Some (take n bits, drop n bits)) None
    (le-leb n (length bits) within) in
    none-some (take n bits, drop n bits) (none ∙ some)

abbrev slice_with : List ℕ → List Tree → Slice
slice_with bits refs = record { bits = bits; refs = refs }

rest_taken : (n : ℕ) (bits first rest : List ℕ) → taken n bits ≡ Some (first, rest) → drop n bits ≡ rest
rest_taken n bits first rest e =
    ap (λ (z : List ℕ × List ℕ). z.1) (taken_some (nat_le n (length bits)) (take n bits, drop n bits) (first, rest) e)

pub tag_taken : (tag found bits first rest : List ℕ) (n : ℕ) (refs : List Tree) → tag ≡ found → n ≡ length found
    → taken n bits ≡ Some (first, rest)
    → after_tag tag (record { bits = bits; refs = refs }) ≡ record { bits = rest; refs = refs }
tag_taken tag found bits first rest n refs same count e =
    let whole : length tag ≡ n = ap length same ∙ sym count in
    ap (λ z. slice_with z refs) (ap (λ k. drop k bits) whole ∙ rest_taken n bits first rest e)

pub found_shown : (x shown : Word) (names : List Word) (vs : Plains) (v : Value) (outs : List ℕ) (left : Slice)
    → x ≡ shown → value v ≡ record_of (Some shown) names vs
    → (◌≡◌ {A = Result Found Place} (Ok (record_of (Some x) names vs, outs, left)) (Ok (value v, outs, left)))
found_shown x shown names vs v outs left same is =
    ap (λ z. Ok (let y : Found = (z, outs, left) in y)) (ap (λ z. record_of (Some z) names vs) same ∙ sym is)
