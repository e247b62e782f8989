-- A record of a declared type: the constructor that is looked up, and the fields that are due.
use Rattle.std.proofs.Common.{◌≡◌, ℕ, ◌+◌, ◌<◌, List, ◌++◌, Option, Some, None, length, map, ap, sym, ◌∙◌, subst, slice_get, is_some}
use Rattle.std.proofs.lemmas.Option.{none-some, same_Some}
use Rattle.closed_type.specs.declared.tree.ClosedType.{ClosedType}
use Rattle.core_form.specs.Closed.{ClosedArgs}
use Rattle.core_form.specs.Closed as closed
use Rattle.core_form.specs.Core.{Declaration, Items, Word}
use Rattle.core_form.specs.Fit.{fit, meet_all}
use Rattle.core_form.specs.Scope.{Scope, unset, values_in}
use Rattle.field_plan.specs.Choosing.{IsNamed}
use Rattle.field_plan.specs.Planned.{Planned}
use Rattle.flat_form.specs.Stands.{expr_at, input_of, items_in, range, type_at}
use Rattle.flat_form.specs.declared.lists.ConstructorPlan.{ConstructorPlan}
use Rattle.flat_form.specs.declared.lists.Entry.{Entry}
use Rattle.flat_form.specs.declared.lists.Flat.{Flat}
use Rattle.flat_form.specs.declared.lists.PlanInput.{PlanInput}
use Rattle.flat_form.specs.declared.lists.PlanOp.{PlanOp}
use Rattle.hashmap_tree.specs.Entries.{Slice}
use Rattle.nat_solver.specs.Number.{Numbers}
use Rattle.plan_closing.specs.Counted.{scope_of}
use Rattle.plan_reading.specs.Slots.{slots_view}
use Rattle.plan_reading.specs.declared.fits.Slots.{Slots}
use Rattle.schema_leads.specs.Tags.{cores}
use Rattle.spelling.specs.Goals.{typed}
use Rattle.tlb_syntax.specs.Tree.{SchemaView}
use Rattle.typed_value.specs.Values.{Plain}
use Rattle.typed_value.specs.Values as values
use Rattle.typed_value.specs.View.{names_in, pair_of, record_parts, vals_in}
use Rattle.typed_value.specs.declared.value.Record.{Record}
use Rattle.typed_value.specs.declared.value.Value.{Value}
use Rattle.pruning.specs.Laid.{Laid}
use Rattle.pruning.specs.SpellsLaid.{SpellsLaidShape}
use Rattle.pruned_proof.specs.Walks.{Due, Is, Lies}
use Rattle.pruned_proof.specs.Wanted.{Rests, cut_for}
use Rattle.pruned_proof.specs.declared.cutting.Cutting.{Cutting}
use Rattle.pruned_proof.proofs.Chosen.{EntryIs, InputsAre, OutputsAre, Shown, entry_ops, entry_outputs, fit_binds, fits_some, found_named}
use Rattle.pruned_proof.proofs.Chosen.{outputs_are, planned_there, shown_by}
use Rattle.pruned_proof.proofs.Seen.{is_record}

-- this is the constructor of that name, if one is
abbrev IsOnly : SchemaView → Word → ClosedArgs → Word → Option ℕ → Type 0
IsOnly s type args shown found =
    (at : ℕ) (x : Declaration) → slice_get (cores s) at ≡ Some x → IsNamed type args shown x → found ≡ Some at

module _ (s : SchemaView) (k : Rests) (most : ℕ) (type : Word) (args : ClosedArgs) (r : Record) (cell : Cutting)
    (outs : List ℕ) (after : Slice) (d : Laid)
    (is : Is d (values.record_of (record_parts r).0 (names_in (record_parts r).1) (vals_in (record_parts r).1)) (most + 1))
    (l : Lies (SpellsLaidShape (cores s) d (typed (closed.named type args))) cell.left outs after) where
  abbrev fields : List (List ℕ × Plain)
  fields = map pair_of r.fields

  seen : Shown (cores s) k most type args r.name fields d outs after cell
  seen = shown_by (cores s) k most type args r.name fields cell outs after d (is_record d r (most + 1) is) l

  pub no_name : None ≡ r.name → ⊥
  no_name e = none-some seen.shown (e ∙ seen.called)

  module _ (shown : Word) (called : r.name ≡ Some shown) where
    pub no_constructor : IsOnly s type args shown None → ⊥
    no_constructor only =
        none-some seen.at (only seen.at seen.declaration seen.there
        (found_named (cores s) k most type args r.name fields cell outs after d seen shown called))

    module _ (n : ℕ) (only : IsOnly s type args shown (Some n)) where
      at_constructor : slice_get (cores s) n ≡ Some seen.declaration
      at_constructor =
          let named = found_named (cores s) k most type args r.name fields cell outs after d seen shown called in
          ap (slice_get (cores s)) (same_Some n seen.at (only seen.at seen.declaration seen.there named)) ∙ seen.there

      -- by its plan
      module _ (f p : Flat) (plans : List ConstructorPlan) (same : f ≡ p) (stands : Planned s f plans)
          (low : n < length (cores s)) (e : Entry) (entry : EntryIs plans n e) (inputs : List PlanInput)
          (given : InputsAre plans n inputs) where
        planned : Planned s p plans
        planned = let P : Flat → Type 0 = λ z. Planned s z plans in subst P same stands

        within : n < length plans
        within = planned_there s p plans n planned low

        pub no_fit : None ≡ meet_all (map input_of inputs) args (unset e.slots) → ⊥
        no_fit none =
            fits_some s p plans n planned within e entry inputs args given
            (λ x at. let one = same_Some seen.declaration x (sym at_constructor ∙ at) in
            ap (λ (z : Declaration). is_some (fit z.core args)) (sym one) ∙ ap is_some seen.fits)
            none

        -- what is due of the fields, by the operations and the slots that are looked up
        pub record Entered (ops : List PlanOp) (numbers : Numbers) (types : List (Option ClosedType))
            (shown_fields : List (List ℕ × Value)) : Type 0 where
          pub end : Scope
          pub due : Due (cores s) k most end after (cell.made.items ++ cut_for k d) (items_in p (type_at p) None ops)
              (scope_of numbers types) (map pair_of shown_fields) cell
          pub gives : (now : Numbers) (outputs : List ℕ) (found : Option (List ℕ)) → OutputsAre plans n outputs
              → found ≡ values_in (map (expr_at f) outputs) (scope_of now types) → scope_of now types ≡ end → found ≡ Some outs

        pub entered : (slots : Slots) → Some (slots_view slots) ≡ meet_all (map input_of inputs) args (unset e.slots)
            → (types : List (Option ClosedType)) → types ≡ slots.types.items
            → (ops : List PlanOp) → ops ≡ range f.ops e.first e.count
            → (shown_fields : List (List ℕ × Value)) → shown_fields ≡ r.fields
            → Entered ops slots.numbers types shown_fields
        entered slots fits types types_are ops ops_are shown_fields fields_are =
            let looked = ops_are ∙ ap (λ (z : Flat). range z.ops e.first e.count) same in
            let items = entry_ops s p plans n planned within e entry seen.declaration at_constructor ops looked in
            let bound = ap (scope_of slots.numbers) types_are
            ∙ fit_binds s p plans n planned within e entry seen.declaration at_constructor inputs args given
            (slots_view slots) seen.scope fits seen.fits in
            let all = cell.made.items ++ cut_for k d in
            let D : Items → Scope → List (List ℕ × Plain) → Type 0 = λ x y z. Due (cores s) k most seen.end after all x y z cell in
            let scope = scope_of slots.numbers types in
            let due = subst (λ z. D seen.declaration.core.items z fields) (sym bound) seen.due in
            let here = subst (λ z. D z scope fields) (sym items) due in
            record {
              end = seen.end;
              due = subst (λ z. D (items_in p (type_at p) None ops) scope (map pair_of z)) (sym fields_are) here;
              gives = λ now outputs found are is_found at.
                  let V : Flat → Type 0 = λ z. found ≡ values_in (map (expr_at z) outputs) (scope_of now types) in
                  outputs_are (map (expr_at p) outputs) seen.declaration.core.outputs (scope_of now types) seen.end found outs
                  (entry_outputs s p plans n planned within e entry seen.declaration at_constructor outputs are)
                  (subst V same is_found) at seen.outputs;
            }
