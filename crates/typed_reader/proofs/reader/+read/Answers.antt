use Rattle.std.proofs.Common.{arith, ◌≡◌, ◌++◌, ◌∷◌, ◌∙◌, map, sym, ap, refl, [], None, Ok, Err, ◌<◌, rules, List, length}
use Rattle.std.proofs.Common.{subst, ℕ, ◌-◌, ◌+◌, drop, get_or, option_map, Some, slice_get}
use Rattle.std.proofs.lemmas.List.{map-append, nil_from_length, length-map}
use Rattle.std.proofs.lemmas.Result.{err_from_is_err_and}
use Rattle.std.specs.Vec.Iter.{into_iter_items}
use Rattle.cell_nodes.specs.declared.slice.CellSlice.{CellSlice}
use Rattle.closed_type.specs.View.{closed_type as type_view, closed_args}
use Rattle.core_form.specs.Core.{Word, check, Declaration}
use Rattle.core_form.specs.Scope.{Scope, values_in}
use Rattle.field_plan.specs.ChoosingLaws.{lead_covers_tag}
use Rattle.field_plan.specs.Planned.{Planned}
use Rattle.flat_form.specs.Sound.{IsRange, OpsAreSound}
use Rattle.flat_form.specs.Stands.{record_at, type_at, expr_at, name_at, items_in, range}
use Rattle.flat_form.specs.declared.lists.Flat.{Flat}
use Rattle.flat_form.specs.declared.lists.PlanOp.TheVariants.{Check, Field}
use Rattle.flat_form.specs.declared.lists.PlanOp.{PlanOp}
use Rattle.hashmap_tree.specs.Adds.{slice_of, pair_of as leaf_of}
use Rattle.hashmap_tree.specs.Entries.{Slice}
use Rattle.hashmap_tree.specs.First.{first_edge}
use Rattle.nat_solver.specs.declared.compare.Op.TheVariants.{Eq}
use Rattle.plan_closing.specs.Counted.{scope_of}
use Rattle.plan_reading.specs.Gives.{unchanged}
use Rattle.plan_reading.specs.Shaped.{governed}
use Rattle.plan_reading.specs.Slots.{slots_view}
use Rattle.plan_reading.specs.StopLaws.{stops_at, stops_moved}
use Rattle.plan_reading.specs.Stops.{StopsAt, Stops}
use Rattle.plan_reading.specs.declared.shapes.FlatShape.TheVariants.{Typed, Here, Under, LeftOut}
use Rattle.schema_leads.specs.Tags.{cores}
use Rattle.spelling.specs.Goals as goals
use Rattle.spelling.specs.Places.{stuck, field_of, item_of, start}
use Rattle.spelling.specs.PlainReader.{◌>>=◌, Found, at_edge, step, Got, read_fields, choose}
use Rattle.spelling.specs.declared.Cause.TheVariants.{Exotic, Leftover, ShortBits, ShortRefs, Width}
use Rattle.tlb_syntax.specs.View.{schema as schema_view, constructor}
use Rattle.typed_reader.proofs.Choices.{chooses_none, chosen_at}
use Rattle.typed_reader.proofs.Declared.{constructor_overflows, constructor_read, constructor_stops, entry_ops, entry_outputs}
use Rattle.typed_reader.proofs.Declared.{entry_range, entry_sound, fit_binds, fits_some, outputs_plain, found_shown, had}
use Rattle.typed_reader.proofs.Declared.{none_enters, one_enters, tag_taken, tag_there, taken_within}
use Rattle.typed_reader.proofs.Dicts.{as_map, as_pair, bit_one_short, bit_short, dict_leaf, first_stops, root_given, root_stops}
use Rattle.typed_reader.proofs.Fields.{SoFar, all_named, all_read, at_end, at_index, none_yet, one_more, one_stops}
use Rattle.typed_reader.proofs.Leaves.{Paired, all_paired, leaf_stops, none_paired, one_paired}
use Rattle.typed_reader.proofs.Levels.{begin_stops, reading_too_wide, reading_typed, within}
use Rattle.typed_reader.proofs.Records.{field_refused, field_shaped, fields_found, fields_stop, here_within, items_there}
use Rattle.typed_reader.proofs.Records.{ops_within, stopped_for, under_within, under_fields_stop, under_found, under_left_over}
use Rattle.typed_reader.proofs.Records.{under_none_begins, under_not_ordinary}
use Rattle.typed_reader.proofs.Refs.{cell_exotic, cell_raw, cell_stops, ref_short, whole_left}
use Rattle.typed_reader.proofs.Repeats.{Repeated, all_repeated, at_item, at_last, idle_stops, item_stops, none_repeated}
use Rattle.typed_reader.proofs.Repeats.{one_repeated}
use Rattle.typed_reader.proofs.Seen.{absent_seen, raw_seen, ref_seen}
use Rattle.typed_reader.proofs.Steps.{gives_err, gives_same, stops_same}
use Rattle.typed_reader.proofs.Turning.{check_stops, check_turned, field_stops, stops_as, turns_as, without_seen}
use Rattle.typed_reader.specs.Begun.{entered}
use Rattle.typed_reader.specs.View.{core_of, found_view, reader_of, values_of, outputs_of}
use Rattle.typed_value.specs.Values as forms
use Rattle.typed_value.specs.Values.{Plain, parts}
use Rattle.typed_value.specs.View.{names_in, pair_of, pairs_of, value as value_view}
use Rattle.typed_value.specs.declared.value.Value.TheVariants.{Raw}
use Rattle.typed_value.specs.declared.value.Value.{Value}
use Rattle.typed_reader.proofs.reader.+read.Goals as goal

pub read_cell-returns-in_default-clause-gives : goal.read_cell-returns-in_default-clause-gives
read_cell-returns-in_default-clause-gives t c =
    λ h. stops_at h c.stop_here.result (stuck h Exotic) _ (c.stop_here.ensures h)
    (cell_exotic (reader_of c.args.levels c.args.mode c.args.plan.now.0) h (type_view c.args.inner.now) c.args.begun.now
    c.args.cell.now
    (sym c.if-is_whole.ensures) c.in_default.ensures)

pub read_cell-returns-in_err-begin-clause-gives : goal.read_cell-returns-in_err-begin-clause-gives
read_cell-returns-in_err-begin-clause-gives t c =
    let p = err_from_is_err_and c.from_residual.result c.from_residual.ensures.1 in
    λ h. gives_err h value_view c.from_residual.result c.in_err-begin.field-0.0 _ (p.1 ∙ ap Err p.2)
    (cell_stops c.args.levels c.args.mode (core_of c.args.plan.now.0) h (type_view c.args.inner.now) c.args.begun.now
    c.args.cell.now
    c.in_err-begin.field-0.0 (sym c.if-is_whole.ensures) (c.in_err-begin.ensures.begins h))

pub read_cell-returns-then-is_whole-clause-gives : goal.read_cell-returns-then-is_whole-clause-gives
read_cell-returns-then-is_whole-clause-gives t c =
    let v : value_view (Raw c.in_ok-share.field-0) ≡ forms.raw c.args.cell.now =
    raw_seen c.in_ok-share.field-0 ∙ ap forms.raw c.in_ok-share.ensures in
    λ h. cell_raw c.args.levels c.args.mode (core_of c.args.plan.now.0) h (type_view c.args.inner.now) c.args.begun.now _
    c.args.cell.now (sym c.if-is_whole.ensures) (c.in_ok-begin.ensures.begins h) ∙ ap Ok (sym v)

pub read_closed-returns-clause-gives : goal.read_closed-returns-clause-gives
read_closed-returns-clause-gives t c =
    λ h. gives_same h found_view c.read_type.result _ _
    (reading_typed c.args.levels c.args.mode (core_of c.args.plan.now.0) h (type_view c.args.ty.now) c.args.begun.now _
    (slice_of c.args.s) (c.in_ok-begin.ensures.begins h) (sym c.if-not-in_table.ensures))
    (c.read_type.ensures.gives h)

pub read_closed-returns-in_err-begin-clause-gives : goal.read_closed-returns-in_err-begin-clause-gives
read_closed-returns-in_err-begin-clause-gives t c =
    let p = err_from_is_err_and c.from_residual.result c.from_residual.ensures.1 in
    λ h. gives_err h found_view c.from_residual.result c.in_err-begin.field-0.0 _ (p.1 ∙ ap Err p.2)
    (begin_stops c.args.levels c.args.mode (core_of c.args.plan.now.0) h (goals.at_type
    (type_view c.args.ty.now)) c.args.begun.now
    (slice_of c.args.s) c.in_err-begin.field-0.0 (c.in_err-begin.ensures.begins h))

pub read_closed-returns-then-not-in_table-clause-gives : goal.read_closed-returns-then-not-in_table-clause-gives
read_closed-returns-then-not-in_table-clause-gives t c =
    λ h. stops_at h c.stop_here.result (stuck h Width) _ (c.stop_here.ensures h)
    (reading_too_wide c.args.levels c.args.mode (core_of c.args.plan.now.0) h (type_view c.args.ty.now) c.args.begun.now _
    (slice_of c.args.s) (c.in_ok-begin.ensures.begins h) (sym c.if-not-in_table.ensures))

pub read_constructor-operations-ops-requires : goal.read_constructor-operations-ops-requires
read_constructor-operations-ops-requires t c =
    entry_range (schema_view c.args.plan.now.0) c.flat-flat.result.now c.args.plan.now.2 c.args.c c.flat-flat.ensures.planned
    c.requires.there
    c.entry-entry.result c.entry-entry.ensures

pub read_constructor-read_fields-requires : goal.read_constructor-read_fields-requires
read_constructor-read_fields-requires t c =
    let sound = entry_sound (schema_view c.args.plan.now.0) c.flat-flat.result.now c.args.plan.now.2 c.args.c
    c.flat-flat.ensures.planned c.requires.there
    c.entry-entry.result c.entry-entry.ensures in
    let T : List PlanOp → Type 0 = λ z. OpsAreSound c.flat-flat.result.now (length c.flat-flat.result.now.types) z in
    let P : Flat → Type 0 = λ z. OpsAreSound z (length z.types) c.operations-ops.result.now in
    (omega (arith, c.decreases), subst P c.flat-flat.ensures.lists (subst T (sym c.operations-ops.ensures) sound))

pub read_constructor-returns-clause-gives : goal.read_constructor-returns-clause-gives
read_constructor-returns-clause-gives t c = λ d scope there fits.
    let s = schema_view c.args.plan.now.0 in
    let f = c.args.plan.now.1 in
    let plans = c.args.plan.now.2 in
    let k = c.args.c in
    let e = c.entry-entry.result in
    let R = reader_of c.args.levels c.args.mode c.args.plan.now.0 in
    let P : Flat → Type 0 = λ z. Planned s z plans in
    let planned = subst P c.flat-flat.ensures.lists c.flat-flat.ensures.planned in
    let ops_are = c.operations-ops.ensures ∙ ap (λ (z : Flat). range z.ops e.first e.count) c.flat-flat.ensures.lists in
    let items = entry_ops s f plans k planned c.requires.there e c.entry-entry.ensures d there c.operations-ops.result.now
    ops_are in
    let slots = c.in-Some.slots in
    let bound = ap (scope_of slots.numbers) c.as_slice-types.ensures.value
    ∙ fit_binds s f plans k planned c.requires.there e c.entry-entry.ensures d there c.inputs-inputs.result.now
    (closed_args c.args.args.now) c.inputs-inputs.ensures
    (slots_view slots) scope (sym (ap (option_map slots_view) c.in-Some.is) ∙ c.in_ok-slots.ensures) fits in
    let fields = c.in_ok-fields.fields in
    let rest = c.in_ok-fields.rest in
    let types = c.as_slice-types.result.now in
    let after = scope_of c.read_fields.new.env types in
    let T : Scope → Type 0 = λ z. read_fields R (start d) (items_in f (type_at f) None c.operations-ops.result.now) z
    c.args.begun.now
    (slice_of c.args.s) ≡ Ok (let x : Got = (values_of fields, after, slice_of rest) in x) in
    let outs = c.outputs.result.now in
    let V : Flat → Type 0 = λ z. Some c.in-Some-2.outputs ≡ values_in (map (expr_at z) outs) after in
    let exprs = map (expr_at f) outs in
    constructor_read R d (items_in f (type_at f) None c.operations-ops.result.now) exprs scope after c.args.begun.now
    (slice_of c.args.s)
    (slice_of rest) (names_in (map pair_of fields)) (values_of fields) c.in-Some-2.outputs items
    (entry_outputs s f plans k planned c.requires.there e c.entry-entry.ensures d there outs c.outputs.ensures)
    c.in_ok-fields.ensures.names (subst T bound (c.in_ok-fields.ensures.gives (start d))) (subst V c.flat-flat.ensures.lists
    (sym c.in-Some-2.is ∙ c.in_ok-values.ensures types))

pub read_constructor-returns-in-None-clause-gives : goal.read_constructor-returns-in-None-clause-gives
read_constructor-returns-in-None-clause-gives t c = λ d scope there fits.
    let s = schema_view c.args.plan.now.0 in
    let f = c.args.plan.now.1 in
    let plans = c.args.plan.now.2 in
    let k = c.args.c in
    let e = c.entry-entry.result in
    let R = reader_of c.args.levels c.args.mode c.args.plan.now.0 in
    let P : Flat → Type 0 = λ z. Planned s z plans in
    let planned = subst P c.flat-flat.ensures.lists c.flat-flat.ensures.planned in
    let ops_are = c.operations-ops.ensures ∙ ap (λ (z : Flat). range z.ops e.first e.count) c.flat-flat.ensures.lists in
    let items = entry_ops s f plans k planned c.requires.there e c.entry-entry.ensures d there c.operations-ops.result.now
    ops_are in
    let slots = c.in-Some.slots in
    let bound = ap (scope_of slots.numbers) c.as_slice-types.ensures.value
    ∙ fit_binds s f plans k planned c.requires.there e c.entry-entry.ensures d there c.inputs-inputs.result.now
    (closed_args c.args.args.now) c.inputs-inputs.ensures
    (slots_view slots) scope (sym (ap (option_map slots_view) c.in-Some.is) ∙ c.in_ok-slots.ensures) fits in
    let fields = c.in_ok-fields.fields in
    let rest = c.in_ok-fields.rest in
    let types = c.as_slice-types.result.now in
    let after = scope_of c.read_fields.new.env types in
    let T : Scope → Type 0 = λ z. read_fields R (start d) (items_in f (type_at f) None c.operations-ops.result.now) z
    c.args.begun.now
    (slice_of c.args.s) ≡ Ok (let x : Got = (values_of fields, after, slice_of rest) in x) in
    let outs = c.outputs.result.now in
    let V : Flat → Type 0 = λ z. None ≡ values_in (map (expr_at z) outs) after in
    let exprs = map (expr_at f) outs in
    constructor_overflows R d (items_in f (type_at f) None c.operations-ops.result.now) exprs scope after c.args.begun.now
    (slice_of c.args.s)
    (slice_of rest) (values_of fields) c.stop_at_result.result items
    (entry_outputs s f plans k planned c.requires.there e c.entry-entry.ensures d there outs c.outputs.ensures)
    (subst T bound (c.in_ok-fields.ensures.gives (start d))) (subst V c.flat-flat.ensures.lists
    (sym c.in-None.is ∙ c.in_ok-values.ensures types)) (c.stop_at_result.ensures (start d))

pub read_constructor-returns-in_err-fields-clause-gives : goal.read_constructor-returns-in_err-fields-clause-gives
read_constructor-returns-in_err-fields-clause-gives t c = λ d scope there fits.
    let p = err_from_is_err_and c.from_residual-in_err-fields.result c.from_residual-in_err-fields.ensures.1 in
    let s = schema_view c.args.plan.now.0 in
    let f = c.args.plan.now.1 in
    let plans = c.args.plan.now.2 in
    let k = c.args.c in
    let e = c.entry-entry.result in
    let R = reader_of c.args.levels c.args.mode c.args.plan.now.0 in
    let P : Flat → Type 0 = λ z. Planned s z plans in
    let planned = subst P c.flat-flat.ensures.lists c.flat-flat.ensures.planned in
    let ops_are = c.operations-ops.ensures ∙ ap (λ (z : Flat). range z.ops e.first e.count) c.flat-flat.ensures.lists in
    let items = entry_ops s f plans k planned c.requires.there e c.entry-entry.ensures d there c.operations-ops.result.now
    ops_are in
    let slots = c.in-Some.slots in
    let bound = ap (scope_of slots.numbers) c.as_slice-types.ensures.value
    ∙ fit_binds s f plans k planned c.requires.there e c.entry-entry.ensures d there c.inputs-inputs.result.now
    (closed_args c.args.args.now) c.inputs-inputs.ensures
    (slots_view slots) scope (sym (ap (option_map slots_view) c.in-Some.is) ∙ c.in_ok-slots.ensures) fits in
    let T : Scope → Type 0 = λ z. Stops (start d) c.in_err-fields.field-0.0
    (read_fields R (start d) (items_in f (type_at f) None c.operations-ops.result.now) z c.args.begun.now
    (slice_of c.args.s)) in
    gives_err (start d) _ c.from_residual-in_err-fields.result c.in_err-fields.field-0.0 _ (p.1 ∙ ap Err p.2)
    (constructor_stops R d (items_in f (type_at f) None c.operations-ops.result.now) scope c.args.begun.now (slice_of c.args.s)
    c.in_err-fields.field-0.0 items (subst T bound (c.in_err-fields.ensures.gives (start d))))

pub read_constructor-unreachable-requires : goal.read_constructor-unreachable-requires
read_constructor-unreachable-requires t c =
    fits_some (schema_view c.args.plan.now.0) c.flat-flat.result.now c.args.plan.now.2 c.args.c c.flat-flat.ensures.planned
    c.requires.there
    c.entry-entry.result c.entry-entry.ensures c.inputs-inputs.result.now
    (closed_args c.args.args.now) c.inputs-inputs.ensures c.requires.fits
    (sym (ap (option_map slots_view) c.in_default.is) ∙ c.in_ok-slots.ensures)

pub read_constructor-values-requires : goal.read_constructor-values-requires
read_constructor-values-requires t c =
    outputs_plain (schema_view c.args.plan.now.0) c.flat-flat.result.now c.args.plan.now.2 c.args.c
    c.flat-flat.ensures.planned c.requires.there
    c.outputs.result.now c.outputs.ensures

pub read_declared-number-requires : goal.read_declared-number-requires
read_declared-number-requires t c =
    omega (
      arith,
      tag_there (schema_view c.args.plan.now.0) c.in-Some.c c.in-Some.ensures.there,
      c.flat-flat.ensures.planned.count,
    )

pub read_declared-read_constructor-requires : goal.read_declared-read_constructor-requires
read_declared-read_constructor-requires t c =
    let there : c.in-Some.c < length c.args.plan.now.2 =
    omega (
      arith,
      tag_there (schema_view c.args.plan.now.0) c.in-Some.c c.in-Some.ensures.there,
      c.flat-flat.ensures.planned.count,
    ) in
    (omega (arith, c.decreases), (there, λ d at. (c.in-Some.ensures.enters c.in-Some.c d at refl).fits))

pub read_declared-returns-in-Err-clause-gives : goal.read_declared-returns-in-Err-clause-gives
read_declared-returns-in-Err-clause-gives t c =
    let S = core_of c.args.plan.now.0 in
    let ch = chosen_at S c.args.name.now (closed_args c.args.args.now) c.again.result c.args.s.bits c.in-Some.c c.again.ensures
    c.in-Some.ensures.there c.in-Some.ensures.enters c.in-Some.ensures.only in
    let d = ch.declaration in
    let R = reader_of c.args.levels c.args.mode c.args.plan.now.0 in
    let tag_is = had (λ (z : Declaration). z.core.tag) (slice_get S c.in-Some.c) d c.tag.result ch.there c.tag.ensures in
    let number_is = had (λ (z : Declaration). z.number) (slice_get S c.in-Some.c) d c.number.result ch.there c.number.ensures in
    let after = tag_taken d.core.tag c.tag.result c.args.s.bits c.in-Some-take.field-0-0 c.in-Some-take.bits c.len.result
    c.args.s.refs tag_is
    c.len.ensures.value (sym c.take.ensures ∙ c.in-Some-take.is) in
    let inner = c.in-Err.ensures.gives d ch.scope ch.there ch.fits in
    λ h. stops_same h c.in_constructor.result _ _
    (one_enters R h (choose S S c.args.name.now (closed_args c.args.args.now) c.args.s.bits) d ch.scope c.args.begun.now
    (slice_of c.args.s) ch.is
    ∙ ap (entered R d ch.scope c.args.begun.now) after)
    (stops_moved (start d) h c.in-Err.error c.in_constructor.result _ (λ p. c.in_constructor.ensures h d p ch.enters.of_type
    number_is) inner)

pub read_declared-returns-in_default-clause-gives : goal.read_declared-returns-in_default-clause-gives
read_declared-returns-in_default-clause-gives t c =
    let S = core_of c.args.plan.now.0 in
    let args = closed_args c.args.args.now in
    let none : choose S S c.args.name.now args c.again.result ≡ None = chooses_none S c.args.name.now args c.again.result
    c.in_default.ensures.only in
    let P : List ℕ → Type 0 = λ z. choose S S c.args.name.now args z ≡ None in
    λ h. none_enters (reader_of c.args.levels c.args.mode c.args.plan.now.0) h _ c.args.begun.now
    (slice_of c.args.s) c.stop_here.result
    (subst P c.again.ensures none) (c.stop_here.ensures h)

pub read_declared-returns-in_ok-shown-in-Ok-clause-gives : goal.read_declared-returns-in_ok-shown-in-Ok-clause-gives
read_declared-returns-in_ok-shown-in-Ok-clause-gives t c =
    let S = core_of c.args.plan.now.0 in
    let ch = chosen_at S c.args.name.now (closed_args c.args.args.now) c.again.result c.args.s.bits c.in-Some.c c.again.ensures
    c.in-Some.ensures.there c.in-Some.ensures.enters c.in-Some.ensures.only in
    let d = ch.declaration in
    let R = reader_of c.args.levels c.args.mode c.args.plan.now.0 in
    let tag_is = had (λ (z : Declaration). z.core.tag) (slice_get S c.in-Some.c) d c.tag.result ch.there c.tag.ensures in
    let shown_is = had (λ (z : Declaration). z.shown) (slice_get S c.in-Some.c) d c.shown_name.result.now ch.there
    c.shown_name.ensures in
    let after = tag_taken d.core.tag c.tag.result c.args.s.bits c.in-Some-take.field-0-0 c.in-Some-take.bits c.len.result
    c.args.s.refs tag_is
    c.len.ensures.value (sym c.take.ensures ∙ c.in-Some-take.is) in
    λ h. one_enters R h (choose S S c.args.name.now (closed_args c.args.args.now) c.args.s.bits) d ch.scope c.args.begun.now
    (slice_of c.args.s) ch.is
    ∙ ap (entered R d ch.scope c.args.begun.now) after
    ∙ c.in-Ok.ensures.gives d ch.scope ch.there ch.fits
    ∙ found_shown d.shown c.in_ok-shown-in-Ok.shown (names_in (map pair_of c.in-Ok.fields))
    (values_of c.in-Ok.fields) c.record_of.result
    (outputs_of c.in-Ok.outputs) (slice_of c.in-Ok.rest) (shown_is ∙ sym c.in_ok-shown-in-Ok.ensures) c.record_of.ensures

pub read_declared-shown_name-requires : goal.read_declared-shown_name-requires
read_declared-shown_name-requires t c =
    omega (
      arith,
      tag_there (schema_view c.args.plan.now.0) c.in-Some.c c.in-Some.ensures.there,
      c.flat-flat.ensures.planned.count,
    )

pub read_declared-tag-requires : goal.read_declared-tag-requires
read_declared-tag-requires t c =
    omega (
      arith,
      tag_there (schema_view c.args.plan.now.0) c.in-Some.c c.in-Some.ensures.there,
      length-map
          c.args.plan.now.0.constructors constructor,
    )

pub read_declared-unreachable-requires : goal.read_declared-unreachable-requires
read_declared-unreachable-requires t c =
    let S = core_of c.args.plan.now.0 in
    let ch = chosen_at S c.args.name.now (closed_args c.args.args.now) c.again.result c.args.s.bits c.in-Some.c c.again.ensures
    c.in-Some.ensures.there c.in-Some.ensures.enters c.in-Some.ensures.only in
    let d = ch.declaration in
    let tag_is = had (λ (z : Declaration). z.core.tag) (slice_get S c.in-Some.c) d c.tag.result ch.there c.tag.ensures in
    let covers = lead_covers_tag S d c.args.s.bits ch.enters.begins in
    let long = ap length tag_is in
    taken_within c.len.result c.args.s.bits (omega (arith, covers, long, c.len.ensures.value))
    (sym c.in_default-take.is ∙ c.take.ensures)

pub read_dict-returns-clause-gives : goal.read_dict-returns-clause-gives
read_dict-returns-clause-gives t c =
    let v = c.in_ok-found.found.value in
    let made : value_view c.dict_of-2.result ≡ forms.map_of tt (forms.a_pair c.in-Some.key (value_view v) forms.no_pairs) [] =
    c.dict_of-2.ensures
    ∙ ap (λ ps. forms.map_of tt (pairs_of (map pair_of ps)) c.new.result)
    (c.in_ok-push.ensures.ok ∙ ap (λ ps. ps ++ (c.in-Some.key, v) ∷ []) c.new-pairs.ensures)
    ∙ ap (λ us. forms.map_of tt (forms.a_pair c.in-Some.key (value_view v) forms.no_pairs) us) c.new.ensures in
    λ h. dict_leaf c.args.mode (reader_of c.args.levels c.args.mode c.args.plan.now.0) h c.args.n (type_view c.args.inner.now)
    c.args.begun.now (slice_of c.args.s) c.in-Ok.walk c.pop.new.self.items (c.in-Some.key, c.in-Some.field-0-1) c.in-Ok.ensures
    c.if-not-inline.false c.in-Some.ensures.items
    ∙ ap (λ z. z >>= as_pair c.in-Some.key) (c.in_ok-found.ensures.gives h)
    ∙ ap (λ z. Ok (let x : Found = (z, [], slice_of c.in_ok-found.found.rest) in x)) (sym made)
    ∙ ap Ok (sym c.alone-2.ensures)

pub read_dict-returns-in-Err-clause-gives : goal.read_dict-returns-in-Err-clause-gives
read_dict-returns-in-Err-clause-gives t c =
    λ h. first_stops h c.in-Err.error c.stop_of.result (first_edge c.args.mode c.args.n (slice_of c.args.s))
    (at_edge (reader_of c.args.levels c.args.mode c.args.plan.now.0) h (type_view c.args.inner.now) c.args.begun.now)
    c.in-Err.ensures c.stop_of.ensures

pub read_dict_e-returns-clause-gives : goal.read_dict_e-returns-clause-gives
read_dict_e-returns-clause-gives t c =
    let after : Slice = record { bits = c.in-Some.bits; refs = c.in-Some-first.refs } in
    let made : value_view c.dict_of-value-2.result
    ≡ forms.map_of tt (pairs_of (map pair_of c.in_ok-pairs.pairs)) c.in-Ok.walk.unknown.items =
    c.dict_of-value-2.ensures ∙ ap (λ us. forms.map_of tt (pairs_of (map pair_of c.in_ok-pairs.pairs)) us)
    c.from_vec.ensures in
    λ h. root_given c.args.mode (reader_of c.args.levels c.args.mode c.args.plan.now.0) h c.args.n (type_view c.args.inner.now)
    c.args.begun.now c.args.s.bits c.in-Some.bit c.in-Some.bits c.args.s.refs c.in-Some-first.refs c.in-Some-first.cell.now
    c.in-Ok.walk (sym c.in-Some.ensures) c.if-not-known_bit.ensures c.in-Some-first.ensures c.in-Ok.ensures
    ∙ ap (λ z. z >>= as_map c.in-Ok.walk.unknown.items after) (c.in_ok-pairs.ensures.gives h)
    ∙ ap (λ z. Ok (let x : Found = (z, [], after) in x)) (sym made)
    ∙ ap Ok (sym c.alone-2.ensures)

pub read_dict_e-returns-in-Err-clause-gives : goal.read_dict_e-returns-in-Err-clause-gives
read_dict_e-returns-in-Err-clause-gives t c =
    λ h. root_stops c.args.mode (reader_of c.args.levels c.args.mode c.args.plan.now.0) h c.args.n
    (type_view c.args.inner.now) c.args.begun.now
    c.args.s.bits c.in-Some.bit c.in-Some.bits c.args.s.refs c.in-Some-first.refs c.in-Some-first.cell.now c.in-Err.error
    c.stop_of.result
    (sym c.in-Some.ensures) c.if-not-known_bit.ensures c.in-Some-first.ensures c.in-Err.ensures c.stop_of.ensures

pub read_dict_e-returns-in_default-clause-gives : goal.read_dict_e-returns-in_default-clause-gives
read_dict_e-returns-in_default-clause-gives t c =
    λ h. stops_at h c.stop_here.result (stuck h ShortBits) _ (c.stop_here.ensures h)
    (bit_short c.args.mode (reader_of c.args.levels c.args.mode c.args.plan.now.0) h c.args.n
    (type_view c.args.inner.now) c.args.begun.now
    c.args.s.bits c.args.s.refs (sym c.in_default.ensures))

pub read_dict_e-returns-in_default-first-clause-gives : goal.read_dict_e-returns-in_default-first-clause-gives
read_dict_e-returns-in_default-first-clause-gives t c =
    λ h. stops_at h c.stop_here-in_default-first.result (stuck h ShortRefs) _ (c.stop_here-in_default-first.ensures h)
    (bit_one_short c.args.mode (reader_of c.args.levels c.args.mode c.args.plan.now.0) h c.args.n
    (type_view c.args.inner.now) c.args.begun.now
    c.args.s.bits c.in-Some.bit c.in-Some.bits c.args.s.refs (sym c.in-Some.ensures) c.if-not-known_bit.ensures
    c.in_default-first.ensures)

pub read_field-read_fields-requires : goal.read_field-read_fields-requires
read_field-read_fields-requires t c = (
  omega (arith, c.decreases, c.in_ok-begin.ensures.left),
  ops_within c.flat-in-Ok-Here.result.now c.args.plan.now.1 c.in-Ok-Here.first c.in-Ok-Here.count c.operations-ops.result.now
      c.flat-in-Ok-Here.ensures.lists c.operations-ops.ensures
      (here_within c.flat.result.now c.args.plan.now.1 c.args.ty c.in-Ok-Here.first c.in-Ok-Here.count c.in-Ok-Here.field-0
      c.flat.ensures.lists c.requires.there c.in-Ok-Here.ensures.sound c.in-Ok-Here.field-0-is),
)

pub read_field-read_fields_under-requires : goal.read_field-read_fields_under-requires
read_field-read_fields_under-requires t c = (
  omega (arith, c.decreases, c.in_ok-begin.ensures.left),
  under_within c.flat.result.now c.args.plan.now.1 c.args.ty c.in-Ok-Under.first c.in-Ok-Under.count c.in-Ok-Under.field-0
      c.flat.ensures.lists c.requires.there c.in-Ok-Under.ensures.sound c.in-Ok-Under.field-0-is,
)

pub read_field-returns-in-Err-Refused-clause-gives : goal.read_field-returns-in-Err-Refused-clause-gives
read_field-returns-in-Err-Refused-clause-gives t c =
    λ h. stops_at h c.stop_here.result (stuck h c.in-Err-Refused.cause) _
    (stopped_for h c.stop_here.result _ c.in-Err-Refused.cause c.in-Err-Refused.cause-is (c.stop_here.ensures h))
    (field_refused c.args.levels c.args.mode (core_of c.args.plan.now.0) h c.flat.result.now c.args.plan.now.1 c.args.condition
    c.args.ty
    (scope_of c.args.env.now c.args.types.now) c.args.begun.now c.begin.new.begun
    (slice_of c.args.s) c.in-Err-Refused.field-0 c.in-Err-Refused.cause
    c.flat.ensures.lists (c.in_ok-begin.ensures.begins h) c.in-Err-Refused.ensures.shapes c.in-Err-Refused.field-0-is)

pub read_field-returns-in-Ok-LeftOut-clause-gives : goal.read_field-returns-in-Ok-LeftOut-clause-gives
read_field-returns-in-Ok-LeftOut-clause-gives t c =
    λ h. field_shaped c.args.levels c.args.mode (core_of c.args.plan.now.0) h c.flat.result.now c.args.plan.now.1
    c.args.condition c.args.ty
    (scope_of c.args.env.now c.args.types.now) c.args.begun.now c.begin.new.begun
    (slice_of c.args.s) c.in-Ok-LeftOut.field-0 LeftOut
    c.flat.ensures.lists (c.in_ok-begin.ensures.begins h) c.in-Ok-LeftOut.ensures.shapes c.in-Ok-LeftOut.field-0-is
    ∙ ap (λ z. Ok (let x : Found = (z, [], slice_of c.args.s) in x)) (sym absent_seen)
    ∙ ap Ok (sym c.alone.ensures)

pub read_field-returns-in-Ok-Typed-clause-gives : goal.read_field-returns-in-Ok-Typed-clause-gives
read_field-returns-in-Ok-Typed-clause-gives t c =
    λ h. gives_same h found_view c.read_type.result _ _
    (field_shaped c.args.levels c.args.mode (core_of c.args.plan.now.0) h c.flat.result.now c.args.plan.now.1 c.args.condition
    c.args.ty
    (scope_of c.args.env.now c.args.types.now) c.args.begun.now c.begin.new.begun (slice_of c.args.s) c.in-Ok-Typed.field-0
    (Typed c.in-Ok-Typed.closed)
    c.flat.ensures.lists (c.in_ok-begin.ensures.begins h) c.in-Ok-Typed.ensures.shapes c.in-Ok-Typed.field-0-is)
    (c.read_type.ensures.gives h)

pub read_field-returns-in-Ok-Under-clause-gives : goal.read_field-returns-in-Ok-Under-clause-gives
read_field-returns-in-Ok-Under-clause-gives t c =
    λ h. gives_same h found_view c.read_fields_under.result _ _
    (field_shaped c.args.levels c.args.mode (core_of c.args.plan.now.0) h c.flat.result.now c.args.plan.now.1 c.args.condition
    c.args.ty
    (scope_of c.args.env.now c.args.types.now) c.args.begun.now c.begin.new.begun (slice_of c.args.s) c.in-Ok-Under.field-0
    (Under c.in-Ok-Under.first c.in-Ok-Under.count)
    c.flat.ensures.lists (c.in_ok-begin.ensures.begins h) c.in-Ok-Under.ensures.shapes c.in-Ok-Under.field-0-is)
    (c.read_fields_under.ensures.gives h)

pub read_field-returns-in_err-begin-clause-gives : goal.read_field-returns-in_err-begin-clause-gives
read_field-returns-in_err-begin-clause-gives t c =
    let p = err_from_is_err_and c.from_residual.result c.from_residual.ensures.1 in
    λ h. gives_err h found_view c.from_residual.result c.in_err-begin.field-0.0 _ (p.1 ∙ ap Err p.2)
    (begin_stops c.args.levels c.args.mode (core_of c.args.plan.now.0) h
    (goals.at_field (governed c.args.plan.now.1 c.args.condition) (type_at c.args.plan.now.1 c.args.ty)
    (scope_of c.args.env.now c.args.types.now))
    c.args.begun.now (slice_of c.args.s) c.in_err-begin.field-0.0 (c.in_err-begin.ensures.begins h))

pub read_field-returns-in_err-fields-in-Ok-Here-clause-gives : goal.read_field-returns-in_err-fields-in-Ok-Here-clause-gives
read_field-returns-in_err-fields-in-Ok-Here-clause-gives t c =
    let r = c.from_residual-in_err-fields-in-Ok-Here in
    let p = err_from_is_err_and r.result r.ensures.1 in
    λ h. gives_err h found_view r.result c.in_err-fields-in-Ok-Here.field-0.0 _ (p.1 ∙ ap Err p.2)
    (stops_same h c.in_err-fields-in-Ok-Here.field-0.0 _ _
    (field_shaped c.args.levels c.args.mode (core_of c.args.plan.now.0) h c.flat.result.now c.args.plan.now.1 c.args.condition
    c.args.ty
    (scope_of c.args.env.now c.args.types.now) c.args.begun.now c.begin.new.begun (slice_of c.args.s) c.in-Ok-Here.field-0
    (Here c.in-Ok-Here.first c.in-Ok-Here.count)
    c.flat.ensures.lists (c.in_ok-begin.ensures.begins h) c.in-Ok-Here.ensures.shapes c.in-Ok-Here.field-0-is)
    (fields_stop (within c.args.levels c.args.mode (core_of c.args.plan.now.0)) h _ _ c.args.types.now
    c.in_ok-inner-in-Ok-Here.inner c.args.env.now c.begin.new.begun
    (slice_of c.args.s) c.in_err-fields-in-Ok-Here.field-0.0
    (items_there c.flat-in-Ok-Here.result.now c.args.plan.now.1 c.in-Ok-Here.first c.in-Ok-Here.count
    c.operations-ops.result.now c.flat-in-Ok-Here.ensures.lists c.operations-ops.ensures)
    c.in_ok-inner-in-Ok-Here.ensures (c.in_err-fields-in-Ok-Here.ensures.gives h)))

pub read_field-returns-in_ok-fields-in-Ok-Here-clause-gives : goal.read_field-returns-in_ok-fields-in-Ok-Here-clause-gives
read_field-returns-in_ok-fields-in-Ok-Here-clause-gives t c =
    λ h. field_shaped c.args.levels c.args.mode (core_of c.args.plan.now.0) h c.flat.result.now c.args.plan.now.1
    c.args.condition c.args.ty
    (scope_of c.args.env.now c.args.types.now) c.args.begun.now c.begin.new.begun (slice_of c.args.s) c.in-Ok-Here.field-0
    (Here c.in-Ok-Here.first c.in-Ok-Here.count)
    c.flat.ensures.lists (c.in_ok-begin.ensures.begins h) c.in-Ok-Here.ensures.shapes c.in-Ok-Here.field-0-is
    ∙ fields_found (within c.args.levels c.args.mode (core_of c.args.plan.now.0)) h _ _ c.args.types.now
    c.in_ok-inner-in-Ok-Here.inner c.args.env.now c.begin.new.begun
    (slice_of c.args.s) (slice_of c.in_ok-fields-in-Ok-Here.rest) (names_in (map pair_of c.in_ok-fields-in-Ok-Here.fields))
    (values_of c.in_ok-fields-in-Ok-Here.fields) _
    (value_view c.record_of.result) (found_view c.alone-in-Ok-Here.result)
    (items_there c.flat-in-Ok-Here.result.now c.args.plan.now.1 c.in-Ok-Here.first c.in-Ok-Here.count
    c.operations-ops.result.now c.flat-in-Ok-Here.ensures.lists c.operations-ops.ensures)
    c.in_ok-inner-in-Ok-Here.ensures (c.in_ok-fields-in-Ok-Here.ensures.gives h) c.in_ok-fields-in-Ok-Here.ensures.names
    c.record_of.ensures c.alone-in-Ok-Here.ensures

pub read_fields-loop-op-init : goal.read_fields-loop-op-init
read_fields-loop-op-init t c =
    let R = reader_of c.args.levels c.args.mode c.args.plan.now.0 in
    let f = c.args.plan.now.1 in
    let start = scope_of c.args.env.now c.args.types.now in
    let P : List (List ℕ × Value) → Type 0 = λ fs. SoFar R f c.args.ops.now start c.args.begun.now (slice_of c.args.s)
    (map pair_of fs) None
    c.args.ops.now start c.args.begun.now (slice_of c.args.s) in
    subst P (sym c.new-fields.ensures) (none_yet R f c.args.ops.now start c.args.begun.now (slice_of c.args.s) c.requires)

pub read_fields-loop-op-preserved : goal.read_fields-loop-op-preserved
read_fields-loop-op-preserved t c =
    let at = c.loop-op in
    let R = reader_of c.args.levels c.args.mode c.args.plan.now.0 in
    let f = c.args.plan.now.1 in
    let start = scope_of c.args.env.now c.args.types.now in
    let scope = scope_of at.env c.args.types.now in
    let b = at_index R f c.args.ops.now start c.args.begun.now (slice_of c.args.s) (map pair_of at.fields) at.condition
    (Check 0 Eq 0 0) at.op-index
    scope at.begun (slice_of at.left) c.loop-op-test.true at.invariant in
    let x = c.in_ok-step.step in
    one_more R f c.args.ops.now start c.args.begun.now (slice_of c.args.s) (map pair_of at.fields) at.condition
    (get_or c.args.ops.now at.op-index (Check 0 Eq 0 0))
    (drop (at.op-index + 1) c.args.ops.now) scope at.begun (slice_of at.left) x.field x.condition
    (scope_of c.read_op.new.env c.args.types.now)
    c.read_op.new.begun (slice_of x.rest) _ b c.in_ok-step.ensures.turn c.in_ok-step.ensures.name c.in_ok-step.ensures.condition
    c.in_ok-keep.ensures

pub read_fields-read_op-requires : goal.read_fields-read_op-requires
read_fields-read_op-requires t c =
    let at = c.loop-op in
    let b = at_index (reader_of c.args.levels c.args.mode c.args.plan.now.0) c.args.plan.now.1 c.args.ops.now
    (scope_of c.args.env.now c.args.types.now)
    c.args.begun.now (slice_of c.args.s) (map pair_of at.fields) at.condition (Check 0 Eq 0 0) at.op-index
    (scope_of at.env c.args.types.now)
    at.begun (slice_of at.left) c.loop-op-test.true at.invariant in
    (omega (arith, c.decreases), (b.sound.0, b.condition))

pub read_fields-returns-clause-counts : goal.read_fields-returns-clause-counts
read_fields-returns-clause-counts t c = c.loop-op.invariant.counts

pub read_fields-returns-clause-gives : goal.read_fields-returns-clause-gives
read_fields-returns-clause-gives t c =
    let at = c.loop-op in
    let R = reader_of c.args.levels c.args.mode c.args.plan.now.0 in
    let f = c.args.plan.now.1 in
    let start = scope_of c.args.env.now c.args.types.now in
    let scope = scope_of at.env c.args.types.now in
    let b = at_end R f c.args.ops.now start c.args.begun.now (slice_of c.args.s)
    (map pair_of at.fields) at.condition at.op-index scope at.begun
    (slice_of at.left) c.loop-op-test.false at.invariant in
    λ h. all_read R f c.args.ops.now start c.args.begun.now (slice_of c.args.s)
    (map pair_of at.fields) at.condition scope at.begun
    (slice_of at.left) b h

pub read_fields-returns-clause-names : goal.read_fields-returns-clause-names
read_fields-returns-clause-names t c =
    let at = c.loop-op in
    let R = reader_of c.args.levels c.args.mode c.args.plan.now.0 in
    let f = c.args.plan.now.1 in
    let start = scope_of c.args.env.now c.args.types.now in
    let scope = scope_of at.env c.args.types.now in
    let b = at_end R f c.args.ops.now start c.args.begun.now (slice_of c.args.s)
    (map pair_of at.fields) at.condition at.op-index scope at.begun
    (slice_of at.left) c.loop-op-test.false at.invariant in
    all_named R f c.args.ops.now start c.args.begun.now (slice_of c.args.s)
    (map pair_of at.fields) at.condition scope at.begun (slice_of at.left) b

pub read_fields-returns-in_err-step-clause-gives : goal.read_fields-returns-in_err-step-clause-gives
read_fields-returns-in_err-step-clause-gives t c =
    let p = err_from_is_err_and c.from_residual.result c.from_residual.ensures.1 in
    let at = c.loop-op in
    let R = reader_of c.args.levels c.args.mode c.args.plan.now.0 in
    let f = c.args.plan.now.1 in
    let start = scope_of c.args.env.now c.args.types.now in
    let scope = scope_of at.env c.args.types.now in
    let b = at_index R f c.args.ops.now start c.args.begun.now (slice_of c.args.s) (map pair_of at.fields) at.condition
    (Check 0 Eq 0 0) at.op-index
    scope at.begun (slice_of at.left) c.loop-op-test.true at.invariant in
    λ h. gives_err h _ c.from_residual.result c.in_err-step.field-0.0 _ (p.1 ∙ ap Err p.2)
    (one_stops R f c.args.ops.now start c.args.begun.now (slice_of c.args.s) (map pair_of at.fields) at.condition
    (get_or c.args.ops.now at.op-index (Check 0 Eq 0 0))
    (drop (at.op-index + 1) c.args.ops.now) scope at.begun (slice_of at.left) h c.in_err-step.field-0.0 b
    (c.in_err-step.ensures.turn h))

pub read_fields_under-returns-clause-gives : goal.read_fields_under-returns-clause-gives
read_fields_under-returns-clause-gives t c =
    λ h. under_found c.args.levels c.args.mode (core_of c.args.plan.now.0) h c.args.begun.now c.args.s.bits c.args.s.refs
    c.in-Some.refs c.in-Some.cell.now
    c.in-Some.ensures (sym c.in_default-unseen.ensures) (record_at c.args.plan.now.1 c.args.first c.args.count)
    (scope_of c.args.env.now c.args.types.now)
    c.begin.new.begun (slice_of c.in-Some-ordinary_content.content) (
      forms.record_of None (names_in (map pair_of c.in_ok-fields.fields)) (values_of c.in_ok-fields.fields),
      [],
      slice_of
          c.in_ok-fields.left,
    )
    c.in-Some-ordinary_content.ensures.0 c.in-Some-ordinary_content.ensures.1 (c.in_ok-begin.ensures.begins h)
    (fields_found (within c.args.levels c.args.mode (core_of c.args.plan.now.0)) h _ _ c.args.types.now c.in_ok-inner.inner
    c.args.env.now c.begin.new.begun
    (slice_of c.in-Some-ordinary_content.content) (slice_of c.in_ok-fields.left) (names_in
    (map pair_of c.in_ok-fields.fields)) (values_of c.in_ok-fields.fields) _ _ _
    (items_there c.flat.result.now c.args.plan.now.1 c.args.first c.args.count c.operations-ops.result.now c.flat.ensures.lists
    c.operations-ops.ensures)
    c.in_ok-inner.ensures (c.in_ok-fields.ensures.gives h) c.in_ok-fields.ensures.names refl refl)
    (sym c.if-not-is_nothing.ensures)
    ∙ ap (λ v. Ok (let x : Found = (v, [], record { bits = c.args.s.bits; refs = c.in-Some.refs }) in x))
    (sym (ref_seen c.in_ok-record.record ∙ ap (λ z. forms.ref_to tt z) (ap value_view c.in_ok-record.ensures ∙
    c.record_of.ensures)))
    ∙ ap Ok (sym c.alone-2.ensures)

pub read_fields_under-returns-in_default-clause-gives : goal.read_fields_under-returns-in_default-clause-gives
read_fields_under-returns-in_default-clause-gives t c =
    λ h. stops_at h c.stop_here.result (stuck h ShortRefs) _ (c.stop_here.ensures h)
    (ref_short c.args.mode (reader_of c.args.levels c.args.mode c.args.plan.now.0) h
    (goals.at_fields (record_at c.args.plan.now.1 c.args.first c.args.count) (scope_of c.args.env.now c.args.types.now))
    c.args.begun.now c.args.s.bits c.args.s.refs c.in_default.ensures)

pub read_fields_under-returns-in_default-ordinary_content-clause-gives :
    goal.read_fields_under-returns-in_default-ordinary_content-clause-gives
read_fields_under-returns-in_default-ordinary_content-clause-gives t c =
    λ h. under_not_ordinary c.args.levels c.args.mode (core_of c.args.plan.now.0) h c.args.begun.now c.args.s.bits
    c.args.s.refs c.in-Some.refs c.in-Some.cell.now
    c.in-Some.ensures (sym c.in_default-unseen.ensures) (record_at c.args.plan.now.1 c.args.first c.args.count)
    (scope_of c.args.env.now c.args.types.now)
    c.stop_here-in_default-ordinary_content.result c.in_default-ordinary_content.ensures
    (c.stop_here-in_default-ordinary_content.ensures h)

pub read_fields_under-returns-in_err-begin-clause-gives : goal.read_fields_under-returns-in_err-begin-clause-gives
read_fields_under-returns-in_err-begin-clause-gives t c =
    let p = err_from_is_err_and c.from_residual.result c.from_residual.ensures.1 in
    λ h. gives_err h found_view c.from_residual.result c.in_err-begin.field-0.0 _ (p.1 ∙ ap Err p.2)
    (under_none_begins c.args.levels c.args.mode (core_of c.args.plan.now.0) h c.args.begun.now c.args.s.bits c.args.s.refs
    c.in-Some.refs c.in-Some.cell.now
    c.in-Some.ensures (sym c.in_default-unseen.ensures) (record_at c.args.plan.now.1 c.args.first c.args.count)
    (scope_of c.args.env.now c.args.types.now)
    (slice_of c.in-Some-ordinary_content.content) c.in_err-begin.field-0.0 c.in-Some-ordinary_content.ensures.0
    c.in-Some-ordinary_content.ensures.1
    (c.in_err-begin.ensures.begins h))

pub read_fields_under-returns-in_err-fields-clause-gives : goal.read_fields_under-returns-in_err-fields-clause-gives
read_fields_under-returns-in_err-fields-clause-gives t c =
    let p = err_from_is_err_and c.from_residual-in_err-fields.result c.from_residual-in_err-fields.ensures.1 in
    λ h. gives_err h found_view c.from_residual-in_err-fields.result c.in_err-fields.field-0.0 _ (p.1 ∙ ap Err p.2)
    (under_fields_stop c.args.levels c.args.mode (core_of c.args.plan.now.0) h c.args.begun.now c.args.s.bits c.args.s.refs
    c.in-Some.refs c.in-Some.cell.now
    c.in-Some.ensures (sym c.in_default-unseen.ensures) (record_at c.args.plan.now.1 c.args.first c.args.count)
    (scope_of c.args.env.now c.args.types.now)
    c.begin.new.begun (slice_of c.in-Some-ordinary_content.content) c.in_err-fields.field-0.0
    c.in-Some-ordinary_content.ensures.0 c.in-Some-ordinary_content.ensures.1
    (c.in_ok-begin.ensures.begins h)
    (fields_stop (within c.args.levels c.args.mode (core_of c.args.plan.now.0)) h _ _ c.args.types.now c.in_ok-inner.inner
    c.args.env.now c.begin.new.begun
    (slice_of c.in-Some-ordinary_content.content) c.in_err-fields.field-0.0
    (items_there c.flat.result.now c.args.plan.now.1 c.args.first c.args.count c.operations-ops.result.now c.flat.ensures.lists
    c.operations-ops.ensures)
    c.in_ok-inner.ensures (c.in_err-fields.ensures.gives h)))

pub read_fields_under-returns-then-not-is_nothing-clause-gives : goal.read_fields_under-returns-then-not-is_nothing-clause-gives
read_fields_under-returns-then-not-is_nothing-clause-gives t c =
    λ h. under_left_over c.args.levels c.args.mode (core_of c.args.plan.now.0) h c.args.begun.now c.args.s.bits c.args.s.refs
    c.in-Some.refs c.in-Some.cell.now
    c.in-Some.ensures (sym c.in_default-unseen.ensures) (record_at c.args.plan.now.1 c.args.first c.args.count)
    (scope_of c.args.env.now c.args.types.now)
    c.begin.new.begun (slice_of c.in-Some-ordinary_content.content) (
      forms.record_of None (names_in (map pair_of c.in_ok-fields.fields)) (values_of c.in_ok-fields.fields),
      [],
      slice_of
          c.in_ok-fields.left,
    ) c.stop_here-then-not-is_nothing.result
    c.in-Some-ordinary_content.ensures.0 c.in-Some-ordinary_content.ensures.1 (c.in_ok-begin.ensures.begins h)
    (fields_found (within c.args.levels c.args.mode (core_of c.args.plan.now.0)) h _ _ c.args.types.now c.in_ok-inner.inner
    c.args.env.now c.begin.new.begun
    (slice_of c.in-Some-ordinary_content.content) (slice_of c.in_ok-fields.left) (names_in
    (map pair_of c.in_ok-fields.fields)) (values_of c.in_ok-fields.fields) _ _ _
    (items_there c.flat.result.now c.args.plan.now.1 c.args.first c.args.count c.operations-ops.result.now c.flat.ensures.lists
    c.operations-ops.ensures)
    c.in_ok-inner.ensures (c.in_ok-fields.ensures.gives h) c.in_ok-fields.ensures.names refl refl)
    (sym c.if-not-is_nothing.ensures) (c.stop_here-then-not-is_nothing.ensures h)

pub read_leaves-loop-key-init : goal.read_leaves-loop-key-init
read_leaves-loop-key-init t c =
    let R = reader_of c.args.levels c.args.mode c.args.plan.now.0 in
    let t = type_view c.args.inner.now in
    let leaves = map leaf_of c.args.leaves.items in
    let it = c.into_iter-key-iterator.result in
    let gives = c.into_iter-key-iterator.ensures.into_iter_gives in
    let T : List (List ℕ × CellSlice) → Type 0 = λ xs. Paired R t leaves c.args.begun.now (map pair_of c.new-pairs.result)
    (map leaf_of xs) c.args.begun.now in
    let P : List (List ℕ × Value) → Type 0 = λ ps. Paired R t leaves c.args.begun.now (map pair_of ps) leaves c.args.begun.now in
    record {
      paired = subst T (sym gives.0) (subst P (sym c.new-pairs.ensures) (none_paired R t leaves c.args.begun.now));
      len = gives.1 ∙ c.args.leaves.ok.0 ∙ sym (ap length gives.0);
    }

pub read_leaves-loop-key-preserved : goal.read_leaves-loop-key-preserved
read_leaves-loop-key-preserved t c =
    let at = c.loop-key in
    let R = reader_of c.args.levels c.args.mode c.args.plan.now.0 in
    let t = type_view c.args.inner.now in
    let leaves = map leaf_of c.args.leaves.items in
    let key = c.in-Some.key in
    let content = c.in-Some.content in
    let after = into_iter_items c.next.new.self in
    let steps : into_iter_items at.key-iterator ≡ (key, content) ∷ after = c.in-Some.ensures.steps.0 in
    let T : List (List ℕ × CellSlice) → Type 0 = λ xs. Paired R t leaves c.args.begun.now (map pair_of at.pairs)
    (map leaf_of xs) at.begun in
    let one = one_paired R t leaves c.args.begun.now (map pair_of at.pairs) key (slice_of content) (map leaf_of after) at.begun
    (value_view c.in_ok-value.value) c.read_whole.new.begun (subst T steps at.invariant.paired) c.in_ok-value.ensures.gives
    c.in_ok-value.ensures.counts in
    let pushed = ap (map pair_of) c.in_ok-push.ensures.ok ∙ map-append pair_of at.pairs ((key, c.in_ok-value.value) ∷ []) in
    let P : List (List ℕ × Plain) → Type 0 = λ ps. Paired R t leaves c.args.begun.now ps
    (map leaf_of after) c.read_whole.new.begun in
    record {
      paired = subst P (sym pushed) one;
      len = (let was = at.invariant.len in let gone = c.in-Some.ensures.steps.1 in let short = ap length steps in omega arith);
    }

pub read_leaves-returns-clause-counts : goal.read_leaves-returns-clause-counts
read_leaves-returns-clause-counts t c = c.loop-key.invariant.paired.counts

pub read_leaves-returns-clause-gives : goal.read_leaves-returns-clause-gives
read_leaves-returns-clause-gives t c =
    let at = c.loop-key in
    let R = reader_of c.args.levels c.args.mode c.args.plan.now.0 in
    let t = type_view c.args.inner.now in
    let leaves = map leaf_of c.args.leaves.items in
    let none : into_iter_items at.key-iterator ≡ [] = nil_from_length _ (sym at.invariant.len ∙ c.in-None.ensures.steps.0) in
    let T : List (List ℕ × CellSlice) → Type 0 = λ xs. Paired R t leaves c.args.begun.now (map pair_of at.pairs)
    (map leaf_of xs) at.begun in
    λ h. all_paired R t leaves c.args.begun.now (map pair_of at.pairs) at.begun h (subst T none at.invariant.paired)

pub read_leaves-returns-in_err-value-clause-gives : goal.read_leaves-returns-in_err-value-clause-gives
read_leaves-returns-in_err-value-clause-gives t c =
    let p = err_from_is_err_and c.from_residual.result c.from_residual.ensures.1 in
    let at = c.loop-key in
    let R = reader_of c.args.levels c.args.mode c.args.plan.now.0 in
    let t = type_view c.args.inner.now in
    let leaves = map leaf_of c.args.leaves.items in
    let key = c.in-Some.key in
    let content = c.in-Some.content in
    let after = into_iter_items c.next.new.self in
    let steps : into_iter_items at.key-iterator ≡ (key, content) ∷ after = c.in-Some.ensures.steps.0 in
    let T : List (List ℕ × CellSlice) → Type 0 = λ xs. Paired R t leaves c.args.begun.now (map pair_of at.pairs)
    (map leaf_of xs) at.begun in
    λ h. gives_err h _ c.from_residual.result c.in_err-value.field-0.0 _ (p.1 ∙ ap Err p.2)
    (leaf_stops R t leaves c.args.begun.now (map pair_of at.pairs) key (slice_of content)
    (map leaf_of after) at.begun h c.in_err-value.field-0.0
    (subst T steps at.invariant.paired) (c.in_err-value.ensures.gives h))

pub read_op-returns-in-Err-clause-turn : goal.read_op-returns-in-Err-clause-turn
read_op-returns-in-Err-clause-turn t c = λ h.
    let R = reader_of c.args.levels c.args.mode c.args.plan.now.0 in
    let f = c.args.plan.now.1 in
    let scope = scope_of c.args.env.now c.args.types.now in
    let q = c.args.begun.now in
    let s = slice_of c.args.s in
    let it = c.in-Check in
    let T : Flat → Type 0 = λ z. step R h (check (expr_at z it.left) it.op (expr_at z it.right) it.place) scope q s
    ≡ Err (stuck (item_of h it.place) c.in-Err.cause) in
    let done = subst T c.flat-flat.ensures.lists (c.in-Err.ensures R h it.place q s c.args.types.now) in
    stops_as R h f (governed f c.args.condition) c.args.op (Check it.left it.op it.right it.place) scope q s
    c.stop_at_item.result it.is
    (check_stops R h f (governed f c.args.condition) it.left it.op it.right it.place scope q s c.in-Err.cause
    c.stop_at_item.result done
    (c.stop_at_item.ensures h))

pub read_op-returns-in-Err-read_field-clause-turn : goal.read_op-returns-in-Err-read_field-clause-turn
read_op-returns-in-Err-read_field-clause-turn t c = λ h.
    let R = reader_of c.args.levels c.args.mode c.args.plan.now.0 in
    let f = c.args.plan.now.1 in
    let scope = scope_of c.args.env.now c.args.types.now in
    let q = c.args.begun.now in
    let s = slice_of c.args.s in
    let it = c.in-Field in
    let e = c.in-Err-read_field.error in
    let named = c.name-name.ensures ∙ ap (λ (z : Flat). name_at z it.name) c.flat-flat.ensures.lists in
    stops_as R h f (governed f c.args.condition) c.args.op (Field it.name it.ty it.slot) scope q s c.in_field.result it.is
    (field_stops R h f (governed f c.args.condition) it.name it.ty it.slot scope q s e c.in_field.result
    (c.in-Err-read_field.ensures.gives (field_of h (name_at f it.name)))
    (λ p at. c.in_field.ensures h p (subst (λ (n : Word). StopsAt (field_of h n) e p) (sym named) at)))

pub read_op-returns-in-Ok-clause-turn : goal.read_op-returns-in-Ok-clause-turn
read_op-returns-in-Ok-clause-turn t c = λ h.
    let R = reader_of c.args.levels c.args.mode c.args.plan.now.0 in
    let f = c.args.plan.now.1 in
    let scope = scope_of c.args.env.now c.args.types.now in
    let q = c.args.begun.now in
    let s = slice_of c.args.s in
    let it = c.in-Check in
    let T : Flat → Type 0 = λ z. step R h (check (expr_at z it.left) it.op (expr_at z it.right) it.place) scope q s ≡ Ok
    (unchanged scope q s) in
    let done = subst T c.flat-flat.ensures.lists (c.in-Ok.ensures R h it.place q s c.args.types.now) in
    turns_as R h f (governed f c.args.condition) c.args.op (Check it.left it.op it.right it.place) scope q s _ it.is
    (check_turned R h f (governed f c.args.condition) it.left it.op it.right it.place scope q s (unchanged scope q s) done)
    ∙ without_seen f scope q c.args.s c.without_field.result c.without_field.ensures.field c.without_field.ensures.condition
    c.without_field.ensures.rest

pub read_ref-returns-in_default-clause-gives : goal.read_ref-returns-in_default-clause-gives
read_ref-returns-in_default-clause-gives t c =
    λ h. stops_at h c.stop_here.result (stuck h ShortRefs) _ (c.stop_here.ensures h)
    (ref_short c.args.mode (reader_of c.args.levels c.args.mode c.args.plan.now.0) h (goals.under_ref
    (type_view c.args.inner.now))
    c.args.begun.now c.args.s.bits c.args.s.refs c.in_default.ensures)

pub read_repeat-loop-item-init : goal.read_repeat-loop-item-init
read_repeat-loop-item-init t c =
    let R = reader_of c.args.levels c.args.mode c.args.plan.now.0 in
    let t = type_view c.args.inner.now in
    let whole = slice_of c.args.s in
    let P : List Value → Type 0 = λ vs. Repeated R t c.args.count c.args.begun.now whole
    (map value_view vs) c.args.count c.args.begun.now whole in
    let b = subst P (sym c.new-items.ensures) (none_repeated R t c.args.count c.args.begun.now whole) in
    let all : c.args.count ≡ c.args.count - 0 = omega arith in
    let T : ℕ → Type 0 = λ k. Repeated R t c.args.count c.args.begun.now whole
    (map value_view c.new-items.result) k c.args.begun.now whole in
    subst T all b

pub read_repeat-loop-item-preserved : goal.read_repeat-loop-item-preserved
read_repeat-loop-item-preserved t c =
    let at = c.loop-item in
    let R = reader_of c.args.levels c.args.mode c.args.plan.now.0 in
    let t = type_view c.args.inner.now in
    let whole = slice_of c.args.s in
    let found = c.in_ok-found.found in
    let before = at_item R t c.args.count c.args.begun.now whole (map value_view at.items) at._item at.begun (slice_of at.left)
    c.loop-item-test.true at.invariant in
    let taken = sym (c.took.ensures (slice_of at.left) c.size-before.ensures) ∙ c.if-not-took.false in
    let pushed = ap (map value_view) c.in_ok-push.ensures.ok ∙ map-append value_view at.items (found.value ∷ []) in
    let P : List Plain → Type 0 = λ vs. Repeated R t c.args.count c.args.begun.now whole vs (c.args.count - (at._item + 1))
    c.read_closed.new.begun (slice_of found.rest) in
    subst P (sym pushed) (one_repeated R t c.args.count c.args.begun.now whole (map value_view at.items) (c.args.count -
    (at._item + 1))
    at.begun (slice_of at.left) (found_view found) c.read_closed.new.begun before c.in_ok-found.ensures.gives taken
    c.in_ok-found.ensures.counts)

pub read_repeat-returns-clause-counts : goal.read_repeat-returns-clause-counts
read_repeat-returns-clause-counts t c =
    let at = c.loop-item in
    let last = at_last (reader_of c.args.levels c.args.mode c.args.plan.now.0)
    (type_view c.args.inner.now) c.args.count c.args.begun.now
    (slice_of c.args.s) (map value_view at.items) at._item at.begun (slice_of at.left) c.loop-item-test.false at.invariant in
    let counted = last.counts in
    let whole = ap (λ (z : Found). parts z.0) c.alone.ensures in
    let seen = ap parts c.list_of.ensures in
    omega (arith, counted, whole, seen)

pub read_repeat-returns-clause-gives : goal.read_repeat-returns-clause-gives
read_repeat-returns-clause-gives t c =
    let at = c.loop-item in
    let R = reader_of c.args.levels c.args.mode c.args.plan.now.0 in
    let t = type_view c.args.inner.now in
    let whole = slice_of c.args.s in
    let last = at_last R t c.args.count c.args.begun.now whole (map value_view at.items) at._item at.begun (slice_of at.left)
    c.loop-item-test.false at.invariant in
    λ h. all_repeated R c.args.mode (core_of c.args.plan.now.0) t c.args.count c.args.begun.now whole (map value_view at.items)
    at.begun (slice_of at.left) h last
    ∙ ap (λ v. Ok (let x : Found = (v, [], slice_of at.left) in x)) (sym c.list_of.ensures) ∙ ap Ok (sym c.alone.ensures)

pub read_repeat-returns-in_err-found-clause-gives : goal.read_repeat-returns-in_err-found-clause-gives
read_repeat-returns-in_err-found-clause-gives t c =
    let p = err_from_is_err_and c.from_residual.result c.from_residual.ensures.1 in
    let at = c.loop-item in
    let R = reader_of c.args.levels c.args.mode c.args.plan.now.0 in
    let t = type_view c.args.inner.now in
    let whole = slice_of c.args.s in
    let before = at_item R t c.args.count c.args.begun.now whole (map value_view at.items) at._item at.begun (slice_of at.left)
    c.loop-item-test.true at.invariant in
    λ h. gives_err h found_view c.from_residual.result c.in_err-found.field-0.0 _ (p.1 ∙ ap Err p.2)
    (item_stops R c.args.mode (core_of c.args.plan.now.0) t c.args.count c.args.begun.now whole (map value_view at.items)
    (c.args.count - (at._item + 1)) at.begun (slice_of at.left) h c.in_err-found.field-0.0 before
    (c.in_err-found.ensures.gives h))

pub read_repeat-returns-then-not-took-clause-gives : goal.read_repeat-returns-then-not-took-clause-gives
read_repeat-returns-then-not-took-clause-gives t c =
    let at = c.loop-item in
    let R = reader_of c.args.levels c.args.mode c.args.plan.now.0 in
    let t = type_view c.args.inner.now in
    let whole = slice_of c.args.s in
    let found = c.in_ok-found.found in
    let before = at_item R t c.args.count c.args.begun.now whole (map value_view at.items) at._item at.begun (slice_of at.left)
    c.loop-item-test.true at.invariant in
    let idle = sym (c.took.ensures (slice_of at.left) c.size-before.ensures) ∙ c.if-not-took.true in
    λ h. idle_stops R c.args.mode (core_of c.args.plan.now.0) t c.args.count c.args.begun.now whole (map value_view at.items)
    (c.args.count - (at._item + 1)) at.begun (slice_of at.left) h c.stop_here.result (found_view found) before
    (c.in_ok-found.ensures.gives h) idle (c.stop_here.ensures h)

pub read_whole-returns-then-not-is_nothing-clause-gives : goal.read_whole-returns-then-not-is_nothing-clause-gives
read_whole-returns-then-not-is_nothing-clause-gives t c =
    λ h. stops_at h c.stop_here.result (stuck h Leftover) _ (c.stop_here.ensures h)
    (whole_left (reader_of c.args.levels c.args.mode c.args.plan.now.0) h (goals.at_type
    (type_view c.args.ty.now)) c.args.begun.now
    (slice_of c.args.s) (found_view c.in_ok-found.found) (c.in_ok-found.ensures.gives h) (sym c.if-not-is_nothing.ensures))
