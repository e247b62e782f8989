use Rattle.std.proofs.Common.{ap, option_map, sym, ◌∙◌}
use Rattle.closed_type.specs.View.{closed_args}
use Rattle.plan_reading.specs.Slots.{slots_view}
use Rattle.tlb_syntax.specs.View.{schema as schema_view}
use Rattle.typed_builder.proofs.Planned.{entry_fit, fits_some}
use Rattle.typed_builder.proofs.records.fitted.Goals as goal

pub unreachable-requires : goal.unreachable-requires
unreachable-requires c =
    fits_some (schema_view c.args.plan.now.0) c.flat-flat.result.now c.args.plan.now.2 c.args.c
    c.flat-flat.ensures.planned
    c.requires.there c.entry-entry.result c.entry-entry.ensures c.inputs.result.now (closed_args c.args.args.now)
    c.inputs.ensures c.requires.fits (sym (ap (option_map slots_view) c.in-None.is) ∙ c.in_ok-slots.ensures)

pub returns : goal.returns
returns c = λ d there.
    sym (entry_fit (schema_view c.args.plan.now.0) c.flat-flat.result.now c.args.plan.now.2 c.args.c
    c.flat-flat.ensures.planned c.requires.there c.entry-entry.result c.entry-entry.ensures d there c.inputs.result.now
    (closed_args c.args.args.now) c.inputs.ensures)
    ∙ sym c.in_ok-slots.ensures ∙ ap (option_map slots_view) c.in-Some.is
