use Rattle.std.proofs.Common.{List, length, subst, sym}
use Rattle.flat_form.specs.Sound.{OpsAreSound}
use Rattle.flat_form.specs.declared.lists.Flat.{Flat}
use Rattle.flat_form.specs.declared.lists.PlanOp.{PlanOp}
use Rattle.tlb_syntax.specs.View.{schema as schema_view}
use Rattle.typed_builder.proofs.Planned.{entry_range, entry_sound}
use Rattle.typed_builder.proofs.records.operations.Goals as goal

pub operations-requires : goal.operations-requires
operations-requires c =
    entry_range (schema_view c.args.plan.now.0) c.flat-flat.result.now c.args.plan.now.2 c.args.c
    c.flat-flat.ensures.planned
    c.requires c.entry-entry.result c.entry-entry.ensures

pub returns-clause-sound : goal.returns-clause-sound
returns-clause-sound c =
    let f = c.flat-flat.result.now in
    let sound = entry_sound (schema_view c.args.plan.now.0) f c.args.plan.now.2 c.args.c c.flat-flat.ensures.planned
    c.requires
    c.entry-entry.result c.entry-entry.ensures in
    let T : List PlanOp → Type 0 = λ z. OpsAreSound f (length f.types) z in
    let P : Flat → Type 0 = λ z. OpsAreSound z (length z.types) c.operations.result.now in
    subst P c.flat-flat.ensures.lists (subst T (sym c.operations.ensures) sound)
