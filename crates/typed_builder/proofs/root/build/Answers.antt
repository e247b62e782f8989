use Rattle.closed_type.specs.View.{closed_type as type_view}
use Rattle.tlb_syntax.specs.View.{schema as schema_view}
use Rattle.typed_value.specs.View.{value as value_view}
use Rattle.typed_builder.proofs.Roots.{is_tree}
use Rattle.typed_builder.proofs.root.build.Goals as goal

pub returns-in-Ok : goal.returns-in-Ok
returns-in-Ok c =
    is_tree c.built_is_one.ensures c.stops_at_one.ensures c.args.mode c.requires (schema_view c.args.plan.now.0)
    c.schema-schema.ensures.accepted c.schema-schema.ensures.kept (type_view c.args.ty.now)
    (value_view c.args.value.now)
    c.in_range.ensures c.in-Ok.cell c.in-Ok.ensures
