use Rattle.std.proofs.Common.{◌∙◌, sym, ap}
use Rattle.closed_type.specs.View.{closed_type as type_view}
use Rattle.tlb_syntax.specs.View.{schema as schema_view}
use Rattle.typed_value.specs.View.{value as value_view}
use Rattle.pruned_proof.specs.Proved.{path_views}
use Rattle.pruned_proof.specs.View.{rests_of}
use Rattle.pruned_proof.specs.Walks.{is_raw}
use Rattle.pruned_proof.specs.Wanted.{is_whole}
use Rattle.pruned_proof.proofs.Rooted.{cut_gives, raw_root, whole_root}
use Rattle.pruned_proof.proofs.proving.cut_root.Goals as goal

pub returns-then-is_raw : goal.returns-then-is_raw
returns-then-is_raw c = λ r is l.
    c.in_ok-share.ensures ∙ raw_root (schema_view c.args.plan.now.0) c.schema.ensures.kept (type_view c.args.ty.now)
    c.args.cell.now c.good.ensures c.requires (path_views c.args.paths.now) r l (ap is_raw is ∙ sym c.if-is_raw.ensures)

pub returns-then-is_whole : goal.returns-then-is_whole
returns-then-is_whole c = λ r is l.
    c.in_ok-share-2.ensures ∙ whole_root (schema_view c.args.plan.now.0) c.schema.ensures.kept (type_view c.args.ty.now)
    c.args.cell.now c.good.ensures c.requires (path_views c.args.paths.now) r l
    (ap is_whole (sym c.in_ok-wanted.ensures) ∙ sym c.if-is_whole.ensures)

pub returns : goal.returns
returns c = λ r is l.
    cut_gives (schema_view c.args.plan.now.0) c.schema.ensures.kept (type_view c.args.ty.now) c.args.cell.now c.good.ensures
    c.requires (path_views c.args.paths.now) (value_view c.args.value.now) (rests_of c.in_ok-wanted.wanted) r c.cut_cell.result
    c.in_ok-wanted.ensures is (sym c.if-is_raw.ensures) l c.cut_cell.ensures
