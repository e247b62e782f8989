use Rattle.std.proofs.Common.{◌∙◌, sym, ap, Err}
use Rattle.closed_type.specs.View.{closed_type as type_view}
use Rattle.tlb_syntax.specs.View.{schema as schema_view}
use Rattle.typed_value.specs.View.{value as value_view}
use Rattle.pruned_proof.specs.Proved.{path_views}
use Rattle.pruned_proof.proofs.Answered.{child_of, child_reads, nameless_answer, never_unread, part_answer, proof_answers, stuck_read}
use Rattle.pruned_proof.proofs.proving.prove.Goals as goal

pub returns-in-Err-Stuck : goal.returns-in-Err-Stuck
returns-in-Err-Stuck c =
    stuck_read
    c.one_prove_answer.ensures c.prove_then_view.ensures c.pruning_commutes.ensures c.read_or_stuck.ensures
    c.laid_is_read.ensures (schema_view c.args.plan.now.0) c.schema.ensures.accepted (type_view c.args.ty.now) c.args.cell.now
    c.good.ensures (path_views c.args.keep.now)
    c.read.result c.in-Err-Stuck.field-0 c.in-Err-Stuck.place _ c.in-Err-Stuck.is c.in-Err-Stuck.field-0-is
    (sym c.in-Err-Stuck.place-is) c.read.ensures

pub returns-in-Some : goal.returns-in-Some
returns-in-Some c =
    nameless_answer
    c.one_prove_answer.ensures c.prove_then_view.ensures c.pruning_commutes.ensures c.read_or_stuck.ensures
    c.laid_is_read.ensures (schema_view c.args.plan.now.0) c.schema.ensures.accepted (type_view c.args.ty.now) c.args.cell.now
    c.good.ensures (path_views c.args.keep.now)
    (value_view c.in-Ok.value) c.in-Ok.ensures.reading c.in-Some.number c.in-Some.ensures

pub returns-then-mask-ne0 : goal.returns-then-mask-ne0
returns-then-mask-ne0 c =
    part_answer
    c.one_prove_answer.ensures c.prove_then_view.ensures c.pruning_commutes.ensures c.read_or_stuck.ensures
    c.laid_is_read.ensures (schema_view c.args.plan.now.0) c.schema.ensures.accepted (type_view c.args.ty.now) c.args.cell.now
    c.good.ensures (path_views c.args.keep.now)
    (value_view c.in-Ok.value) c.in-Ok.ensures.reading c.in_default.ensures (λ e. c.if-mask-ne0.true (c.mask.ensures.value ∙ e))

pub proof_over-requires : goal.proof_over-requires
proof_over-requires c =
    let whole = sym c.mask.ensures.value ∙ c.if-mask-ne0.false in
    let child = child_of
    c.one_prove_answer.ensures c.prove_then_view.ensures c.pruning_commutes.ensures c.read_or_stuck.ensures
    c.laid_is_read.ensures (schema_view c.args.plan.now.0) c.schema.ensures.accepted (type_view c.args.ty.now) c.args.cell.now
    c.good.ensures (path_views c.args.keep.now)
    (value_view c.in-Ok.value) c.in-Ok.ensures.reading c.in_default.ensures whole c.in-Ok-cut_root.child c.in-Ok-cut_root.ensures in
    child_reads
    c.one_prove_answer.ensures c.prove_then_view.ensures c.pruning_commutes.ensures c.read_or_stuck.ensures
    c.laid_is_read.ensures (schema_view c.args.plan.now.0) c.schema.ensures.accepted (type_view c.args.ty.now) c.args.cell.now
    c.good.ensures (path_views c.args.keep.now)
    (value_view c.in-Ok.value) c.in-Ok.ensures.reading c.in_default.ensures whole c.in-Ok-cut_root.child child

pub returns-in-Ok-cut_root : goal.returns-in-Ok-cut_root
returns-in-Ok-cut_root c =
    let whole = sym c.mask.ensures.value ∙ c.if-mask-ne0.false in
    let child = child_of
    c.one_prove_answer.ensures c.prove_then_view.ensures c.pruning_commutes.ensures c.read_or_stuck.ensures
    c.laid_is_read.ensures (schema_view c.args.plan.now.0) c.schema.ensures.accepted (type_view c.args.ty.now) c.args.cell.now
    c.good.ensures (path_views c.args.keep.now)
    (value_view c.in-Ok.value) c.in-Ok.ensures.reading c.in_default.ensures whole c.in-Ok-cut_root.child c.in-Ok-cut_root.ensures in
    proof_answers
    c.one_prove_answer.ensures c.prove_then_view.ensures c.pruning_commutes.ensures c.read_or_stuck.ensures
    c.laid_is_read.ensures (schema_view c.args.plan.now.0) c.schema.ensures.accepted (type_view c.args.ty.now) c.args.cell.now
    c.good.ensures (path_views c.args.keep.now)
    (value_view c.in-Ok.value) c.in-Ok.ensures.reading c.in_default.ensures whole c.in-Ok-cut_root.child child
    c.proof_over.result c.proof_over.ensures

pub unreachable-requires : goal.unreachable-requires
unreachable-requires c =
    never_unread
    c.one_prove_answer.ensures c.prove_then_view.ensures c.pruning_commutes.ensures c.read_or_stuck.ensures
    c.laid_is_read.ensures (schema_view c.args.plan.now.0) c.schema.ensures.accepted (type_view c.args.ty.now) c.args.cell.now
    c.good.ensures (path_views c.args.keep.now)
    (value_view c.in-Ok.value) c.in-Ok.ensures.reading c.cut_root.result
    (c.in-Err-Unread.is ∙ ap Err c.in-Err-Unread.field-0-is) c.cut_root.ensures
