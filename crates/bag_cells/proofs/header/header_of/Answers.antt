use Rattle.std.proofs.Common.{arith}
use Rattle.std.proofs.lemmas.Result.{err_from_is_err_and}
use Rattle.bag_cells.proofs.Refusals.{header_start, header_count, header_length, header_sum, header_root, header_none}
use Rattle.bag_cells.proofs.header.header_of.Goals as goal

pub returns-in_err-sizes : goal.returns-in_err-sizes
returns-in_err-sizes c =
    let p = err_from_is_err_and c.from_residual.result c.from_residual.ensures.1 in
    rw (p.1, p.2) (header_start c.args.raw.now c.in_err-sizes.field-0.0 c.in_err-sizes.ensures)

pub returns-in_err-cells : goal.returns-in_err-cells
returns-in_err-cells c =
    let p = err_from_is_err_and c.from_residual-in_err-cells.result c.from_residual-in_err-cells.ensures.1 in
    rw (p.1, p.2) (header_count c.args.raw.now c.in_err-cells.field-0.0 c.in_ok-sizes.ensures.accepted c.in_err-cells.ensures)

pub returns-in_err-extent : goal.returns-in_err-extent
returns-in_err-extent c =
    let p = err_from_is_err_and c.from_residual-in_err-extent.result c.from_residual-in_err-extent.ensures.1 in
    rw (p.1, p.2) (header_length c.args.raw.now c.in_err-extent.field-0.0 c.in_ok-sizes.ensures.accepted c.in_ok-cells.ensures.accepted c.in_err-extent.ensures)

pub returns-in_err-judge_sum : goal.returns-in_err-judge_sum
returns-in_err-judge_sum c =
    let p = err_from_is_err_and c.from_residual-in_err-judge_sum.result c.from_residual-in_err-judge_sum.ensures.1 in
    rw (p.1, p.2) (header_sum c.args.raw.now c.in_err-judge_sum.field-0.0 c.in_ok-sizes.ensures.accepted c.in_ok-cells.ensures.accepted c.in_ok-extent.ensures.accepted c.in_err-judge_sum.ensures)

pub returns-in_err-root : goal.returns-in_err-root
returns-in_err-root c =
    let p = err_from_is_err_and c.from_residual-in_err-root.result c.from_residual-in_err-root.ensures.1 in
    rw (p.1, p.2) (header_root c.args.raw.now c.in_err-root.field-0.0 c.in_ok-sizes.ensures.accepted c.in_ok-cells.ensures.accepted c.in_ok-extent.ensures.accepted c.in_ok-judge_sum.ensures c.in_err-root.ensures)

pub returns : goal.returns
returns c = record {
  accepted = header_none c.args.raw.now c.in_ok-sizes.ensures.accepted c.in_ok-cells.ensures.accepted c.in_ok-extent.ensures.accepted c.in_ok-judge_sum.ensures c.in_ok-root.ensures.accepted;
  size_is = c.in_ok-sizes.ensures.size_is;
  cells_is = c.in_ok-cells.ensures.count_is;
  root_is = c.in_ok-root.ensures.root_is;
  start_is = c.in_ok-extent.ensures.start_is;
  end_is = c.in_ok-extent.ensures.end_is;
  few_bytes = c.in_ok-sizes.ensures.few;
  some = c.in_ok-cells.ensures.some;
  few = c.in_ok-cells.ensures.few;
  root_within = omega (arith, c.in_ok-root.ensures.within, c.in_ok-cells.ensures.count_is);
  in_order = c.in_ok-extent.ensures.in_order;
  within = c.in_ok-extent.ensures.within;
}
