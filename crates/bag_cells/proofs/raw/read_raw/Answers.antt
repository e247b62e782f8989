use Rattle.std.proofs.Common.{◌≡◌}
use Rattle.std.specs.Prelude.{Some}
use Rattle.std.proofs.lemmas.Result.{err_from_is_err_and}
use Rattle.bag_cells.specs.Trees.{sprawl_refusal}
use Rattle.bag_cells.specs.Bag.{refusal}
use Rattle.bag_cells.specs.Known.{IsAccepted, IsRootTree}
use Rattle.bag_cells.proofs.Answered.{answered_so}
use Rattle.bag_cells.proofs.Refusals.{refused_header, refused_sprawl, not_refused}
use Rattle.bag_cells.proofs.raw.read_raw.Goals as goal

pub returns-in_err-header : goal.returns-in_err-header
returns-in_err-header c =
    let p = err_from_is_err_and c.from_residual.result c.from_residual.ensures.1 in
    rw (p.1, p.2) (λ _. refused_header c.args.raw.now c.in_err-header.field-0.0 c.in_err-header.ensures)

pub returns : goal.returns
returns c =
    let raw = c.args.raw.now in
    let header = c.in_ok-header.ensures.accepted in
    let each = c.in_ok-starts.ensures.accepted in
    let left = c.in_ok-starts.ensures.nothing_left in
    let trees = c.in_ok-cells.ensures.accepted in
    answered_so c.root_cell.result (λ t. IsRootTree raw t) (λ t. IsAccepted raw t) (λ e. sprawl_refusal raw ≡ Some e) (λ e. refusal raw ≡ Some e) c.root_cell.ensures
    (λ t k. record { accepted = not_refused raw header each left trees k.accepted; root_is = k.root_is })
    (λ e k. refused_sprawl raw e header each left trees k)
