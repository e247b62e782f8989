use Rattle.std.proofs.Common.{refl, sym, ◌∙◌}
use Rattle.std.proofs.lemmas.Result.{err_from_is_err_and}
use Rattle.std.proofs.Common.{false}
use Rattle.std.proofs.lemmas.List.{append-nil}
use Rattle.bit_slice.specs.Bits.{spelled}
use Rattle.bit_slice.specs.BitLists.{length-spelled}
use Rattle.spelling.specs.Slices.{only_bits}
use Rattle.plan_building.proofs.Laying.{laid_more}
use Rattle.plan_building.proofs.growing.put_number.Goals as goal

pub returns-in_err-admit : goal.returns-in_err-admit
returns-in_err-admit c = λ h.
    let w = err_from_is_err_and c.from_residual.result c.from_residual.ensures.1 in
    rw (w.1, w.2) (c.in_err-admit.ensures.put h (only_bits (spelled c.args.width c.args.number)) false
    (sym (length-spelled c.args.width c.args.number)) refl)

pub returns : goal.returns
returns c = λ h.
    c.in_ok-admit.ensures.put h (only_bits (spelled c.args.width c.args.number)) false
    (sym (length-spelled c.args.width c.args.number)) refl
    ∙ laid_more (only_bits (spelled c.args.width c.args.number)) _ _ c.add_number.ensures.bits
    (c.add_number.ensures.refs ∙ sym (append-nil _)) refl
