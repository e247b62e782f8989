use Rattle.std.proofs.Common.{◌∙◌, sym, ap, ◌+◌, ◌/◌, ℕ, arith}
use Rattle.bag_cells.proofs.Widths.{width_of-small, width_of-large, width-few}
use Rattle.bag_cells.proofs.write.+width_of.Goals as goal

pub returns-then-number-lt256 : goal.returns-then-number-lt256
returns-then-number-lt256 t c = sym (width_of-small c.args.number c.if-number-lt256.true)

pub overflow_add-result : goal.overflow_add-result
overflow_add-result t c = omega (arith, width-few (c.args.number / 256) (omega arith), c.width_of.ensures)

pub returns : goal.returns
returns t c = ap (λ (w : ℕ). 1 + w) c.width_of.ensures ∙ sym (width_of-large c.args.number c.if-number-lt256.false)
