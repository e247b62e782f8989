use Rattle.std.proofs.Common.{sym, ◌∙◌, arith}
use Rattle.bag_cells.proofs.Trims.{trimmed_less, trimmed_done}
use Rattle.bag_cells.proofs.form.trimmed.Goals as goal

pub white-preserved : goal.white-preserved
white-preserved c = record {
  within = omega arith;
  same = c.white.invariant.same ∙ trimmed_less c.args.text.now c.white.end c.white.invariant.within (sym c.white-test.ensures);
}

pub returns : goal.returns
returns c = sym (c.white.invariant.same ∙ trimmed_done c.args.text.now c.white.end c.white.invariant.within (sym c.white-test.ensures))
