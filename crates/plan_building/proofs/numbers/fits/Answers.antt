use Rattle.std.proofs.Common.{◌≤◌, ◌^◌, ◌∙◌, arith, sym}
use Rattle.std.proofs.Math.Pow.{pow_mono}
use Rattle.std.proofs.lemmas.Bool.{le-leb, lt-ltb}
use Rattle.plan_building.proofs.numbers.fits.Goals as goal

pub returns-then-width-ge128 : goal.returns-then-width-ge128
returns-then-width-ge128 c =
    let m : 2 ^ 128 ≤ 2 ^ c.args.width = pow_mono c.if-width-ge128.true in
    le-leb 128 c.args.width c.if-width-ge128.true
    ∙ sym (lt-ltb c.args.number (2 ^ c.args.width) (omega (arith, m)))
