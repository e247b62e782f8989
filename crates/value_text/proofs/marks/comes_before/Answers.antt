use Rattle.std.proofs.Common.{◌∙◌, arith}
use Rattle.value_text.proofs.Orders.{before-rest}
use Rattle.value_text.proofs.marks.comes_before.Goals as goal

pub returns : goal.returns
returns c =
    let i = c.bits.i in
    let a = c.len.ensures.value in
    let b = c.len-2.ensures.value in
    let m = c.min-most.ensures in
    let e = c.bits.auto.i-end in
    let f = c.bits-test.false in
    before-rest c.args.a c.args.b i c.len-3.result c.len-4.result c.len-3.ensures.value c.len-4.ensures.value
    (omega (arith, a, b, m, e, f)) (omega (arith, a, b, m, e, f)) (omega (arith, a, b, m, e, f))
    ∙ c.bits.invariant
