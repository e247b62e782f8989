use Rattle.std.proofs.Common.{◌∙◌, ◌<◌, ◌+◌, ◌-◌, ◌^◌, ◌≤◌, arith, sym, ap}
use Rattle.std.proofs.lemmas.Int.{ints}
use Rattle.std.proofs.lemmas.Nat.{one_shl}
use Rattle.bit_slice.specs.Bits.{bit_number}
use Rattle.bit_slice.proofs.Completing.{below}
use Rattle.bit_slice.proofs.SignedNumbers.{signed-none, signed-cons, clear-bit, set-bit, half-le}
use Rattle.bit_slice.proofs.bytes.signed_at.Goals as goal

pub returns-then-n-eq0 : goal.returns-then-n-eq0
returns-then-n-eq0 c = signed-none c.args.bytes.now c.args.start c.args.n c.if-n-eq0.true

pub overflow_cast-result : goal.overflow_cast-result
overflow_cast-result c =
    let h : c.number_at-rest.result < 2 ^ (c.args.n - 1) = below c.number_at-rest.result c.args.bytes.now (c.args.start + 1) (c.args.n - 1) c.number_at-rest.ensures in
    let p : 2 ^ (c.args.n - 1) ≤ 2 ^ 127 = half-le c.args.n c.requires.wide c.if-n-eq0.false in
    omega (arith, ints)

pub returns-then-not-read_bit : goal.returns-then-not-read_bit
returns-then-not-read_bit c =
    let h : c.number_at-rest.result < 2 ^ (c.args.n - 1) = below c.number_at-rest.result c.args.bytes.now (c.args.start + 1) (c.args.n - 1) c.number_at-rest.ensures in
    let p : 2 ^ (c.args.n - 1) ≤ 2 ^ 127 = half-le c.args.n c.requires.wide c.if-n-eq0.false in
    rw (signed-cons c.args.bytes.now c.args.start c.args.n c.if-n-eq0.false, ← c.number_at-rest.ensures)
    (clear-bit c.number_at-rest.result _ (2 ^ (c.args.n - 1)) (sym c.read_bit.ensures ∙ ap bit_number c.if-not-read_bit.true) (omega arith))

pub overflow_sub-result-2 : goal.overflow_sub-result-2
overflow_sub-result-2 c =
    let h : c.number_at-rest.result < 2 ^ (c.args.n - 1) = below c.number_at-rest.result c.args.bytes.now (c.args.start + 1) (c.args.n - 1) c.number_at-rest.ensures in
    rw (one_shl (c.args.n - 1) 128 (omega arith)) (omega arith)

pub overflow_cast-result-2 : goal.overflow_cast-result-2
overflow_cast-result-2 c =
    let h : c.number_at-rest.result < 2 ^ (c.args.n - 1) = below c.number_at-rest.result c.args.bytes.now (c.args.start + 1) (c.args.n - 1) c.number_at-rest.ensures in
    let p : 2 ^ (c.args.n - 1) ≤ 2 ^ 127 = half-le c.args.n c.requires.wide c.if-n-eq0.false in
    rw (one_shl (c.args.n - 1) 128 (omega arith)) (omega (arith, ints))

pub returns : goal.returns
returns c =
    let h : c.number_at-rest.result < 2 ^ (c.args.n - 1) = below c.number_at-rest.result c.args.bytes.now (c.args.start + 1) (c.args.n - 1) c.number_at-rest.ensures in
    let p : 2 ^ (c.args.n - 1) ≤ 2 ^ 127 = half-le c.args.n c.requires.wide c.if-n-eq0.false in
    rw (one_shl (c.args.n - 1) 128 (omega arith), signed-cons c.args.bytes.now c.args.start c.args.n c.if-n-eq0.false, ← c.number_at-rest.ensures)
    (set-bit c.number_at-rest.result _ (2 ^ (c.args.n - 1)) (sym c.read_bit.ensures ∙ ap bit_number c.if-not-read_bit.false) h p)
