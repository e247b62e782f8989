use Rattle.std.proofs.Common.{◌≡◌, ◌∙◌, ◌-◌, ◌*◌, ◌%◌, ◌^◌, ◌≤◌, arith, ap, sym, pos, false, nat_abs, ℤ}
use Rattle.std.proofs.lemmas.Nat.{one_shl}
use Rattle.std.proofs.lemmas.Int.{to_z-of_z}
use lib.Signed.{le_z}
use mir.Val.{to_z, of_z}
use mir.Syntax.{w128}
use Rattle.bit_slice.proofs.SignedNumbers.{IsNegative, negative, half-pow, half-le, not_all}
use Rattle.bit_slice.proofs.bytes.twos_complement.Goals as goal

pub overflow_sub-result : goal.overflow_sub-result
overflow_sub-result c =
    let v : to_z w128 (of_z w128 c.args.value) ≡ c.args.value = to_z-of_z w128 c.args.value c.ranges.value in
    let size : c.unsigned_abs-size.result ≡ nat_abs c.args.value = c.unsigned_abs-size.ensures.value ∙ ap nat_abs v in
    let test : le_z (pos 0) c.args.value ≡ false = ap (λ (z : ℤ). le_z (pos 0) z) (sym v) ∙ c.if-value-ge0.false in
    let n : IsNegative c.args.n c.args.value = negative c.args.n c.args.value test c.requires.range in
    let shift : 1 * 2 ^ (c.args.n - 1) % 2 ^ 128 ≡ 2 ^ (c.args.n - 1) = one_shl (c.args.n - 1) 128 (not_all c.args.n c.requires.wide n.some) in
    let half : 2 ^ (c.args.n - 1) ≤ 2 ^ 127 = half-le c.args.n c.requires.wide n.some in
    let whole : 2 ^ c.args.n ≡ 2 * 2 ^ (c.args.n - 1) = half-pow c.args.n n.some in
    rw shift (omega arith)

pub overflow_add-result : goal.overflow_add-result
overflow_add-result c =
    let v : to_z w128 (of_z w128 c.args.value) ≡ c.args.value = to_z-of_z w128 c.args.value c.ranges.value in
    let size : c.unsigned_abs-size.result ≡ nat_abs c.args.value = c.unsigned_abs-size.ensures.value ∙ ap nat_abs v in
    let test : le_z (pos 0) c.args.value ≡ false = ap (λ (z : ℤ). le_z (pos 0) z) (sym v) ∙ c.if-value-ge0.false in
    let n : IsNegative c.args.n c.args.value = negative c.args.n c.args.value test c.requires.range in
    let shift : 1 * 2 ^ (c.args.n - 1) % 2 ^ 128 ≡ 2 ^ (c.args.n - 1) = one_shl (c.args.n - 1) 128 (not_all c.args.n c.requires.wide n.some) in
    let half : 2 ^ (c.args.n - 1) ≤ 2 ^ 127 = half-le c.args.n c.requires.wide n.some in
    let whole : 2 ^ c.args.n ≡ 2 * 2 ^ (c.args.n - 1) = half-pow c.args.n n.some in
    rw shift (omega arith)

pub returns-clause-number : goal.returns-clause-number
returns-clause-number c =
    let v : to_z w128 (of_z w128 c.args.value) ≡ c.args.value = to_z-of_z w128 c.args.value c.ranges.value in
    let size : c.unsigned_abs-size.result ≡ nat_abs c.args.value = c.unsigned_abs-size.ensures.value ∙ ap nat_abs v in
    let test : le_z (pos 0) c.args.value ≡ false = ap (λ (z : ℤ). le_z (pos 0) z) (sym v) ∙ c.if-value-ge0.false in
    let n : IsNegative c.args.n c.args.value = negative c.args.n c.args.value test c.requires.range in
    let shift : 1 * 2 ^ (c.args.n - 1) % 2 ^ 128 ≡ 2 ^ (c.args.n - 1) = one_shl (c.args.n - 1) 128 (not_all c.args.n c.requires.wide n.some) in
    let half : 2 ^ (c.args.n - 1) ≤ 2 ^ 127 = half-le c.args.n c.requires.wide n.some in
    let whole : 2 ^ c.args.n ≡ 2 * 2 ^ (c.args.n - 1) = half-pow c.args.n n.some in
    rw shift (omega (arith, n.number))

pub returns-clause-fits : goal.returns-clause-fits
returns-clause-fits c =
    let v : to_z w128 (of_z w128 c.args.value) ≡ c.args.value = to_z-of_z w128 c.args.value c.ranges.value in
    let size : c.unsigned_abs-size.result ≡ nat_abs c.args.value = c.unsigned_abs-size.ensures.value ∙ ap nat_abs v in
    let test : le_z (pos 0) c.args.value ≡ false = ap (λ (z : ℤ). le_z (pos 0) z) (sym v) ∙ c.if-value-ge0.false in
    let n : IsNegative c.args.n c.args.value = negative c.args.n c.args.value test c.requires.range in
    let shift : 1 * 2 ^ (c.args.n - 1) % 2 ^ 128 ≡ 2 ^ (c.args.n - 1) = one_shl (c.args.n - 1) 128 (not_all c.args.n c.requires.wide n.some) in
    let half : 2 ^ (c.args.n - 1) ≤ 2 ^ 127 = half-le c.args.n c.requires.wide n.some in
    let whole : 2 ^ c.args.n ≡ 2 * 2 ^ (c.args.n - 1) = half-pow c.args.n n.some in
    rw shift (omega arith)
