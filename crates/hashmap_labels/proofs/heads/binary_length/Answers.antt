use Rattle.std.proofs.Common.{◌^◌, ◌<◌, ◌≤◌, arith}
use Rattle.std.proofs.Math.Pow.{pow_mono}
use Rattle.hashmap_labels.proofs.BitScans.{binary_length}
use Rattle.hashmap_labels.proofs.heads.binary_length.Goals as goal

pub overflow_cast-result : goal.overflow_cast-result
overflow_cast-result c =
    let r = binary_length c.args.width c.args.s c.in-Some.bits c.in-Some.rest c.len.result c.in-Some-number.length c.in-Some.ensures c.len.ensures.bits c.len.ensures.value c.in-Some-number.ensures in
    let p : 2 ^ c.args.width ≤ 2 ^ 32 = pow_mono {i = c.args.width} {j = 32} c.requires in
    let low : c.in-Some-number.length < 2 ^ c.args.width = r.0 in
    let top : c.in-Some-number.length < 2 ^ 32 = omega (arith, low, p) in
    search (top)

pub returns-in-Some-number : goal.returns-in-Some-number
returns-in-Some-number c =
    (binary_length c.args.width c.args.s c.in-Some.bits c.in-Some.rest c.len.result c.in-Some-number.length c.in-Some.ensures c.len.ensures.bits c.len.ensures.value c.in-Some-number.ensures).1
