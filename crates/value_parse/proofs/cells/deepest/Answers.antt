use Rattle.std.proofs.Common.{arith}
use Rattle.value_parse.proofs.Depths.{deepest_is}
use Rattle.value_parse.proofs.cells.deepest.Goals as goal

pub returns : goal.returns
returns c =
    let e = c.max.ensures in
    let f = c.max-2.ensures in
    let g = c.max-3.ensures in
    let d = deepest_is c.args.bits c.args.refs.now c.mask_of-mask.result c.depth_over-lowest.result c.depth_after-first.result c.depth_after-second.result
    c.depth_after-third.result c.mask_of-mask.ensures.value c.depth_over-lowest.ensures.value c.depth_after-first.ensures c.depth_after-second.ensures
    c.depth_after-third.ensures in
    omega (arith, d, e, f, g)
