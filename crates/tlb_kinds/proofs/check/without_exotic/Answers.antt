use Rattle.std.proofs.Common.{◌≡◌, ◌<◌, ◌∙◌, ap, sym, true, take, map, length, get_or, arith}
use Rattle.tlb_syntax.specs.declared.tree.Constructor.{Constructor}
use Rattle.tlb_syntax.specs.View.{constructor}
use Rattle.tlb_kinds.specs.Refusals.{ordinary}
use Rattle.tlb_kinds.proofs.Loops.{exotic_removed, ordinary_stays, prefix_kept, length-removed}
use Rattle.tlb_kinds.proofs.check.without_exotic.Goals as goal

pub loop-at-smaller-then-is_exotic : goal.loop-at-smaller-then-is_exotic
loop-at-smaller-then-is_exotic c =
    let less = length-removed c.loop-at.constructors c.loop-at.at (omega (arith, c.len.ensures, c.loop-at-test.true)) in
    let is = ap length c.remove.ensures.rest in
    omega (arith, less, is, c.len.ensures, c.loop-at-test.true)

pub loop-at-preserved-then-is_exotic : goal.loop-at-preserved-then-is_exotic
loop-at-preserved-then-is_exotic c =
    let xs = c.loop-at.constructors in
    let i = c.loop-at.at in
    let lt : i < length xs = omega (arith, c.len.ensures, c.loop-at-test.true) in
    let rest = c.remove.ensures.rest in
    let less = length-removed xs i lt in
    let is = ap length rest in
    let prefix = ap (take i) rest ∙ prefix_kept xs i (omega (arith, lt)) in
    let this = c.index-as_slice-at.result in
    let there : this ≡ get_or xs i this = c.index-as_slice-at.is ∙ ap (λ z. get_or z i this) c.as_slice.ensures in
    record {
      within = omega (arith, less, is, lt);
      prefix = ap (λ z. ordinary (map constructor z)) prefix ∙ c.loop-at.invariant.prefix ∙ ap (map constructor) (sym prefix);
      same = ap (λ z. ordinary (map constructor z)) rest ∙ exotic_removed xs i this lt there (ap (λ (z : Constructor). z.exotic) c.index-as_slice-at.is ∙ c.if-is_exotic.true) ∙ c.loop-at.invariant.same;
    }

pub loop-at-preserved : goal.loop-at-preserved
loop-at-preserved c =
    let xs = c.loop-at.constructors in
    let i = c.loop-at.at in
    let lt : i < length xs = omega (arith, c.len.ensures, c.loop-at-test.true) in
    let this = c.index-as_slice-at.result in
    let there : this ≡ get_or xs i this = c.index-as_slice-at.is ∙ ap (λ z. get_or z i this) c.as_slice.ensures in
    record {
      within = omega (arith, lt);
      prefix = ordinary_stays xs i this lt there (ap (λ (z : Constructor). z.exotic) c.index-as_slice-at.is ∙ c.if-is_exotic.false) c.loop-at.invariant.prefix;
      same = c.loop-at.invariant.same;
    }
