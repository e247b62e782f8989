use Rattle.std.proofs.Common.{◌≡◌, List, length, get_or, ap, sym, subst, ◌∙◌, arith}
use Rattle.tlb_syntax.specs.declared.tree.Constructor.{Constructor}
use Rattle.tlb_guard.specs.Numbering.{views}
use Rattle.lead_table.proofs.Listing.{heads_step}
use Rattle.lead_table.proofs.heads.heads_of.Goals as goal

pub loop-constructor-preserved : goal.loop-constructor-preserved
loop-constructor-preserved c =
    let xs = c.args.types.now in
    let n = c.loop-constructor.constructor-index in
    let x = c.constructor-item.result in
    let P : List Constructor → Type 0 = λ z. x ≡ get_or z n x in
    heads_step (views xs) xs n x c.loop-constructor.heads c.push.new.self c.in_ok-head_of.field-0
    (omega (arith, c.loop-constructor-test.true, ap length c.constructors-constructor-items.ensures))
    (subst P c.constructors-constructor-items.ensures c.constructor-item.is)
    c.loop-constructor.invariant c.in_ok-head_of.ensures c.in_ok-push.ensures.ok
