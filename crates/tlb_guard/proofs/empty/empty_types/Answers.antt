use Rattle.std.proofs.Common.{◌≡◌, List, length, get_or, arith, ap, subst}
use Rattle.tlb_syntax.specs.declared.tree.Constructor.{Constructor}
use Rattle.tlb_guard.proofs.EmptyRules.{rules_more, empty_if}
use Rattle.tlb_guard.proofs.empty.empty_types.Goals as goal

pub loop-constructor-preserved : goal.loop-constructor-preserved
loop-constructor-preserved c =
    let cs = c.constructors-constructors.result.now in
    let same : cs ≡ c.args.types.now = c.constructors-constructors.ensures in
    let R : List Constructor → Type 0 = λ z. c.constructor-item.result ≡ get_or z c.loop-constructor.constructor-index c.constructor-item.result in
    rules_more c.args.types.now c.loop-constructor.constructor-index c.constructor-item.result c.loop-constructor.rules c.add_rule.new.rules
    (let e = ap length same in omega arith) (subst R same c.constructor-item.is) c.in_ok-add_rule.ensures c.loop-constructor.invariant

pub returns-clause-types : goal.returns-clause-types
returns-clause-types c =
    let same = c.constructors-constructors.ensures in
    empty_if c.args.types.now c.constructors-constructors.result.now c.loop-constructor.rules c.as_slice.result.now c.loop-constructor.constructor-index c.least.result
    same c.as_slice.ensures (let e = ap length same in omega arith) c.loop-constructor.invariant c.least.ensures
