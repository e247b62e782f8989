use Rattle.std.proofs.Common.{inl, inr, sym, arith}
use Rattle.hashmap_tree.proofs.KeySteps.{ends-there, parts-there}
use Rattle.hashmap_tree.proofs.entries.is_before.Goals as goal

pub returns-then-place-len : goal.returns-then-place-len
returns-then-place-len c = sym (ends-there _ _ _ c.shared-place.ensures.shares (inl (omega arith)))

pub returns-then-place-len-2 : goal.returns-then-place-len-2
returns-then-place-len-2 c = sym (ends-there _ _ _ c.shared-place.ensures.shares (inr (omega arith)))

pub returns : goal.returns
returns c =
    parts-there c.args.a.now c.args.b.now c.shared-place.result c.known_bit.result c.shared-place.ensures.shares (omega arith) (omega arith) c.len-2.ensures.bits c.known_bit.ensures
