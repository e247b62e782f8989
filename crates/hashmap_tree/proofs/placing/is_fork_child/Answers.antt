use Rattle.std.proofs.Common.{◌≡◌, suc, ◌-◌, length, arith}
use Rattle.hashmap_tree.proofs.Neighbors.{no-bits, as-zero-alone, as-zero-next, as-one-alone, as-one-next}
use Rattle.hashmap_tree.proofs.placing.is_fork_child.Goals as goal

pub returns-then-len-eq0 : goal.returns-then-len-eq0
returns-then-len-eq0 c = λ n x o. no-bits c.args.key.now _ (omega arith)

pub returns-in-None : goal.returns-in-None
returns-in-None c = λ n x o.
    as-one-alone n (c.len-len.result - 1) c.args.before.now c.args.after.now c.args.key.now x c.known_bit.result c.in-None.ensures.cases c.if-known_bit.true c.known_bit.ensures (omega arith) o

pub returns-in-Some : goal.returns-in-Some
returns-in-Some c = λ n x o.
    as-one-next n (c.len-len.result - 1) c.args.before.now c.args.after.now c.in-Some.field-0-1.now c.in-Some.entry.now c.args.key.now x c.known_bit.result c.begin_together.result c.in-Some.ensures.cases.0 c.if-known_bit.true c.known_bit.ensures (omega arith) c.begin_together.ensures o

pub returns-in-None-split_first : goal.returns-in-None-split_first
returns-in-None-split_first c = λ n x o.
    as-zero-alone n (c.len-len.result - 1) c.args.before.now c.args.after.now c.args.key.now x c.known_bit.result c.in-None-split_first.ensures.cases c.if-known_bit.false c.known_bit.ensures (omega arith) o

pub returns-in-Some-split_first : goal.returns-in-Some-split_first
returns-in-Some-split_first c = λ n x o.
    as-zero-next n (c.len-len.result - 1) c.args.before.now c.args.after.now c.in-Some-split_first.field-0-1.now c.in-Some-split_first.entry.now c.args.key.now x c.known_bit.result c.begin_together-in-Some-split_first.result c.in-Some-split_first.ensures.cases.0 c.if-known_bit.false c.known_bit.ensures (omega arith) c.begin_together-in-Some-split_first.ensures o
