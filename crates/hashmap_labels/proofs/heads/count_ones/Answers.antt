use Rattle.std.proofs.Common.{arith}
use Rattle.hashmap_labels.proofs.BitScans.{ones_start, ones_next, ones_end, ones_none}
use Rattle.hashmap_labels.proofs.heads.count_ones.Goals as goal

pub bits-init : goal.bits-init
bits-init c = ones_start c.args.s.now

pub returns-then-not-known_bit-clause-count : goal.returns-then-not-known_bit-clause-count
returns-then-not-known_bit-clause-count c = ones_end c.args.s.now c.bits.i c.known_bit.result (omega arith) c.known_bit.ensures (search (c.if-not-known_bit.true)) c.bits.invariant

pub bits-preserved : goal.bits-preserved
bits-preserved c = ones_next c.args.s.now c.bits.i c.known_bit.result (omega arith) c.known_bit.ensures (search (c.if-not-known_bit.false)) c.bits.invariant

pub returns-clause-count : goal.returns-clause-count
returns-clause-count c = ones_none c.args.s.now c.bits.i (omega arith) c.bits.invariant
