use Rattle.std.proofs.Common.{◌≡◌, ◌↔◌, Bool, true, false, IsTrue}
use Rattle.hashmap_tree.proofs.Neighbors.{placed-more, first-misplaced-at, all-placed}
use Rattle.hashmap_tree.proofs.placing.misplaced.Goals as goal

refuted : {P : Type 0} (b : Bool) → b ≡ false → IsTrue b ↔ P → P → ⊥
refuted true e f p = cc
refuted false e f p = let h : false ≡ true = f.1 p in cc

pub returns-then-not-is_placed : goal.returns-then-not-is_placed
returns-then-not-is_placed c =
    first-misplaced-at c.entries.i c.args.entries.now c.index-entries-i.result c.again.result c.entries-test.true c.index-entries-i.is c.again.ensures (refuted c.is_placed.result c.if-not-is_placed.true (c.is_placed.ensures _ c.requires.order.1)) c.entries.invariant

pub entries-preserved : goal.entries-preserved
entries-preserved c =
    placed-more c.entries.i c.args.entries.now c.entries-test.true ((c.is_placed.ensures _ c.requires.order.1).0 c.if-not-is_placed.false) c.entries.invariant

pub returns : goal.returns
returns c = all-placed c.entries.i c.args.entries.now c.entries-test.false c.entries.invariant
