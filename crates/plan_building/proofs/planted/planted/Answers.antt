use Rattle.std.proofs.Common.{List, ap, map, subst, ℕ}
use Rattle.bit_slice.specs.Bits.{AreBits}
use Rattle.building.specs.PlainBuilder.{planted}
use Rattle.hashmap_tree.specs.Exceeds.{deep, full}
use Rattle.hashmap_tree.specs.PlacedLaws.{misplaced-not_all}
use Rattle.hashmap_tree.specs.Plants.{leaf_of}
use Rattle.plan_building.specs.StopsLaws.{stops_where}
use Rattle.plan_building.proofs.Planting.{hashed_merged, planted_not, planted_tree}
use Rattle.plan_building.proofs.planted.planted.Goals as goal

pub returns-in-Ok : goal.returns-in-Ok
returns-in-Ok c = λ h.
    ap (planted h) (planted_tree c.args.n _ _ c.in-Ok.ensures.0 c.in-Ok.ensures.1
    (let P : List ℕ → Type 0 = AreBits in subst P c.content.ensures.bits c.len-length.ensures.bits)
    (hashed_merged (map leaf_of c.args.leaves.items) c.args.unknown.now c.are_hashes.ensures))

pub unreachable-requires : goal.unreachable-requires
unreachable-requires c =
    misplaced-not_all c.in-Err-Form.field-0-0 _ (rw c.in-Err-Form.field-0-is at c.in-Err-Form.ensures) c.requires.placed

pub returns-in-Err-Full : goal.returns-in-Err-Full
returns-in-Err-Full c = λ h.
    let d = rw c.in-Err-Full.field-0-is at c.in-Err-Full.ensures in
    stops_where h c.stop_here.result _ _
    (ap (planted h) (planted_not c.args.n _ (full c.in-Err-Full.field-0-0) c.requires.order
    (hashed_merged (map leaf_of c.args.leaves.items) c.args.unknown.now c.are_hashes.ensures) d.1))
    (c.stop_here.ensures h)

pub returns-in-Err-TooDeep : goal.returns-in-Err-TooDeep
returns-in-Err-TooDeep c = λ h.
    let d = rw c.in-Err-TooDeep.field-0-is at c.in-Err-TooDeep.ensures in
    stops_where h c.stop_here-in-Err-TooDeep.result _ _
    (ap (planted h) (planted_not c.args.n _ deep c.requires.order
    (hashed_merged (map leaf_of c.args.leaves.items) c.args.unknown.now c.are_hashes.ensures) d.1))
    (c.stop_here-in-Err-TooDeep.ensures h)
