use Rattle.std.proofs.Common.{◌≡◌, ap, arith}
use Rattle.hashmap_tree.specs.Plants.{part_of}
use Rattle.hashmap_tree.proofs.Neighbors.{hidden-place, leaf-place, no-place}
use Rattle.hashmap_tree.proofs.placing.is_placed.Goals as goal

pub returns-in-None : goal.returns-in-None
returns-in-None c = λ n o. absurd (no-place c.args.i c.args.entries.now _ c.split_at.ensures.back c.in-None.ensures.cases c.requires)

pub returns-in-Leaf : goal.returns-in-Leaf
returns-in-Leaf c = λ n o.
    leaf-place n c.args.i c.args.entries.now c.split_at.result.0.now c.split_at.result.1.now c.in-Some.after.now c.in-Some.entry.now _ c.split_at.ensures.front c.split_at.ensures.back c.in-Some.ensures.cases.0 c.split_at.ensures.front_len (ap part_of c.in-Leaf.is)

pub returns-in-Hidden : goal.returns-in-Hidden
returns-in-Hidden c = λ n o.
    hidden-place n c.args.i c.args.entries.now c.split_at.result.0.now c.split_at.result.1.now c.in-Some.after.now c.in-Some.entry.now c.in-Hidden.field-0 c.is_fork_child.result o c.split_at.ensures.front c.split_at.ensures.back c.in-Some.ensures.cases.0 c.split_at.ensures.front_len (ap part_of c.in-Hidden.is) c.is_fork_child.ensures
