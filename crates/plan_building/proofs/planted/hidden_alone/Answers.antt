use Rattle.std.proofs.Common.{map}
use Rattle.hashmap_tree.specs.Plants.{leaf_of}
use Rattle.plan_building.proofs.Fitting.{alone_leaves, alone_more, alone_none}
use Rattle.plan_building.proofs.planted.hidden_alone.Goals as goal

pub returns-in-None : goal.returns-in-None
returns-in-None c = alone_none (map leaf_of c.args.leaves.now) c.args.unknown.now c.in-None.ensures.cases

pub returns-then-leaves-gt0 : goal.returns-then-leaves-gt0
returns-then-leaves-gt0 c = alone_leaves c.args.leaves.now c.args.unknown.now c.if-leaves-gt0.true

pub returns-then-rest-gt0 : goal.returns-then-rest-gt0
returns-then-rest-gt0 c =
    alone_more (map leaf_of c.args.leaves.now) c.args.unknown.now c.in-Some.first.now c.in-Some.rest.now
    c.in-Some.ensures.cases.0 c.if-rest-gt0.true
