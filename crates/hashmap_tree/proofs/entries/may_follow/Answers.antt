use Rattle.hashmap_tree.specs.Plants.{part_of}
use Rattle.hashmap_tree.proofs.KeySteps.{follows-none, follows-some, follows-not}
use Rattle.hashmap_tree.proofs.entries.may_follow.Goals as goal

pub returns-in-None : goal.returns-in-None
returns-in-None c =
    follows-none c.args.n c.args.entry.now.key (part_of c.args.entry.now.part) c.may_stand.result c.args.before.now c.in-None.is c.may_stand.ensures.bits c.may_stand.ensures.stands

pub returns-then-is_before : goal.returns-then-is_before
returns-then-is_before c =
    follows-some c.args.n c.args.entry.now.key c.in-Some.key (part_of c.args.entry.now.part) c.may_stand-then-is_before.result c.is_before.result c.args.before.now c.in-Some.is c.may_stand-then-is_before.ensures.bits c.is_before.ensures c.if-is_before.true c.may_stand-then-is_before.ensures.stands

pub returns-else-is_before : goal.returns-else-is_before
returns-else-is_before c =
    follows-not c.args.n c.args.entry.now.key c.in-Some.key (part_of c.args.entry.now.part) c.is_before.result c.args.before.now c.in-Some.is c.is_before.ensures c.if-is_before.false
