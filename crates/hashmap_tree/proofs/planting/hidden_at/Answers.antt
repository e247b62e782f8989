use Rattle.std.proofs.Common.{sym}
use Rattle.hashmap_tree.proofs.Planted.{hides-first}
use Rattle.hashmap_tree.proofs.planting.hidden_at.Goals as goal

pub returns-in-Some : goal.returns-in-Some
returns-in-Some c =
    hides-first c.args.start c.args.entries.now c.in-Some.field-0-1.now c.in-Some.entry.now c.hidden_of.result c.in-Some.ensures.cases.0 c.hidden_of.ensures
