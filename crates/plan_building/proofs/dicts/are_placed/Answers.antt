use Rattle.std.proofs.Common.{map, sym, ◌∙◌}
use Rattle.std.proofs.lemmas.Bool.{eqb-true}
use Rattle.hashmap_tree.specs.Plants.{leaf_of}
use Rattle.plan_building.proofs.Fitting.{misplaced_so, none_hidden, placed_so, placed_tree}
use Rattle.plan_building.proofs.dicts.are_placed.Goals as goal

pub returns-then-is_empty : goal.returns-then-is_empty
returns-then-is_empty c =
    placed_so _ (none_hidden (map leaf_of c.args.leaves.items) c.args.unknown.now
    (eqb-true _ _ (sym c.is_empty.ensures ∙ c.if-is_empty.true)))

pub returns-in-Err-Form : goal.returns-in-Err-Form
returns-in-Err-Form c = misplaced_so c.in-Err-Form.field-0-0 _ (rw c.in-Err-Form.field-0-is at c.in-Err-Form.ensures)

pub returns-in-Ok : goal.returns-in-Ok
returns-in-Ok c = let h = c.in-Ok.ensures in placed_tree _ _ _ h.0

pub returns-in-Err-Full : goal.returns-in-Err-Full
returns-in-Err-Full c = let h = rw c.in-Err-Full.field-0-is at c.in-Err-Full.ensures in placed_so _ h.0

pub returns-in-Err-TooDeep : goal.returns-in-Err-TooDeep
returns-in-Err-TooDeep c = let h = rw c.in-Err-TooDeep.field-0-is at c.in-Err-TooDeep.ensures in placed_so _ h.0
