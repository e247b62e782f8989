use Rattle.cli_stages.proofs.RebuiltFacts.{built-again}
use Rattle.cli_stages.proofs.rebuilt.rebuilt.Goals as goal

pub returns-clause-answer : goal.returns-clause-answer
returns-clause-answer c =
    built-again c.accepted_is_buildable.ensures c.tree_is_built.ensures c.unfit_stops.ensures _ c.schema.ensures.accepted
    c.schema.ensures.kept _ _ (c.lax_in_range.ensures _ _ _ _ c.good.ensures c.requires) _ c.built.ensures.answer
