use Rattle.command_laws.proofs.Tidy.{Grounds, tidy-again, tidy-fits, tidy-is-strict}
use Rattle.command_laws.proofs.laws.tidy_is_strict.Goals as goal

pub returns : goal.returns
returns c =
    let laws : Grounds = record {
      good = c.held_is_good.ensures;
      small = c.held_is_small.ensures;
      lines = c.line_holds.ensures;
      stages = c.each_stage_answers_once.ensures;
      accepted = c.gives_accepted.ensures;
      buildable = c.accepted_is_buildable.ensures;
      one_tree = c.lax_has_one_tree.ensures;
      in_range = c.lax_in_range.ensures;
      is_built = c.tree_is_built.ensures;
      stays = c.strict_stays.ensures;
    } in
    record { fits = tidy-fits laws; strict = tidy-is-strict laws; again = tidy-again laws }
