use Rattle.command_laws.proofs.Prove.{ProofGrounds, prove-then-view}
use Rattle.command_laws.proofs.laws.prove_then_view.Goals as goal

pub returns : goal.returns
returns c =
    let laws : ProofGrounds = record {
      good = c.held_is_good.ensures;
      lines = c.line_holds.ensures;
      stages = c.each_stage_answers_once.ensures;
      accepted = c.gives_accepted.ensures;
      laid = c.laid_is_read.ensures;
      views = c.prove_then_view.ensures;
    } in
    prove-then-view laws
