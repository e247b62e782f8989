use Rattle.command_laws.proofs.Read.{ReadGrounds, read-then-build}
use Rattle.command_laws.proofs.laws.read_then_build.Goals as goal

pub returns : goal.returns
returns c =
    let laws : ReadGrounds = record {
      good = c.held_is_good.ensures;
      small = c.held_is_small.ensures;
      stages = c.each_stage_answers_once.ensures;
      closed = c.named_is_closed.ensures;
      writable = c.reading_is_writable.ensures;
    } in
    read-then-build laws
