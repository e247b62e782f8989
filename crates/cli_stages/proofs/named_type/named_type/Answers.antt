use Rattle.std.proofs.Common.{refl}
use Rattle.cli_stages.proofs.Named.{named}
use Rattle.cli_stages.proofs.named_type.named_type.Goals as goal

pub returns-else-is_no_memory : goal.returns-else-is_no_memory
returns-else-is_no_memory c =
    let is_refusal = c.is_no_memory.ensures c.if-is_no_memory.false in
    record {
      answer = record {
        error = c.in-Err.error;
        is_refusal = is_refusal;
        refused = c.in-Err.ensures.answer is_refusal;
        is = refl;
      };
    }

pub returns-in-Ok-shown : goal.returns-in-Ok-shown
returns-in-Ok-shown c = record { answer = named _ _ _ _ c.in-Ok.ensures.answer c.in-Ok-shown.ensures.written }
