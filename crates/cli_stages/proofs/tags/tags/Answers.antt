use Rattle.std.proofs.Common.{refl}
use Rattle.cli_stages.proofs.tags.tags.Goals as goal

pub returns-in-Ok : goal.returns-in-Ok
returns-in-Ok c = record { answer = (c.in-Ok.ensures.judged.0, c.in-Ok.ensures.judged.2) }

pub returns-else-is_no_memory : goal.returns-else-is_no_memory
returns-else-is_no_memory c =
    let told = c.is_no_memory.ensures c.if-is_no_memory.false in
    record { answer = (c.in-Err.error, record { is_refusal = told; first = c.in-Err.ensures.judged told; is = refl }) }
