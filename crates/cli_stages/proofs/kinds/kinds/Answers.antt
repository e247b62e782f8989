use Rattle.std.proofs.Common.{refl}
use Rattle.cli_stages.proofs.kinds.kinds.Goals as goal

pub returns-else-is_no_memory : goal.returns-else-is_no_memory
returns-else-is_no_memory c =
    record { answer = (c.in-Err.error, c.in-Err.ensures.holds (c.is_no_memory.ensures c.if-is_no_memory.false), refl) }
