use Rattle.std.proofs.Common.{refl}
use Rattle.cli_stages.proofs.bag.bag.Goals as goal

pub returns-in-Err-2 : goal.returns-in-Err-2
returns-in-Err-2 c =
    record { answer = (c.in-Err.error, c.in-Err.ensures.holds (c.is_no_memory.ensures c.if-is_no_memory.false), refl) }
