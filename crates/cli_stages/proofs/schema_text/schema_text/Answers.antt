use Rattle.std.proofs.Common.{refl}
use Rattle.cli_stages.proofs.schema_text.schema_text.Goals as goal

pub returns-in-Err-2-clause-given : goal.returns-in-Err-2-clause-given
returns-in-Err-2-clause-given c =
    record { answer = (c.in-Err.error, c.in-Err.ensures.holds (c.is_no_memory.ensures c.if-is_no_memory.false), refl) }
