-- An answer, seen without where it lies in memory.
use Rattle.cli_refusals.specs.Refusal.{Verdict}
use Rattle.cli_run.specs.declared.answer.Answer.{Answer}

abbrev pub verdict_by : Answer → Verdict
verdict_by answer = record { status = answer.status; text = answer.text.items }
