use Rattle.std.proofs.Common.{map, string_bytes}
use Rattle.cli_run.proofs.Ran.{ran-outcome, ran-usage, ran-no_form, ran-read_fault, ran-too_long, ran-write_fault, ran-prefix, ran-no_memory, ran-puts, ran-refused, ran-opens, ran-loaded, ran-calm_shelf, ran-calm_sink}
use Rattle.cli_run.proofs.run.run.Goals as goal

pub returns-clause-outcome : goal.returns-clause-outcome
returns-clause-outcome g c = ran-outcome (map string_bytes c.args.words.now) _ _ _ _ _ _ _ c.perform.ensures.ran

pub returns-clause-usage : goal.returns-clause-usage
returns-clause-usage g c = ran-usage c.each_command_answers_once.ensures _ _ _ _ _ _ _ _ c.perform.ensures.ran

pub returns-clause-no_form : goal.returns-clause-no_form
returns-clause-no_form g c = ran-no_form _ _ _ _ _ _ _ _ c.perform.ensures.ran

pub returns-clause-read_fault : goal.returns-clause-read_fault
returns-clause-read_fault g c = ran-read_fault c.each_command_answers_once.ensures _ _ _ _ _ _ _ _ c.perform.ensures.ran

pub returns-clause-too_long : goal.returns-clause-too_long
returns-clause-too_long g c = ran-too_long c.each_command_answers_once.ensures _ _ _ _ _ _ _ _ c.perform.ensures.ran

pub returns-clause-write_fault : goal.returns-clause-write_fault
returns-clause-write_fault g c = ran-write_fault _ _ _ _ _ _ _ _ c.perform.ensures.ran

pub returns-clause-prefix : goal.returns-clause-prefix
returns-clause-prefix g c = ran-prefix _ _ _ _ _ _ _ _ c.perform.ensures.ran

pub returns-clause-no_memory : goal.returns-clause-no_memory
returns-clause-no_memory g c = ran-no_memory _ _ _ _ _ _ _ _ c.perform.ensures.ran

pub returns-clause-puts : goal.returns-clause-puts
returns-clause-puts g c = ran-puts _ _ _ _ _ _ _ _ c.perform.ensures.ran

pub returns-clause-refused : goal.returns-clause-refused
returns-clause-refused g c = ran-refused _ _ _ _ _ _ _ _ c.perform.ensures.ran

pub returns-clause-opens : goal.returns-clause-opens
returns-clause-opens g c = ran-opens _ _ _ _ _ _ _ _ c.perform.ensures.ran

pub returns-clause-loaded : goal.returns-clause-loaded
returns-clause-loaded g c = ran-loaded _ _ _ _ _ _ _ _ c.perform.ensures.ran

pub returns-clause-calm_shelf : goal.returns-clause-calm_shelf
returns-clause-calm_shelf g c = ran-calm_shelf _ _ _ _ _ _ _ _ c.perform.ensures.ran

pub returns-clause-calm_sink : goal.returns-clause-calm_sink
returns-clause-calm_sink g c = ran-calm_sink _ _ _ _ _ _ _ _ c.perform.ensures.ran
