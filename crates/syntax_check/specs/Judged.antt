-- What the program keeps while it judges, and what it answers.
use Rattle.std.specs.Prelude.{ℕ, Bool, map, option_map, Option, Some, None, Result, Ok, Err}
use Rattle.tlb_syntax.specs.Written.{standard}
use Rattle.syntax_check.specs.declared.machine.Cause.{Cause}
use Rattle.syntax_check.specs.declared.judge.Refusal.{Refusal}
use Rattle.syntax_check.specs.declared.judge.Judge.{Judge}
use Rattle.syntax_check.specs.declared.judge.Whole.{Whole}
use Rattle.syntax_check.specs.declared.judge.Whole.TheVariants.{Schema, Word}
use Rattle.syntax_check.specs.Machine.{State, schema_start, word_start, is_schema_end, is_word_end}
use Rattle.syntax_check.specs.Judge.{Position, Verdict}
use Rattle.syntax_check.specs.Step.{state, bounds_of}

abbrev pub reported : Refusal → Cause × ℕ
reported r = (r.cause, r.place)

abbrev pub reported_verdict : Option Refusal → Verdict
reported_verdict found = option_map reported found

abbrev pub position : Judge → Position
position a =
    record {
      bounds = bounds_of a.machine;
      state = state a.machine;
      place = a.place;
      begun = a.begun;
      names = map (λ x. x.now) a.names.items;
      met = reported_verdict a.met;
    }

-- the judge goes on, or refuses
abbrev pub goes_to : Option Refusal → Position → Result Position (Cause × ℕ)
goes_to None next = Ok next
goes_to (Some r) next = Err (reported r)

abbrev pub start_of : Whole → State
start_of Schema = schema_start standard
start_of Word = word_start standard

abbrev pub may_end : Whole → State → Bool
may_end Schema = is_schema_end
may_end Word = is_word_end
