-- What the machine answers for a whole list of lexemes: that it is written, or the first refusal with the number of
-- lexemes before it.
use Rattle.std.specs.Prelude.{ℕ, ◌+◌, ◌==◌, Bool, true, false, List, [], ◌∷◌, ◌++◌, map, length, count_by, bytes_eq}
use Rattle.std.specs.Prelude.{if◌then◌else◌, Option, Some, None, Result, Ok, Err}
use Rattle.tlb_syntax.specs.Lexeme.{Lexeme, word, blank}
use Rattle.tlb_syntax.specs.Grammar.{Bounds}
use Rattle.tlb_syntax.specs.Written.{unbounded, standard}
use Rattle.syntax_check.specs.declared.machine.Side.{Side}
use Rattle.syntax_check.specs.declared.machine.Side.TheVariants.{Paren, Left, Right, Word}
use Rattle.syntax_check.specs.declared.machine.Spot.{Spot}
use Rattle.syntax_check.specs.declared.machine.Spot.TheVariants.{Operand, Argument, Width, Field, Guarded, Param}
use Rattle.syntax_check.specs.declared.machine.ParserState.{ParserState}
use Rattle.syntax_check.specs.declared.machine.ParserState.TheVariants.{Start, Marked, Headed, Items, Brace, BraceName}
use Rattle.syntax_check.specs.declared.machine.ParserState.TheVariants.{Kind, KindEnd, ItemName, ItemBlank, Term, Apply}
use Rattle.syntax_check.specs.declared.machine.ParserState.TheVariants.{Applied, Operated, Typed, Bit, BitEnd}
use Rattle.syntax_check.specs.declared.machine.ParserState.TheVariants.{Result as ResultName, Params}
use Rattle.syntax_check.specs.declared.machine.Frame.{Frame}
use Rattle.syntax_check.specs.declared.machine.Frame.TheVariants as frames
use Rattle.syntax_check.specs.declared.machine.Cause.{Cause}
use Rattle.syntax_check.specs.declared.machine.Cause.TheVariants.{Syntax, TooManyConstructors}
use Rattle.syntax_check.specs.Machine.{State, at, Outcome, step, schema_start, word_start, is_schema_end, is_word_end}

-- ---- a state without its counts

abbrev pub free_side : Side → Side
free_side Paren = Paren
free_side (Left k) = Left None
free_side (Right k) = Right None
free_side Word = Word

abbrev pub free_spot : Spot → Spot
free_spot (Operand p s) = Operand (free_side p) s
free_spot (Argument p s) = Argument (free_side p) s
free_spot (Width p s) = Width (free_side p) s
free_spot (Field k) = Field None
free_spot (Guarded k) = Guarded None
free_spot (Param k) = Param None

abbrev pub free_mode : ParserState → ParserState
free_mode Start = Start
free_mode Marked = Marked
free_mode Headed = Headed
free_mode (Items k) = Items None
free_mode (Brace k) = Brace None
free_mode (BraceName k) = BraceName None
free_mode (Kind k) = Kind None
free_mode (KindEnd k) = KindEnd None
free_mode (ItemName k) = ItemName None
free_mode (ItemBlank k) = ItemBlank None
free_mode (Term spot inner) = Term (free_spot spot) None
free_mode (Apply p s) = Apply (free_side p) s
free_mode (Applied p s) = Applied (free_side p) s
free_mode (Operated p s) = Operated (free_side p) s
free_mode (Typed k) = Typed None
free_mode (Bit k) = Bit None
free_mode (BitEnd k) = BitEnd None
free_mode ResultName = ResultName
free_mode (Params k) = Params None

abbrev pub free_frame : Frame → Frame
free_frame (frames.Paren spot lv) = frames.Paren (free_spot spot) None
free_frame (frames.Record spot lv) = frames.Record (free_spot spot) None

abbrev pub free : State → State
free (at mode lv below) = at (free_mode mode) None (map free_frame below)

-- ---- verdicts

-- a refusal with the number of lexemes before it, or none
abbrev pub Verdict : Type 0
Verdict = Option (Cause × ℕ)

-- the limit that was met already, or else this
abbrev pub or_met : Verdict → Cause × ℕ → Verdict
or_met (Some met) late = Some met
or_met None late = Some late

-- Where the machine stands: its bounds and state, how many lexemes are after it, how many were before the name of the
-- declaration that it is in, the results of the declarations so far, and the limit that was met in this one.
pub record Position : Type 0 where
  pub bounds : Bounds
  pub state : State
  pub place : ℕ
  pub begun : ℕ
  pub names : List (List ℕ)
  pub met : Verdict

-- where the name of a declaration may come
abbrev pub awaits_name : State → Bool
awaits_name (at Start lv below) = true
awaits_name (at Marked lv below) = true
awaits_name _ = false

abbrev pub is_result : State → Bool
is_result (at ResultName lv below) = true
is_result _ = false

abbrev pub heads : Lexeme → Bool
heads (word x) = true
heads blank = true
heads _ = false

abbrev pub count_of : List ℕ → List (List ℕ) → ℕ
count_of x names = count_by (λ y. bytes_eq y x) names

-- the name of a declaration: the limit that was met before it, or the 4,097th
abbrev pub counted : Position → Verdict
counted a =
    if awaits_name a.state then (if length a.names == 4096 then or_met a.met (TooManyConstructors, a.place) else a.met)
    else None

-- after a whole declaration's result: the 257th of its type, or the limit that was met in it
abbrev pub judged_result : Position → List ℕ → Verdict
judged_result a x = if count_of x a.names == 256 then Some (TooManyConstructors, a.begun) else a.met

abbrev pub judged_name : Position → Lexeme → Verdict
judged_name a (word x) = if is_result a.state then judged_result a x else counted a
judged_name a blank = counted a
judged_name a t = None

abbrev pub names_with : Position → Lexeme → List (List ℕ)
names_with a (word x) = if is_result a.state then a.names ++ x ∷ [] else a.names
names_with a t = a.names

abbrev pub onward : Position → Lexeme → Bounds → Verdict → State → Position
onward a t m met next =
    record {
      bounds = m;
      state = next;
      place = a.place + 1;
      begun = if awaits_name a.state then a.place else a.begun;
      names = names_with a t;
      met = met;
    }

-- what goes on after a limit
abbrev pub freed : Position → Lexeme → Cause → Outcome → Result Position (Cause × ℕ)
freed a t why (Ok next) = Ok (onward a t unbounded (Some (why, a.place)) next)
freed a t why (Err late) = Err (why, a.place)

abbrev pub met_or : Verdict → Cause × ℕ → Cause × ℕ
met_or (Some met) late = met
met_or None late = late

abbrev pub after_step : Position → Lexeme → Outcome → Result Position (Cause × ℕ)
after_step a t (Ok next) = Ok (onward a t a.bounds a.met next)
after_step a t (Err Syntax) = Err (met_or a.met (Syntax, a.place))
after_step a t (Err why) = freed a t why (step unbounded (free a.state) t)

abbrev pub advance_past : Position → Lexeme → Verdict → Result Position (Cause × ℕ)
advance_past a t (Some met) = Err met
advance_past a t None = after_step a t (step a.bounds a.state t)

-- one lexeme further
abbrev pub advance : Position → Lexeme → Result Position (Cause × ℕ)
advance a t = advance_past a t (judged_name a t)

abbrev pub finish : (State → Bool) → Position → Verdict
finish may_end a = if may_end a.state then a.met else or_met a.met (Syntax, a.place)

abbrev pub go_on : Result Position (Cause × ℕ) → (Position → Verdict) → Verdict
go_on (Ok next) further = further next
go_on (Err refusal) further = Some refusal

abbrev pub go : (State → Bool) → Position → List Lexeme → Verdict
go may_end a [] = finish may_end a
go may_end a (t ∷ ts) = go_on (advance a t) (λ next. go may_end next ts)

abbrev pub position_at : Bounds → State → Position
position_at m st = record { bounds = m; state = st; place = 0; begun = 0; names = []; met = None }

abbrev pub schema_verdict : List Lexeme → Verdict
schema_verdict ls = go is_schema_end (position_at standard (schema_start standard)) ls

abbrev pub word_verdict : List Lexeme → Verdict
word_verdict ls = go is_word_end (position_at standard (word_start standard)) ls
