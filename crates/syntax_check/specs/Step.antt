-- What the program keeps of the machine's state, and what a step changes in it.
use Rattle.std.specs.Prelude.{List, [], ◌∷◌, reverse, Option, Some, None, Result, Ok, Err}
use Rattle.tlb_syntax.specs.Lexeme.{Lexeme}
use Rattle.tlb_syntax.specs.Grammar.{Bounds}
use Rattle.tlb_syntax.specs.Written.{unbounded}
use Rattle.syntax_check.specs.Judge.{free}
use Rattle.syntax_check.specs.declared.machine.ParserState.{ParserState}
use Rattle.syntax_check.specs.declared.machine.Frame.{Frame}
use Rattle.syntax_check.specs.declared.machine.Cause.{Cause}
use Rattle.syntax_check.specs.declared.step.Begin.{Begin as ABegin}
use Rattle.syntax_check.specs.declared.step.Begin.TheVariants.{Leaf, NoLeaf, Prefix, Paren, Record}
use Rattle.syntax_check.specs.declared.step.Limits.{Limits}
use Rattle.syntax_check.specs.declared.step.Change.{Change}
use Rattle.syntax_check.specs.declared.step.Change.TheVariants.{Keep, Open, Close}
use Rattle.syntax_check.specs.declared.step.Move.{Move}
use Rattle.syntax_check.specs.declared.step.Machine.{Machine}
use Rattle.syntax_check.specs.Machine.{State, at, Outcome, step, step_mode, Begin, leaf, no_leaf, prefix, paren}
use Rattle.syntax_check.specs.Machine.{record_}

abbrev pub begin_as : ABegin → Begin
begin_as Leaf = leaf
begin_as NoLeaf = no_leaf
begin_as Prefix = prefix
begin_as Paren = paren
begin_as Record = record_

abbrev pub bounds_as : Limits → Bounds
bounds_as m = record { levels = m.levels; items = m.items; params = m.params }

-- the open brackets, the innermost first
abbrev pub below : Machine → List Frame
below a = reverse a.open.items

abbrev pub state : Machine → State
state a = at a.mode a.levels (below a)

abbrev pub bounds_of : Machine → Bounds
bounds_of a = bounds_as a.limits

-- what a lexeme leads to in a mode
abbrev pub in_mode : Machine → ParserState → Lexeme → Outcome
in_mode a mode t = step_mode (bounds_of a) mode a.levels (below a) t

-- what a lexeme leads to, and what it would without limits
abbrev pub stepped : Machine → Lexeme → Outcome
stepped a t = step (bounds_of a) (state a) t

abbrev pub stepped_freely : Machine → Lexeme → Outcome
stepped_freely a t = step unbounded (free (state a)) t

-- ---- what a step changes

abbrev pub changed : Change → List Frame → List Frame
changed Keep fs = fs
changed (Open f) fs = f ∷ fs
changed Close [] = []
changed Close (f ∷ fs) = fs

abbrev pub after_move : Move → List Frame → State
after_move to fs = at to.mode to.levels (changed to.change fs)

abbrev pub outcome : Result Move Cause → List Frame → Outcome
outcome (Ok to) fs = Ok (after_move to fs)
outcome (Err why) fs = Err why

abbrev pub innermost : List Frame → Option Frame
innermost [] = None
innermost (f ∷ fs) = Some f
