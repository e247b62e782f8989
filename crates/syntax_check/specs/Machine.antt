-- The machine that goes through the lexemes of a text: its states, and one step for each lexeme. The contracts of the
-- public calls speak of the productions alone; proofs/ ties the machine to them.
use Rattle.std.specs.Prelude.{ℕ, zero, suc, Bool, true, false, nat_le, List, [], ◌∷◌, bytes_eq, codes, if◌then◌else◌}
use Rattle.std.specs.Prelude.{Option, Some, None, Result, Ok, Err}
use Rattle.tlb_syntax.specs.declared.sign.Sign.{Sign}
use Rattle.tlb_syntax.specs.declared.sign.Sign.TheVariants.{Hash, HashHash, HashLess, HashLessEqual, Colon, Semicolon}
use Rattle.tlb_syntax.specs.declared.sign.Sign.TheVariants.{Equal, OpenParen, CloseParen, OpenBrace, CloseBrace}
use Rattle.tlb_syntax.specs.declared.sign.Sign.TheVariants.{OpenBracket, CloseBracket, Caret, Tilde, Question, Dot}
use Rattle.tlb_syntax.specs.declared.sign.Sign.TheVariants.{Asterisk, Plus, Less, LessEqual, Greater, GreaterEqual}
use Rattle.tlb_syntax.specs.declared.sign.Sign.TheVariants.{Bang}
use Rattle.tlb_syntax.specs.Lexeme.{Lexeme, word, blank, number, tag, sign}
use Rattle.tlb_syntax.specs.Grammar.{Count, Bounds}
use Rattle.syntax_check.specs.declared.machine.Side.{Side}
use Rattle.syntax_check.specs.declared.machine.Side.TheVariants.{Paren, Left, Right, Word}
use Rattle.syntax_check.specs.declared.machine.Spot.{Spot}
use Rattle.syntax_check.specs.declared.machine.Spot.TheVariants.{Operand, Argument, Width, Field, Guarded, Param}
use Rattle.syntax_check.specs.declared.machine.ParserState.{ParserState}
use Rattle.syntax_check.specs.declared.machine.ParserState.TheVariants.{Start, Marked, Headed, Items, Brace, BraceName}
use Rattle.syntax_check.specs.declared.machine.ParserState.TheVariants.{Kind, KindEnd, ItemName, ItemBlank, Term, Apply}
use Rattle.syntax_check.specs.declared.machine.ParserState.TheVariants.{Applied, Operated, Typed, Bit, BitEnd}
use Rattle.syntax_check.specs.declared.machine.ParserState.TheVariants.{Result as ResultName, Params}
use Rattle.syntax_check.specs.declared.machine.Frame.{Frame}
use Rattle.syntax_check.specs.declared.machine.Frame.TheVariants as frames
use Rattle.syntax_check.specs.declared.machine.Cause.{Cause}
use Rattle.syntax_check.specs.declared.machine.Cause.TheVariants.{Syntax, DeepType, TooManyFields, TooManyParams}

-- the mode, the levels that may be opened, and the open brackets, the innermost first
pub data State : Type 0 where
  at : ParserState → Count → List Frame → State

abbrev pub Outcome : Type 0
Outcome = Result State Cause

abbrev pub and_then : {A B : Type 0} → Result A Cause → (A → Result B Cause) → Result B Cause
and_then (Ok x) next = next x
and_then (Err why) next = Err why

-- one more comes, where one may
abbrev pub spend : Count → Cause → Result Count Cause
spend None why = Ok None
spend (Some zero) why = Err why
spend (Some (suc n)) why = Ok (Some n)

-- ---- the lexemes that begin something

-- how a term begins
pub data Begin : Type 0 where
  leaf : Begin
  -- a number above 2^32 - 1, which has no tree
  no_leaf : Begin
  prefix : Begin
  paren : Begin
  record_ : Begin

abbrev pub begin_sign : Sign → Option Begin
begin_sign Hash = Some leaf
begin_sign Tilde = Some prefix
begin_sign Caret = Some prefix
begin_sign OpenParen = Some paren
begin_sign OpenBracket = Some record_
begin_sign _ = None

abbrev pub begin_number : Option ℕ → Begin
begin_number (Some n) = leaf
begin_number None = no_leaf

abbrev pub begin_of : Lexeme → Option Begin
begin_of (word x) = Some leaf
begin_of (number n) = Some (begin_number n)
begin_of (sign s) = begin_sign s
begin_of _ = None

abbrev pub is_width : Sign → Bool
is_width HashHash = true
is_width HashLess = true
is_width HashLessEqual = true
is_width _ = false

abbrev pub compares : Sign → Bool
compares Equal = true
compares Less = true
compares LessEqual = true
compares Greater = true
compares GreaterEqual = true
compares _ = false

-- ---- terms

-- after a term that stands there
abbrev pub given_to : Spot → ParserState
given_to (Operand p s) = Operated p s
given_to (Argument p s) = Applied p s
given_to (Width p s) = Operated p s
given_to (Field k) = Typed k
given_to (Guarded k) = Items k
given_to (Param k) = Params k

-- a term begins at a spot, where `inner` levels may be opened in it
abbrev pub begins : Bounds → Begin → Spot → Count → Count → List Frame → Outcome
begins m leaf spot lv inner below = Ok (at (given_to spot) lv below)
begins m no_leaf spot lv inner below = Err Syntax
begins m prefix spot lv inner below = and_then (spend inner DeepType) (λ left. Ok (at (Term spot left) lv below))
begins m paren spot lv inner below = and_then (spend inner DeepType)
    (λ left. Ok (at (Apply Paren false) left (frames.Paren spot lv ∷ below)))
begins m record_ spot lv inner below = and_then (spend inner DeepType)
    (λ left. Ok (at (Items m.items) left (frames.Record spot lv ∷ below)))

abbrev pub term : Bounds → Option Begin → Spot → Count → Count → List Frame → Outcome
term m None spot lv inner below = Err Syntax
term m (Some b) spot lv inner below = begins m b spot lv inner below

-- ---- sums

-- what ends a sum
abbrev pub ends_sum : Side → Count → List Frame → Lexeme → Outcome
ends_sum Paren lv (frames.Paren spot outer ∷ below) (sign CloseParen) = Ok (at (given_to spot) outer below)
ends_sum (Left k) lv below (sign c) = if compares c then Ok (at (Apply (Right k) false) lv below) else Err Syntax
ends_sum (Right k) lv below (sign CloseBrace) = Ok (at (Items k) lv below)
ends_sum _ lv below t = Err Syntax

-- after a whole operand
abbrev pub operated : Side → Bool → Count → List Frame → Lexeme → Outcome
operated p s lv below (sign Asterisk) = if s then Err Syntax else Ok (at (Apply p true) lv below)
operated p s lv below (sign Plus) = Ok (at (Apply p false) lv below)
operated p s lv below t = ends_sum p lv below t

-- after a name and maybe arguments: a further argument, or else the name is a whole operand
abbrev pub applied : Bounds → Option Begin → Side → Bool → Count → List Frame → Lexeme → Outcome
applied m None p s lv below t = operated p s lv below t
applied m (Some b) p s lv below t = begins m b (Argument p s) lv lv below

-- where an operand is expected
abbrev pub apply : Bounds → Side → Bool → Count → List Frame → Lexeme → Outcome
apply m p s lv below (word x) = Ok (at (Applied p s) lv below)
apply m p s lv below (sign c) =
    if is_width c then Ok (at (Term (Width p s) lv) lv below) else term m (begin_sign c) (Operand p s) lv lv below
apply m p s lv below t = term m (begin_of t) (Operand p s) lv lv below

-- ---- items

-- a term opens a level where one may be opened
abbrev pub opens : Begin → Count → Result Count Cause
opens leaf lv = Ok lv
opens no_leaf lv = Ok lv
opens prefix lv = spend lv DeepType
opens paren lv = spend lv DeepType
opens record_ lv = spend lv DeepType

-- an item without a name begins; the limit on levels is judged before that on items
abbrev pub bare_item : Bounds → Begin → Count → Count → List Frame → Outcome
bare_item m b k lv below = and_then (opens b lv) (λ _. and_then (spend k TooManyFields)
    (λ left. begins m b (Field left) lv lv below))

-- the end of a record
abbrev pub ends_items : Count → List Frame → Lexeme → Outcome
ends_items lv [] (sign Equal) = Ok (at ResultName lv [])
ends_items lv (frames.Record spot outer ∷ below) (sign CloseBracket) = Ok (at (given_to spot) outer below)
ends_items lv below t = Err Syntax

abbrev pub bare_or_end : Bounds → Option Begin → Count → Count → List Frame → Lexeme → Outcome
bare_or_end m (Some b) k lv below t = bare_item m b k lv below
bare_or_end m None k lv below t = ends_items lv below t

-- between items
abbrev pub items : Bounds → Count → Count → List Frame → Lexeme → Outcome
items m k lv below (word x) = and_then (spend k TooManyFields) (λ left. Ok (at (ItemName left) lv below))
items m k lv below blank = and_then (spend k TooManyFields) (λ left. Ok (at (ItemBlank left) lv below))
items m k lv below (sign OpenBrace) = and_then (spend k TooManyFields) (λ left. Ok (at (Brace left) lv below))
items m k lv below t = bare_or_end m (begin_of t) k lv below t

-- after the first term of a field
abbrev pub typed : Bounds → Count → Count → List Frame → Lexeme → Outcome
typed m k lv below (sign Question) = Ok (at (Term (Guarded k) lv) lv below)
typed m k lv below (sign Dot) = Ok (at (Bit k) lv below)
typed m k lv below t = items m k lv below t

-- ---- parameters

abbrev pub params : Bounds → Option Begin → Count → Count → List Frame → Lexeme → Outcome
params m (Some b) k lv below t = and_then (spend k TooManyParams) (λ left. begins m b (Param left) lv lv below)
params m None k lv below (sign Semicolon) = Ok (at Start lv below)
params m None k lv below t = Err Syntax

-- ---- one step

abbrev pub step_mode : Bounds → ParserState → Count → List Frame → Lexeme → Outcome
step_mode m Start lv below (word x) = Ok (at Headed lv below)
step_mode m Start lv below blank = Ok (at Headed lv below)
step_mode m Start lv below (sign Bang) = Ok (at Marked lv below)
step_mode m Start lv below t = Err Syntax
step_mode m Marked lv below (word x) = Ok (at Headed lv below)
step_mode m Marked lv below blank = Ok (at Headed lv below)
step_mode m Marked lv below t = Err Syntax
step_mode m Headed lv below (tag (Some b)) = Ok (at (Items m.items) lv below)
step_mode m Headed lv below (tag None) = Err Syntax
step_mode m Headed lv below t = items m m.items lv below t
step_mode m (Items k) lv below t = items m k lv below t
step_mode m (Brace k) lv below (word x) = Ok (at (BraceName k) lv below)
step_mode m (Brace k) lv below t = apply m (Left k) false lv below t
step_mode m (BraceName k) lv below (sign Colon) = Ok (at (Kind k) lv below)
step_mode m (BraceName k) lv below t = applied m (begin_of t) (Left k) false lv below t
step_mode m (Kind k) lv below (sign Hash) = Ok (at (KindEnd k) lv below)
step_mode m (Kind k) lv below (word x) = if bytes_eq x (codes "Type") then Ok (at (KindEnd k) lv below) else Err Syntax
step_mode m (Kind k) lv below t = Err Syntax
step_mode m (KindEnd k) lv below (sign CloseBrace) = Ok (at (Items k) lv below)
step_mode m (KindEnd k) lv below t = Err Syntax
step_mode m (ItemName k) lv below (sign Colon) = Ok (at (Term (Field k) lv) lv below)
step_mode m (ItemName k) lv below t = typed m k lv below t
step_mode m (ItemBlank k) lv below (sign Colon) = Ok (at (Term (Field k) lv) lv below)
step_mode m (ItemBlank k) lv below t = Err Syntax
step_mode m (Term spot inner) lv below t = term m (begin_of t) spot lv inner below
step_mode m (Apply p s) lv below t = apply m p s lv below t
step_mode m (Applied p s) lv below t = applied m (begin_of t) p s lv below t
step_mode m (Operated p s) lv below t = operated p s lv below t
step_mode m (Typed k) lv below t = typed m k lv below t
step_mode m (Bit k) lv below (number (Some n)) = if nat_le n 31 then Ok (at (BitEnd k) lv below) else Err Syntax
step_mode m (Bit k) lv below t = Err Syntax
step_mode m (BitEnd k) lv below (sign Question) = Ok (at (Term (Guarded k) lv) lv below)
step_mode m (BitEnd k) lv below t = Err Syntax
step_mode m ResultName lv below (word x) = Ok (at (Params m.params) lv below)
step_mode m ResultName lv below t = Err Syntax
step_mode m (Params k) lv below t = params m (begin_of t) k lv below t

abbrev pub step : Bounds → State → Lexeme → Outcome
step m (at mode lv below) t = step_mode m mode lv below t

abbrev pub run : Bounds → State → List Lexeme → Outcome
run m st [] = Ok st
run m st (t ∷ ts) = and_then (step m st t) (λ next. run m next ts)

-- ---- beginnings and ends

abbrev pub schema_start : Bounds → State
schema_start m = at Start m.levels []

abbrev pub word_start : Bounds → State
word_start m = at (Apply Word false) m.levels []

-- a schema may end in the state
abbrev pub is_schema_end : State → Bool
is_schema_end (at Start lv below) = true
is_schema_end _ = false

-- a type word may end in the state
abbrev pub is_word_end : State → Bool
is_word_end (at (Applied Word s) lv below) = true
is_word_end (at (Operated Word s) lv below) = true
is_word_end _ = false
