-- Where in a declaration a state stands, and the levels that may be opened outside all brackets.
use Rattle.std.proofs.Common.{◌≡◌, ℕ, Bool, true, false, List, [], ◌∷◌, refl}
use Rattle.tlb_syntax.specs.Grammar.{Count}
use Rattle.syntax_check.specs.declared.machine.Side.{Side}
use Rattle.syntax_check.specs.declared.machine.Side.TheVariants.{Paren, Left, Right, Word}
use Rattle.syntax_check.specs.declared.machine.Spot.{Spot}
use Rattle.syntax_check.specs.declared.machine.Spot.TheVariants.{Operand, Argument, Width, Field, Guarded, Param}
use Rattle.syntax_check.specs.declared.machine.ParserState.{ParserState}
use Rattle.syntax_check.specs.declared.machine.ParserState.TheVariants.{Start, Marked, Headed, Term, Apply, Applied, Operated, Result as ResultName, Params}
use Rattle.syntax_check.specs.declared.machine.Frame.{Frame}
use Rattle.syntax_check.specs.declared.machine.Frame.TheVariants as frames
use Rattle.syntax_check.specs.Machine.{State, at, given_to}
use Rattle.syntax_check.specs.Judge.{is_result}

-- between declarations, after the `!` of one, in one up to its result or after that, in a type word, or in no text
pub data Phase : Type 0 where
  between : Phase
  marked : Phase
  before : Phase
  after_result : Phase
  in_word : Phase
  broken : Phase

-- the declaration that is open, of which no result was read
abbrev pub unnamed : Phase → ℕ
unnamed marked = 1
unnamed before = 1
unnamed _ = 0

abbrev pub is_nil : List Frame → Bool
is_nil [] = true
is_nil (x ∷ xs) = false

abbrev pub only : Bool → Phase → Phase
only true ph = ph
only false ph = broken

abbrev pub side_phase : Side → Bool → Phase → Phase
side_phase Paren nil rest = rest
side_phase (Left k) nil rest = rest
side_phase (Right k) nil rest = rest
side_phase Word nil rest = only nil in_word

abbrev pub spot_phase : Spot → Bool → Phase → Phase
spot_phase (Operand p s) nil rest = side_phase p nil rest
spot_phase (Argument p s) nil rest = side_phase p nil rest
spot_phase (Width p s) nil rest = side_phase p nil rest
spot_phase (Field k) nil rest = rest
spot_phase (Guarded k) nil rest = rest
spot_phase (Param k) nil rest = only nil after_result

abbrev pub frames_phase : List Frame → Phase
frames_phase [] = before
frames_phase (frames.Paren spot lv ∷ below) = spot_phase spot (is_nil below) (frames_phase below)
frames_phase (frames.Record spot lv ∷ below) = spot_phase spot (is_nil below) (frames_phase below)

abbrev pub mode_phase : ParserState → Bool → Phase → Phase
mode_phase Start nil rest = only nil between
mode_phase Marked nil rest = only nil marked
mode_phase Headed nil rest = only nil before
mode_phase (Term spot inner) nil rest = spot_phase spot nil rest
mode_phase (Apply p s) nil rest = side_phase p nil rest
mode_phase (Applied p s) nil rest = side_phase p nil rest
mode_phase (Operated p s) nil rest = side_phase p nil rest
mode_phase ResultName nil rest = only nil before
mode_phase (Params k) nil rest = only nil after_result
mode_phase _ nil rest = rest

abbrev pub phase_of : State → Phase
phase_of (at mode lv below) = mode_phase mode (is_nil below) (frames_phase below)

-- between declarations, and after the `!` of one
abbrev pub is_start : State → Bool
is_start (at Start lv below) = true
is_start _ = false

abbrev pub is_marked : State → Bool
is_marked (at Marked lv below) = true
is_marked _ = false

abbrev pub base : Count → List Frame → Count
base lv [] = lv
base lv (frames.Paren spot outer ∷ below) = base outer below
base lv (frames.Record spot outer ∷ below) = base outer below

abbrev pub base_of : State → Count
base_of (at mode lv below) = base lv below

-- how one step goes on, where the flag says that it reads a result
pub data Turn : Phase → Bool → Phase → Type 0 where
  opening : Turn between false before
  marking : Turn between false marked
  heading : Turn marked false before
  within : Turn before false before
  naming : Turn before true after_result
  further : Turn after_result false after_result
  closing : Turn after_result false between
  in_a_word : Turn in_word false in_word
  nowhere : {flag : Bool} {next : Phase} → Turn broken flag next

pub record Turned (st next : State) : Type 0 where
  pub turn : Turn (phase_of st) (is_result st) (phase_of next)
  pub same_base : base_of next ≡ base_of st

-- the phases that stay
pub data Stays : Phase → Type 0 where
  stays_before : Stays before
  stays_after_result : Stays after_result
  stays_in_word : Stays in_word
  stays_broken : Stays broken

pub stays_turn : (ph : Phase) → Stays ph → Turn ph false ph
stays_turn _ stays_before = within
stays_turn _ stays_after_result = further
stays_turn _ stays_in_word = in_a_word
stays_turn _ stays_broken = nowhere

pub only_stays : (nil : Bool) (ph : Phase) → Stays ph → Stays (only nil ph)
only_stays true ph h = h
only_stays false ph h = stays_broken

pub side_stays : (p : Side) (nil : Bool) (rest : Phase) → Stays rest → Stays (side_phase p nil rest)
side_stays Paren nil rest h = h
side_stays (Left k) nil rest h = h
side_stays (Right k) nil rest h = h
side_stays Word nil rest h = only_stays nil in_word stays_in_word

pub spot_stays : (spot : Spot) (nil : Bool) (rest : Phase) → Stays rest → Stays (spot_phase spot nil rest)
spot_stays (Operand p s) nil rest h = side_stays p nil rest h
spot_stays (Argument p s) nil rest h = side_stays p nil rest h
spot_stays (Width p s) nil rest h = side_stays p nil rest h
spot_stays (Field k) nil rest h = h
spot_stays (Guarded k) nil rest h = h
spot_stays (Param k) nil rest h = only_stays nil after_result stays_after_result

pub frames_stay : (below : List Frame) → Stays (frames_phase below)
frames_stay [] = stays_before
frames_stay (frames.Paren spot lv ∷ below) = spot_stays spot (is_nil below) (frames_phase below) (frames_stay below)
frames_stay (frames.Record spot lv ∷ below) = spot_stays spot (is_nil below) (frames_phase below) (frames_stay below)

pub given_phase : (spot : Spot) (nil : Bool) (rest : Phase) → mode_phase (given_to spot) nil rest ≡ spot_phase spot nil
    rest
given_phase (Operand p s) nil rest = refl
given_phase (Argument p s) nil rest = refl
given_phase (Width p s) nil rest = refl
given_phase (Field k) nil rest = refl
given_phase (Guarded k) nil rest = refl
given_phase (Param k) nil rest = refl
