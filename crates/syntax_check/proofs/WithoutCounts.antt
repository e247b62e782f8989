-- A state without some of its counts.
use Rattle.std.proofs.Common.{◌≡◌, ℕ, zero, suc, Bool, true, false, List, [], ◌∷◌, map, Some, None, Result, Ok, Err, refl, ap}
use Rattle.tlb_syntax.specs.Grammar.{Count, Bounds}
use Rattle.tlb_syntax.specs.Written.{bounds}
use Rattle.syntax_check.specs.declared.machine.Side.{Side}
use Rattle.syntax_check.specs.declared.machine.Side.TheVariants.{Paren, Left, Right, Word}
use Rattle.syntax_check.specs.declared.machine.Spot.{Spot}
use Rattle.syntax_check.specs.declared.machine.Spot.TheVariants.{Operand, Argument, Width, Field, Guarded, Param}
use Rattle.syntax_check.specs.declared.machine.ParserState.{ParserState}
use Rattle.syntax_check.specs.declared.machine.ParserState.TheVariants.{Start, Marked, Headed, Items, Brace, BraceName, Kind, KindEnd, ItemName, ItemBlank, Term, Apply, Applied, Operated, Typed, Bit, BitEnd, Result as ResultName, Params}
use Rattle.syntax_check.specs.declared.machine.Frame.{Frame}
use Rattle.syntax_check.specs.declared.machine.Frame.TheVariants as frames
use Rattle.syntax_check.specs.declared.machine.Cause.{Cause}
use Rattle.syntax_check.specs.Machine.{State, at, spend, given_to}
use Rattle.syntax_check.specs.Judge.{free_side, free_spot, free_mode, free_frame, free}

-- which of the counts are forgotten
pub record Switches : Type 0 where
  pub levels : Bool
  pub items : Bool
  pub params : Bool

abbrev pub switches : Bool → Bool → Bool → Switches
switches levels items params = record { levels = levels; items = items; params = params }

abbrev pub every : Switches
every = switches true true true

abbrev pub lost : Bool → Count → Count
lost true k = None
lost false k = k

abbrev pub side_without : Switches → Side → Side
side_without f Paren = Paren
side_without f (Left k) = Left (lost f.items k)
side_without f (Right k) = Right (lost f.items k)
side_without f Word = Word

abbrev pub spot_without : Switches → Spot → Spot
spot_without f (Operand p s) = Operand (side_without f p) s
spot_without f (Argument p s) = Argument (side_without f p) s
spot_without f (Width p s) = Width (side_without f p) s
spot_without f (Field k) = Field (lost f.items k)
spot_without f (Guarded k) = Guarded (lost f.items k)
spot_without f (Param k) = Param (lost f.params k)

abbrev pub mode_without : Switches → ParserState → ParserState
mode_without f Start = Start
mode_without f Marked = Marked
mode_without f Headed = Headed
mode_without f (Items k) = Items (lost f.items k)
mode_without f (Brace k) = Brace (lost f.items k)
mode_without f (BraceName k) = BraceName (lost f.items k)
mode_without f (Kind k) = Kind (lost f.items k)
mode_without f (KindEnd k) = KindEnd (lost f.items k)
mode_without f (ItemName k) = ItemName (lost f.items k)
mode_without f (ItemBlank k) = ItemBlank (lost f.items k)
mode_without f (Term spot inner) = Term (spot_without f spot) (lost f.levels inner)
mode_without f (Apply p s) = Apply (side_without f p) s
mode_without f (Applied p s) = Applied (side_without f p) s
mode_without f (Operated p s) = Operated (side_without f p) s
mode_without f (Typed k) = Typed (lost f.items k)
mode_without f (Bit k) = Bit (lost f.items k)
mode_without f (BitEnd k) = BitEnd (lost f.items k)
mode_without f ResultName = ResultName
mode_without f (Params k) = Params (lost f.params k)

abbrev pub frame_without : Switches → Frame → Frame
frame_without f (frames.Paren spot lv) = frames.Paren (spot_without f spot) (lost f.levels lv)
frame_without f (frames.Record spot lv) = frames.Record (spot_without f spot) (lost f.levels lv)

abbrev pub without : Switches → State → State
without f (at mode lv below) = at (mode_without f mode) (lost f.levels lv) (map (frame_without f) below)

abbrev pub bounds_without : Switches → Bounds → Bounds
bounds_without f m = bounds (lost f.levels m.levels) (lost f.items m.items) (lost f.params m.params)

pub given_without : (f : Switches) (spot : Spot) → given_to (spot_without f spot) ≡ mode_without f (given_to spot)
given_without f (Operand p s) = refl
given_without f (Argument p s) = refl
given_without f (Width p s) = refl
given_without f (Field k) = refl
given_without f (Guarded k) = refl
given_without f (Param k) = refl

-- all counts forgotten
free_side_is : (p : Side) → free_side p ≡ side_without every p
free_side_is Paren = refl
free_side_is (Left k) = refl
free_side_is (Right k) = refl
free_side_is Word = refl

free_spot_is : (spot : Spot) → free_spot spot ≡ spot_without every spot
free_spot_is (Operand p s) = ap (λ z. Operand z s) (free_side_is p)
free_spot_is (Argument p s) = ap (λ z. Argument z s) (free_side_is p)
free_spot_is (Width p s) = ap (λ z. Width z s) (free_side_is p)
free_spot_is (Field k) = refl
free_spot_is (Guarded k) = refl
free_spot_is (Param k) = refl

free_mode_is : (mode : ParserState) → free_mode mode ≡ mode_without every mode
free_mode_is Start = refl
free_mode_is Marked = refl
free_mode_is Headed = refl
free_mode_is (Items k) = refl
free_mode_is (Brace k) = refl
free_mode_is (BraceName k) = refl
free_mode_is (Kind k) = refl
free_mode_is (KindEnd k) = refl
free_mode_is (ItemName k) = refl
free_mode_is (ItemBlank k) = refl
free_mode_is (Term spot inner) = ap (λ z. Term z None) (free_spot_is spot)
free_mode_is (Apply p s) = ap (λ z. Apply z s) (free_side_is p)
free_mode_is (Applied p s) = ap (λ z. Applied z s) (free_side_is p)
free_mode_is (Operated p s) = ap (λ z. Operated z s) (free_side_is p)
free_mode_is (Typed k) = refl
free_mode_is (Bit k) = refl
free_mode_is (BitEnd k) = refl
free_mode_is ResultName = refl
free_mode_is (Params k) = refl

free_frame_is : (x : Frame) → free_frame x ≡ frame_without every x
free_frame_is (frames.Paren spot lv) = ap (λ z. frames.Paren z None) (free_spot_is spot)
free_frame_is (frames.Record spot lv) = ap (λ z. frames.Record z None) (free_spot_is spot)

free_frames_are : (below : List Frame) → map free_frame below ≡ map (frame_without every) below
free_frames_are [] = refl
free_frames_are (x ∷ below) = λ i. free_frame_is x i ∷ free_frames_are below i

pub free_is : (st : State) → free st ≡ without every st
free_is (at mode lv below) = λ i. at (free_mode_is mode i) None (free_frames_are below i)

-- ---- spending

abbrev pub IsOpen : Count → Type 0
IsOpen None = Unit {0}
IsOpen (Some zero) = ⊥
IsOpen (Some (suc n)) = Unit {0}

pub open_without : (b : Bool) (k : Count) → IsOpen k → IsOpen (lost b k)
open_without true k h = tt
open_without false k h = h

-- one of a count is spent, or none can be
pub data Spending (n : Count) (why : Cause) : Result Count Cause → Type 0 where
  may : {left : Count} → IsOpen n → ((b : Bool) → spend (lost b n) why ≡ Ok (lost b left)) → Spending n why (Ok left)
  may_not : ((b : Bool) → b ≡ false → spend (lost b n) why ≡ Err why) → Spending n why (Err why)

pub spend_lost : (b : Bool) (n : Count) (why : Cause) → b ≡ true → spend (lost b n) why ≡ Ok None
spend_lost true n why e = refl
spend_lost false n why e = cc

spend_none : (b : Bool) (why : Cause) → spend (lost b None) why ≡ Ok (lost b None)
spend_none true why = refl
spend_none false why = refl

spend_suc : (b : Bool) (n : ℕ) (why : Cause) → spend (lost b (Some (suc n))) why ≡ Ok (lost b (Some n))
spend_suc true n why = refl
spend_suc false n why = refl

spend_zero : (b : Bool) (why : Cause) → b ≡ false → spend (lost b (Some zero)) why ≡ Err why
spend_zero true why e = cc
spend_zero false why e = refl

pub spending : (n : Count) (why : Cause) → Spending n why (spend n why)
spending None why = may tt (λ b. spend_none b why)
spending (Some zero) why = may_not (λ b e. spend_zero b why e)
spending (Some (suc n)) why = may tt (λ b. spend_suc b n why)
