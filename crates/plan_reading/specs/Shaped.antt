-- Shapes by the numbers of flat lists.
use Rattle.std.specs.Prelude.{ℕ, ◌≡◌, ◌≤◌, true, Option, Some, None, Result, Ok, Err}
use Rattle.closed_type.specs.View.{closed_type}
use Rattle.core_form.specs.Core.{Condition, Ty}
use Rattle.core_form.specs.Core as core
use Rattle.core_form.specs.Scope.{Scope}
use Rattle.flat_form.specs.Sound.{IsPlainNumber, IsRange, OpsAreSound}
use Rattle.flat_form.specs.Stands.{bit_of, expr_at, range, record_at}
use Rattle.flat_form.specs.declared.lists.Flat.{Flat}
use Rattle.spelling.specs.Goals as goals
use Rattle.spelling.specs.Goals.{in_table}
use Rattle.plan_closing.specs.declared.error.CloseError.{CloseError}
use Rattle.plan_closing.specs.declared.error.CloseError.TheVariants as errors
use Rattle.spelling.specs.declared.Cause.{Cause}
use Rattle.spelling.specs.declared.Cause.TheVariants.{BigType, Overflow}
use Rattle.plan_reading.specs.declared.shapes.FlatShape.{FlatShape}
use Rattle.plan_reading.specs.declared.shapes.FlatShape.TheVariants.{Typed, Here, Under, LeftOut}
use Rattle.plan_reading.specs.declared.shapes.ShapeError.{ShapeError}
use Rattle.plan_reading.specs.declared.shapes.ShapeError.TheVariants.{Refused, NoMemory}

-- the condition of the next operation: an expression and the bit tested
abbrev pub governed : Flat → Option (ℕ × ℕ) → Option Condition
governed f (Some c) = Some (record { number = expr_at f c.0; bit = bit_of c.1 })
governed f None = None

abbrev pub GovernIsSound : Flat → Option (ℕ × ℕ) → Type 0
GovernIsSound f (Some c) = IsPlainNumber f c.0 × (c.1 ≤ 32)
GovernIsSound f None = Unit {0}

abbrev pub shape_view : Flat → Scope → FlatShape → goals.Shape
shape_view f scope (Typed t) = goals.typed (closed_type t)
shape_view f scope (Here first count) = goals.fields_here (record_at f first count) scope
shape_view f scope (Under first count) = goals.fields_under (record_at f first count) scope
shape_view f scope LeftOut = goals.left_out

-- these operations are there, and have parts below this type
pub record IsRecord (f : Flat) (top first count : ℕ) : Type 0 where
  pub there : IsRange f.ops first count
  pub sound : OpsAreSound f top (range f.ops first count)

abbrev pub IsNoGroup : Ty → Type 0
IsNoGroup (core.group is) = ⊥
IsNoGroup _ = Unit {0}

-- before its width is judged
abbrev pub LaidIsSound : Flat → ℕ → FlatShape → Type 0
LaidIsSound f top (Typed t) = Unit {0}
LaidIsSound f top (Here first count) = IsRecord f top first count
LaidIsSound f top (Under first count) = IsRecord f top first count
LaidIsSound f top LeftOut = Unit {0}

-- its width is in the table
abbrev pub ShapeIsSound : Flat → ℕ → FlatShape → Type 0
ShapeIsSound f top (Typed t) = in_table (closed_type t) ≡ true
ShapeIsSound f top (Here first count) = IsRecord f top first count
ShapeIsSound f top (Under first count) = IsRecord f top first count
ShapeIsSound f top LeftOut = Unit {0}

abbrev pub refused_as : CloseError → ShapeError
refused_as errors.Overflow = Refused Overflow
refused_as errors.BigType = Refused BigType
refused_as errors.NoMemory = NoMemory

abbrev pub Refuses : ShapeError → Result goals.Shape Cause → Type 0
Refuses (Refused why) wanted = wanted ≡ Err why
Refuses NoMemory wanted = Unit {0}

-- the shape, or the first cause against it, or memory ran out
abbrev pub Shapes : Flat → Scope → Result FlatShape ShapeError → Result goals.Shape Cause → Type 0
Shapes f scope (Ok x) wanted = wanted ≡ Ok (shape_view f scope x)
Shapes f scope (Err e) wanted = Refuses e wanted
