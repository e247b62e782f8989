-- One operation at a time.
use Rattle.std.specs.Prelude.{ℕ, Option, Some, None, Result, Ok, Err}
use Rattle.core_form.specs.Core.{Condition, check, solve, field}
use Rattle.core_form.specs.Scope.{Scope}
use Rattle.flat_form.specs.Stands.{bit_of, expr_at, name_at, slot_of, type_at}
use Rattle.flat_form.specs.declared.lists.Flat.{Flat}
use Rattle.flat_form.specs.declared.lists.PlanOp.{PlanOp}
use Rattle.flat_form.specs.declared.lists.PlanOp.TheVariants.{Check, Solve, When, Field}
use Rattle.spelling.specs.Places.{Place, Spot}
use Rattle.typed_value.specs.Values.{Plains}
use Rattle.building.specs.Growing.{Grown}
use Rattle.building.specs.PlainBuilder.{Maker, Step, step}

-- what an operation gives, and the condition of the next one
abbrev pub Turned : Type 0
Turned = Step × Option Condition

abbrev pub alone : Result Step Place → Result Turned Place
alone (Ok x) = Ok (x, None)
alone (Err e) = Err e

abbrev pub stepped : Scope → ℕ → Plains → Grown → Step
stepped scope q vs b = record { scope = scope; begun = q; due = vs; grown = b }

abbrev pub turn : Maker → Spot → Flat → Option Condition → PlanOp → Scope → ℕ → Plains → Grown → Result Turned Place
turn R h f c (Check a op b i) scope q vs g = alone (step R h (check (expr_at f a) op (expr_at f b) i) scope q vs g)
turn R h f c (Solve v a b i) scope q vs g = alone (step R h (solve v (expr_at f a) (expr_at f b) i) scope q vs g)
turn R h f c (When e k) scope q vs g =
    Ok (stepped scope q vs g, Some (record { number = expr_at f e; bit = bit_of k }))
turn R h f c (Field x t v) scope q vs g = alone (step R h (field (name_at f x) (slot_of v) c (type_at f t)) scope q vs
    g)
