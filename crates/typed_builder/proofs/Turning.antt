-- The fields of a record, one operation at a time.
use Rattle.std.proofs.Common.{◌≡◌, ℕ, List, [], ◌∷◌, Option, Some, None, Result, Ok, Err, refl, ap, sym, ◌∙◌}
use Rattle.core_form.specs.Core.{Condition, Items, Item, an_item, check, solve, field}
use Rattle.core_form.specs.Scope.{Scope}
use Rattle.flat_form.specs.Stands.{bit_of, expr_at, items_in, name_at, slot_of, type_at}
use Rattle.flat_form.specs.declared.lists.Flat.{Flat}
use Rattle.flat_form.specs.declared.lists.PlanOp.{PlanOp}
use Rattle.flat_form.specs.declared.lists.PlanOp.TheVariants.{Check, Solve, When, Field}
use Rattle.spelling.specs.Places.{Place, Spot}
use Rattle.spelling.specs.PlainReader.{◌>>=◌}
use Rattle.typed_value.specs.Values.{Plains}
use Rattle.building.specs.Growing.{Grown}
use Rattle.building.specs.PlainBuilder.{Maker, Step, make_fields, step}
use Rattle.typed_builder.specs.Turns.{Turned, alone, turn}

-- what follows an operation
abbrev pub after : Maker → Spot → Flat → List PlanOp → Turned → Result (Scope × Grown) Place
after R h f ops y = make_fields R h (items_in f (type_at f) y.1 ops) y.0.scope y.0.begun y.0.due y.0.grown

alone_more : (R : Maker) (h : Spot) (f : Flat) (ops : List PlanOp) (r : Result Step Place)
    → (r >>= λ x. make_fields R h (items_in f (type_at f) None ops) x.scope x.begun x.due x.grown)
    ≡ (alone r >>= after R h f ops)
alone_more R h f ops (Ok x) = refl
alone_more R h f ops (Err p) = refl

pub fields_turn : (R : Maker) (h : Spot) (f : Flat) (c : Option Condition) (op : PlanOp) (ops : List PlanOp)
    (scope : Scope) (q : ℕ) (vs : Plains) (b : Grown)
    → make_fields R h (items_in f (type_at f) c (op ∷ ops)) scope q vs b
    ≡ (turn R h f c op scope q vs b >>= after R h f ops)
fields_turn R h f c (Check a op d i) ops scope q vs b =
    alone_more R h f ops (step R h (check (expr_at f a) op (expr_at f d) i) scope q vs b)
fields_turn R h f c (Solve v a d i) ops scope q vs b =
    alone_more R h f ops (step R h (solve v (expr_at f a) (expr_at f d) i) scope q vs b)
fields_turn R h f c (When e k) ops scope q vs b = refl
fields_turn R h f c (Field x t v) ops scope q vs b =
    alone_more R h f ops (step R h (field (name_at f x) (slot_of v) c (type_at f t)) scope q vs b)
