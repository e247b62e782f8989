-- The names of the fields that operations have, and those of a record.
use Rattle.std.specs.Prelude.{ℕ, Bool, false, List, [], ◌∷◌, map, Option, Some, None}
use Rattle.std.specs.Borrow.{Bor}
use Rattle.core_form.specs.Core.{Word}
use Rattle.flat_form.specs.Stands.{name_at}
use Rattle.flat_form.specs.declared.lists.Flat.{Flat}
use Rattle.flat_form.specs.declared.lists.PlanOp.{PlanOp}
use Rattle.flat_form.specs.declared.lists.PlanOp.TheVariants.{Check, Solve, When, Field}
use Rattle.typed_value.specs.View.{names_in, pair_of}
use Rattle.typed_value.specs.declared.value.Value.{Value}
use Rattle.building.specs.PlainBuilder.{same_words}

abbrev pub op_names : Flat → List PlanOp → List Word
op_names f [] = []
op_names f (Field x t v ∷ ops) = name_at f x ∷ op_names f ops
op_names f (Check a op b i ∷ ops) = op_names f ops
op_names f (Solve v a b i ∷ ops) = op_names f ops
op_names f (When e k ∷ ops) = op_names f ops

abbrev pub names_of : List (List ℕ × Value) → List Word
names_of fields = names_in (map pair_of fields)

-- whether the fields that are left have these names, if there was a field before
abbrev pub goes_on : Option (Bor (List (List ℕ × Value))) → List Word → Bool
goes_on None names = false
goes_on (Some left) names = same_words (names_of left.now) names
