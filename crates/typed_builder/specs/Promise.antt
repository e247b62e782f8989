-- What an answer of `build` means.
use Rattle.std.specs.Prelude.{◌≡◌, Result, Ok, Err}
use Rattle.cell_nodes.specs.declared.tree.Mode.{Mode}
use Rattle.cell_nodes.specs.declared.tree.Tree.{Tree}
use Rattle.core_form.specs.Closed.{Closed}
use Rattle.core_form.specs.Core.{CoreSchema}
use Rattle.plan_reading.specs.Stops.{place_from}
use Rattle.plan_reading.specs.declared.stop.Stop.{Stop}
use Rattle.spelling.specs.Places as places
use Rattle.typed_value.specs.Values.{Plain}
use Rattle.accepted_building.specs.Laws.{IsOnePlaceOf, IsOneTreeOf}
use Rattle.field_plan.specs.Placed.{place_view}
use Rattle.typed_builder.specs.declared.error.BuildError.{BuildError}
use Rattle.typed_builder.specs.declared.error.BuildError.TheVariants as errors

-- The cell is the one good tree that has the value as its reading, of at most 262,144 cells; or the value is unfit at
-- this place and at no other, and no good tree of that size has the reading; or memory ran out.
abbrev pub Answers : Mode → CoreSchema → Closed → Plain → Result Tree BuildError → Type 0
Answers mode schema t v (Ok c) = IsOneTreeOf mode schema t v c
Answers mode schema t v (Err (errors.Unfit p)) = IsOnePlaceOf mode schema t v (place_view p)
Answers mode schema t v (Err errors.NoMemory) = Unit {0}

-- a stop that is seen from the root, as a place, or memory ran out
abbrev pub Placed : Stop → BuildError → Type 0
Placed s (errors.Unfit p) = place_view p ≡ place_from places.at_root s
Placed s errors.NoMemory = Unit {0}

-- the one error is that memory ran out
abbrev pub OnlyMemory : {A : Type 0} → Result A BuildError → Type 0
OnlyMemory (Ok x) = Unit {0}
OnlyMemory (Err errors.NoMemory) = Unit {0}
OnlyMemory (Err (errors.Unfit p)) = ⊥
