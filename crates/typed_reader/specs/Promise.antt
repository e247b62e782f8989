-- What an answer of `read` means.
use Rattle.std.specs.Prelude.{◌≡◌, Result, Ok, Err}
use Rattle.cell_nodes.specs.declared.tree.Mode.{Mode}
use Rattle.cell_nodes.specs.declared.tree.Tree.{Tree}
use Rattle.core_form.specs.Closed.{Closed}
use Rattle.core_form.specs.Core.{CoreSchema}
use Rattle.plan_reading.specs.Stops.{place_from}
use Rattle.plan_reading.specs.declared.stop.Stop.{Stop}
use Rattle.spelling.specs.Places as places
use Rattle.spelling.specs.Spells.{Reading}
use Rattle.spelling.specs.Stuck.{Stuck}
use Rattle.typed_value.specs.Values.{Plain}
use Rattle.typed_value.specs.View.{value}
use Rattle.typed_value.specs.declared.value.Value.{Value}
use Rattle.field_plan.specs.Placed.{place_view}
use Rattle.typed_reader.specs.declared.error.ReadError.{ReadError}
use Rattle.typed_reader.specs.declared.error.ReadError.TheVariants as errors

-- this value is the one reading
pub record IsReading (mode : Mode) (schema : CoreSchema) (t : Closed) (c : Tree) (v : Plain) : Type 0 where
  pub reading : Reading mode schema t c v
  pub only : (w : Plain) → Reading mode schema t c w → w ≡ v

-- it is stuck at this one place, and there is no reading
pub record IsStuck (mode : Mode) (schema : CoreSchema) (t : Closed) (c : Tree) (p : places.Place) : Type 0 where
  pub stuck : Stuck mode schema t c p
  pub only : (o : places.Place) → Stuck mode schema t c o → o ≡ p
  pub unread : (w : Plain) → Reading mode schema t c w → ⊥

abbrev pub Answers : Mode → CoreSchema → Closed → Tree → Result Value ReadError → Type 0
Answers mode schema t c (Ok v) = IsReading mode schema t c (value v)
Answers mode schema t c (Err (errors.Stuck p)) = IsStuck mode schema t c (place_view p)
Answers mode schema t c (Err errors.NoMemory) = Unit {0}

-- a stop that is seen from the root, as a place, or memory ran out
abbrev pub Placed : Stop → ReadError → Type 0
Placed s (errors.Stuck p) = place_view p ≡ place_from places.at_root s
Placed s errors.NoMemory = Unit {0}

-- the one error is that memory ran out
abbrev pub OnlyMemory : {A : Type 0} → Result A ReadError → Type 0
OnlyMemory (Ok x) = Unit {0}
OnlyMemory (Err errors.NoMemory) = Unit {0}
OnlyMemory (Err (errors.Stuck p)) = ⊥
