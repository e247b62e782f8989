-- Where a reading or a building stops: the innermost constructor, the field in it, and the cause.
--
-- Source: this project's own.
use Rattle.std.specs.Prelude.{ℕ, List, [], ◌∷◌, ◌++◌}
use Rattle.field_path.specs.declared.part.Part.{Part}
use Rattle.field_path.specs.declared.part.Part.TheVariants as part
use Rattle.core_form.specs.Core.{Word}
use Rattle.core_form.specs.Core.{Declaration}
use Rattle.spelling.specs.declared.Cause.{Cause}

-- the root, or a constructor by its type and its number in it from 1
pub data Holder : Type 0 where
  root : Holder
  constructor_of : Word → ℕ → Holder

-- The holder and the field in it: `f`, `f.g` in an inner record, `{i}` for item i of a record, counted over all of its
-- items from 1, `=` for the outputs. Items of a list and values of a map have the spot of their field.
pub record Spot : Type 0 where
  pub holder : Holder
  pub path : List Part

pub record Place : Type 0 where
  pub spot : Spot
  pub cause : Cause

abbrev pub stuck : Spot → Cause → Place
stuck h why = record { spot = h; cause = why }

-- the type of the root, and no field
abbrev pub at_root : Spot
at_root = record { holder = root; path = [] }

abbrev pub start : Declaration → Spot
start c = record { holder = constructor_of c.of_type c.number; path = [] }

abbrev pub inner : Spot → Part → Spot
inner h x = record { holder = h.holder; path = h.path ++ x ∷ [] }

abbrev pub field_of : Spot → Word → Spot
field_of h x = inner h (part.Named x)

-- item i of this record, counted from 1
abbrev pub item_of : Spot → ℕ → Spot
item_of h i = inner h (part.Check i)

abbrev pub tag_of : Spot → Spot
tag_of h = inner h part.Tag

abbrev pub result_of : Spot → Spot
result_of h = inner h part.Result
