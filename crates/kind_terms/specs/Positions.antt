-- Positions of items in their records, and how items are shown in a path.
-- Source: this project's rules; a refusal says at which item it is by a path.
use Rattle.std.specs.Prelude.{ℕ, ◌+◌, ◌==◌, List, [], ◌∷◌, ◌++◌, Bool, true, false, Option, Some, None, codes, decimal}
use Rattle.std.specs.Prelude.{if◌then◌else◌}
use Rattle.tlb_syntax.specs.Tree.{ItemView, implicit, check, explicit}
use Rattle.field_path.specs.declared.part.Part.{Part}
use Rattle.field_path.specs.declared.part.Part.TheVariants as places
use Rattle.kind_terms.specs.Words.{Word}

-- the name that the k-th unnamed field of a record is shown by
abbrev pub unnamed_name : ℕ → Word
unnamed_name k = if k == 1 then codes "_" else codes "_" ++ decimal k

-- a place among the items of a record
pub record ItemPosition : Type 0 where
  -- the path to the record
  pub path : List Part
  -- the item's place in it, from 1
  pub number : ℕ
  -- the number of unnamed fields before it
  pub unnamed : ℕ

abbrev pub shown : Option Word → ℕ → Word
shown (Some x) unnamed = x
shown None unnamed = unnamed_name (unnamed + 1)

-- how an item at this place of its record is shown, after so many unnamed fields
abbrev pub part_at : ℕ → ℕ → ItemView → Part
part_at number unnamed (implicit x k) = places.Named x
part_at number unnamed (check a op b) = places.Check number
part_at number unnamed (explicit x t) = places.Named (shown x unnamed)

-- the path to the item that stands there
abbrev pub path_at : ItemPosition → ItemView → List Part
path_at p i = p.path ++ part_at p.number p.unnamed i ∷ []

abbrev pub is_unnamed : ItemView → Bool
is_unnamed (implicit x k) = false
is_unnamed (check a op b) = false
is_unnamed (explicit None t) = true
is_unnamed (explicit (Some x) t) = false

abbrev pub first_position : List Part → ItemPosition
first_position path = record { path = path; number = 1; unnamed = 0 }

-- after an item
abbrev pub next_position : ItemPosition → ItemView → ItemPosition
next_position p i = record p { number = p.number + 1; unnamed = (if is_unnamed i then p.unnamed + 1 else p.unnamed) }
