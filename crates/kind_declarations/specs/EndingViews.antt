-- What the code that judges implicit fields works with.
use Rattle.std.specs.Prelude.{ℕ, List, ◌++◌}
use Rattle.tlb_syntax.specs.Tree.{ItemView, SchemaView}
use Rattle.field_path.specs.declared.part.Part.{Part}
use Rattle.kind_terms.specs.Words.{Word}
use Rattle.kind_declarations.specs.Nodes.{Judged, ending_at, item_endings}
use Rattle.kind_terms.specs.Positions.{ItemPosition, path_at}

abbrev pub position_at : List Part → ℕ → ℕ → ItemPosition
position_at path number unnamed = record { path = path; number = number; unnamed = unnamed }

-- of an item at this place of a record at whose end these of its variables are known, and of the records in it
abbrev pub endings_at : ItemView → SchemaView → ItemPosition → List Word → List Judged
endings_at i types p known = ending_at (path_at p i) known i ++ item_endings i types (path_at p i)
