-- Names in scope, as the program holds them.
use Rattle.std.specs.Prelude.{◌≡◌, ◌≤◌, List, length, map, take}
use Rattle.std.specs.Borrow.{Bor}
use Rattle.bit_slice.specs.declared.name.Name.{Name}
use Rattle.kind_terms.specs.Words.{Word}

abbrev pub names : List (Bor Name) → List Word
names scope = map (λ n. n.now) scope

-- the names in scope stay there, and others come after them
pub record IsScopePrefix (old new : List (Bor Name)) : Type 0 where
  pub longer : length old ≤ length new
  pub same : take (length old) new ≡ old
