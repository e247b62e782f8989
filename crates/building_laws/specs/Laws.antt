-- What the laws say: facts about the definitions alone.
use Rattle.std.specs.Prelude.{◌⊎◌, ◌≡◌, ◌≤◌, ◌↔◌, Ok, Err}
use Rattle.cell_nodes.specs.Good.{IsGood}
use Rattle.cell_nodes.specs.Tree.{unfolded}
use Rattle.cell_nodes.specs.declared.tree.Mode.{Mode}
use Rattle.cell_nodes.specs.declared.tree.Tree.{Tree}
use Rattle.hashmap_labels.specs.declared.forms.Forms.TheVariants.{Required}
use Rattle.hashmap_tree.specs.Dict.{forms_of}
use Rattle.typed_value.specs.Values.{Plain}
use Rattle.core_form.specs.Core.{CoreSchema}
use Rattle.core_form.specs.Closed.{Closed}
use Rattle.spelling.specs.Places.{Place}
use Rattle.spelling.specs.PlainReader.{read}
use Rattle.spelling.specs.Spells.{Reading}
use Rattle.building.specs.Buildable.{IsBuildable, InRange}
use Rattle.building.specs.PlainBuilder.{most_cells, build}
use Rattle.building.specs.Unfit.{Unfit}

-- a good tree within the limit of cells that has the value as its reading
pub record IsTreeOf (mode : Mode) (schema : CoreSchema) (t : Closed) (v : Plain) (c : Tree) : Type 0 where
  pub good : IsGood c
  pub reading : Reading mode schema t c v
  pub small : unfolded c ≤ most_cells

-- in modes Whole and Partial two good trees with one reading are equal, whatever their size
abbrev pub OneTree : Type 0
OneTree =
    (mode : Mode) → forms_of mode ≡ Required → (schema : CoreSchema) → IsBuildable schema → (t : Closed) (v : Plain)
    → InRange v → (c d : Tree) → IsGood c → IsGood d → Reading mode schema t c v → Reading mode schema t d v → c ≡ d

-- in these modes the plain builder gives each good tree within the limit of cells that has the reading
abbrev pub TreeIsBuilt : Type 0
TreeIsBuilt =
    (mode : Mode) → forms_of mode ≡ Required → (schema : CoreSchema) → IsBuildable schema → (t : Closed) (v : Plain)
    → InRange v → (c : Tree) → IsTreeOf mode schema t v c → build mode schema t v ≡ Ok c

-- and what it gives is such a tree
abbrev pub BuiltIsTree : Type 0
BuiltIsTree =
    (mode : Mode) → forms_of mode ≡ Required → (schema : CoreSchema) → IsBuildable schema → (t : Closed) (v : Plain)
    → InRange v → (c : Tree) → build mode schema t v ≡ Ok c → IsTreeOf mode schema t v c

-- both as one
abbrev pub BuildIsExact : Type 0
BuildIsExact =
    (mode : Mode) → forms_of mode ≡ Required → (schema : CoreSchema) → IsBuildable schema → (t : Closed) (v : Plain)
    → InRange v → (c : Tree) → (build mode schema t v ≡ Ok c) ↔ IsTreeOf mode schema t v c

-- what is built is read as the value
abbrev pub BuildThenRead : Type 0
BuildThenRead =
    (mode : Mode) → forms_of mode ≡ Required → (schema : CoreSchema) → IsBuildable schema → (t : Closed) (v : Plain)
    → InRange v → (c : Tree) → build mode schema t v ≡ Ok c → read mode schema t c ≡ Ok v

-- and what is read of a good tree within the limit of cells is built to the same tree
abbrev pub ReadThenBuild : Type 0
ReadThenBuild =
    (mode : Mode) → forms_of mode ≡ Required → (schema : CoreSchema) → IsBuildable schema → (t : Closed) (v : Plain)
    → InRange v → (c : Tree) → IsGood c → unfolded c ≤ most_cells → read mode schema t c ≡ Ok v
    → build mode schema t v ≡ Ok c

-- ---- where a value doesn't fit

-- where a value is unfit the plain builder stops at that place
abbrev pub UnfitStops : Type 0
UnfitStops =
    (mode : Mode) → forms_of mode ≡ Required → (schema : CoreSchema) → IsBuildable schema → (t : Closed) (v : Plain)
    → InRange v → (p : Place) → Unfit mode schema t v p → build mode schema t v ≡ Err p

-- so it is unfit at one place at most
abbrev pub OnePlace : Type 0
OnePlace =
    (mode : Mode) → forms_of mode ≡ Required → (schema : CoreSchema) → IsBuildable schema → (t : Closed) (v : Plain)
    → InRange v → (p q : Place) → Unfit mode schema t v p → Unfit mode schema t v q → p ≡ q

-- and has no tree then
abbrev pub NoTreeWhereUnfit : Type 0
NoTreeWhereUnfit =
    (mode : Mode) → forms_of mode ≡ Required → (schema : CoreSchema) → IsBuildable schema → (t : Closed) (v : Plain)
    → InRange v → (c : Tree) (p : Place) → IsTreeOf mode schema t v c → Unfit mode schema t v p → ⊥

-- where the plain builder stops, the value is unfit at that place
abbrev pub StopsWhereUnfit : Type 0
StopsWhereUnfit =
    (mode : Mode) → forms_of mode ≡ Required → (schema : CoreSchema) → IsBuildable schema → (t : Closed) (v : Plain)
    → InRange v → (p : Place) → build mode schema t v ≡ Err p → Unfit mode schema t v p

-- so each value has a tree or is unfit at some place
abbrev pub TreeOrPlace : Type 0
TreeOrPlace =
    (mode : Mode) → forms_of mode ≡ Required → (schema : CoreSchema) → IsBuildable schema → (t : Closed) (v : Plain)
    → InRange v → ((c : Tree) × IsTreeOf mode schema t v c) ⊎ ((p : Place) × Unfit mode schema t v p)
