-- What the laws say, for every accepted schema: facts about the definitions alone. The schema stands in them by the
-- core forms of its declarations without those that are passed over.
use Rattle.std.specs.Prelude.{◌≡◌, ◌⊎◌, Ok, Err}
use Rattle.cell_nodes.specs.Good.{IsGood}
use Rattle.cell_nodes.specs.declared.tree.Mode.{Mode}
use Rattle.cell_nodes.specs.declared.tree.Tree.{Tree}
use Rattle.hashmap_labels.specs.declared.forms.Forms.TheVariants.{Required}
use Rattle.hashmap_tree.specs.Dict.{forms_of}
use Rattle.tlb_syntax.specs.Tree.{SchemaView}
use Rattle.typed_value.specs.Values.{Plain}
use Rattle.core_form.specs.Core.{CoreSchema}
use Rattle.core_form.specs.Closed.{Closed}
use Rattle.spelling.specs.Places.{Place}
use Rattle.spelling.specs.Spells.{Reading}
use Rattle.building.specs.Buildable.{IsBuildable, InRange}
use Rattle.building.specs.PlainBuilder.{build}
use Rattle.building.specs.Unfit.{Unfit}
use Rattle.building_laws.specs.Laws.{IsTreeOf}
use Rattle.accepted_schema.specs.Accepted.{IsAccepted, kept_cores}

-- an accepted schema has all that the laws of building need
abbrev pub AcceptedIsBuildable : Type 0
AcceptedIsBuildable = (s : SchemaView) → IsAccepted s → IsBuildable (kept_cores s)

-- a good tree within the limit of cells that has the reading, and no other good tree has it
pub record IsOneTreeOf (mode : Mode) (schema : CoreSchema) (t : Closed) (v : Plain) (c : Tree) : Type 0 where
  pub tree : IsTreeOf mode schema t v c
  pub only : (d : Tree) → IsGood d → Reading mode schema t d v → d ≡ c

-- the place where the value doesn't fit, and no other is one; no tree within the limit of cells has the reading
pub record IsOnePlaceOf (mode : Mode) (schema : CoreSchema) (t : Closed) (v : Plain) (p : Place) : Type 0 where
  pub unfit : Unfit mode schema t v p
  pub only : (q : Place) → Unfit mode schema t v q → q ≡ p
  pub no_tree : (d : Tree) → IsTreeOf mode schema t v d → ⊥

-- what the plain builder gives in modes Whole and Partial
abbrev pub BuiltIsOne : Type 0
BuiltIsOne =
    (mode : Mode) → forms_of mode ≡ Required → (s : SchemaView) → IsAccepted s → (t : Closed) (v : Plain) → InRange v
    → (c : Tree) → build mode (kept_cores s) t v ≡ Ok c → IsOneTreeOf mode (kept_cores s) t v c

-- where it stops
abbrev pub StopsAtOne : Type 0
StopsAtOne =
    (mode : Mode) → forms_of mode ≡ Required → (s : SchemaView) → IsAccepted s → (t : Closed) (v : Plain) → InRange v
    → (p : Place) → build mode (kept_cores s) t v ≡ Err p → IsOnePlaceOf mode (kept_cores s) t v p

-- so each value has one tree or is unfit at one place
abbrev pub TreeOrPlace : Type 0
TreeOrPlace =
    (mode : Mode) → forms_of mode ≡ Required → (s : SchemaView) → IsAccepted s → (t : Closed) (v : Plain) → InRange v
    → ((c : Tree) × IsOneTreeOf mode (kept_cores s) t v c) ⊎ ((p : Place) × IsOnePlaceOf mode (kept_cores s) t v p)
