-- What the laws say: facts about the definitions alone.
use Rattle.std.specs.Prelude.{◌≡◌}
use Rattle.cell_nodes.specs.Good.{IsGood}
use Rattle.cell_nodes.specs.declared.tree.Mode.TheVariants.{Whole, Lax}
use Rattle.cell_nodes.specs.declared.tree.Tree.{Tree}
use Rattle.typed_value.specs.Values.{Plain}
use Rattle.core_form.specs.Core.{CoreSchema}
use Rattle.core_form.specs.Closed.{Closed}
use Rattle.spelling.specs.Spells.{Reading}
use Rattle.building.specs.Buildable.{IsBuildable, InRange}
use Rattle.building_laws.specs.Laws.{IsTreeOf}
use Rattle.tlb_syntax.specs.Tree.{SchemaView}
use Rattle.accepted_schema.specs.Accepted.{IsAccepted, kept_cores}
use Rattle.strict_laws.specs.NoLonger.{IsNoLonger}

-- a good tree within the limit of cells that has the reading in mode Whole, and no cell of which is longer
pub record IsStrictOf (schema : CoreSchema) (t : Closed) (v : Plain) (c d : Tree) : Type 0 where
  pub tree : IsTreeOf Whole schema t v d
  pub shape : IsNoLonger d c

-- whatever the schema, what has a reading in mode Lax has such a tree
abbrev pub LaxHasTree : Type 0
LaxHasTree =
    (schema : CoreSchema) (t : Closed) (v : Plain) (c : Tree) → IsTreeOf Lax schema t v c
    → (d : Tree) × IsStrictOf schema t v c d

-- and its reading is in range
abbrev pub LaxInRange : Type 0
LaxInRange =
    (schema : CoreSchema) (t : Closed) (v : Plain) (c : Tree) → IsGood c → Reading Lax schema t c v → InRange v

-- that tree, and no other good tree has the reading in mode Whole
pub record IsOneStrictOf (schema : CoreSchema) (t : Closed) (v : Plain) (c d : Tree) : Type 0 where
  pub strict : IsStrictOf schema t v c d
  pub only : (e : Tree) → IsGood e → Reading Whole schema t e v → e ≡ d

-- so where two constructors of one type are told apart there is exactly one
abbrev pub LaxHasOneTree : Type 0
LaxHasOneTree =
    (schema : CoreSchema) → IsBuildable schema → (t : Closed) (v : Plain) (c : Tree) → IsTreeOf Lax schema t v c
    → (d : Tree) × IsOneStrictOf schema t v c d

-- in every accepted schema
abbrev pub LaxHasStrict : Type 0
LaxHasStrict =
    (s : SchemaView) → IsAccepted s → (t : Closed) (v : Plain) (c : Tree) → IsTreeOf Lax (kept_cores s) t v c
    → (d : Tree) × IsOneStrictOf (kept_cores s) t v c d

-- ---- the other way

-- a reading in mode Whole is one in mode Lax
abbrev pub WholeIsLax : Type 0
WholeIsLax =
    (schema : CoreSchema) (t : Closed) (v : Plain) (c : Tree) → Reading Whole schema t c v → Reading Lax schema t c v

-- so the tree that was found is that of itself
abbrev pub StrictStays : Type 0
StrictStays =
    (schema : CoreSchema) (t : Closed) (v : Plain) (c d : Tree) → IsOneStrictOf schema t v c d
    → IsTreeOf Lax schema t v d × IsOneStrictOf schema t v d d
