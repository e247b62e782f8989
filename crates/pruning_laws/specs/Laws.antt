-- What the laws say: facts about the definitions alone.
use Rattle.std.specs.Prelude.{filter}
use Rattle.std.specs.Prelude.{◌≡◌, ◌⊎◌, ◌↔◌, true, ℕ, List, Some, None, slice_get}
use Rattle.cell_nodes.specs.Constructed.{stub}
use Rattle.cell_nodes.specs.Good.{IsGood}
use Rattle.cell_nodes.specs.Prunes.{Prunes}
use Rattle.cell_nodes.specs.Tree.{mask, hash, depth}
use Rattle.cell_nodes.specs.declared.tree.Mode.TheVariants.{Whole, Partial}
use Rattle.cell_nodes.specs.declared.tree.Tree.{Tree}
use Rattle.core_form.specs.Core.{CoreSchema}
use Rattle.core_form.specs.Closed.{Closed}
use Rattle.spelling.specs.Spells.{Reading}
use Rattle.typed_value.specs.Paths.{Stride, at_path}
use Rattle.typed_value.specs.Values.{Plain}
use Rattle.pruning.specs.declared.Knowledge.TheVariants.{Known, KnownAbsent}
use Rattle.pruning.specs.Blanked.{Blanked}
use Rattle.pruning.specs.Cut.{cut_root}
use Rattle.pruning.specs.Knowing.{known, as_named, names_absence, NamesSomething}
use Rattle.pruning.specs.SpellsLaid.{LaidRoot, plain_root, IsLaidRoot}
use Rattle.pruning.specs.Names.{NamesFieldsApart}
use Rattle.pruning.specs.Spots.{unless_kept, unkept, spots_of}
use Rattle.pruning.specs.Thinned.{pruned_in, ReadsThinned}

-- each reading in mode Whole lies so in its cells
abbrev pub ReadingIsLaid : Type 0
ReadingIsLaid =
    (schema : CoreSchema) (t : Closed) (c : Tree) (v : Plain) → Reading Whole schema t c v
    → (r : LaidRoot) × (plain_root r ≡ v) × IsLaidRoot schema t c r

-- The tree p prunes c and keeps its hash and depth at level 0; it reads as the value w; and of each path it is known
-- whether it leads to a value of v.
pub record Commutes (schema : CoreSchema) (t : Closed) (c p : Tree) (v w : Plain) (paths : List (List Stride)) : Type 0
  where
    pub prunes : Prunes c p 0
    pub good : IsGood p
    pub same_hash : hash p 0 ≡ hash c 0
    pub same_depth : depth p 0 ≡ depth c 0
    pub reads : Reading Partial schema t p w
    pub knows : (i : ℕ) (path : List Stride) → slice_get paths i ≡ Some path → known w path ≡ as_named (at_path v path)

-- Where the spots that no path keeps are hidden, the tree reads as the value blanked there.
abbrev pub PruningCommutes : Type 0
PruningCommutes =
    (schema : CoreSchema) → NamesFieldsApart schema → (t : Closed) (c : Tree) (v : Plain) → IsGood c → mask c ≡ 0
    → Reading Whole schema t c v → (r : LaidRoot) → plain_root r ≡ v → IsLaidRoot schema t c r
    → (paths : List (List Stride))
    → Commutes schema t c (cut_root (unless_kept paths) r c) v (Blanked v (unkept paths (spots_of r))) paths

-- Any pruned tree of a tree that reads is the pruned branch that stands for it, or reads as the value blanked at the
-- spots where it has a pruned branch, but that each tree in a Raw or a Rest prunes to the one there.
abbrev pub PrunedTreeReads : Type 0
PrunedTreeReads =
    (schema : CoreSchema) → NamesFieldsApart schema → (t : Closed) (c : Tree) (v : Plain) → IsGood c → mask c ≡ 0
    → Reading Whole schema t c v → (r : LaidRoot) → plain_root r ≡ v → IsLaidRoot schema t c r → (p : Tree)
    → Prunes c p 0
    → (p ≡ stub c 0) ⊎ ReadsThinned schema t p (Blanked v (filter (pruned_in p) (spots_of r)))

-- a path that names an absence leads to no value
abbrev pub AbsenceHasNoValue : Type 0
AbsenceHasNoValue = (v : Plain) (path : List Stride) → names_absence v path ≡ true → at_path v path ≡ None

-- What is known of the path in the value w with hidden parts: that it leads to a value exactly where it leads to one in
-- v, that it leads to nothing exactly where it names an absence there, and one of the two.
pub record KnowsNamed (v w : Plain) (path : List Stride) : Type 0 where
  pub either : (known w path ≡ Known) ⊎ (known w path ≡ KnownAbsent)
  pub value : (known w path ≡ Known) ↔ ((u : Plain) × (at_path v path ≡ Some u))
  pub absence : (known w path ≡ KnownAbsent) ↔ (names_absence v path ≡ true)

-- Where the spots that no path keeps are hidden, this is known of each chosen path that names something.
abbrev pub NamedIsKnown : Type 0
NamedIsKnown =
    (schema : CoreSchema) → NamesFieldsApart schema → (t : Closed) (c : Tree) (r : LaidRoot) → IsLaidRoot schema t c r
    → (paths : List (List Stride)) (i : ℕ) (path : List Stride) → slice_get paths i ≡ Some path
    → NamesSomething (plain_root r) path
    → KnowsNamed (plain_root r) (Blanked (plain_root r) (unkept paths (spots_of r))) path
