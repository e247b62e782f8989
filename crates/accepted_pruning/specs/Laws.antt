-- What the laws say, for every accepted schema: facts about the definitions alone. The schema stands in them by the
-- core forms of its declarations without those that are passed over.
use Rattle.std.specs.Prelude.{filter}
use Rattle.std.specs.Prelude.{◌≡◌, ◌⊎◌, if◌then◌else◌, ℕ, List, Option, Some, slice_get}
use Rattle.tlb_syntax.specs.Tree.{SchemaView}
use Rattle.cell_nodes.specs.Constructed.{stub}
use Rattle.cell_nodes.specs.Good.{IsGood}
use Rattle.cell_nodes.specs.Prunes.{Prunes}
use Rattle.cell_nodes.specs.Tree.{mask}
use Rattle.cell_nodes.specs.declared.tree.Mode.TheVariants.{Whole}
use Rattle.cell_nodes.specs.declared.tree.Tree.{Tree}
use Rattle.core_form.specs.Closed.{Closed}
use Rattle.spelling.specs.Spells.{Reading}
use Rattle.typed_value.specs.Paths.{Stride, at_path}
use Rattle.typed_value.specs.Values.{Plain}
use Rattle.accepted_schema.specs.Accepted.{IsAccepted, kept_cores}
use Rattle.pruning.specs.Blanked.{Blanked}
use Rattle.pruning.specs.declared.Knowledge.TheVariants.{NotKnown}
use Rattle.pruning.specs.Cut.{Choice, cut_root}
use Rattle.pruning.specs.Knowing.{known, as_named, NamesSomething}
use Rattle.pruning.specs.SpellsLaid.{LaidRoot, plain_root, IsLaidRoot, LaidReading}
use Rattle.pruning.specs.Names.{NamesFieldsApart}
use Rattle.pruning.specs.Spots.{unless_kept, unkept, spots_of}
use Rattle.pruning.specs.Thinned.{pruned_in, ReadsThinned}
use Rattle.pruning_laws.specs.Laws.{Commutes, KnowsNamed}
use Rattle.proof_laws.specs.Laws.{ExactlyOne, IsProofOf}
use Rattle.proof_laws.specs.Proving.{proved, ProveAnswers}
use Rattle.proof_laws.specs.Viewing.{ViewAnswers}
use Rattle.proof_laws.specs.Ways.{some_on_way}

-- no two fields of a record are shown by one name
abbrev pub AcceptedNamesApart : Type 0
AcceptedNamesApart = (s : SchemaView) → IsAccepted s → NamesFieldsApart (kept_cores s)

-- pruning commutes with reading, in a tree of mask 0
abbrev pub PruningCommutes : Type 0
PruningCommutes =
    (s : SchemaView) → IsAccepted s → (t : Closed) (c : Tree) (v : Plain) → IsGood c → mask c ≡ 0
    → Reading Whole (kept_cores s) t c v → (r : LaidRoot) → plain_root r ≡ v → IsLaidRoot (kept_cores s) t c r
    → (paths : List (List Stride))
    → Commutes (kept_cores s) t c (cut_root (unless_kept paths) r c) v (Blanked v (unkept paths (spots_of r))) paths

-- Any pruned tree of a tree of mask 0 is the pruned branch that stands for the whole, or reads as the value blanked
-- where it is pruned; trees that stand in the value as they are may be pruned further.
abbrev pub PrunedTreeReads : Type 0
PrunedTreeReads =
    (s : SchemaView) → IsAccepted s → (t : Closed) (c : Tree) (v : Plain) → IsGood c → mask c ≡ 0
    → Reading Whole (kept_cores s) t c v → (r : LaidRoot) → plain_root r ≡ v → IsLaidRoot (kept_cores s) t c r
    → (p : Tree) → Prunes c p 0
    → (p ≡ stub c 0) ⊎ ReadsThinned (kept_cores s) t p (Blanked v (filter (pruned_in p) (spots_of r)))

-- where the spots that no path keeps are hidden, what is known of each chosen path that names something
abbrev pub NamedIsKnown : Type 0
NamedIsKnown =
    (s : SchemaView) → IsAccepted s → (t : Closed) (c : Tree) (r : LaidRoot) → IsLaidRoot (kept_cores s) t c r
    → (paths : List (List Stride)) (i : ℕ) (path : List Stride) → slice_get paths i ≡ Some path
    → NamesSomething (plain_root r) path
    → KnowsNamed (plain_root r) (Blanked (plain_root r) (unkept paths (spots_of r))) path

-- Where spots of a value are hidden, a path is not known exactly where one of these stands on its way. Of every other path
-- it is known whether it leads to a value.
abbrev pub KnowsExactly : Type 0
KnowsExactly =
    (s : SchemaView) → IsAccepted s → (t : Closed) (c : Tree) (r : LaidRoot) → IsLaidRoot (kept_cores s) t c r
    → (f : Choice) (path : List Stride)
    → known (Blanked (plain_root r) (filter f (spots_of r))) path
    ≡ (if some_on_way path (filter f (spots_of r)) then NotKnown else as_named (at_path (plain_root r) path))

-- a root cell has at most one laid reading at a type
abbrev pub OneLaid : Type 0
OneLaid =
    (s : SchemaView) → IsAccepted s → (t : Closed) (c : Tree) (r q : LaidRoot) → LaidReading (kept_cores s) t c r
    → LaidReading (kept_cores s) t c q → r ≡ q

-- making a proof has exactly one answer
abbrev pub OneProveAnswer : Type 0
OneProveAnswer =
    (s : SchemaView) → IsAccepted s → (t : Closed) (c : Tree) (paths : List (List Stride))
    → ExactlyOne (ProveAnswers (kept_cores s) t c paths)

-- reading a proof has exactly one answer; the tree of a cell is good
abbrev pub OneViewAnswer : Type 0
OneViewAnswer =
    (s : SchemaView) → IsAccepted s → (t : Closed) (c : Tree) → IsGood c → (root : Option (List ℕ))
    → ExactlyOne (ViewAnswers (kept_cores s) t c root)

-- What is proved is read as the value with just the references unknown that no path keeps, and with the tree's hash.
abbrev pub ProveThenView : Type 0
ProveThenView =
    (s : SchemaView) → IsAccepted s → (t : Closed) (c : Tree) → IsGood c → (paths : List (List Stride)) (proof : Tree)
    (shown : Plain) → ProveAnswers (kept_cores s) t c paths (proved proof shown)
    → IsProofOf (kept_cores s) t c paths proof shown
