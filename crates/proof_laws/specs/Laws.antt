-- What the laws say: facts about the definitions alone.
use Rattle.std.specs.Prelude.{◌≡◌, if◌then◌else◌, ℕ, ◌+◌, ◌≤◌, List, [], ◌∷◌, filter, map, Option, Some, slice_get}
use Rattle.cell_hash.specs.declared.Content.TheVariants.{Data}
use Rattle.cell_nodes.specs.Constructed.{proof_bits, proof_of}
use Rattle.cell_nodes.specs.Good.{IsGood}
use Rattle.cell_nodes.specs.Prunes.{Prunes}
use Rattle.cell_nodes.specs.Tree.{marks, mask, hash, depth, hash_with, IsShallow}
use Rattle.cell_nodes.specs.declared.tree.Kind.TheVariants.{Proof}
use Rattle.cell_nodes.specs.declared.tree.Mode.TheVariants.{Whole}
use Rattle.cell_nodes.specs.declared.tree.Tree.{Tree}
use Rattle.core_form.specs.Core.{CoreSchema}
use Rattle.core_form.specs.Closed.{Closed}
use Rattle.spelling.specs.Acceptable.{IsAcceptable}
use Rattle.spelling.specs.Spells.{Reading}
use Rattle.typed_value.specs.Paths.{Stride, at_path}
use Rattle.typed_value.specs.Values.{Plain}
use Rattle.pruning.specs.declared.Knowledge.TheVariants.{NotKnown}
use Rattle.pruning.specs.Blanked.{Blanked}
use Rattle.pruning.specs.Cut.{Choice}
use Rattle.pruning.specs.Knowing.{known, as_named}
use Rattle.pruning.specs.Names.{NamesFieldsApart}
use Rattle.pruning.specs.SpellsLaid.{LaidRoot, plain_root, IsLaidRoot, LaidReading}
use Rattle.pruning.specs.Spots.{unkept, spots_of}
use Rattle.pruning_laws.specs.Laws.{KnowsNamed}
use Rattle.proof_laws.specs.Nodes.{StandsIn}
use Rattle.proof_laws.specs.Proving.{shown_for, proved, ProveAnswers}
use Rattle.proof_laws.specs.Ways.{some_on_way}
use Rattle.proof_laws.specs.Viewing.{IsRoot, viewed, IsSealed, ViewAnswers}

-- ---- laid readings

-- a laid reading is a reading of its plain value, and each reading is one of a laid value
pub record LaidAreReadings (schema : CoreSchema) (t : Closed) (c : Tree) : Type 0 where
  pub reads : (r : LaidRoot) → LaidReading schema t c r → Reading Whole schema t c (plain_root r)
  pub lies : (v : Plain) → Reading Whole schema t c v → (r : LaidRoot) × (plain_root r ≡ v) × LaidReading schema t c r

-- in every schema
abbrev pub LaidIsRead : Type 0
LaidIsRead = (schema : CoreSchema) (t : Closed) (c : Tree) → LaidAreReadings schema t c

-- a root cell has at most one laid reading at a type
abbrev pub OneLaid : Type 0
OneLaid =
    (schema : CoreSchema) → IsAcceptable schema → (t : Closed) (c : Tree) (r q : LaidRoot) → LaidReading schema t c r
    → LaidReading schema t c q → r ≡ q

-- ---- the tree and the cell of a proof

-- In a pruned tree of a tree of mask 0 each node below ordinary nodes alone has the mask 0 or 1.
abbrev pub PrunedIsLow : Type 0
PrunedIsLow = (c p : Tree) → IsGood c → mask c ≡ 0 → Prunes c p 0 → (n : Tree) → StandsIn n p → mask n ≤ 1

-- The proof has mask 0 and stores hash and depth of its child at level 0. At each level it is one deeper than the child
-- at level 1, and its hash is that of its 280 bits with the child at level 1. It is good where it is not too deep.
pub record IsProofCell (p : Tree) : Type 0 where
  pub sealed : IsSealed (proof_of p) p
  pub depths : (i : ℕ) → depth (proof_of p) i ≡ 1 + depth p 1
  pub hashes : (i : ℕ)
      → hash (proof_of p) i ≡ hash_with Proof 0 280 (Data (proof_bits (hash p 0) (depth p 0))) 0 (map marks (p ∷ []))
  pub good : IsShallow (proof_of p) → IsGood (proof_of p)

abbrev pub ProofCell : Type 0
ProofCell = (p : Tree) → IsGood p → mask p ≤ 1 → IsProofCell p

-- ---- answers

-- there is one, and no other
pub record ExactlyOne {A : Type 0} (Answers : A → Type 0) : Type 0 where
  pub some : (a : A) × Answers a
  pub one : (a b : A) → Answers a → Answers b → a ≡ b

-- making a proof has exactly one answer
abbrev pub OneProveAnswer : Type 0
OneProveAnswer =
    (schema : CoreSchema) → IsAcceptable schema → (t : Closed) (c : Tree) (paths : List (List Stride))
    → ExactlyOne (ProveAnswers schema t c paths)

-- reading a proof has exactly one answer; the tree of a cell is good
abbrev pub OneViewAnswer : Type 0
OneViewAnswer =
    (schema : CoreSchema) → IsAcceptable schema → (t : Closed) (c : Tree) → IsGood c → (root : Option (List ℕ))
    → ExactlyOne (ViewAnswers schema t c root)

-- ---- what is known

-- Where spots of a value are hidden, a path is not known exactly where one of these stands on its way. Of every other path
-- it is known whether it leads to a value.
abbrev pub KnowsExactly : Type 0
KnowsExactly =
    (schema : CoreSchema) → NamesFieldsApart schema → (t : Closed) (c : Tree) (r : LaidRoot) → IsLaidRoot schema t c r
    → (f : Choice) (path : List Stride)
    → known (Blanked (plain_root r) (filter f (spots_of r))) path
    ≡ (if some_on_way path (filter f (spots_of r)) then NotKnown else as_named (at_path (plain_root r) path))

-- ---- proving and then reading

-- The proof stands over a pruned tree with the hash and the depth of the tree. It is read as the value with just the
-- references unknown that no path keeps, where the tree's hash or none is given. A path is not known exactly where one
-- of these references stands on its way, and of each chosen path it is known whether it leads to a value or names an
-- absence.
pub record IsProofOf (schema : CoreSchema) (t : Closed) (c : Tree) (paths : List (List Stride)) (proof : Tree)
    (shown : Plain) : Type 0 where
  pub child : Tree
  pub over : proof ≡ proof_of child
  pub good : IsGood proof
  pub prunes : Prunes c child 0
  pub same_hash : hash child 0 ≡ hash c 0
  pub same_depth : depth child 0 ≡ depth c 0
  pub low : (n : Tree) → StandsIn n child → mask n ≤ 1
  pub laid : LaidRoot
  pub reading : LaidReading schema t c laid
  pub shows : shown ≡ shown_for paths laid
  pub views : (root : Option (List ℕ)) → IsRoot root (hash c 0)
      → ViewAnswers schema t proof root (viewed shown (hash c 0))
  pub hides : (path : List Stride)
      → known shown path
      ≡ (if some_on_way path (unkept paths (spots_of laid)) then NotKnown else as_named (at_path (plain_root laid) path))
  pub knows : (i : ℕ) (path : List Stride) → slice_get paths i ≡ Some path → KnowsNamed (plain_root laid) shown path

abbrev pub ProveThenView : Type 0
ProveThenView =
    (schema : CoreSchema) → NamesFieldsApart schema → (t : Closed) (c : Tree) → IsGood c → (paths : List (List Stride))
    (proof : Tree) (shown : Plain) → ProveAnswers schema t c paths (proved proof shown)
    → IsProofOf schema t c paths proof shown
