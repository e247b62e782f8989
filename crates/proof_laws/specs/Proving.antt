-- The proof of chosen paths, and what making it answers.
--
-- Source: TON documentation, "Exotic cells" (Merkle proof cells). What chosen paths keep, the limits and the order of
-- the answers are this project's own.
use Rattle.std.specs.Prelude.{◌≡◌, ◌≢◌, ℕ, ◌+◌, ◌<◌, ◌≤◌, List, Some, slice_get}
use Rattle.cell_nodes.specs.Constructed.{proof_of}
use Rattle.cell_nodes.specs.Tree.{mask, deepest, IsShallow, unfolded}
use Rattle.cell_nodes.specs.declared.tree.Mode.TheVariants.{Whole}
use Rattle.cell_nodes.specs.declared.tree.Tree.{Tree}
use Rattle.core_form.specs.Core.{CoreSchema}
use Rattle.core_form.specs.Closed.{Closed}
use Rattle.spelling.specs.Places.{Place}
use Rattle.spelling.specs.Stuck.{Stuck}
use Rattle.typed_value.specs.Paths.{Stride}
use Rattle.typed_value.specs.Values.{Plain}
use Rattle.pruning.specs.Blanked.{Blanked}
use Rattle.pruning.specs.Cut.{cut_root}
use Rattle.pruning.specs.Knowing.{NamesSomething}
use Rattle.pruning.specs.SpellsLaid.{LaidRoot, plain_root, LaidReading}
use Rattle.pruning.specs.Spots.{unless_kept, unkept, spots_of}

-- ---- the proof

-- the tree without the references that no chosen path keeps, and the value that it shows
abbrev pub pruned_for : List (List Stride) → LaidRoot → Tree → Tree
pruned_for paths r c = cut_root (unless_kept paths) r c

abbrev pub shown_for : List (List Stride) → LaidRoot → Plain
shown_for paths r = Blanked (plain_root r) (unkept paths (spots_of r))

abbrev pub proof_for : List (List Stride) → LaidRoot → Tree → Tree
proof_for paths r c = proof_of (pruned_for paths r c)

-- the most cells of an unfolded proof
abbrev pub most_cells : ℕ
most_cells = 262144

-- ---- what paths name

abbrev pub AllName : Plain → List (List Stride) → Type 0
AllName v paths = (i : ℕ) (path : List Stride) → slice_get paths i ≡ Some path → NamesSomething v path

-- the first path that names nothing, by its number from 1
pub record IsFirstNameless (v : Plain) (paths : List (List Stride)) (number : ℕ) : Type 0 where
  pub index : ℕ
  pub counted : number ≡ index + 1
  pub path : List Stride
  pub there : slice_get paths index ≡ Some path
  pub nameless : NamesSomething v path → ⊥
  pub before : (j : ℕ) (other : List Stride) → j < index → slice_get paths j ≡ Some other → NamesSomething v other

-- ---- answers

pub data ProveAnswer : Type 0 where
  -- the proof, and the value that its child shows
  proved : Tree → Plain → ProveAnswer
  -- the tree has no reading
  stuck_at : Place → ProveAnswer
  -- this path names nothing
  no_such_path : ℕ → ProveAnswer
  -- the tree has hidden parts itself
  not_whole : ProveAnswer
  -- the proof would be deeper than a cell may be
  proof_too_deep : ProveAnswer
  -- the proof would have more cells than a bag may hold
  proof_too_large : ProveAnswer

-- each path names something in the value, and no part of the tree is hidden
pub record CanProve (c : Tree) (r : LaidRoot) (paths : List (List Stride)) : Type 0 where
  pub named : AllName (plain_root r) paths
  pub whole : mask c ≡ 0

-- what is answered for a tree with this laid reading: the first of the answers that holds
abbrev pub AnswersFor : Tree → LaidRoot → List (List Stride) → ProveAnswer → Type 0
AnswersFor c r paths (proved proof shown) =
    CanProve c r paths × IsShallow (proof_for paths r c) × (unfolded (proof_for paths r c) ≤ most_cells)
    × (proof ≡ proof_for paths r c) × (shown ≡ shown_for paths r)
AnswersFor c r paths (stuck_at place) = ⊥
AnswersFor c r paths (no_such_path number) = IsFirstNameless (plain_root r) paths number
AnswersFor c r paths not_whole = AllName (plain_root r) paths × (mask c ≢ 0)
AnswersFor c r paths proof_too_deep = CanProve c r paths × (1024 < deepest (proof_for paths r c))
AnswersFor c r paths proof_too_large =
    CanProve c r paths × IsShallow (proof_for paths r c) × (most_cells < unfolded (proof_for paths r c))

abbrev pub ProveAnswers : CoreSchema → Closed → Tree → List (List Stride) → ProveAnswer → Type 0
ProveAnswers schema t c paths (stuck_at place) = Stuck Whole schema t c place
ProveAnswers schema t c paths answer = (r : LaidRoot) × LaidReading schema t c r × AnswersFor c r paths answer
