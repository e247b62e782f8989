-- What an answer of `prove` means.
use Rattle.std.specs.Prelude.{◌≡◌, ◌<◌, ◌≤◌, ℕ, List, map, Option, Some, None, Result, Ok, Err}
use Rattle.cell_nodes.specs.Constructed.{proof_of}
use Rattle.cell_nodes.specs.Tree.{deepest, IsShallow, unfolded}
use Rattle.cell_nodes.specs.declared.tree.Mode.TheVariants.{Partial}
use Rattle.cell_nodes.specs.declared.tree.Tree.{Tree}
use Rattle.core_form.specs.Closed.{Closed}
use Rattle.core_form.specs.Core.{CoreSchema}
use Rattle.field_plan.specs.Placed.{place_view}
use Rattle.spelling.specs.Spells.{Reading}
use Rattle.typed_value.specs.Paths.{Stride}
use Rattle.typed_value.specs.Values.{Plain}
use Rattle.typed_value.specs.View.{stride, value}
use Rattle.typed_value.specs.declared.path.Path.{Path}
use Rattle.proof_laws.specs.Laws.{IsProofOf}
use Rattle.proof_laws.specs.Proving.{ProveAnswer, proved, stuck_at, no_such_path, not_whole, proof_too_deep}
use Rattle.proof_laws.specs.Proving.{proof_too_large, ProveAnswers, AllName, IsFirstNameless, pruned_for, most_cells}
use Rattle.pruning.specs.SpellsLaid.{LaidRoot}
use Rattle.pruned_proof.specs.declared.cutting.CutError.{CutError}
use Rattle.pruned_proof.specs.declared.cutting.CutError.TheVariants as cuts
use Rattle.pruned_proof.specs.declared.proving.Proved.{Proved}
use Rattle.pruned_proof.specs.declared.error.ProveError.{ProveError}
use Rattle.pruned_proof.specs.declared.error.ProveError.TheVariants as errors

abbrev pub path_view : Path → List Stride
path_view p = map stride p.steps

abbrev pub path_views : List Path → List (List Stride)
path_views ps = map path_view ps

-- this is the one answer
pub record IsTheAnswer (schema : CoreSchema) (t : Closed) (c : Tree) (paths : List (List Stride)) (a : ProveAnswer)
    : Type 0 where
  pub holds : ProveAnswers schema t c paths a
  pub only : (b : ProveAnswer) → ProveAnswers schema t c paths b → b ≡ a

-- The answer is the one that there is, or memory ran out. A proof stands over a pruned tree, and is read as the value with
-- just the references unknown that no path keeps.
abbrev pub Answers : CoreSchema → Closed → Tree → List (List Stride) → Result Proved ProveError → Type 0
Answers schema t c paths (Ok x) =
    IsTheAnswer schema t c paths (proved x.proof (value x.value)) × IsProofOf schema t c paths x.proof (value x.value)
Answers schema t c paths (Err (errors.Stuck p)) = IsTheAnswer schema t c paths (stuck_at (place_view p))
Answers schema t c paths (Err (errors.NoSuchPath n)) = IsTheAnswer schema t c paths (no_such_path n)
Answers schema t c paths (Err errors.NotWhole) = IsTheAnswer schema t c paths not_whole
Answers schema t c paths (Err errors.ProofTooDeep) = IsTheAnswer schema t c paths proof_too_deep
Answers schema t c paths (Err errors.ProofTooLarge) = IsTheAnswer schema t c paths proof_too_large
Answers schema t c paths (Err errors.NoMemory) = Unit {0}

-- ---- parts

-- each path names something, or this is the first that doesn't, by its number from 1
abbrev pub Named : Plain → List (List Stride) → Option ℕ → Type 0
Named v paths None = AllName v paths
Named v paths (Some n) = IsFirstNameless v paths n

-- the tree for each laid reading of this value, or memory ran out
abbrev pub CutsTo : List (List Stride) → LaidRoot → Tree → Result Tree CutError → Type 0
CutsTo paths r c (Ok p) = p ≡ pruned_for paths r c
CutsTo paths r c (Err cuts.Unread) = ⊥
CutsTo paths r c (Err cuts.NoMemory) = Unit {0}

-- the proof over this child, and what the child shows, or the first refusal that holds
abbrev pub ProvesOver : CoreSchema → Closed → Tree → Result Proved ProveError → Type 0
ProvesOver schema t p (Ok x) =
    (x.proof ≡ proof_of p) × IsShallow (proof_of p) × (unfolded (proof_of p) ≤ most_cells)
    × Reading Partial schema t p (value x.value)
ProvesOver schema t p (Err (errors.Stuck place)) = ⊥
ProvesOver schema t p (Err (errors.NoSuchPath n)) = ⊥
ProvesOver schema t p (Err errors.NotWhole) = ⊥
ProvesOver schema t p (Err errors.ProofTooDeep) = 1024 < deepest (proof_of p)
ProvesOver schema t p (Err errors.ProofTooLarge) = IsShallow (proof_of p) × (most_cells < unfolded (proof_of p))
ProvesOver schema t p (Err errors.NoMemory) = Unit {0}
