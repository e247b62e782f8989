-- What an answer of `view` means.
use Rattle.std.specs.Prelude.{◌≡◌, ℕ, List, [], ◌∷◌, Option, Result, Ok, Err}
use Rattle.cell_nodes.specs.declared.tree.Kind.TheVariants.{Proof}
use Rattle.cell_nodes.specs.declared.tree.Tree.{Tree, out-Tree}
use Rattle.std.specs.Borrow.{Bor}
use Rattle.core_form.specs.Closed.{Closed}
use Rattle.core_form.specs.Core.{CoreSchema}
use Rattle.typed_value.specs.View.{value}
use Rattle.field_plan.specs.Placed.{place_view}
use Rattle.proof_laws.specs.Viewing.{ViewAnswer, viewed, not_proof, not_whole, hash_differs, depth_differs, wrong_root}
use Rattle.proof_laws.specs.Viewing.{stuck_at, IsSealed, ViewAnswers}
use Rattle.proof_view.specs.declared.viewing.Viewed.{Viewed}
use Rattle.proof_view.specs.declared.error.ViewError.{ViewError}
use Rattle.proof_view.specs.declared.error.ViewError.TheVariants as errors

-- this is the one answer
pub record IsTheAnswer (schema : CoreSchema) (t : Closed) (c : Tree) (root : Option (List ℕ)) (a : ViewAnswer) : Type 0
  where
    pub holds : ViewAnswers schema t c root a
    pub only : (b : ViewAnswer) → ViewAnswers schema t c root b → b ≡ a

-- the answer is the one that there is, or memory ran out
abbrev pub Answers : CoreSchema → Closed → Tree → Option (List ℕ) → Result Viewed ViewError → Type 0
Answers schema t c root (Ok v) = IsTheAnswer schema t c root (viewed (value v.value) v.hash)
Answers schema t c root (Err errors.NotProof) = IsTheAnswer schema t c root not_proof
Answers schema t c root (Err errors.NotWhole) = IsTheAnswer schema t c root not_whole
Answers schema t c root (Err (errors.HashDiffers kept found)) = IsTheAnswer schema t c root (hash_differs kept found)
Answers schema t c root (Err (errors.DepthDiffers kept found)) = IsTheAnswer schema t c root (depth_differs kept found)
Answers schema t c root (Err (errors.WrongRoot found)) = IsTheAnswer schema t c root (wrong_root found)
Answers schema t c root (Err (errors.Stuck p)) = IsTheAnswer schema t c root (stuck_at (place_view p))
Answers schema t c root (Err errors.NoMemory) = Unit {0}

-- the answer holds at every type, and whatever root was given
abbrev pub HoldsAnyway : Tree → ViewAnswer → Type 0
HoldsAnyway c a = (schema : CoreSchema) (t : Closed) (root : Option (List ℕ)) → ViewAnswers schema t c root a

-- the child of a proof that is whole and stores what its child has, or the first refusal that holds
abbrev pub Seals : Tree → Result (Bor Tree) ViewError → Type 0
Seals c (Ok p) = ((out-Tree c).kind ≡ Proof) × ((out-Tree c).children ≡ p.now ∷ []) × IsSealed c p.now
Seals c (Err errors.NotProof) = HoldsAnyway c not_proof
Seals c (Err errors.NotWhole) = HoldsAnyway c not_whole
Seals c (Err (errors.HashDiffers kept found)) = HoldsAnyway c (hash_differs kept found)
Seals c (Err (errors.DepthDiffers kept found)) = HoldsAnyway c (depth_differs kept found)
Seals c (Err (errors.WrongRoot found)) = ⊥
Seals c (Err (errors.Stuck p)) = ⊥
Seals c (Err errors.NoMemory) = ⊥
