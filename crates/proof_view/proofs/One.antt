-- An answer that holds is the one that there is.
use Rattle.std.proofs.Common.{◌≡◌, ℕ, List, [], ◌∷◌, Option, Err, subst}
use Rattle.cell_nodes.specs.Tree.{hash}
use Rattle.cell_nodes.specs.declared.tree.Kind.TheVariants.{Proof}
use Rattle.cell_nodes.specs.declared.tree.Tree.{Tree, out-Tree}
use Rattle.cell_nodes.specs.declared.tree.Mode.TheVariants.{Partial}
use Rattle.core_form.specs.Closed.{Closed}
use Rattle.core_form.specs.Core.{CoreSchema}
use Rattle.spelling.specs.Places.{Place}
use Rattle.spelling.specs.Spells.{Reading}
use Rattle.spelling.specs.Stuck.{Stuck}
use Rattle.typed_value.specs.Values.{Plain}
use Rattle.proof_laws.specs.Laws.{ExactlyOne}
use Rattle.proof_laws.specs.Viewing.{ViewAnswer, ViewAnswers, viewed, not_proof, not_whole, hash_differs, depth_differs}
use Rattle.proof_laws.specs.Viewing.{wrong_root, stuck_at, IsRoot, IsSealed}
use Rattle.proof_view.specs.Viewed.{IsTheAnswer, Answers, Seals}
use Rattle.proof_view.specs.declared.error.ViewError.{ViewError}
use Rattle.proof_view.specs.declared.error.ViewError.TheVariants as errors

the_answer : (schema : CoreSchema) (t : Closed) (c : Tree) (root : Option (List ℕ)) (a : ViewAnswer)
    → ExactlyOne (ViewAnswers schema t c root) → ViewAnswers schema t c root a → IsTheAnswer schema t c root a
the_answer schema t c root a one h = record {
  holds = h;
  only = λ b k. one.one b a k h;
}

pub refused : (schema : CoreSchema) (t : Closed) (c : Tree) (root : Option (List ℕ)) (e : ViewError)
    → ExactlyOne (ViewAnswers schema t c root) → Seals c (Err e) → Answers schema t c root (Err e)
refused schema t c root errors.NotProof one h = the_answer schema t c root not_proof one (h schema t root)
refused schema t c root errors.NotWhole one h = the_answer schema t c root not_whole one (h schema t root)
refused schema t c root (errors.HashDiffers kept found) one h =
    the_answer schema t c root (hash_differs kept found) one (h schema t root)
refused schema t c root (errors.DepthDiffers kept found) one h =
    the_answer schema t c root (depth_differs kept found) one (h schema t root)
refused schema t c root (errors.WrongRoot found) one h = absurd h
refused schema t c root (errors.Stuck p) one h = absurd h
refused schema t c root errors.NoMemory one h = absurd h

-- the child of a proof that is whole and stores what its child has
abbrev pub Over : Tree → Tree → Type 0
Over c p = ((out-Tree c).kind ≡ Proof) × ((out-Tree c).children ≡ p ∷ []) × IsSealed c p

pub another_root : (schema : CoreSchema) (t : Closed) (c p : Tree) (root : Option (List ℕ)) (found : List ℕ)
    → ExactlyOne (ViewAnswers schema t c root) → Over c p → found ≡ hash p 0 → (IsRoot root found → ⊥)
    → IsTheAnswer schema t c root (wrong_root found)
another_root schema t c p root found one over e other =
    the_answer schema t c root (wrong_root found) one (over.0, p, over.1, (over.2, e, other))

right : (root : Option (List ℕ)) (found : List ℕ) (p : Tree) → found ≡ hash p 0 → IsRoot root found
    → IsRoot root (hash p 0)
right root found p e h = let P : List ℕ → Type 0 = IsRoot root in subst P e h

pub shows : (schema : CoreSchema) (t : Closed) (c p : Tree) (root : Option (List ℕ)) (found : List ℕ) (v : Plain)
    → ExactlyOne (ViewAnswers schema t c root) → Over c p → found ≡ hash p 0 → IsRoot root found
    → Reading Partial schema t p v → IsTheAnswer schema t c root (viewed v found)
shows schema t c p root found v one over e same reading =
    the_answer schema t c root (viewed v found) one
    (over.0, p, over.1, (over.2, right root found p e same, reading, e))

pub stops : (schema : CoreSchema) (t : Closed) (c p : Tree) (root : Option (List ℕ)) (found : List ℕ) (place : Place)
    → ExactlyOne (ViewAnswers schema t c root) → Over c p → found ≡ hash p 0 → IsRoot root found
    → Stuck Partial schema t p place → IsTheAnswer schema t c root (stuck_at place)
stops schema t c p root found place one over e same stuck =
    the_answer schema t c root (stuck_at place) one (over.0, p, over.1, (over.2, right root found p e same, stuck))
