-- What reading a proof answers.
--
-- Source: TON documentation, "Exotic cells": a Merkle proof cell stores the hash of 32 bytes and the depth of 2 bytes
-- of its child at level 0, behind the 8 bits of its type. The order of the answers is this project's own.
use Rattle.std.specs.Prelude.{◌≡◌, ◌≢◌, ℕ, List, [], ◌∷◌, Option, Some, None}
use Rattle.cell_nodes.specs.Layout.{hash_from, depth_from}
use Rattle.cell_nodes.specs.Tree.{mask, hash, depth}
use Rattle.cell_nodes.specs.declared.tree.Kind.TheVariants.{Proof}
use Rattle.cell_nodes.specs.declared.tree.Mode.TheVariants.{Partial}
use Rattle.cell_nodes.specs.declared.tree.Tree.{Tree, out-Tree}
use Rattle.core_form.specs.Core.{CoreSchema}
use Rattle.core_form.specs.Closed.{Closed}
use Rattle.spelling.specs.Places.{Place}
use Rattle.spelling.specs.Spells.{Reading}
use Rattle.spelling.specs.Stuck.{Stuck}
use Rattle.typed_value.specs.Values.{Plain}

-- the hash and the depth that a proof stores
abbrev pub kept_hash : Tree → List ℕ
kept_hash c = hash_from 8 (out-Tree c).bits

abbrev pub kept_depth : Tree → ℕ
kept_depth c = depth_from 264 (out-Tree c).bits

-- the hash is the one that was given, where one was
abbrev pub IsRoot : Option (List ℕ) → List ℕ → Type 0
IsRoot None found = Unit {0}
IsRoot (Some root) found = root ≡ found

pub data ViewAnswer : Type 0 where
  -- the value that the child shows, and the child's hash at level 0
  viewed : Plain → List ℕ → ViewAnswer
  -- the cell is of another kind
  not_proof : ViewAnswer
  -- the proof has hidden parts that it doesn't account for
  not_whole : ViewAnswer
  -- what is stored, and what the child has
  hash_differs : List ℕ → List ℕ → ViewAnswer
  depth_differs : ℕ → ℕ → ViewAnswer
  -- the child has this hash, and another was given
  wrong_root : List ℕ → ViewAnswer
  -- the child has no reading in mode Partial
  stuck_at : Place → ViewAnswer

-- the proof is whole, and stores what its child has
pub record IsSealed (c p : Tree) : Type 0 where
  pub whole : mask c ≡ 0
  pub same_hash : kept_hash c ≡ hash p 0
  pub same_depth : kept_depth c ≡ depth p 0

-- what is answered for a proof of this child: the first of the answers that holds
abbrev pub AnswersOver : CoreSchema → Closed → Tree → Tree → Option (List ℕ) → ViewAnswer → Type 0
AnswersOver schema t c p root (viewed value found) =
    IsSealed c p × IsRoot root (hash p 0) × Reading Partial schema t p value × (found ≡ hash p 0)
AnswersOver schema t c p root not_proof = ⊥
AnswersOver schema t c p root not_whole = mask c ≢ 0
AnswersOver schema t c p root (hash_differs kept found) =
    (mask c ≡ 0) × (kept ≡ kept_hash c) × (found ≡ hash p 0) × (kept ≢ found)
AnswersOver schema t c p root (depth_differs kept found) =
    (mask c ≡ 0) × (kept_hash c ≡ hash p 0) × (kept ≡ kept_depth c) × (found ≡ depth p 0) × (kept ≢ found)
AnswersOver schema t c p root (wrong_root found) =
    IsSealed c p × (found ≡ hash p 0) × (IsRoot root found → ⊥)
AnswersOver schema t c p root (stuck_at place) =
    IsSealed c p × IsRoot root (hash p 0) × Stuck Partial schema t p place

abbrev pub ViewAnswers : CoreSchema → Closed → Tree → Option (List ℕ) → ViewAnswer → Type 0
ViewAnswers schema t c root not_proof = (out-Tree c).kind ≢ Proof
ViewAnswers schema t c root answer =
    ((out-Tree c).kind ≡ Proof) × (p : Tree) × ((out-Tree c).children ≡ p ∷ []) × AnswersOver schema t c p root answer
