-- The lines of `make`.
use Rattle.std.specs.Prelude.{◌≡◌, ℕ, List, [], ◌++◌, Option, None, Some, Result, codes, length}
use Rattle.bag_cells.specs.Written.{bag_of}
use Rattle.cell_nodes.specs.declared.tree.Tree.{Tree}
use Rattle.cell_pool.specs.Post.{post}
use Rattle.tlb_edge.specs.Files.{Name}
use Rattle.typed_value.specs.Paths.{Stride, at_path}
use Rattle.typed_value.specs.Values.{Plain}
use Rattle.value_text.specs.PathText.{PathWrites}
use Rattle.value_text.specs.Text.{text_of}
use Rattle.cli_refusals.specs.Lines.{hash_text, line_of, numbered, spaced}
use Rattle.cli_refusals.specs.Refusal.{Refusal}
use Rattle.cli_stages.specs.Proof.{ProofShows}
use Rattle.cli_stages.specs.Stage.{stage}

-- the hash of the tree that the proof is of
abbrev pub root_line : List ℕ → List ℕ
root_line hash = line_of (spaced (codes "root") (hash_text hash))

-- how many distinct cells a tree has, and how many bytes its bag has
abbrev pub size_line : List ℕ → Tree → List ℕ
size_line name t =
    line_of (numbered (spaced (numbered (spaced name (codes "cells")) (length (post t))) (codes "bytes")) (length (bag_of t)))

-- nothing where nothing is
abbrev pub shown_text : Option Plain → List ℕ
shown_text None = []
shown_text (Some v) = text_of v

-- the text of what the path that a word writes leads to in a value
pub record IsTextAt (word : Name) (v : Plain) (text : List ℕ) : Type 0 where
  pub path : List Stride
  pub writes : PathWrites word path
  pub is : text ≡ shown_text (at_path v path)

abbrev pub at_line : List ℕ → List ℕ
at_line text = line_of (spaced (codes "at") text)

-- of a tree, of a proof of it, of what the proof shows, and of the path that a word writes
pub record AreLines (word : Name) (t proof : Tree) (shown : ProofShows) (lines : List ℕ) : Type 0 where
  pub text : List ℕ
  pub is_at : IsTextAt word shown.value text
  pub are : lines ≡ root_line shown.hash ++ size_line (codes "bag") t ++ size_line (codes "proof") proof ++ at_line text

-- nothing of it is refused
abbrev pub Lines : Name → Tree → Tree → ProofShows → Result (List ℕ) Refusal → Type 0
Lines word t proof shown = stage (λ r. ⊥) (AreLines word t proof shown)
