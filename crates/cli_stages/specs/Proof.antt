-- The stage of a proof at a closed type of a schema: what it seals, and what its child shows in mode Partial.
--
-- Source: TON documentation, "Exotic cells": a Merkle proof cell stores the hash and the depth of its child at level 0.
-- The order of the refusals is this project's own.
use Rattle.std.specs.Prelude.{◌≡◌, ◌==◌, bytes_eq, not, ℕ, Bool, true, List, [], ◌∷◌, Option, Some, None, Result, Ok, Err}
use Rattle.std.specs.Prelude.{if◌then◌else◌}
use Rattle.cell_nodes.specs.Tree.{mask, hash, depth}
use Rattle.cell_nodes.specs.declared.tree.Kind.{Kind}
use Rattle.cell_nodes.specs.declared.tree.Kind.TheVariants.{Proof as ProofKind}
use Rattle.cell_nodes.specs.declared.tree.Mode.TheVariants.{Partial}
use Rattle.cell_nodes.specs.declared.tree.Tree.{Tree, out-Tree}
use Rattle.proof_laws.specs.Viewing.{kept_hash, kept_depth}
use Rattle.tlb_syntax.specs.Tree.{SchemaView}
use Rattle.typed_value.specs.Values.{Plain}
use Rattle.cli_refusals.specs.Refusal.{Refusal, proof}
use Rattle.cli_refusals.specs.declared.proof_lines.ProofCause.TheVariants as causes
use Rattle.cli_stages.specs.Cell.{Cell}
use Rattle.cli_stages.specs.Stage.{Gives, Next}
use Rattle.cli_stages.specs.TypeWord.{ShownType}

-- ---- what a proof seals

-- the hash is the one that was given, where one was
abbrev pub is_root : Option (List ℕ) → List ℕ → Bool
is_root None found = true
is_root (Some root) found = bytes_eq root found

-- the child, where the proof is whole and stores what the child has, and the child has the given hash; else the first
-- of these that doesn't hold
abbrev pub sealed_child : Option (List ℕ) → Tree → Tree → Result Tree Refusal
sealed_child root c p =
    if not (mask c == 0) then Err (proof causes.NotWhole)
    else if not (bytes_eq (kept_hash c) (hash p 0)) then Err (proof (causes.HashDiffers (kept_hash c) (hash p 0)))
    else if not (kept_depth c == depth p 0) then Err (proof (causes.DepthDiffers (kept_depth c) (depth p 0)))
    else if not (is_root root (hash p 0)) then Err (proof (causes.WrongRoot (hash p 0)))
    else Ok p

-- of a cell by its kind and its children; a proof has one child
abbrev pub sealed_by : Option (List ℕ) → Tree → Kind → List Tree → Result Tree Refusal
sealed_by root c ProofKind (p ∷ []) = sealed_child root c p
sealed_by root c kind children = Err (proof causes.NotProof)

abbrev pub sealed : Option (List ℕ) → Tree → Result Tree Refusal
sealed root c = sealed_by root c (out-Tree c).kind (out-Tree c).children

abbrev pub Seal : Option (List ℕ) → Tree → Result Tree Refusal → Type 0
Seal root c answer = answer ≡ sealed root c

-- ---- what it shows

-- the value of the child with its hidden parts, and the hash of the tree that the proof is of
pub record ProofShows : Type 0 where
  pub value : Plain
  pub hash : List ℕ

abbrev pub Proof : Option (List ℕ) → SchemaView → ShownType → Tree → Result ProofShows Refusal → Type 0
Proof root s type c =
    Next (Seal root c) (λ child.
    Next (Cell Partial s type child) (λ value.
    Gives (record { value = value; hash = hash child 0 })))
