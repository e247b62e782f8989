-- The stage of a proof comes to exactly one answer.
use Rattle.std.proofs.Common.{◌≡◌, ◌∙◌, sym, subst, refl, ℕ, Bool, true, false, List, [], ◌∷◌, Option, Result, Ok, Err}
use Rattle.std.specs.Prelude.{bytes_eq, not, ◌==◌, if◌then◌else◌, ⊤}
use Rattle.cell_nodes.specs.Tree.{mask, hash, depth}
use Rattle.cell_nodes.specs.declared.tree.Kind.{Kind}
use Rattle.cell_nodes.specs.declared.tree.Kind.TheVariants.{Ordinary, Pruned, Library, Proof as ProofKind, Update}
use Rattle.cell_nodes.specs.declared.tree.Mode.TheVariants.{Partial}
use Rattle.cell_nodes.specs.declared.tree.Tree.{Tree, out-Tree}
use Rattle.accepted_spelling.specs.Laws.{ReadOrStuck}
use Rattle.proof_laws.specs.Viewing.{kept_hash, kept_depth}
use Rattle.tlb_syntax.specs.Tree.{SchemaView}
use Rattle.cli_refusals.specs.Refusal.{Refusal, proof, status_of}
use Rattle.cli_refusals.specs.declared.proof_lines.ProofCause.{ProofCause}
use Rattle.cli_refusals.specs.declared.proof_lines.ProofCause.TheVariants as causes
use Rattle.cli_stages.specs.Proof.{Proof, Seal, is_root, sealed, sealed_by}
use Rattle.cli_stages.specs.Schema.{IsWhole}
use Rattle.cli_stages.specs.Stage.{IsStage, IsStageStatus}
use Rattle.cli_stages.specs.StageLaws.{last-stage, next-stage}
use Rattle.cli_stages.specs.TypeWord.{ShownType}
use Rattle.cli_stages.proofs.StageFacts.{cell-stage}

-- a refusal is one of a stage
abbrev RefusesByStage : Result Tree Refusal → Type 0
RefusesByStage (Ok child) = ⊤
RefusesByStage (Err refusal) = IsStageStatus (status_of refusal)

by-tests : (whole hashes depths root : Bool) (kept found : List ℕ) (low deep : ℕ) (p : Tree)
    → RefusesByStage (if not whole then Err (proof causes.NotWhole)
    else if not hashes then Err (proof (causes.HashDiffers kept found))
    else if not depths then Err (proof (causes.DepthDiffers low deep))
    else if not root then Err (proof (causes.WrongRoot found)) else Ok p)
by-tests false hashes depths root kept found low deep p = tt
by-tests true false depths root kept found low deep p = tt
by-tests true true false root kept found low deep p = tt
by-tests true true true false kept found low deep p = tt
by-tests true true true true kept found low deep p = tt

by-kind : (root : Option (List ℕ)) (c : Tree) (kind : Kind) (children : List Tree)
    → RefusesByStage (sealed_by root c kind children)
by-kind root c Ordinary children = tt
by-kind root c Pruned children = tt
by-kind root c Library children = tt
by-kind root c Update children = tt
by-kind root c ProofKind [] = tt
by-kind root c ProofKind (p ∷ []) =
    by-tests (mask c == 0) (bytes_eq (kept_hash c) (hash p 0)) (kept_depth c == depth p 0) (is_root root (hash p 0))
    (kept_hash c) (hash p 0) (kept_depth c) (depth p 0) p
by-kind root c ProofKind (p ∷ q ∷ children) = tt

seal-stage : (root : Option (List ℕ)) (c : Tree) → IsStage (Seal root c)
seal-stage root c = record {
  once = λ a b x y. x ∙ sym y;
  answered = (sealed root c, refl);
  refuses = λ refusal is.
      subst RefusesByStage (sym is) (by-kind root c (out-Tree c).kind (out-Tree c).children);
}

pub proof-stage : ReadOrStuck → (root : Option (List ℕ)) (s : SchemaView) (type : ShownType) (c : Tree) → IsWhole s
    → IsStage (Proof root s type c)
proof-stage laws root s type c whole =
    next-stage (seal-stage root c) (λ child is_sealed.
    next-stage (cell-stage laws Partial s type child whole) (λ value is_read.
    last-stage _))
