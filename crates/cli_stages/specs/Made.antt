-- The stage of a proof of chosen paths, which all name something in the value of a cell.
use Rattle.std.specs.Prelude.{◌≡◌, List, Option, None, Some, Result}
use Rattle.cell_nodes.specs.declared.tree.Tree.{Tree}
use Rattle.proof_laws.specs.Proving.{ProveAnswer, ProveAnswers, proved, stuck_at, no_such_path, not_whole, proof_too_deep, proof_too_large}
use Rattle.schema_leads.specs.Tags.{cores}
use Rattle.tlb_syntax.specs.Tree.{SchemaView}
use Rattle.typed_value.specs.Paths.{Stride}
use Rattle.typed_value.specs.Values.{Plain}
use Rattle.cli_refusals.specs.Refusal.{Refusal, proof}
use Rattle.cli_refusals.specs.declared.proof_lines.ProofCause.{ProofCause}
use Rattle.cli_refusals.specs.declared.proof_lines.ProofCause.TheVariants as causes
use Rattle.cli_stages.specs.Stage.{stage}
use Rattle.cli_stages.specs.TypeWord.{ShownType}

-- why there is no proof
abbrev pub cause_of : ProveAnswer → Option ProofCause
cause_of not_whole = Some causes.NotWhole
cause_of proof_too_deep = Some causes.ProofTooDeep
cause_of proof_too_large = Some causes.ProofTooLarge
cause_of (proved made shown) = None
cause_of (stuck_at place) = None
cause_of (no_such_path number) = None

-- making it is refused
pub record RefusesProof (s : SchemaView) (type : ShownType) (root : Tree) (paths : List (List Stride)) (refusal : Refusal)
    : Type 0 where
  pub answer : ProveAnswer
  pub answers : ProveAnswers (cores s) type.closed root paths answer
  pub cause : ProofCause
  pub is_cause : cause_of answer ≡ Some cause
  pub is : refusal ≡ proof cause

-- or this is the proof, and what its child shows
pub record IsMade (s : SchemaView) (type : ShownType) (root : Tree) (paths : List (List Stride)) (made : Tree)
    : Type 0 where
  pub shown : Plain
  pub answers : ProveAnswers (cores s) type.closed root paths (proved made shown)

abbrev pub Made : SchemaView → ShownType → Tree → List (List Stride) → Result Tree Refusal → Type 0
Made s type root paths = stage (RefusesProof s type root paths) (IsMade s type root paths)
