-- The paths of words up to the first word that writes none, and what a proof of them comes to.
use Rattle.std.specs.Prelude.{◌≡◌, ℕ, ◌+◌, List, [], ◌∷◌, Option, None, Some, Result, Ok, Err}
use Rattle.cell_nodes.specs.declared.tree.Tree.{Tree}
use Rattle.proof_laws.specs.Proving.{ProveAnswer, proved, stuck_at, no_such_path, not_whole, proof_too_deep, proof_too_large}
use Rattle.schema_leads.specs.Tags.{cores}
use Rattle.tlb_edge.specs.Files.{Name}
use Rattle.tlb_syntax.specs.Tree.{SchemaView}
use Rattle.typed_value.specs.Paths.{Stride}
use Rattle.value_text.specs.PathText.{PathWrites}
use Rattle.cli_refusals.specs.Lines.{spot_text}
use Rattle.cli_refusals.specs.Refusal.{Refusal, cell, path, proof}
use Rattle.cli_refusals.specs.declared.proof_lines.ProofCause.TheVariants as causes
use Rattle.cli_stages.specs.TypeWord.{ShownType}

-- the words write these paths in their order, but for the word of this number, the first that writes none; the first of
-- the words has the number `first`
abbrev pub AreBegun : ℕ → List Name → List (List Stride) → Option ℕ → Type 0
AreBegun first [] [] bad = bad ≡ None
AreBegun first [] (steps ∷ paths) bad = ⊥
AreBegun first (word ∷ words) [] bad = (bad ≡ Some first) × ((steps : List Stride) → PathWrites word steps → ⊥)
AreBegun first (word ∷ words) (steps ∷ paths) bad = PathWrites word steps × AreBegun (first + 1) words paths bad

-- a word that writes no path comes before the proof, and before its causes
abbrev pub unless_bad : Option ℕ → Result Tree Refusal → Result Tree Refusal
unless_bad None made = made
unless_bad (Some number) made = Err (path number)

abbrev pub answer_for : SchemaView → ShownType → Option ℕ → ProveAnswer → Result Tree Refusal
answer_for s type bad (stuck_at place) = Err (cell (spot_text (cores s) type.text place.spot) place.cause)
answer_for s type bad (no_such_path number) = Err (path number)
answer_for s type bad (proved made shown) = unless_bad bad (Ok made)
answer_for s type bad not_whole = unless_bad bad (Err (proof causes.NotWhole))
answer_for s type bad proof_too_deep = unless_bad bad (Err (proof causes.ProofTooDeep))
answer_for s type bad proof_too_large = unless_bad bad (Err (proof causes.ProofTooLarge))

-- this is what is answered
abbrev pub Is : Result Tree Refusal → Result Tree Refusal → Type 0
Is expected answer = answer ≡ expected
