-- The stage of a proof of chosen paths comes to exactly one answer, where all of them name something in the cell's value.
use Rattle.std.proofs.Common.{◌≡◌, ◌∙◌, ap, sym, subst, refl, arith, ℕ, List, [], ◌∷◌, Option, None, Some, Result, Ok, Err, zero, suc}
use Rattle.std.specs.Prelude.{slice_get}
use Rattle.cell_nodes.specs.declared.tree.Mode.TheVariants.{Whole}
use Rattle.cell_nodes.specs.declared.tree.Tree.{Tree}
use Rattle.core_form.specs.Closed.{Closed}
use Rattle.core_form.specs.Core.{CoreSchema}
use Rattle.accepted_pruning.specs.Laws.{OneProveAnswer}
use Rattle.accepted_spelling.specs.Laws.{ReadOrStuck}
use Rattle.proof_laws.specs.Laws.{ExactlyOne, LaidIsRead}
use Rattle.proof_laws.specs.Proving.{AllName, ProveAnswer, ProveAnswers, proved, stuck_at, no_such_path, not_whole, proof_too_deep}
use Rattle.proof_laws.specs.Proving.{proof_too_large, IsFirstNameless}
use Rattle.pruning.specs.Knowing.{NamesSomething}
use Rattle.schema_leads.specs.Tags.{cores}
use Rattle.spelling.specs.Spells.{Reading}
use Rattle.spelling_laws.specs.Laws as spelled
use Rattle.tlb_edge.specs.Files.{Name}
use Rattle.tlb_syntax.specs.Tree.{SchemaView}
use Rattle.typed_value.specs.Paths.{Stride}
use Rattle.typed_value.specs.Values.{Plain}
use Rattle.cli_refusals.specs.Refusal.{proof}
use Rattle.cli_refusals.specs.declared.proof_lines.ProofCause.{ProofCause}
use Rattle.cli_stages.specs.Made.{IsMade, Made, RefusesProof, cause_of}
use Rattle.cli_stages.specs.Paths.{AllChoose}
use Rattle.cli_stages.specs.Schema.{IsWhole}
use Rattle.cli_stages.specs.Stage.{IsAnswered, IsStage}
use Rattle.cli_stages.specs.TypeWord.{ShownType}
use Rattle.cli_stages.proofs.StageFacts.{judged-as, stage-once}

some-path : (p q : List Stride) (o : Option (List Stride)) → o ≡ Some p → o ≡ Some q → p ≡ q
some-path p q o a b = let same : Some p ≡ Some q = sym a ∙ b in cc

no-path : (o : Option (List Stride)) (p : List Stride) → o ≡ None → o ≡ Some p → ⊥
no-path o p a b = let same : None ≡ Some p = sym a ∙ b in grind arith

more-name : (v : Plain) (s : List Stride) (paths : List (List Stride)) → NamesSomething v s → AllName v paths
    → AllName v (s ∷ paths)
more-name v s paths first others zero p there = subst (NamesSomething v) (some-path s p (Some s) refl there) first
more-name v s paths first others (suc i) p there = others i p there

all-name : (v : Plain) (words : List Name) (paths : List (List Stride)) → AllChoose v words paths → AllName v paths
all-name v [] [] all = λ i p there. absurd (no-path _ p refl there)
all-name v [] (s ∷ paths) all = absurd all
all-name v (word ∷ words) [] all = absurd all
all-name v (word ∷ words) (s ∷ paths) all = more-name v s paths all.0.names (all-name v words paths all.1)

some-cause : (c d : ProofCause) (o : Option ProofCause) → o ≡ Some c → o ≡ Some d → c ≡ d
some-cause c d o a b = let same : Some c ≡ Some d = sym a ∙ b in cc

no-cause : (c : ProofCause) (o : Option ProofCause) → o ≡ None → o ≡ Some c → ⊥
no-cause c o a b = let same : None ≡ Some c = sym a ∙ b in grind arith

made-same : (a b : Tree) (v w : Plain) → proved a v ≡ proved b w → a ≡ b
made-same a b v w same = cc

made-some : (s : SchemaView) (type : ShownType) (root : Tree) (paths : List (List Stride)) (v : Plain)
    → spelled.ExactlyOne Whole (cores s) type.closed root → LaidIsRead → Reading Whole (cores s) type.closed root v
    → AllName v paths → (a : ProveAnswer) → ProveAnswers (cores s) type.closed root paths a
    → IsAnswered (Made s type root paths)
made-some s type root paths v one laid reading all (proved made shown) is = (Ok made, record { shown = shown; answers = is })
made-some s type root paths v one laid reading all (stuck_at place) is = absurd (one.not_both v place reading is)
made-some s type root paths v one laid reading all (no_such_path number) is =
    let same = one.one_reading v _ reading ((laid (cores s) type.closed root).reads is.0 is.1) in
    let first = is.2 in
    absurd (first.nameless (subst (λ (z : Plain). NamesSomething z first.path) same (all first.index first.path first.there)))
made-some s type root paths v one laid reading all not_whole is =
    (Err _, record { answer = not_whole; answers = is; cause = _; is_cause = refl; is = refl })
made-some s type root paths v one laid reading all proof_too_deep is =
    (Err _, record { answer = proof_too_deep; answers = is; cause = _; is_cause = refl; is = refl })
made-some s type root paths v one laid reading all proof_too_large is =
    (Err _, record { answer = proof_too_large; answers = is; cause = _; is_cause = refl; is = refl })

pub record Proofs : Type 0 where
  pub one_answer : OneProveAnswer
  pub one_reading : ReadOrStuck
  pub laid : LaidIsRead

pub made-stage : Proofs → (s : SchemaView) (type : ShownType) (root : Tree) (words : List Name)
    (paths : List (List Stride)) (v : Plain) → IsWhole s → Reading Whole (cores s) type.closed root v
    → AllChoose v words paths → IsStage (Made s type root paths)
made-stage laws s type root words paths v whole reading all =
    let P : SchemaView → Type 0 = λ x. ExactlyOne (ProveAnswers (cores x) type.closed root paths) in
    let one = subst P whole.kept (laws.one_answer s whole.accepted type.closed root paths) in
    let Q : SchemaView → Type 0 = λ x. spelled.ExactlyOne Whole (cores x) type.closed root in
    let read = subst Q whole.kept (laws.one_reading Whole s whole.accepted type.closed root) in
    record {
      once = stage-once (RefusesProof s type root paths) (IsMade s type root paths)
          (λ r q a b.
          a.is
          ∙ ap proof (some-cause a.cause b.cause (cause_of a.answer) a.is_cause
          (ap cause_of (one.one a.answer b.answer a.answers b.answers) ∙ b.is_cause))
          ∙ sym b.is)
          (λ c d a b. made-same c d a.shown b.shown (one.one (proved c a.shown) (proved d b.shown) a.answers b.answers))
          (λ r c a b.
          no-cause a.cause (cause_of a.answer) (ap cause_of (one.one a.answer (proved c b.shown) a.answers b.answers)) a.is_cause);
      answered = made-some s type root paths v read laws.laid reading (all-name v words paths all) one.some.0 one.some.1;
      refuses = λ r given. judged-as r _ given.is tt;
    }
