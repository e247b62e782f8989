-- What a proof of the paths of words comes to, from the answer for the paths that are written.
use Rattle.std.proofs.Common.{◌≡◌, ◌⊎◌, inl, inr, ◌∙◌, ◌<◌, ◌+◌, ap, sym, subst, refl, arith, ℕ, List, [], ◌∷◌, length}
use Rattle.std.proofs.Common.{Option, None, Some, Result, Ok, Err, zero, suc}
use Rattle.std.specs.Prelude.{slice_get}
use Rattle.cell_nodes.specs.declared.tree.Mode.TheVariants.{Whole}
use Rattle.cell_nodes.specs.declared.tree.Tree.{Tree}
use Rattle.proof_laws.specs.Laws.{LaidIsRead}
use Rattle.proof_laws.specs.Proving.{AllName, ProveAnswer, ProveAnswers, proved, stuck_at, no_such_path, not_whole, proof_too_deep}
use Rattle.proof_laws.specs.Proving.{proof_too_large}
use Rattle.pruning.specs.Knowing.{NamesSomething}
use Rattle.pruning.specs.SpellsLaid.{LaidRoot, LaidReading, plain_root}
use Rattle.accepted_schema.specs.Accepted.{kept_cores}
use Rattle.tlb_kinds.specs.Refusals.{kept_of}
use Rattle.schema_leads.specs.Tags.{cores}
use Rattle.tlb_edge.specs.Files.{Name}
use Rattle.tlb_syntax.specs.Tree.{SchemaView}
use Rattle.typed_value.specs.Paths.{Stride}
use Rattle.typed_value.specs.Values.{Plain}
use Rattle.value_text.specs.PathLaws.{OnePath}
use Rattle.cli_refusals.specs.Refusal.{Refusal, path}
use Rattle.cli_refusals.specs.View.{refusal_by}
use Rattle.cli_stages.specs.Cell.{Cell}
use Rattle.cli_stages.specs.Made.{IsMade, Made, RefusesProof}
use Rattle.cli_stages.specs.PathWords.{AreBegun, Is, answer_for, unless_bad}
use Rattle.cli_stages.specs.Paths.{AllChoose, Chooses, IsFirstBad, Paths}
use Rattle.cli_stages.specs.ProofOf.{ProofOf}
use Rattle.cli_stages.specs.Stage.{Answers, IfRefused, goes_on, stops}
use Rattle.cli_stages.specs.TypeWord.{ShownType}
use Rattle.cli_stages.specs.declared.stop.Stop.{Stop}
use Rattle.cli_stages.specs.declared.stop.Stop.TheVariants.{Refused, NoMemory}

no-path : (o : Option (List Stride)) (p : List Stride) → o ≡ None → o ≡ Some p → ⊥
no-path o p a b = let same : None ≡ Some p = sym a ∙ b in grind arith

some-path : (p q : List Stride) (o : Option (List Stride)) → o ≡ Some p → o ≡ Some q → p ≡ q
some-path p q o a b = let same : Some p ≡ Some q = sym a ∙ b in cc

first-named : (v : Plain) (s : List Stride) (paths : List (List Stride)) → AllName v (s ∷ paths) → NamesSomething v s
first-named v s paths all = all 0 s refl

later-named : (v : Plain) (s : List Stride) (paths : List (List Stride)) → AllName v (s ∷ paths) → AllName v paths
later-named v s paths all = λ i p there. all (suc i) p there

-- ---- a path that names nothing comes before each bad word

abbrev NamesBefore : Plain → List (List Stride) → ℕ → Type 0
NamesBefore v paths index = (j : ℕ) (other : List Stride) → j < index → slice_get paths j ≡ Some other → NamesSomething v other

nameless-first : OnePath → (first : ℕ) (v : Plain) (words : List Name) (paths : List (List Stride)) (bad : Option ℕ) (number index : ℕ)
    (p : List Stride) → AreBegun first words paths bad → number ≡ index + first → slice_get paths index ≡ Some p
    → (NamesSomething v p → ⊥) → NamesBefore v paths index → IsFirstBad first v words number
nameless-first one first v words [] bad number index p begun counted there unnamed before = absurd (no-path _ p refl there)
nameless-first one first v [] (s ∷ paths) bad number index p begun counted there unnamed before = absurd begun
nameless-first one first v (word ∷ words) (s ∷ paths) bad number zero p begun counted there unnamed before =
    inl (
      omega (arith, counted),
      λ steps c.
          unnamed (subst (NamesSomething v) (one word steps s c.writes begun.0 ∙ some-path s p (Some s) refl there) c.names),
    )
nameless-first one first v (word ∷ words) (s ∷ paths) bad number (suc index) p begun counted there unnamed before =
    inr (
      (s, record { writes = begun.0; names = before 0 s (omega arith) refl }),
      nameless-first one (first + 1) v words paths bad number index p begun.1 (omega (arith, counted)) there unnamed
          (λ j other less at. before (suc j) other (omega (arith, less)) at),
    )

-- ---- where all paths name something, a bad word is the first

bad-word : (first : ℕ) (v : Plain) (words : List Name) (paths : List (List Stride)) (number : ℕ)
    → AreBegun first words paths (Some number) → AllName v paths → IsFirstBad first v words number
bad-word first v [] [] number begun all = absurd (let same : Some number ≡ None = begun in grind arith)
bad-word first v [] (s ∷ paths) number begun all = absurd begun
bad-word first v (word ∷ words) [] number begun all =
    inl (some-number number first begun.0, λ steps c. begun.1 steps c.writes)
  where
    some-number : (m n : ℕ) → (◌≡◌ {A = Option ℕ} (Some m) (Some n)) → m ≡ n
    some-number m n same = cc
bad-word first v (word ∷ words) (s ∷ paths) number begun all =
    inr (
      (s, record { writes = begun.0; names = first-named v s paths all }),
      bad-word (first + 1) v words paths number begun.1 (later-named v s paths all),
    )

all-chosen : (first : ℕ) (v : Plain) (words : List Name) (paths : List (List Stride)) → AreBegun first words paths None
    → AllName v paths → AllChoose v words paths
all-chosen first v [] [] begun all = tt
all-chosen first v [] (s ∷ paths) begun all = absurd begun
all-chosen first v (word ∷ words) [] begun all =
    absurd (let same : (◌≡◌ {A = Option ℕ} None (Some first)) = begun.0 in grind arith)
all-chosen first v (word ∷ words) (s ∷ paths) begun all = (
  record { writes = begun.0; names = first-named v s paths all },
  all-chosen (first + 1) v words paths begun.1 (later-named v s paths all),
)

-- ---- the answer

read-laid : LaidIsRead → (s : SchemaView) (type : ShownType) (root : Tree) (r : LaidRoot) → LaidReading (cores s) type.closed root r
    → Cell Whole s type root (Ok (plain_root r))
read-laid laid s type root r is = (laid (cores s) type.closed root).reads r is

-- after all paths name something, a bad word or what is made
made-unless : LaidIsRead → (words : List Name) (paths : List (List Stride)) (bad : Option ℕ) (s : SchemaView) (type : ShownType)
    (root : Tree) (r : LaidRoot) → AreBegun 1 words paths bad → LaidReading (cores s) type.closed root r
    → AllName (plain_root r) paths → (made : Result Tree Refusal) → Made s type root paths made
    → ProofOf words s type root (unless_bad bad made)
made-unless laid words paths None s type root r begun is all made given =
    goes_on (plain_root r) (read-laid laid s type root r is)
    (goes_on paths (all-chosen 1 (plain_root r) words paths begun all) given)
made-unless laid words paths (Some number) s type root r begun is all made given =
    goes_on (plain_root r) (read-laid laid s type root r is)
    (stops (path number) (number, bad-word 1 (plain_root r) words paths number begun all, refl) refl)

proves : LaidIsRead → OnePath → (words : List Name) (paths : List (List Stride)) (bad : Option ℕ) (s : SchemaView)
    (type : ShownType) (root : Tree) → AreBegun 1 words paths bad → (a : ProveAnswer)
    → ProveAnswers (cores s) type.closed root paths a → ProofOf words s type root (answer_for s type bad a)
proves laid one words paths bad s type root begun (stuck_at place) is =
    stops _ (record { place = place; stuck = is; is = refl }) refl
proves laid one words paths bad s type root begun (no_such_path number) is =
    goes_on (plain_root is.0) (read-laid laid s type root is.0 is.1)
    (stops (path number) (
      number,
      nameless-first one 1 (plain_root is.0) words paths bad number is.2.index is.2.path begun is.2.counted is.2.there
          is.2.nameless is.2.before,
      refl,
    )
    refl)
proves laid one words paths bad s type root begun (proved made shown) is =
    made-unless laid words paths bad s type root is.0 begun is.1 is.2.0.named (Ok made) (record { shown = shown; answers = is })
proves laid one words paths bad s type root begun not_whole is =
    made-unless laid words paths bad s type root is.0 begun is.1 is.2.0 (Err _)
    (record { answer = not_whole; answers = is; cause = _; is_cause = refl; is = refl })
proves laid one words paths bad s type root begun proof_too_deep is =
    made-unless laid words paths bad s type root is.0 begun is.1 is.2.0.named (Err _)
    (record { answer = proof_too_deep; answers = is; cause = _; is_cause = refl; is = refl })
proves laid one words paths bad s type root begun proof_too_large is =
    made-unless laid words paths bad s type root is.0 begun is.1 is.2.0.named (Err _)
    (record { answer = proof_too_large; answers = is; cause = _; is_cause = refl; is = refl })

proves-as : (words : List Name) (s : SchemaView) (type : ShownType) (root : Tree) (expected : Result Tree Refusal)
    → ProofOf words s type root expected → (result : Result Tree Stop) → Answers (Is expected) (λ tree. tree) result
    → Answers (ProofOf words s type root) (λ tree. tree) result
proves-as words s type root expected holds (Ok tree) given =
    record { answer = subst (ProofOf words s type root) (sym given.answer) holds }
proves-as words s type root expected holds (Err (Refused r)) given =
    record { answer = subst (ProofOf words s type root) (sym given.answer) holds }
proves-as words s type root expected holds (Err NoMemory) given = record { answer = tt }

pub proof-of : LaidIsRead → OnePath → (words : List Name) (paths : List (List Stride)) (bad : Option ℕ) (s : SchemaView)
    (type : ShownType) (root : Tree) → kept_of s ≡ s → AreBegun 1 words paths bad → (a : ProveAnswer)
    → ProveAnswers (kept_cores s) type.closed root paths a → (result : Result Tree Stop)
    → Answers (Is (answer_for s type bad a)) (λ tree. tree) result
    → Answers (ProofOf words s type root) (λ tree. tree) result
proof-of laid one words paths bad s type root kept begun a is result given =
    let P : SchemaView → Type 0 = λ x. ProveAnswers (cores x) type.closed root paths a in
    proves-as words s type root (answer_for s type bad a)
    (proves laid one words paths bad s type root begun a (subst P kept is)) result given

pub refused-as : (stop : Stop) (r : Refusal) → IfRefused (λ x. x ≡ r) stop
    → Answers {T = Tree} (Is (Err r)) (λ tree. tree) (Err stop)
refused-as (Refused x) r is = record { answer = ap Err is }
refused-as NoMemory r is = record { answer = tt }
