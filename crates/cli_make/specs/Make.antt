-- `make N`: a message is made from a number, and the main job is run on it. It is built, its value at a path is proved from
-- the written bag, and the written proof is viewed with the message's hash.
use Rattle.std.specs.Prelude.{◌≡◌, ℕ, List, [], ◌∷◌, ◌++◌, Ok, Some, Err, codes}
use Rattle.std.proofs.Common.{◌∙◌, ap, refl, sym}
use Rattle.bag_cells.specs.Written.{bag_of}
use Rattle.cell_nodes.specs.Tree.{hash}
use Rattle.cell_nodes.specs.declared.tree.Mode.TheVariants.{Whole}
use Rattle.cell_nodes.specs.declared.tree.Tree.{Tree}
use Rattle.sample_message.specs.Message.{message_text, path_word}
use Rattle.sample_message.specs.Schema.{schema_text}
use Rattle.tlb_edge.specs.Files.{Name}
use Rattle.tlb_syntax.specs.Tree.{SchemaView}
use Rattle.typed_value.specs.Paths.{Stride, at_path}
use Rattle.typed_value.specs.Values.{Plain}
use Rattle.value_text.specs.PathLaws.{OnePath}
use Rattle.value_text.specs.PathText.{PathWrites}
use Rattle.cli_refusals.specs.Refusal.{Answer}
use Rattle.cli_stages.specs.Bag.{Bag as BagStage}
use Rattle.cli_stages.specs.Built.{Built}
use Rattle.cli_stages.specs.Paths.{AllChoose}
use Rattle.cli_stages.specs.Proof.{Proof, ProofShows}
use Rattle.cli_stages.specs.ProofOf.{ProofOf}
use Rattle.cli_stages.specs.Schema.{IsWhole, Schema}
use Rattle.cli_stages.specs.Stage.{IsStage, Next, goes_on, stops}
use Rattle.cli_stages.specs.StageLaws.{next-stage}
use Rattle.cli_stages.specs.Stages.{Stages}
use Rattle.cli_stages.specs.TypeWord.{ShownType, TypeWord as TypeStage}
use Rattle.cli_stages.specs.ValueText.{ValueText}
use Rattle.cli_stages.specs.ValueTextLaws.{written-in-range}
use Rattle.cli_make.specs.Lines.{AreLines, Lines, at_line, root_line, shown_text, size_line}

-- what the proof of a tree, read again, shows with that tree's hash
abbrev pub MakesShown : Name → SchemaView → ShownType → Tree → Tree → Tree → Answer → Type 0
MakesShown word s type t proof again =
    Next (Proof (Some (hash t 0)) s type again) (λ shown. Lines word t proof shown)

-- of a proof, whose bag is written and read again
abbrev pub MakesProof : Name → SchemaView → ShownType → Tree → Tree → Answer → Type 0
MakesProof word s type t proof = Next (BagStage (bag_of proof)) (λ again. MakesShown word s type t proof again)

-- of a tree that was read again: the proof of what the word's path names
abbrev pub MakesRoot : Name → SchemaView → ShownType → Tree → Tree → Answer → Type 0
MakesRoot word s type t root = Next (ProofOf (word ∷ []) s type root) (λ proof. MakesProof word s type t proof)

-- of a tree, whose bag is written and read again
abbrev pub MakesTree : Name → SchemaView → ShownType → Tree → Answer → Type 0
MakesTree word s type t = Next (BagStage (bag_of t)) (λ root. MakesRoot word s type t root)

-- of the tree that a value is built to
abbrev pub MakesValue : Name → SchemaView → ShownType → Plain → Answer → Type 0
MakesValue word s type v = Next (Built s type v) (λ t. MakesTree word s type t)

-- of the value that the message's text writes
abbrev pub MakesText : ℕ → SchemaView → ShownType → Answer → Type 0
MakesText count s type = Next (ValueText (message_text count)) (λ v. MakesValue (path_word count) s type v)

-- at its type
abbrev pub MakesType : ℕ → SchemaView → Answer → Type 0
MakesType count s = Next (TypeStage (codes "Message Any") s) (λ type. MakesText count s type)

-- in its schema
abbrev pub Makes : ℕ → Answer → Type 0
Makes count = Next (Schema schema_text) (λ accepted. MakesType count accepted)

-- ---- it comes to exactly one answer

-- a word of which something is proved writes a path
writes-chosen : (word : Name) (v : Plain) (paths : List (List Stride)) → AllChoose v (word ∷ []) paths
    → (path : List Stride) × PathWrites word path
writes-chosen word v [] choose = absurd choose
writes-chosen word v (path ∷ paths) choose = (path, choose.0.writes)

writes-path : (word : Name) (s : SchemaView) (type : ShownType) (root proof : Tree) → ProofOf (word ∷ []) s type root (Ok proof)
    → (path : List Stride) × PathWrites word path
writes-path word s type root proof (stops r first is) = absurd (let same : Ok proof ≡ Err r = is in cc)
writes-path word s type root proof (goes_on v reads (stops r first is)) =
    absurd (let same : Ok proof ≡ Err r = is in cc)
writes-path word s type root proof (goes_on v reads (goes_on paths choose made)) = writes-chosen word v paths choose

lines-same : OnePath → (word : Name) (t proof : Tree) (shown : ProofShows) (a b : List ℕ) → AreLines word t proof shown a
    → AreLines word t proof shown b → a ≡ b
lines-same one word t proof shown a b x y =
    let same : x.is_at.path ≡ y.is_at.path = one word _ _ x.is_at.writes y.is_at.writes in
    let text : x.text ≡ y.text = x.is_at.is ∙ ap (λ p. shown_text (at_path shown.value p)) same ∙ sym y.is_at.is in
    let whole : List ℕ → List ℕ =
    λ l. root_line shown.hash ++ size_line (codes "bag") t ++ size_line (codes "proof") proof ++ at_line l in
    x.are ∙ ap whole text ∙ sym y.are

lines-once : OnePath → (word : Name) (t proof : Tree) (shown : ProofShows) (a b : Answer) → Lines word t proof shown a
    → Lines word t proof shown b → a ≡ b
lines-once one word t proof shown (Ok a) (Ok b) x y = ap Ok (lines-same one word t proof shown a b x y)
lines-once one word t proof shown (Ok a) (Err r) x y = absurd y
lines-once one word t proof shown (Err r) b x y = absurd x

lines-stage : Stages → (word : Name) (t proof : Tree) (shown : ProofShows) → (path : List Stride) × PathWrites word path
    → IsStage (Lines word t proof shown)
lines-stage stages word t proof shown writes = record {
  once = lines-once stages.one_path word t proof shown;
  answered = (
    Ok _,
    record {
      text = shown_text (at_path shown.value writes.0);
      is_at = record { path = writes.0; writes = writes.1; is = refl };
      are = refl;
    },
  );
  refuses = λ r never. absurd never;
}

proof-stage : Stages → (word : Name) (s : SchemaView) (type : ShownType) (root : Tree) → IsWhole s
    → IsStage (ProofOf (word ∷ []) s type root)
proof-stage stages word s type root whole =
    next-stage (stages.cell Whole s type root whole) (λ v reads.
    next-stage (stages.paths v (word ∷ [])) (λ paths are_chosen.
    stages.made s type root (word ∷ []) paths v whole reads are_chosen))

tree-stage : Stages → (word : Name) (s : SchemaView) (type : ShownType) (t : Tree) → IsWhole s
    → IsStage (MakesTree word s type t)
tree-stage stages word s type t whole =
    next-stage (stages.bag (bag_of t)) (λ root is_held.
    next-stage (proof-stage stages word s type root whole) (λ proof is_made.
    next-stage (stages.bag (bag_of proof)) (λ again is_read.
    next-stage (stages.proof (Some (hash t 0)) s type again whole) (λ shown is_shown.
    lines-stage stages word t proof shown (writes-path word s type root proof is_made)))))

pub makes_once : Stages → (count : ℕ) → IsStage (Makes count)
makes_once stages count =
    next-stage (stages.schema schema_text) (λ accepted is_given.
    next-stage (stages.type_word (codes "Message Any") accepted) (λ type is_named.
    next-stage (stages.value_text (message_text count)) (λ v writes.
    next-stage
    (stages.built accepted type v (stages.whole schema_text accepted is_given)
    (written-in-range (message_text count) v writes)) (λ tree is_built.
    tree-stage stages (path_word count) accepted type tree (stages.whole schema_text accepted is_given)))))
