-- `prove SCHEMA TYPE BAG PATH..`: the bag of a Merkle proof of what chosen paths name in a cell.
use Rattle.std.specs.Prelude.{ℕ, ◌-◌, min, List, ◌∷◌, codes, drop, replicate}
use Rattle.cell_nodes.specs.declared.tree.Mode.TheVariants.{Whole}
use Rattle.cell_nodes.specs.declared.tree.Tree.{Tree}
use Rattle.tlb_edge.specs.Files.{Name}
use Rattle.tlb_syntax.specs.Tree.{SchemaView}
use Rattle.cli_refusals.specs.Refusal.{Answer}
use Rattle.cli_stages.specs.Bag.{Bag as BagStage}
use Rattle.cli_stages.specs.ProofOf.{ProofOf}
use Rattle.cli_stages.specs.Schema.{Schema}
use Rattle.cli_stages.specs.Stage.{Gives, IsStage, Next}
use Rattle.cli_stages.specs.StageLaws.{last-stage, next-stage}
use Rattle.cli_stages.specs.Stages.{Stages}
use Rattle.cli_stages.specs.TypeWord.{ShownType, TypeWord as TypeStage}
use Rattle.cli_commands.specs.Build.{bag_line}
use Rattle.cli_commands.specs.Command.{Command, at}
use Rattle.cli_commands.specs.declared.slot.Slot.{Slot}
use Rattle.cli_commands.specs.declared.slot.Slot.TheVariants.{Schema as SchemaSlot, TypeWord, Bag, Path}

-- the line of the proof of what the words' paths name in a cell
abbrev pub ProvesCell : List Name → SchemaView → ShownType → Tree → Answer → Type 0
ProvesCell paths s type root = Next (ProofOf paths s type root) (λ proof. Gives (bag_line proof))

-- in a bag's cell
abbrev pub ProvesBag : List Name → SchemaView → ShownType → List ℕ → Answer → Type 0
ProvesBag paths s type bag = Next (BagStage bag) (λ root. ProvesCell paths s type root)

-- at the type that a word names
abbrev pub ProvesType : List Name → Name → SchemaView → List ℕ → Answer → Type 0
ProvesType paths word s bag = Next (TypeStage word s) (λ type. ProvesBag paths s type bag)

-- in the schema that a text writes
abbrev pub Proves : List Name → Name → List ℕ → List ℕ → Answer → Type 0
Proves paths word schema bag = Next (Schema schema) (λ accepted. ProvesType paths word accepted bag)

pub proves_once : Stages → (paths : List Name) (word : Name) (schema bag : List ℕ) → IsStage (Proves paths word schema bag)
proves_once stages paths word schema bag =
    next-stage (stages.schema schema) (λ accepted is_given.
    next-stage (stages.type_word word accepted) (λ type is_named.
    next-stage (stages.bag bag) (λ root holds.
    next-stage
    (next-stage (stages.cell Whole accepted type root (stages.whole schema accepted is_given)) (λ v reads.
    next-stage (stages.paths v paths) (λ ways are_chosen.
    stages.made accepted type root paths ways v (stages.whole schema accepted is_given) reads are_chosen)))
    (λ proof is_made.
    last-stage _))))

-- the slots where there are so many words: as many paths as are left after the first three, and 64 at most
abbrev pub prove_slots : ℕ → List Slot
prove_slots count = SchemaSlot ∷ TypeWord ∷ Bag ∷ replicate (min (count - 3) 64) Path

abbrev pub prove : Command
prove = record {
  word = codes "prove";
  slots = prove_slots;
  Answers = λ words contents. Proves (drop 3 words) (at words 1) (at contents 0) (at contents 1);
  answers_once = λ stages words contents. proves_once stages (drop 3 words) (at words 1) (at contents 0) (at contents 1);
}
