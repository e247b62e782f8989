-- `view SCHEMA TYPE BAG` and `view SCHEMA TYPE BAG ROOTHASH`: what the bag's proof shows at the type.
use Rattle.std.specs.Prelude.{ℕ, List, [], ◌∷◌, ◌++◌, nat_lt, Option, codes, if◌then◌else◌}
use Rattle.cell_nodes.specs.declared.tree.Tree.{Tree}
use Rattle.tlb_edge.specs.Files.{Name}
use Rattle.tlb_syntax.specs.Tree.{SchemaView}
use Rattle.value_text.specs.Text.{text_of}
use Rattle.cli_refusals.specs.Lines.{hash_text, line_of, spaced}
use Rattle.cli_refusals.specs.Refusal.{Answer}
use Rattle.cli_stages.specs.Bag.{Bag as BagStage}
use Rattle.cli_stages.specs.Proof.{Proof, ProofShows}
use Rattle.cli_stages.specs.Schema.{Schema}
use Rattle.cli_stages.specs.Stage.{Gives, IsStage, Next}
use Rattle.cli_stages.specs.StageLaws.{last-stage, next-stage}
use Rattle.cli_stages.specs.Stages.{Stages}
use Rattle.cli_stages.specs.TypeWord.{ShownType, TypeWord as TypeStage}
use Rattle.cli_commands.specs.Command.{Command, at}
use Rattle.cli_commands.specs.Slots.{root_hash}
use Rattle.cli_commands.specs.declared.slot.Slot.{Slot}
use Rattle.cli_commands.specs.declared.slot.Slot.TheVariants.{Schema as SchemaSlot, TypeWord, Bag, RootHash}

-- the hash of the tree that the proof is of, and the value with its hidden parts
abbrev pub view_lines : ProofShows → List ℕ
view_lines shown = line_of (spaced (codes "root") (hash_text shown.hash)) ++ line_of (text_of shown.value)

-- what a cell shows, where a root hash is given of the tree that it has to be of
abbrev pub ViewsCell : Option (List ℕ) → SchemaView → ShownType → Tree → Answer → Type 0
ViewsCell root s type cell = Next (Proof root s type cell) (λ shown. Gives (view_lines shown))

-- that of a bag's cell
abbrev pub ViewsBag : Option (List ℕ) → SchemaView → ShownType → List ℕ → Answer → Type 0
ViewsBag root s type bag = Next (BagStage bag) (λ cell. ViewsCell root s type cell)

-- at the type that a word names
abbrev pub ViewsType : Name → Option (List ℕ) → SchemaView → List ℕ → Answer → Type 0
ViewsType word root s bag = Next (TypeStage word s) (λ type. ViewsBag root s type bag)

-- in the schema that a text writes
abbrev pub Views : Name → Option (List ℕ) → List ℕ → List ℕ → Answer → Type 0
Views word root schema bag = Next (Schema schema) (λ accepted. ViewsType word root accepted bag)

pub views_once : Stages → (word : Name) (root : Option (List ℕ)) (schema bag : List ℕ) → IsStage (Views word root schema bag)
views_once stages word root schema bag =
    next-stage (stages.schema schema) (λ accepted is_given.
    next-stage (stages.type_word word accepted) (λ type is_named.
    next-stage (stages.bag bag) (λ cell is_held.
    next-stage (stages.proof root accepted type cell (stages.whole schema accepted is_given)) (λ shown is_shown.
    last-stage _))))

-- the root hash may be left out
abbrev pub view_slots : ℕ → List Slot
view_slots count = if nat_lt 3 count then SchemaSlot ∷ TypeWord ∷ Bag ∷ RootHash ∷ [] else SchemaSlot ∷ TypeWord ∷ Bag ∷ []

-- no word writes no hash
abbrev pub view : Command
view = record {
  word = codes "view";
  slots = view_slots;
  Answers = λ words contents. Views (at words 1) (root_hash (at words 3)) (at contents 0) (at contents 1);
  answers_once = λ stages words contents.
      views_once stages (at words 1) (root_hash (at words 3)) (at contents 0) (at contents 1);
}
