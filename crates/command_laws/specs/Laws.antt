-- What the laws say: facts about the outcomes of commands alone. In each, `declared` is what the file of the schema
-- holds; `before` and `after` are the files at a first and at a second command.
use Rattle.std.specs.Prelude.{◌≡◌, ◌≢◌, ◌≤◌, ℕ, List, [], ◌∷◌, length, Some, codes}
use Rattle.tlb_edge.specs.Files.{Files, Name, file_at}
use Rattle.tlb_syntax.specs.Tree.{SchemaView}
use Rattle.schema_leads.specs.Tags.{cores}
use Rattle.typed_value.specs.Paths.{Stride}
use Rattle.typed_value.specs.Values.{Plain}
use Rattle.value_text.specs.Text.{text_of}
use Rattle.value_text.specs.Writes.{TextWrites}
use Rattle.cell_nodes.specs.Tree.{hash}
use Rattle.cell_nodes.specs.declared.tree.Mode.TheVariants.{Lax}
use Rattle.cell_nodes.specs.declared.tree.Tree.{Tree}
use Rattle.bag_cells.specs.Bag.{BagHolds}
use Rattle.bag_cells.specs.Numbers.{AreBytes}
use Rattle.proof_laws.specs.Proving.{shown_for}
use Rattle.pruning.specs.SpellsLaid.{LaidRoot, LaidReading, plain_root}
use Rattle.spelling.specs.Spells.{Reading}
use Rattle.strict_laws.specs.Laws.{IsOneStrictOf}
use Rattle.cli_refusals.specs.Lines.{line_of}
use Rattle.cli_refusals.specs.Refusal.{Verdict}
use Rattle.cli_refusals.specs.declared.status.Status.TheVariants.{Done, ValueRefused}
use Rattle.cli_stages.specs.Paths.{AllChoose}
use Rattle.cli_stages.specs.Schema.{WritesAccepted}
use Rattle.cli_stages.specs.TypeWord.{NamesType, ShownType}
use Rattle.cli_commands.specs.Build.{bag_line}
use Rattle.cli_commands.specs.Views.{view_lines}
use Rattle.cli_run.specs.Outcome.{IsOutcome}

-- a word that a command takes
abbrev pub IsWord : Name → Type 0
IsWord word = length word ≤ 1048576

-- the bytes are held under the name
abbrev pub Holds : Files → Name → List ℕ → Type 0
Holds held name bytes = file_at held name ≡ Some bytes

-- the command of these words is done, and puts the line
abbrev pub IsDone : List Name → Files → List ℕ → Type 0
IsDone words held line = IsOutcome words held (record { status = Done; text = line })

abbrev pub build_words : Name → Name → Name → List Name
build_words schema type text = codes "build" ∷ schema ∷ type ∷ text ∷ []

abbrev pub read_words : Name → Name → Name → List Name
read_words schema type bag = codes "read" ∷ schema ∷ type ∷ bag ∷ []

abbrev pub tidy_words : Name → Name → Name → List Name
tidy_words schema type bag = codes "tidy" ∷ schema ∷ type ∷ bag ∷ []

abbrev pub prove_words : Name → Name → Name → List Name → List Name
prove_words schema type bag paths = codes "prove" ∷ schema ∷ type ∷ bag ∷ paths

abbrev pub view_words : Name → Name → Name → List Name
view_words schema type proof = codes "view" ∷ schema ∷ type ∷ proof ∷ []

-- ---- what is built is read as the value that was written

abbrev pub BuildThenRead : Type 0
BuildThenRead =
    (before after : Files) (schema type text bag : Name) (declared written line : List ℕ)
    → Holds before schema declared → Holds before text written → IsDone (build_words schema type text) before line
    → Holds after schema declared → Holds after bag line → IsWord bag
    → (v : Plain) × TextWrites written v × IsDone (read_words schema type bag) after (line_of (text_of v))

-- ---- what is read is built to the same tree, where its line is no longer than a text may be

abbrev pub ReadThenBuild : Type 0
ReadThenBuild =
    (before after : Files) (schema type bag text : Name) (declared content line : List ℕ)
    → Holds before schema declared → Holds before bag content → AreBytes content
    → IsDone (read_words schema type bag) before line → length line ≤ 134217728
    → Holds after schema declared → Holds after text line → IsWord text
    → (root : Tree) × BagHolds content root × IsDone (build_words schema type text) after (bag_line root)

-- ---- what is put in its shortest form

-- no bag of bytes holds a value that fits no tree
abbrev pub TidyFits : Type 0
TidyFits =
    (held : Files) (schema type bag : Name) (declared content : List ℕ) (verdict : Verdict)
    → Holds held schema declared → Holds held bag content → AreBytes content
    → IsOutcome (tidy_words schema type bag) held verdict → verdict.status ≢ ValueRefused

-- The line is that of the one good tree that has the value as its reading in mode Whole, no cell of which is longer
-- than the cell of the bag's tree at its place.
pub record IsTidied (declared : List ℕ) (word : Name) (content line : List ℕ) : Type 0 where
  pub s : SchemaView
  pub type : ShownType
  pub root : Tree
  pub v : Plain
  pub tree : Tree
  pub accepted : WritesAccepted declared s
  pub named : NamesType word s type
  pub held : BagHolds content root
  pub reading : Reading Lax (cores s) type.closed root v
  pub strict : IsOneStrictOf (cores s) type.closed v root tree
  pub is : line ≡ bag_line tree

abbrev pub TidyIsStrict : Type 0
TidyIsStrict =
    (held : Files) (schema type bag : Name) (declared content line : List ℕ)
    → Holds held schema declared → Holds held bag content → AreBytes content
    → IsDone (tidy_words schema type bag) held line → IsTidied declared type content line

-- what was put in its shortest form stays
abbrev pub TidyAgain : Type 0
TidyAgain =
    (before after : Files) (schema type bag tidied : Name) (declared content line : List ℕ)
    → Holds before schema declared → Holds before bag content → AreBytes content
    → IsDone (tidy_words schema type bag) before line
    → Holds after schema declared → Holds after tidied line → IsWord tidied
    → IsDone (tidy_words schema type tidied) after line

-- ---- what is proved is viewed

-- The proof of what the words of these paths name in the bag's tree is viewed with the hash of that tree, and as its
-- value with just the references unknown that no path keeps.
pub record IsViewed (declared : List ℕ) (word : Name) (content : List ℕ) (words command : List Name) (files : Files)
    : Type 0 where
  pub s : SchemaView
  pub type : ShownType
  pub root : Tree
  pub laid : LaidRoot
  pub paths : List (List Stride)
  pub accepted : WritesAccepted declared s
  pub named : NamesType word s type
  pub held : BagHolds content root
  pub reading : LaidReading (cores s) type.closed root laid
  pub chosen : AllChoose (plain_root laid) words paths
  pub is : IsDone command files (view_lines (record { value = shown_for paths laid; hash = hash root 0 }))

abbrev pub ProveThenView : Type 0
ProveThenView =
    (before after : Files) (schema type bag proof : Name) (paths : List Name) (declared content line : List ℕ)
    → Holds before schema declared → Holds before bag content → AreBytes content
    → IsDone (prove_words schema type bag paths) before line
    → Holds after schema declared → Holds after proof line → IsWord proof
    → IsViewed declared type content paths (view_words schema type proof) after
