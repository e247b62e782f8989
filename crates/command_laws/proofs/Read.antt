-- What is read is built to the same tree.
use Rattle.std.proofs.Common.{◌≡◌, ◌≤◌, sym, subst, refl, append_assoc, ℕ, List, [], ◌∷◌, ◌++◌, length}
use Rattle.std.proofs.lemmas.Bool.{le-ltb}
use Rattle.bag_cells.specs.Bag.{BagHolds}
use Rattle.bag_cells.specs.Numbers.{AreBytes}
use Rattle.building_laws.specs.Laws.{IsTreeOf}
use Rattle.cell_nodes.specs.Good.{IsGood}
use Rattle.cell_nodes.specs.Tree.{unfolded}
use Rattle.cell_nodes.specs.declared.tree.Mode.TheVariants.{Whole}
use Rattle.cell_nodes.specs.declared.tree.Tree.{Tree}
use Rattle.core_form.specs.Closed.{ClosedOf}
use Rattle.reading_texts.specs.Laws.{ReadingIsWritable}
use Rattle.schema_leads.specs.Tags.{cores, tag_of}
use Rattle.tlb_edge.specs.Files.{Name}
use Rattle.tlb_syntax.specs.Tree.{SchemaView}
use Rattle.type_word.specs.Laws.{NamedIsClosed}
use Rattle.typed_value.specs.Values.{Plain}
use Rattle.value_text.specs.Text.{text_of, tokens}
use Rattle.value_text.specs.Tokens.{Token, spelling, written}
use Rattle.value_text.specs.Writes.{IsWritable, Spaced, TextWrites}
use Rattle.cli_refusals.specs.Lines.{line_of}
use Rattle.cli_stages.specs.Schema.{IsWhole}
use Rattle.cli_stages.specs.Stages.{Stages}
use Rattle.command_laws.specs.Laws.{ReadThenBuild}
use Rattle.command_laws.proofs.Runs.{build-call, done-run, outcome-of, read-call, still-short}
use Rattle.command_laws.proofs.Steps.{ReadRun, read-run, to-build}

-- what holds of bags, schemas and types
pub record ReadGrounds : Type 0 where
  pub good : (file : List ℕ) (t : Tree) → AreBytes file → BagHolds file t → IsGood t
  pub small : (file : List ℕ) (t : Tree) → BagHolds file t → unfolded t ≤ 262144
  pub stages : Stages
  pub closed : NamedIsClosed
  pub writable : ReadingIsWritable

-- tokens and a line feed
spaced-line : (ts : List Token) → Spaced ts (written ts ++ 10 ∷ [])
spaced-line [] = refl
spaced-line (t ∷ ts) =
    ([], written ts ++ 10 ∷ [], append_assoc (spelling t) (written ts) (10 ∷ []), refl, spaced-line ts)

writes-line : (v : Plain) (line : List ℕ) → line ≡ line_of (text_of v) → IsWritable v → TextWrites line v
writes-line v line e w =
    let P : List ℕ → Type 0 = λ f. Spaced (tokens v) f in
    record { text = subst P (sym e) (spaced-line (tokens v)); writable = w }

tree-read : ReadGrounds → (word : Name) (declared content line : List ℕ) → AreBytes content
    → (r : ReadRun word declared content line) → IsTreeOf Whole (cores r.s) r.type.closed r.v r.root
tree-read laws word declared content line bytes r =
    record { good = laws.good content r.root bytes r.holds; reading = r.reading; small = laws.small content r.root r.holds }

writable-read : ReadGrounds → (word : Name) (declared content line : List ℕ)
    → (r : ReadRun word declared content line) → IsTreeOf Whole (cores r.s) r.type.closed r.v r.root → IsWritable r.v
writable-read laws word declared content line r tree =
    let whole : IsWhole r.s = laws.stages.whole declared r.s r.typed.given in
    let is : ClosedOf (cores r.s) r.type.closed = (laws.closed r.s tag_of word r.type.closed r.typed.named.resolved).closed in
    let P : SchemaView → Type 0 = λ x. ClosedOf (cores x) r.type.closed in
    let Q : SchemaView → Type 0 = λ x. IsTreeOf Whole (cores x) r.type.closed r.v r.root in
    laws.writable r.s whole.accepted r.type.closed (subst P (sym whole.kept) is) r.v r.root (subst Q (sym whole.kept) tree)

pub read-then-build : ReadGrounds → ReadThenBuild
read-then-build laws before after schema type bag text declared content line has_schema has_bag bytes done short still has_text word =
    let run = done-run (read-call schema type bag) has_schema has_bag done in
    let r = read-run type declared content line run.answers in
    let tree = tree-read laws type declared content line bytes r in
    let writes = writes-line r.v line r.is (writable-read laws type declared content line r tree) in (
      r.root,
      r.holds,
      outcome-of (build-call schema type text) still has_text
          (record {
            short = still-short schema type bag text run.short word;
            first = run.first;
            second = le-ltb 134217728 (length line) short;
            answers = to-build type declared line r.s r.type r.v r.root r.typed writes tree;
          }),
    )
