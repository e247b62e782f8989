-- What is put in its shortest form.
use Rattle.std.proofs.Common.{◌≡◌, ◌≤◌, ◌∙◌, ap, sym, subst, refl, ℕ, List, Ok, Err}
use Rattle.bag_cells.specs.Bag.{BagHolds}
use Rattle.bag_cells.specs.Numbers.{AreBytes}
use Rattle.bag_lines.specs.Laws.{LineHolds}
use Rattle.building.specs.Buildable.{IsBuildable}
use Rattle.building.specs.PlainBuilder.{build}
use Rattle.building_laws.specs.Laws.{IsTreeOf, TreeIsBuilt}
use Rattle.accepted_building.specs.Laws.{AcceptedIsBuildable}
use Rattle.cell_nodes.specs.Good.{IsGood}
use Rattle.cell_nodes.specs.Tree.{unfolded}
use Rattle.cell_nodes.specs.declared.tree.Mode.TheVariants.{Whole, Lax}
use Rattle.cell_nodes.specs.declared.tree.Tree.{Tree}
use Rattle.schema_leads.specs.Tags.{cores}
use Rattle.spelling.specs.Spells.{Reading}
use Rattle.strict_laws.specs.Laws.{IsOneStrictOf, LaxHasOneTree, LaxInRange, StrictStays}
use Rattle.tlb_edge.specs.Files.{Name}
use Rattle.tlb_syntax.specs.Tree.{SchemaView}
use Rattle.typed_value.specs.Values.{Plain}
use Rattle.cli_refusals.specs.Refusal.{Answer, Refusal, Verdict, status_of, verdict_of}
use Rattle.cli_refusals.specs.declared.status.Status.TheVariants as statuses
use Rattle.cli_stages.specs.Rebuilt.{Rebuilt, rebuilt_as}
use Rattle.cli_stages.specs.Schema.{GivesAccepted, IsWhole, Schema}
use Rattle.cli_stages.specs.Stages.{Stages}
use Rattle.cli_stages.specs.TypeWord.{ShownType}
use Rattle.cli_commands.specs.Build.{bag_line}
use Rattle.cli_commands.specs.Tidy.{Tidies}
use Rattle.command_laws.specs.Laws.{TidyAgain, TidyFits, TidyIsStrict}
use Rattle.command_laws.proofs.Build.{line-of-tree}
use Rattle.command_laws.proofs.Runs.{done-run, later-by, outcome-of, run-of, still-short, tidy-call}
use Rattle.command_laws.proofs.Statuses.{unbuilt-of}
use Rattle.command_laws.proofs.Steps.{TidyRun, tidy-run, to-tidy}

-- what holds of bags, schemas and trees
pub record Grounds : Type 0 where
  pub good : (file : List ℕ) (t : Tree) → AreBytes file → BagHolds file t → IsGood t
  pub small : (file : List ℕ) (t : Tree) → BagHolds file t → unfolded t ≤ 262144
  pub lines : LineHolds
  pub stages : Stages
  pub accepted : GivesAccepted
  pub buildable : AcceptedIsBuildable
  pub one_tree : LaxHasOneTree
  pub in_range : LaxInRange
  pub is_built : TreeIsBuilt
  pub stays : StrictStays

-- the one tree in its shortest form, and that it is what is built
pub record HasStrict (s : SchemaView) (type : ShownType) (root : Tree) (v : Plain) : Type 0 where
  pub tree : Tree
  pub strict : IsOneStrictOf (cores s) type.closed v root tree
  pub built : build Whole (cores s) type.closed v ≡ Ok tree

has-strict : Grounds → (declared content : List ℕ) (s : SchemaView) (type : ShownType) (root : Tree) (v : Plain)
    → Schema declared (Ok s) → AreBytes content → BagHolds content root → Reading Lax (cores s) type.closed root v
    → HasStrict s type root v
has-strict laws declared content s type root v given bytes holds reading =
    let whole : IsWhole s = laws.stages.whole declared s given in
    let P : SchemaView → Type 0 = λ x. IsBuildable (cores x) in
    let can : IsBuildable (cores s) = subst P whole.kept (laws.buildable s whole.accepted) in
    let good = laws.good content root bytes holds in
    let is_tree : IsTreeOf Lax (cores s) type.closed v root =
    record { good = good; reading = reading; small = laws.small content root holds } in
    let one = laws.one_tree (cores s) can type.closed v root is_tree in
    let range = laws.in_range (cores s) type.closed v root good reading in
    record {
      tree = one.0;
      strict = one.1;
      built = laws.is_built Whole refl (cores s) can type.closed v range one.0 one.1.strict.tree;
    }

-- a tree that is built is not refused
fits : (s : SchemaView) (type : ShownType) (v : Plain) (tree : Tree) (r : Refusal)
    → build Whole (cores s) type.closed v ≡ Ok tree → Rebuilt s type v (Err r) → ⊥
fits s type v tree r built unbuilt =
    let e : Err r ≡ Ok tree = unbuilt ∙ ap (rebuilt_as s type) built in cc

value-refusal : (answer : Answer) → (verdict_of answer).status ≡ statuses.ValueRefused
    → (r : Refusal) × (answer ≡ Err r) × (status_of r ≡ statuses.ValueRefused)
value-refusal (Ok text) e = absurd (cc)
value-refusal (Err r) e = (r, refl, e)

pub tidy-fits : Grounds → TidyFits
tidy-fits laws held schema type bag declared content verdict has_schema has_bag bytes outcome status =
    let is : (verdict_of outcome.answer).status ≡ statuses.ValueRefused =
    ap (λ (v : Verdict). v.status) (sym outcome.is_verdict) ∙ status in
    let later = later-by outcome.answer statuses.ValueRefused is (λ e. cc) (λ e. cc) in
    let run = run-of (tidy-call schema type bag) has_schema has_bag outcome later in
    let found = value-refusal outcome.answer is in
    let P : Answer → Type 0 = Tidies type declared content in
    let u = unbuilt-of type declared content found.0 found.2 (subst P found.1 run.answers) in
    let strict = has-strict laws declared content u.s u.type u.root u.v u.typed.given bytes u.holds u.reading in
    fits u.s u.type u.v strict.tree found.0 strict.built u.unbuilt

-- ---- what is put

same-tree : (s : SchemaView) (type : ShownType) (v : Plain) (tree other : Tree)
    → build Whole (cores s) type.closed v ≡ Ok tree → Rebuilt s type v (Ok other) → other ≡ tree
same-tree s type v tree other built is =
    let e : Ok other ≡ Ok tree = is ∙ ap (rebuilt_as s type) built in cc

-- a run that is done, and the tree in its shortest form
pub record StrictRun (word : Name) (declared content line : List ℕ) : Type 0 where
  pub run : TidyRun word declared content line
  pub strict : HasStrict run.s run.type run.root run.v
  pub is : line ≡ bag_line strict.tree

strict-run : Grounds → (word : Name) (declared content line : List ℕ) → AreBytes content
    → Tidies word declared content (Ok line) → StrictRun word declared content line
strict-run laws word declared content line bytes h =
    let run = tidy-run word declared content line h in
    let strict =
    has-strict laws declared content run.s run.type run.root run.v run.typed.given bytes run.holds run.reading in
    record {
      run = run;
      strict = strict;
      is = run.is ∙ ap bag_line (same-tree run.s run.type run.v strict.tree run.tree strict.built run.rebuilt);
    }

pub tidy-is-strict : Grounds → TidyIsStrict
tidy-is-strict laws held schema type bag declared content line has_schema has_bag bytes done =
    let run = done-run (tidy-call schema type bag) has_schema has_bag done in
    let t = strict-run laws type declared content line bytes run.answers in
    record {
      s = t.run.s;
      type = t.run.type;
      root = t.run.root;
      v = t.run.v;
      tree = t.strict.tree;
      accepted = (laws.accepted declared t.run.s).0 t.run.typed.given;
      named = t.run.typed.named;
      held = t.run.holds;
      reading = t.run.reading;
      strict = t.strict.strict;
      is = t.is;
    }

pub tidy-again : Grounds → TidyAgain
tidy-again laws before after schema type bag tidied declared content line has_schema has_bag bytes done still has_line word =
    let call = tidy-call schema type bag in
    let run = done-run call has_schema has_bag done in
    let t = strict-run laws type declared content line bytes run.answers in
    let s = t.run.s in
    let closed = t.run.type in
    let v = t.run.v in
    let tree = t.strict.tree in
    let is_tree = t.strict.strict.strict.tree in
    let again = line-of-tree line tree t.is (laws.lines tree is_tree.good is_tree.small) in
    let stays = laws.stays (cores s) closed.closed v t.run.root tree t.strict.strict in
    let P : List ℕ → Type 0 = λ x. Tidies type declared line (Ok x) in
    outcome-of (tidy-call schema type tidied) still has_line
    (record {
      short = still-short schema type bag tidied run.short word;
      first = run.first;
      second = again.short;
      answers =
          subst P (sym t.is)
          (to-tidy type declared line s closed tree v tree t.run.typed again.holds stays.0.reading
          (sym (ap (rebuilt_as s closed) t.strict.built)));
    })
