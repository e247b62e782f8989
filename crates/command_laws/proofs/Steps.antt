-- What the stages of a command gave, where it is done.
use Rattle.std.proofs.Common.{◌≡◌, ◌⊎◌, inl, inr, ◌∙◌, sym, subst, refl, ℕ, List, Result, Ok, Err}
use Rattle.bag_cells.specs.Bag.{BagHolds}
use Rattle.building.specs.PlainBuilder.{build}
use Rattle.building_laws.specs.Laws.{IsTreeOf}
use Rattle.cell_nodes.specs.declared.tree.Mode.TheVariants.{Whole, Lax}
use Rattle.cell_nodes.specs.declared.tree.Tree.{Tree}
use Rattle.schema_leads.specs.Tags.{cores}
use Rattle.spelling.specs.Spells.{Reading}
use Rattle.tlb_edge.specs.Files.{Name}
use Rattle.tlb_syntax.specs.Tree.{SchemaView}
use Rattle.typed_value.specs.Values.{Plain}
use Rattle.value_text.specs.Text.{text_of}
use Rattle.value_text.specs.Writes.{TextWrites}
use Rattle.cli_refusals.specs.Lines.{line_of}
use Rattle.cli_refusals.specs.Refusal.{Refusal}
use Rattle.cli_stages.specs.Bag.{Bag}
use Rattle.cli_stages.specs.Built.{Built}
use Rattle.cli_stages.specs.Cell.{Cell}
use Rattle.cli_stages.specs.Rebuilt.{Rebuilt, rebuilt_as}
use Rattle.cli_stages.specs.Schema.{Schema}
use Rattle.cli_stages.specs.Stage.{Gives, Next, stops, goes_on}
use Rattle.cli_stages.specs.TypeWord.{NamesType, ShownType, TypeWord}
use Rattle.cli_stages.specs.ValueText.{ValueText}
use Rattle.cli_commands.specs.Build.{bag_line, Builds, BuildsText, BuildsType, BuildsValue}
use Rattle.cli_commands.specs.Read.{Reads, ReadsBag, ReadsType, ShowsCell}
use Rattle.cli_commands.specs.Tidy.{Tidies, TidiesBag, TidiesCell, TidiesType, TidiesValue}

-- ---- one stage after another

-- what the first one gave, and that the next one followed it
pub record Passes {X Y : Type 0} (first : Result X Refusal → Type 0) (next : X → Result Y Refusal → Type 0)
    (answer : Result Y Refusal) : Type 0 where
  pub x : X
  pub is : first (Ok x)
  pub follows : next x answer

pub passes : {X Y : Type 0} {first : Result X Refusal → Type 0} {next : X → Result Y Refusal → Type 0} {y : Y}
    → Next first next (Ok y) → Passes first next (Ok y)
passes {y = y} (stops r given e) = absurd (cc)
passes (goes_on x given follows) = record { x = x; is = given; follows = follows }

-- it refused, or the next one did
pub refused : {X Y : Type 0} {first : Result X Refusal → Type 0} {next : X → Result Y Refusal → Type 0} {r : Refusal}
    → Next first next (Err r) → first (Err r) ⊎ Passes first next (Err r)
refused {X = X} {first = first} {r = r} (stops q given e) =
    let P : Refusal → Type 0 = λ x. first (Err x) in
    let same : q ≡ r = cc in
    inl (subst P same given)
refused (goes_on x given follows) = inr (record { x = x; is = given; follows = follows })

pub same-ok : {X : Type 0} (x y : X) (answer : Result X Refusal) → answer ≡ Ok x → answer ≡ Ok y → x ≡ y
same-ok x y answer p q = let both : Ok x ≡ Ok y = sym p ∙ q in cc

-- ---- a schema and a type

pub record IsTyped (word : Name) (declared : List ℕ) (s : SchemaView) (type : ShownType) : Type 0 where
  pub given : Schema declared (Ok s)
  pub named : NamesType word s type

-- ---- build

pub record BuildRun (word : Name) (declared written line : List ℕ) : Type 0 where
  pub s : SchemaView
  pub type : ShownType
  pub typed : IsTyped word declared s type
  pub v : Plain
  pub writes : TextWrites written v
  pub tree : Tree
  pub is_tree : IsTreeOf Whole (cores s) type.closed v tree
  pub is : line ≡ bag_line tree

pub build-run : (word : Name) (declared written line : List ℕ) → Builds word declared written (Ok line)
    → BuildRun word declared written line
build-run word declared written line h =
    let a : Passes (Schema declared) (λ s. BuildsType word s written) (Ok line) = passes h in
    let b : Passes (TypeWord word a.x) (λ type. BuildsText a.x type written) (Ok line) = passes a.follows in
    let c : Passes (ValueText written) (λ v. BuildsValue a.x b.x v) (Ok line) = passes b.follows in
    let d : Passes (Built a.x b.x c.x) (λ tree. Gives (bag_line tree)) (Ok line) = passes c.follows in
    record {
      s = a.x;
      type = b.x;
      typed = record { given = a.is; named = b.is };
      v = c.x;
      writes = c.is;
      tree = d.x;
      is_tree = d.is;
      is = same-ok line (bag_line d.x) _ refl d.follows;
    }

pub to-build : (word : Name) (declared written : List ℕ) (s : SchemaView) (type : ShownType) (v : Plain) (tree : Tree)
    → IsTyped word declared s type → TextWrites written v → IsTreeOf Whole (cores s) type.closed v tree
    → Builds word declared written (Ok (bag_line tree))
to-build word declared written s type v tree typed writes is =
    goes_on s typed.given (goes_on type typed.named (goes_on v writes (goes_on tree is refl)))

-- ---- read

pub record ReadRun (word : Name) (declared content line : List ℕ) : Type 0 where
  pub s : SchemaView
  pub type : ShownType
  pub typed : IsTyped word declared s type
  pub root : Tree
  pub holds : BagHolds content root
  pub v : Plain
  pub reading : Reading Whole (cores s) type.closed root v
  pub is : line ≡ line_of (text_of v)

pub read-run : (word : Name) (declared content line : List ℕ) → Reads Whole word declared content (Ok line)
    → ReadRun word declared content line
read-run word declared content line h =
    let a : Passes (Schema declared) (λ s. ReadsType Whole word s content) (Ok line) = passes h in
    let b : Passes (TypeWord word a.x) (λ type. ReadsBag Whole a.x type content) (Ok line) = passes a.follows in
    let c : Passes (Bag content) (λ root. ShowsCell Whole a.x b.x root) (Ok line) = passes b.follows in
    let d : Passes (Cell Whole a.x b.x c.x) (λ v. Gives (line_of (text_of v))) (Ok line) = passes c.follows in
    record {
      s = a.x;
      type = b.x;
      typed = record { given = a.is; named = b.is };
      root = c.x;
      holds = c.is;
      v = d.x;
      reading = d.is;
      is = same-ok line (line_of (text_of d.x)) _ refl d.follows;
    }

pub to-read : (word : Name) (declared content : List ℕ) (s : SchemaView) (type : ShownType) (root : Tree) (v : Plain)
    → IsTyped word declared s type → BagHolds content root → Reading Whole (cores s) type.closed root v
    → Reads Whole word declared content (Ok (line_of (text_of v)))
to-read word declared content s type root v typed holds reading =
    goes_on s typed.given (goes_on type typed.named (goes_on root holds (goes_on v reading refl)))

-- ---- tidy

pub record TidyRun (word : Name) (declared content line : List ℕ) : Type 0 where
  pub s : SchemaView
  pub type : ShownType
  pub typed : IsTyped word declared s type
  pub root : Tree
  pub holds : BagHolds content root
  pub v : Plain
  pub reading : Reading Lax (cores s) type.closed root v
  pub tree : Tree
  pub rebuilt : Ok tree ≡ rebuilt_as s type (build Whole (cores s) type.closed v)
  pub is : line ≡ bag_line tree

pub tidy-run : (word : Name) (declared content line : List ℕ) → Tidies word declared content (Ok line)
    → TidyRun word declared content line
tidy-run word declared content line h =
    let a : Passes (Schema declared) (λ s. TidiesType word s content) (Ok line) = passes h in
    let b : Passes (TypeWord word a.x) (λ type. TidiesBag a.x type content) (Ok line) = passes a.follows in
    let c : Passes (Bag content) (λ root. TidiesCell a.x b.x root) (Ok line) = passes b.follows in
    let d : Passes (Cell Lax a.x b.x c.x) (λ v. TidiesValue a.x b.x v) (Ok line) = passes c.follows in
    let e : Passes (Rebuilt a.x b.x d.x) (λ tree. Gives (bag_line tree)) (Ok line) = passes d.follows in
    record {
      s = a.x;
      type = b.x;
      typed = record { given = a.is; named = b.is };
      root = c.x;
      holds = c.is;
      v = d.x;
      reading = d.is;
      tree = e.x;
      rebuilt = e.is;
      is = same-ok line (bag_line e.x) _ refl e.follows;
    }

pub to-tidy : (word : Name) (declared content : List ℕ) (s : SchemaView) (type : ShownType) (root : Tree) (v : Plain)
    (tree : Tree) → IsTyped word declared s type → BagHolds content root → Reading Lax (cores s) type.closed root v
    → Rebuilt s type v (Ok tree) → Tidies word declared content (Ok (bag_line tree))
to-tidy word declared content s type root v tree typed holds reading is =
    goes_on s typed.given (goes_on type typed.named (goes_on root holds (goes_on v reading (goes_on tree is refl))))
