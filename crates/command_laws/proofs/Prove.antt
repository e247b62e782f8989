-- What is proved is viewed.
use Rattle.std.proofs.Common.{◌≡◌, ◌≤◌, ◌∙◌, ap, sym, subst, refl, ℕ, zero, suc, ◌-◌, Bool, true, ◌&&◌, List, [], ◌∷◌, length, Option, Some, None, Result, Ok, Err, nat_lt, false}
use Rattle.std.specs.Prelude.{codes, min, replicate, bytes_eq, not, ◌==◌, if◌then◌else◌}
use Rattle.std.proofs.lemmas.Bool.{and_parts, eq-eqb}
use Rattle.std.proofs.lemmas.Slice.Eq.{bytes_eq-Decides}
use Rattle.accepted_pruning.specs.Laws.{ProveThenView as ProvedIsViewed}
use Rattle.accepted_schema.specs.Accepted.{kept_cores}
use Rattle.bag_cells.specs.Bag.{BagHolds}
use Rattle.bag_cells.specs.Numbers.{AreBytes}
use Rattle.bag_lines.specs.Laws.{LineHolds}
use Rattle.cell_nodes.specs.Good.{IsGood}
use Rattle.cell_nodes.specs.Tree.{mask, hash, depth, unfolded}
use Rattle.cell_nodes.specs.declared.tree.Kind.TheVariants.{Proof as ProofKind}
use Rattle.cell_nodes.specs.declared.tree.Mode.TheVariants.{Whole}
use Rattle.cell_nodes.specs.declared.tree.Tree.{Tree, out-Tree}
use Rattle.proof_laws.specs.Laws.{IsProofOf, LaidIsRead}
use Rattle.proof_laws.specs.Proving.{ProveAnswers, proved, shown_for}
use Rattle.proof_laws.specs.Viewing.{kept_hash, kept_depth, IsSealed, ViewAnswers, viewed}
use Rattle.pruning.specs.SpellsLaid.{LaidRoot, plain_root, LaidReading}
use Rattle.schema_leads.specs.Tags.{cores}
use Rattle.spelling.specs.Spells.{Reading}
use Rattle.tlb_edge.specs.Files.{Name}
use Rattle.tlb_files.specs.Counts.{FileName}
use Rattle.tlb_syntax.specs.Tree.{SchemaView}
use Rattle.typed_value.specs.Paths.{Stride}
use Rattle.typed_value.specs.Values.{Plain}
use Rattle.cli_refusals.specs.Refusal.{Refusal, proof}
use Rattle.cli_refusals.specs.declared.proof_lines.ProofCause.TheVariants as causes
use Rattle.cli_stages.specs.Bag.{Bag}
use Rattle.cli_stages.specs.Cell.{Cell}
use Rattle.cli_stages.specs.Made.{IsMade, Made}
use Rattle.cli_stages.specs.Paths.{AllChoose, Paths}
use Rattle.cli_stages.specs.Proof.{Proof, ProofShows, sealed, sealed_by, sealed_child}
use Rattle.cli_stages.specs.ProofOf.{ProofOf}
use Rattle.cli_stages.specs.Schema.{GivesAccepted, IsWhole, Schema}
use Rattle.cli_stages.specs.Stage.{Gives, Next, goes_on}
use Rattle.cli_stages.specs.Stages.{Stages}
use Rattle.cli_stages.specs.TypeWord.{ShownType, TypeWord}
use Rattle.cli_commands.specs.Build.{bag_line}
use Rattle.cli_commands.specs.Forms.{Form, are_taken, files_in}
use Rattle.cli_commands.specs.Prove.{Proves, ProvesBag, ProvesCell, ProvesType}
use Rattle.cli_commands.specs.Views.{Views, view_lines}
use Rattle.cli_commands.specs.declared.commands.Verb.TheVariants.{Prove}
use Rattle.cli_commands.specs.declared.slot.Slot.TheVariants.{Path}
use Rattle.command_laws.specs.Laws.{IsWord, IsViewed, ProveThenView}
use Rattle.command_laws.proofs.Build.{line-of-tree}
use Rattle.command_laws.proofs.Runs.{IsCall, are_short, done-run, is_short, outcome-of, view-call, word-short}
use Rattle.command_laws.proofs.Steps.{IsTyped, Passes, passes, same-ok}

-- ---- the words, of which the last are paths

-- as many words as are left are paths, each short
abbrev pub are_paths : Name → Name → Name → List Name → Bool
are_paths schema type bag paths =
    are_taken (replicate (min (length (schema ∷ type ∷ bag ∷ paths) - 3) 64) Path) paths

abbrev pub are_short_with : Name → Name → Name → List Name → Bool
are_short_with schema type bag paths =
    is_short schema && (is_short type && (is_short bag && are_paths schema type bag paths))

abbrev pub prove_with : Name → Name → Name → List Name → Form
prove_with schema type bag paths = record { verb = Prove; words = schema ∷ type ∷ bag ∷ paths }

-- a path names no file
no-files : (n : ℕ) (paths : List Name) → files_in (replicate n Path) paths ≡ []
no-files zero paths = refl
no-files (suc n) [] = refl
no-files (suc n) (path ∷ paths) = no-files n paths

pub prove-call : (schema type bag : Name) (paths : List Name)
    → IsCall (prove_with schema type bag paths) (are_short_with schema type bag paths)
    (codes "prove" ∷ schema ∷ type ∷ bag ∷ paths) schema bag
prove-call schema type bag paths = record {
  is_form = refl;
  files =
      ap
      (λ (files : List FileName). record { name = schema; limit = 1048576 } ∷ record { name = bag; limit = 134217728 } ∷ files)
      (no-files (min (length (schema ∷ type ∷ bag ∷ paths) - 3) 64) paths);
}

-- the same schema and type with another file, and without paths
pub short-without : (schema type bag other : Name) (paths : List Name) → are_short_with schema type bag paths ≡ true
    → IsWord other → are_short schema type other ≡ true
short-without schema type bag other paths short word =
    let a = and_parts (is_short schema) (is_short type && (is_short bag && are_paths schema type bag paths)) short in
    let b = and_parts (is_short type) (is_short bag && are_paths schema type bag paths) a.1 in
    rw (a.0, b.0, word-short other word) refl

-- ---- what was proved

pub record ProveRun (word : Name) (words : List Name) (declared content line : List ℕ) : Type 0 where
  pub s : SchemaView
  pub type : ShownType
  pub typed : IsTyped word declared s type
  pub root : Tree
  pub holds : BagHolds content root
  pub v : Plain
  pub reading : Reading Whole (cores s) type.closed root v
  pub paths : List (List Stride)
  pub chosen : AllChoose v words paths
  pub tree : Tree
  pub made : IsMade s type root paths tree
  pub is : line ≡ bag_line tree

prove-run : (word : Name) (words : List Name) (declared content line : List ℕ) → Proves words word declared content (Ok line)
    → ProveRun word words declared content line
prove-run word words declared content line h =
    let a : Passes (Schema declared) (λ s. ProvesType words word s content) (Ok line) = passes h in
    let b : Passes (TypeWord word a.x) (λ type. ProvesBag words a.x type content) (Ok line) = passes a.follows in
    let c : Passes (Bag content) (λ root. ProvesCell words a.x b.x root) (Ok line) = passes b.follows in
    let d : Passes (ProofOf words a.x b.x c.x) (λ tree. Gives (bag_line tree)) (Ok line) = passes c.follows in
    let e : Passes (Cell Whole a.x b.x c.x) (λ v. Next (Paths v words) (λ paths. Made a.x b.x c.x paths)) (Ok d.x) = passes d.is in
    let f : Passes (Paths e.x words) (λ paths. Made a.x b.x c.x paths) (Ok d.x) = passes e.follows in
    record {
      s = a.x;
      type = b.x;
      typed = record { given = a.is; named = b.is };
      root = c.x;
      holds = c.is;
      v = e.x;
      reading = e.is;
      paths = f.x;
      chosen = f.is;
      tree = d.x;
      made = f.follows;
      is = same-ok line (bag_line d.x) _ refl d.follows;
    }

-- ---- what a proof shows

-- by what the tests give
abbrev tested : Bool → Bool → Bool → Tree → Tree → Result Tree Refusal
tested whole hashes depths c p =
    if not whole then Err (proof causes.NotWhole)
    else if not hashes then Err (proof (causes.HashDiffers (kept_hash c) (hash p 0)))
    else if not depths then Err (proof (causes.DepthDiffers (kept_depth c) (depth p 0)))
    else Ok p

-- what a proof seals, where no root hash is given
sealed-so : (c p : Tree) → (out-Tree c).kind ≡ ProofKind → (out-Tree c).children ≡ p ∷ [] → IsSealed c p
    → Ok p ≡ sealed None c
sealed-so c p kind children seal =
    let over : sealed None c ≡ sealed_child None c p = λ i. sealed_by None c (kind i) (children i) in
    let whole = eq-eqb (mask c) 0 seal.whole in
    let hashes = (bytes_eq-Decides (kept_hash c) (hash p 0)).1 seal.same_hash in
    let depths = eq-eqb (kept_depth c) (depth p 0) seal.same_depth in
    let is : sealed_child None c p ≡ Ok p = λ i. tested (whole i) (hashes i) (depths i) c p in
    sym (over ∙ is)

shows-so : (s : SchemaView) (type : ShownType) (c : Tree) (value : Plain) (found : List ℕ)
    → ViewAnswers (cores s) type.closed c None (viewed value found)
    → Proof None s type c (Ok (record { value = value; hash = found }))
shows-so s type c value found a =
    let p = a.1 in
    let b = a.3 in
    let shows : ◌≡◌ {A = ProofShows} (record { value = value; hash = found }) (record { value = value; hash = hash p 0 }) =
    λ i. record { value = value; hash = b.3 i } in
    goes_on p (sealed-so c p a.0 a.2 b.0) (goes_on value b.2 (ap Ok shows))

-- ---- from a run to the view

-- what holds of bags, schemas and proofs
pub record ProofGrounds : Type 0 where
  pub good : (file : List ℕ) (t : Tree) → AreBytes file → BagHolds file t → IsGood t
  pub lines : LineHolds
  pub stages : Stages
  pub accepted : GivesAccepted
  pub laid : LaidIsRead
  pub views : ProvedIsViewed

proof-of : ProofGrounds → (word : Name) (words : List Name) (declared content line : List ℕ) → AreBytes content
    → (r : ProveRun word words declared content line)
    → IsProofOf (cores r.s) r.type.closed r.root r.paths r.tree r.made.shown
proof-of laws word words declared content line bytes r =
    let whole : IsWhole r.s = laws.stages.whole declared r.s r.typed.given in
    let P : SchemaView → Type 0 = λ x. ProveAnswers (cores x) r.type.closed r.root r.paths (proved r.tree r.made.shown) in
    let Q : SchemaView → Type 0 = λ x. IsProofOf (cores x) r.type.closed r.root r.paths r.tree r.made.shown in
    subst Q whole.kept
    (laws.views r.s whole.accepted r.type.closed r.root (laws.good content r.root bytes r.holds) r.paths r.tree r.made.shown
    (subst P (sym whole.kept) r.made.answers))

small-proof : (s : SchemaView) (type : ShownType) (root : Tree) (paths : List (List Stride)) (tree : Tree) (shown : Plain)
    → ProveAnswers (cores s) type.closed root paths (proved tree shown) → unfolded tree ≤ 262144
small-proof s type root paths tree shown a =
    let b = a.2 in
    let P : Tree → Type 0 = λ t. unfolded t ≤ 262144 in
    subst P (sym b.3) b.2

-- the value that was read is that of the laid reading
same-value : ProofGrounds → (declared : List ℕ) (s : SchemaView) (type : ShownType) (root : Tree) (v : Plain) (l : LaidRoot)
    → Schema declared (Ok s) → Reading Whole (cores s) type.closed root v → LaidReading (cores s) type.closed root l
    → v ≡ plain_root l
same-value laws declared s type root v l given reading lies =
    let stage = laws.stages.cell Whole s type root (laws.stages.whole declared s given) in
    let e : Ok v ≡ Ok (plain_root l) =
    stage.once (Ok v) (Ok (plain_root l)) reading ((laws.laid (cores s) type.closed root).reads l lies) in
    cc

to-view : (word : Name) (declared line : List ℕ) (s : SchemaView) (type : ShownType) (tree : Tree) (shown : ProofShows)
    → IsTyped word declared s type → BagHolds line tree → Proof None s type tree (Ok shown)
    → Views word None declared line (Ok (view_lines shown))
to-view word declared line s type tree shown typed holds shows =
    goes_on s typed.given (goes_on type typed.named (goes_on tree holds (goes_on shown shows refl)))

pub prove-then-view : ProofGrounds → ProveThenView
prove-then-view laws before after schema type bag viewed_bag paths declared content line has_schema has_bag bytes done still has_proof word =
    let run = done-run (prove-call schema type bag paths) has_schema has_bag done in
    let r = prove-run type paths declared content line run.answers in
    let is = proof-of laws type paths declared content line bytes r in
    let small = small-proof r.s r.type r.root r.paths r.tree r.made.shown r.made.answers in
    let again = line-of-tree line r.tree r.is (laws.lines r.tree is.good small) in
    let same = same-value laws declared r.s r.type r.root r.v is.laid r.typed.given r.reading is.reading in
    let P : Plain → Type 0 = λ v. AllChoose v paths r.paths in
    let Q : Plain → Type 0 = λ v. Proof None r.s r.type r.tree (Ok (record { value = v; hash = hash r.root 0 })) in
    let shows = shows-so r.s r.type r.tree r.made.shown (hash r.root 0) (is.views None tt) in
    record {
      s = r.s;
      type = r.type;
      root = r.root;
      laid = is.laid;
      paths = r.paths;
      accepted = (laws.accepted declared r.s).0 r.typed.given;
      named = r.typed.named;
      held = r.holds;
      reading = is.reading;
      chosen = subst P same r.chosen;
      is = outcome-of (view-call schema type viewed_bag) still has_proof
          (record {
            short = short-without schema type bag viewed_bag paths run.short word;
            first = run.first;
            second = again.short;
            answers = to-view type declared line r.s r.type r.tree _ r.typed again.holds (subst Q is.shows shows);
          });
    }
