-- The statuses of what the stages of a command refuse.
use Rattle.std.proofs.Common.{◌≡◌, ⊎_elim, ◌∙◌, ap, sym, ℕ, List, Err}
use Rattle.cell_nodes.specs.declared.tree.Mode.TheVariants.{Lax}
use Rattle.cell_nodes.specs.declared.tree.Tree.{Tree}
use Rattle.tlb_edge.specs.Files.{Name}
use Rattle.tlb_syntax.specs.Tree.{SchemaView}
use Rattle.typed_value.specs.Values.{Plain}
use Rattle.bag_cells.specs.Bag.{BagHolds}
use Rattle.schema_leads.specs.Tags.{cores}
use Rattle.spelling.specs.Spells.{Reading}
use Rattle.cli_refusals.specs.Refusal.{Refusal, status_of}
use Rattle.cli_refusals.specs.declared.status.Status.TheVariants as statuses
use Rattle.cli_stages.specs.Bag.{Bag}
use Rattle.cli_stages.specs.Cell.{Cell}
use Rattle.cli_stages.specs.Kinds.{Kinds}
use Rattle.cli_stages.specs.Rebuilt.{Rebuilt}
use Rattle.cli_stages.specs.Schema.{Schema}
use Rattle.cli_stages.specs.SchemaText.{SchemaText}
use Rattle.cli_stages.specs.Stage.{Gives, Next}
use Rattle.cli_stages.specs.Tags.{Tags}
use Rattle.cli_stages.specs.TypeWord.{ShownType, TypeWord}
use Rattle.cli_commands.specs.Build.{bag_line}
use Rattle.cli_commands.specs.Tidy.{Tidies, TidiesBag, TidiesCell, TidiesType, TidiesValue}
use Rattle.command_laws.proofs.Steps.{IsTyped, Passes, refused}

schema-status : (declared : List ℕ) (r : Refusal) → Schema declared (Err r) → status_of r ≡ statuses.SchemaRefused
schema-status declared r h = ⊎_elim
    (λ (a : SchemaText declared (Err r)). ap status_of a.2)
    (λ (p : Passes (SchemaText declared) (λ tree. Next (Kinds tree) (λ kept. Tags kept)) (Err r)). ⊎_elim
    (λ (b : Kinds p.x (Err r)). ap status_of b.2)
    (λ (q : Passes (Kinds p.x) (λ kept. Tags kept) (Err r)). tags-status q.x q.follows)
    (refused p.follows))
    (refused h)
  where
    tags-status : (s : SchemaView) → Tags s (Err r) → status_of r ≡ statuses.SchemaRefused
    tags-status s t = ap status_of t.1.is

-- a value of a bag's cell that is refused as unfit for a tree
pub record IsUnbuilt (word : Name) (declared content : List ℕ) (r : Refusal) : Type 0 where
  pub s : SchemaView
  pub type : ShownType
  pub typed : IsTyped word declared s type
  pub root : Tree
  pub holds : BagHolds content root
  pub v : Plain
  pub reading : Reading Lax (cores s) type.closed root v
  pub unbuilt : Rebuilt s type v (Err r)

-- the value is refused, and nothing before it is
pub unbuilt-of : (word : Name) (declared content : List ℕ) (r : Refusal) → status_of r ≡ statuses.ValueRefused
    → Tidies word declared content (Err r) → IsUnbuilt word declared content r
unbuilt-of word declared content r is h = ⊎_elim
    (λ (a : Schema declared (Err r)). absurd (let e = sym is ∙ schema-status declared r a in cc))
    (λ (p : Passes (Schema declared) (λ s. TidiesType word s content) (Err r)). ⊎_elim
    (λ (a : TypeWord word p.x (Err r)). absurd (let e = sym is ∙ ap status_of a.is in cc))
    (λ (q : Passes (TypeWord word p.x) (λ type. TidiesBag p.x type content) (Err r)). ⊎_elim
    (λ (a : Bag content (Err r)). absurd (let e = sym is ∙ ap status_of a.2 in cc))
    (λ (t : Passes (Bag content) (λ root. TidiesCell p.x q.x root) (Err r)). ⊎_elim
    (λ (a : Cell Lax p.x q.x t.x (Err r)). absurd (let e = sym is ∙ ap status_of a.is in cc))
    (λ (u : Passes (Cell Lax p.x q.x t.x) (λ v. TidiesValue p.x q.x v) (Err r)).
    record {
      s = p.x;
      type = q.x;
      typed = record { given = p.is; named = q.is };
      root = t.x;
      holds = t.is;
      v = u.x;
      reading = u.is;
      unbuilt = last p.x q.x u.x u.follows;
    })
    (refused t.follows))
    (refused q.follows))
    (refused p.follows))
    (refused h)
  where
    last : (s : SchemaView) (type : ShownType) (v : Plain) → TidiesValue s type v (Err r) → Rebuilt s type v (Err r)
    last s type v h = ⊎_elim
        (λ (a : Rebuilt s type v (Err r)). a)
        (λ (p : Passes (Rebuilt s type v) (λ tree. Gives (bag_line tree)) (Err r)). absurd (let e = p.follows in cc))
        (refused h)
