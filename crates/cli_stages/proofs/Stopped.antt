-- What a reading's answer is for the stage of a cell.
use Rattle.std.proofs.Common.{◌≡◌, subst, Ok, Err}
use Rattle.cell_nodes.specs.declared.tree.Mode.{Mode}
use Rattle.cell_nodes.specs.declared.tree.Tree.{Tree}
use Rattle.tlb_kinds.specs.Refusals.{kept_of}
use Rattle.tlb_syntax.specs.Tree.{SchemaView}
use Rattle.schema_leads.specs.Tags.{cores}
use Rattle.accepted_schema.specs.Accepted.{kept_cores}
use Rattle.spelling.specs.Places.{Place}
use Rattle.spelling.specs.Spells.{Reading}
use Rattle.spelling.specs.Stuck.{Stuck}
use Rattle.typed_value.specs.View.{value}
use Rattle.typed_value.specs.declared.value.Value.{Value}
use Rattle.typed_reader.specs.Promise.{IsReading, IsStuck}
use Rattle.cli_refusals.specs.Lines.{spot_text}
use Rattle.cli_refusals.specs.Refusal.{cell}
use Rattle.cli_stages.specs.Cell.{Cell}
use Rattle.cli_stages.specs.Stage.{Answers, IfRefused}
use Rattle.cli_stages.specs.TypeWord.{ShownType}
use Rattle.cli_stages.specs.declared.stop.Stop.{Stop}
use Rattle.cli_stages.specs.declared.stop.Stop.TheVariants.{Refused, NoMemory}

pub cell_read : (mode : Mode) (s : SchemaView) (type : ShownType) (t : Tree) (v : Value) → kept_of s ≡ s
    → IsReading mode (kept_cores s) type.closed t (value v) → Answers (Cell mode s type t) value (Ok v)
cell_read mode s type t v kept is =
    let P : SchemaView → Type 0 = λ x. Reading mode (cores x) type.closed t (value v) in
    record { answer = subst P kept is.reading }

pub cell_stopped : (mode : Mode) (s : SchemaView) (type : ShownType) (t : Tree) (p : Place) (stop : Stop) → kept_of s ≡ s
    → IsStuck mode (kept_cores s) type.closed t p
    → IfRefused (λ r. r ≡ cell (spot_text (cores s) type.text p.spot) p.cause) stop
    → Answers {T = Value} (Cell mode s type t) value (Err stop)
cell_stopped mode s type t p (Refused r) kept is refused =
    let P : SchemaView → Type 0 = λ x. Stuck mode (cores x) type.closed t p in
    record { answer = record { place = p; stuck = subst P kept is.stuck; is = refused } }
cell_stopped mode s type t p NoMemory kept is refused = record { answer = tt }
