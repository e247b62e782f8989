-- What the laws say: facts about the definitions alone.
use Rattle.accepted_schema.specs.Accepted.{IsAccepted, kept_cores}
use Rattle.building_laws.specs.Laws.{IsTreeOf}
use Rattle.cell_nodes.specs.declared.tree.Mode.TheVariants.{Whole}
use Rattle.cell_nodes.specs.declared.tree.Tree.{Tree}
use Rattle.core_form.specs.Closed.{Closed, ClosedOf}
use Rattle.tlb_syntax.specs.Tree.{SchemaView}
use Rattle.typed_value.specs.Values.{Plain}
use Rattle.value_text.specs.Writes.{IsWritable}

-- what is read at a closed type of an accepted schema has a text within the limits
abbrev pub ReadingIsWritable : Type 0
ReadingIsWritable =
    (s : SchemaView) → IsAccepted s → (t : Closed) → ClosedOf (kept_cores s) t → (v : Plain) (c : Tree)
    → IsTreeOf Whole (kept_cores s) t v c → IsWritable v
