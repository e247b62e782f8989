-- What the laws say: facts about the definitions alone.
use Rattle.tlb_syntax.specs.Tree.{SchemaView}
use Rattle.tlb_kinds.specs.Kept.{IsKept}
use Rattle.kinded_schema.specs.Kinded.{IsInOrder}

-- a schema that is kept is in order: what no refusal says, part by part
abbrev pub KeptInOrder : Type 0
KeptInOrder = (s : SchemaView) → IsKept s → IsInOrder s
