-- What the laws say: facts about the definitions alone.
use Rattle.std.specs.Prelude.{◌≡◌, All}
use Rattle.tlb_syntax.specs.Limits.{IsWithinLimits}
use Rattle.tlb_syntax.specs.Tree.{SchemaView}
use Rattle.tlb_kinds.specs.Kept.{IsKept, IsNoDictionary, IsOrdinary}
use Rattle.tlb_kinds.specs.Refusals.{IsKinded, kept_of}

-- a schema without a refusal has none without the declarations that are passed over
abbrev pub KindedStays : Type 0
KindedStays = (s : SchemaView) → IsKinded s → IsKinded (kept_of s)

-- and these are then passed over already
abbrev pub PassedOver : Type 0
PassedOver = (s : SchemaView) → kept_of (kept_of s) ≡ kept_of s

-- no declaration of exotic cells is left
abbrev pub KeptIsOrdinary : Type 0
KeptIsOrdinary = (s : SchemaView) → All IsOrdinary (kept_of s)

-- no declaration of a dictionary is left
abbrev pub KeptHasNoDictionary : Type 0
KeptHasNoDictionary = (s : SchemaView) → All IsNoDictionary (kept_of s)

-- a schema within the limits stays within them
abbrev pub KeptStaysWithin : Type 0
KeptStaysWithin = (s : SchemaView) → IsWithinLimits s → IsWithinLimits (kept_of s)

-- so what is left of a schema within the limits and without a refusal has all these
abbrev pub WholeIsKept : Type 0
WholeIsKept = (s : SchemaView) → IsWithinLimits s → IsKinded s → IsKept (kept_of s)
