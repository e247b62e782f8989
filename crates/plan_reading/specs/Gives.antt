-- What a leaf of the reader returned, beside what the plain reader gives.
use Rattle.std.specs.Prelude.{ℕ, ◌≡◌, List, [], Result, Ok, Err}
use Rattle.cell_nodes.specs.declared.tree.Tree.{Tree}
use Rattle.hashmap_tree.specs.Entries.{Slice}
use Rattle.core_form.specs.Scope.{Scope}
use Rattle.spelling.specs.Places.{Spot, Place, stuck}
use Rattle.spelling.specs.PlainReader.{Step}
use Rattle.spelling.specs.declared.Cause.{Cause}
use Rattle.typed_value.specs.Values.{Plain, number}
use Rattle.typed_value.specs.declared.value.Number.{Number}

abbrev pub slice : List ℕ → List Tree → Slice
slice bits refs = record { bits = bits; refs = refs }

abbrev pub number_view : Number → Plain
number_view n = number n.negative n.size

-- the same value, or the same cause at this spot
abbrev pub Leaf : {X Y : Type 0} → Spot → (X → Y) → Result X Cause → Result Y Place → Type 0
Leaf h view (Ok x) wanted = wanted ≡ Ok (view x)
Leaf h view (Err why) wanted = wanted ≡ Err (stuck h why)

-- an item without a value, after which the variables stand for this
abbrev pub unchanged : Scope → ℕ → Slice → Step
unchanged scope q s = record { gives = []; scope = scope; begun = q; left = s }
