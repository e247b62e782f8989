-- What the parts of a building stand for.
use Rattle.std.specs.Prelude.{ℕ, ◌||◌, Bool, List, [], ◌∷◌}
use Rattle.hashmap_tree.specs.Entries.{Slice}
use Rattle.hashmap_tree.specs.Plants.{held_of}
use Rattle.building.specs.Growing.{Grown, join}
use Rattle.building.specs.PlainBuilder.{Made}
use Rattle.plan_building.specs.declared.growing.Growing.{Growing}
use Rattle.plan_building.specs.declared.outputs.Outputs.{Outputs}
use Rattle.plan_building.specs.declared.outputs.Outputs.TheVariants.{Empty, One, Several}

abbrev pub grown : Growing → Grown
grown b = record { held = held_of b.cell; shut = b.shut }

abbrev pub outputs_of : Outputs → List ℕ
outputs_of Empty = []
outputs_of (One n) = n ∷ []
outputs_of (Several ns) = ns

-- the content with a value, and the outputs that it gives
abbrev pub made : Growing → Outputs → Made
made b outs = (outputs_of outs, grown b)

-- a content after an item that there is room for
abbrev pub laid : Slice → Bool → Grown → Grown
laid x last b = record { held = join b.held x; shut = b.shut || last }

-- the content of a leaf by its key
abbrev pub leaf_of : List ℕ × Growing → List ℕ × Grown
leaf_of x = (x.0, grown x.1)
