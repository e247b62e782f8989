-- What a walk gave, beside the functions of a walk.
use Rattle.std.specs.Prelude.{◌≡◌, map, Result, Ok, Err}
use Rattle.hashmap_tree.specs.Adds.{GivesWalk, pair_of}
use Rattle.hashmap_tree.specs.Entries.{Entries, hidden_in, pairs_in}
use Rattle.hashmap_tree.specs.First.{Edge}
use Rattle.hashmap_tree.specs.Walk.{Fault}
use Rattle.hashmap_tree.specs.declared.found.Walk.{Walk}
use Rattle.hashmap_tree.specs.declared.found.WalkError.{WalkError}
use Rattle.hashmap_tree.specs.declared.found.WalkError.TheVariants.{NoMemory, Stuck}

-- the first edge, or its fault, or memory ran out
abbrev pub GivesFirst : Result Walk WalkError → Result Edge Fault → Type 0
GivesFirst = GivesWalk

-- these entries, or the cause of the fault, or memory ran out
abbrev pub GivesCell : Result Walk WalkError → Result Entries Fault → Type 0
GivesCell (Ok w) (Ok es) = (map pair_of w.pairs.items ≡ pairs_in es) × (w.unknown.items ≡ hidden_in es)
GivesCell (Ok w) (Err f) = ⊥
GivesCell (Err NoMemory) r = Unit {0}
GivesCell (Err (Stuck q c)) (Ok es) = ⊥
GivesCell (Err (Stuck q c)) (Err f) = c ≡ f.cause
