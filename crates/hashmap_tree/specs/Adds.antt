-- What the calls of a walk answer, beside the walk as a function.
use Rattle.std.specs.Prelude.{◌≡◌, ℕ, Bool, true, false, List, [], ◌∷◌, ◌++◌, map, Result, Ok, Err}
use Rattle.cell_nodes.specs.declared.slice.CellSlice.{CellSlice}
use Rattle.hashmap_labels.specs.Views.{bits_of}
use Rattle.hashmap_labels.specs.declared.labels.LabelBits.{LabelBits}
use Rattle.hashmap_labels.specs.declared.labels.LabelError.{LabelError}
use Rattle.hashmap_tree.specs.Entries.{Slice, Entries, pairs_in, hidden_in, under}
use Rattle.hashmap_tree.specs.Walk.{Fault}
use Rattle.hashmap_tree.specs.First.{Edge, at_leaf, at_fork}
use Rattle.hashmap_tree.specs.Top.{IsTop, HaltsTop}
use Rattle.cell_nodes.specs.declared.tree.Mode.{Mode}
use Rattle.hashmap_tree.specs.declared.found.Walk.{Walk}
use Rattle.hashmap_tree.specs.declared.found.WalkError.{WalkError}
use Rattle.hashmap_tree.specs.declared.found.WalkError.TheVariants as errors
use Rattle.hashmap_tree.specs.declared.found.Found.{Found}

abbrev pub slice_of : CellSlice → Slice
slice_of s = record { bits = s.bits; refs = s.refs }

abbrev pub pair_of : List ℕ × CellSlice → List ℕ × Slice
pair_of x = (x.0, slice_of x.1)

-- what was read is this label and what follows it
abbrev pub Labels : Result (LabelBits × List ℕ) LabelError → Result (List ℕ × List ℕ) LabelError → Type 0
Labels (Ok x) read = read ≡ Ok (bits_of x.0, x.1)
Labels (Err e) read = read ≡ Err e

-- these entries more
pub record Has (old new : Found) (es : Entries) : Type 0 where
  pub pairs : map pair_of new.pairs.items ≡ map pair_of old.pairs.items ++ pairs_in es
  pub unknown : new.unknown.items ≡ old.unknown.items ++ hidden_in es

abbrev pub Adds : {A : Type 0} → List ℕ → Found → Found → Result A WalkError → Result Entries Fault → Type 0
Adds p old new (Ok x) (Ok es) = Has old new (under p es)
Adds p old new (Ok x) (Err f) = ⊥
Adds p old new (Err errors.NoMemory) r = Unit {0}
Adds p old new (Err (errors.Stuck q c)) (Ok es) = ⊥
Adds p old new (Err (errors.Stuck q c)) (Err f) = (q ≡ p ++ f.prefix) × (c ≡ f.cause)

abbrev pub OnlyMemory : {A : Type 0} → Result A WalkError → Type 0
OnlyMemory (Ok x) = Unit {0}
OnlyMemory (Err errors.NoMemory) = Unit {0}
OnlyMemory (Err (errors.Stuck q c)) = ⊥

-- a fault at this edge
abbrev pub Faults : List ℕ → WalkError → Fault → Type 0
Faults p errors.NoMemory f = Unit {0}
Faults p (errors.Stuck q c) f = (q ≡ p ++ f.prefix) × (c ≡ f.cause)

-- the first edge that a walk gives
abbrev pub GivesEdge : Walk → Edge → Type 0
GivesEdge w (at_leaf k c) =
    (w.inline ≡ true) × (map pair_of w.pairs.items ≡ (k, c) ∷ []) × (w.unknown.items ≡ []) × (slice_of w.rest ≡ c)
GivesEdge w (at_fork es after) =
    (w.inline ≡ false) × (map pair_of w.pairs.items ≡ pairs_in es) × (w.unknown.items ≡ hidden_in es)
    × (slice_of w.rest ≡ after)

abbrev pub GivesWalk : Result Walk WalkError → Result Edge Fault → Type 0
GivesWalk (Ok w) (Ok e) = GivesEdge w e
GivesWalk (Ok w) (Err f) = ⊥
GivesWalk (Err errors.NoMemory) r = Unit {0}
GivesWalk (Err (errors.Stuck q c)) (Ok e) = ⊥
GivesWalk (Err (errors.Stuck q c)) (Err f) = (q ≡ f.prefix) × (c ≡ f.cause)

-- what an answer of a walk means
abbrev pub Means : Bool → Mode → ℕ → Slice → Result Walk WalkError → Type 0
Means closed mode n s (Ok w) = (e : Edge) × IsTop closed mode n s e × GivesEdge w e
Means closed mode n s (Err errors.NoMemory) = Unit {0}
Means closed mode n s (Err (errors.Stuck q c)) = HaltsTop closed mode n s (record { prefix = q; cause = c })
