-- The first edge where a walk begins: in place, or as the whole content of a cell, where nothing may follow a fork.
use Rattle.std.specs.Prelude.{◌≡◌, ℕ, ◌-◌, Bool, true, false, ◌&&◌, if◌then◌else◌, nat_eq, List, [], ◌∷◌, length, Result, Ok, Err}
use Rattle.cell_nodes.specs.declared.tree.Tree.{Tree}
use Rattle.hashmap_labels.specs.Reading.{read_label}
use Rattle.hashmap_tree.specs.Dict.{forms_of}
use Rattle.hashmap_tree.specs.Entries.{Slice}
use Rattle.hashmap_tree.specs.Walk.{◌>>=◌, Fault, here, as_fault, Walker, branches, walk}
use Rattle.hashmap_tree.specs.Halts.{Halts}
use Rattle.hashmap_tree.specs.First.{Edge, at_leaf, at_fork, IsEdge, HaltsFirst}
use Rattle.cell_nodes.specs.declared.tree.Mode.{Mode}
use Rattle.hashmap_tree.specs.declared.found.WalkCause.TheVariants as cause

-- nothing follows a fork
abbrev pub Shut : Edge → Type 0
Shut (at_leaf k middle) = Unit {0}
Shut (at_fork es after) = after ≡ record { bits = []; refs = [] }

abbrev pub IsTop : Bool → Mode → ℕ → Slice → Edge → Type 0
IsTop true mode n s e = IsEdge mode n s e × Shut e
IsTop false mode n s e = IsEdge mode n s e

abbrev pub HaltsTop : Bool → Mode → ℕ → Slice → Fault → Type 0
HaltsTop true mode n s f = Halts mode n s f
HaltsTop false mode n s f = HaltsFirst mode n s f

-- ---- as a function

abbrev pub some_left : List ℕ → List Tree → Bool
some_left [] [] = false
some_left _ _ = true

-- both parts of a fork, which leaves what follows
abbrev pub pair_edge : Walker → Mode → ℕ → List ℕ → Tree → Tree → Slice → Result Edge Fault
pair_edge W mode m p z o after = do
  es ← branches W mode m p z o
  Ok (at_fork es after)

-- a fork after its two references; what is left is judged before the edges below
abbrev pub top_pair : Bool → Walker → Mode → ℕ → List ℕ → List ℕ → Tree → Tree → List Tree → Result Edge Fault
top_pair closed W mode m p bits z o ts =
    if closed && some_left bits ts then Err (here cause.Leftover)
    else pair_edge W mode m p z o (record { bits = bits; refs = ts })

abbrev pub top_fork : Bool → Walker → Mode → ℕ → List ℕ → List ℕ → List Tree → Result Edge Fault
top_fork closed W mode m p bits [] = Err (here cause.ShortRefs)
top_fork closed W mode m p bits (z ∷ []) = Err (here cause.ShortRefs)
top_fork closed W mode m p bits (z ∷ o ∷ ts) = top_pair closed W mode m p bits z o ts

abbrev pub at_top : Bool → Mode → ℕ → List ℕ → List ℕ → List Tree → Result Edge Fault
at_top closed mode n p bits refs =
    if nat_eq n (length p) then Ok (at_leaf p (record { bits = bits; refs = refs }))
    else top_fork closed (walk n mode) mode (n - length p - 1) p bits refs

unfoldable pub top_edge : Bool → Mode → ℕ → Slice → Result Edge Fault
top_edge closed mode n s = do
  x ← as_fault (read_label (forms_of mode) n s.bits)
  at_top closed mode n x.0 x.1 s.refs
