-- What the laws say: facts about the definitions alone.
use Rattle.std.specs.Prelude.{◌≡◌, ◌⊎◌, ◌↔◌, ℕ, ◌<◌, Bool, List, [], ◌∷◌, length, Result}
use Rattle.cell_nodes.specs.Good.{AllGood}
use Rattle.cell_nodes.specs.Held.{Held}
use Rattle.cell_nodes.specs.declared.tree.Hidden.{Hidden}
use Rattle.cell_nodes.specs.declared.tree.Mode.{Mode}
use Rattle.cell_nodes.specs.declared.tree.Mode.TheVariants.{Whole, Partial}
use Rattle.hashmap_labels.specs.declared.forms.Forms.TheVariants.{Required}
use Rattle.hashmap_tree.specs.Dict.{DictTree, DictTreeE, forms_of}
use Rattle.hashmap_tree.specs.Entries.{Slice, Entries, Then, leaf, pairs_in, hidden_in}
use Rattle.hashmap_tree.specs.Exceeds.{Excess, Exceeds, IsWithin}
use Rattle.hashmap_tree.specs.First.{Edge, Fork, LeafEdge}
use Rattle.hashmap_tree.specs.Halts.{Halts}
use Rattle.hashmap_tree.specs.Merged.{merged}
use Rattle.hashmap_tree.specs.Order.{InOrder, AreInOrder, leaves}
use Rattle.hashmap_tree.specs.Placed.{AllPlaced, IsHiddenAlone}
use Rattle.hashmap_tree.specs.PlantedLaws.{AllCanHide, IsTreeOrMemory, SameOrMemory}
use Rattle.hashmap_tree.specs.Plants.{Plants}
use Rattle.hashmap_tree.specs.Top.{IsTop, HaltsTop}
use Rattle.hashmap_tree.specs.Walk.{Fault}
use Rattle.hashmap_tree.specs.declared.planting.PlantError.{PlantError}

-- in modes Whole and Partial entries have one content, among those whose references are good cells
abbrev pub OneTree : Type 0
OneTree =
    (mode : Mode) → forms_of mode ≡ Required → (n : ℕ) (es : Entries) (s t : Slice) → AllGood s.refs → AllGood t.refs
    → DictTree mode n es s → DictTree mode n es t → s ≡ t

-- in each mode a content has one list of entries
abbrev pub OneList : Type 0
OneList =
    (mode : Mode) (n : ℕ) (es more : Entries) (s : Slice) → DictTree mode n es s → DictTree mode n more s → es ≡ more

-- pairs in order have a tree
abbrev pub HasTree : Type 0
HasTree =
    (mode : Mode) (n : ℕ) (x : List ℕ × Slice) (xs : List (List ℕ × Slice))
    → InOrder n (x ∷ xs) → (s : Slice) × DictTree mode n (leaves (x ∷ xs)) s

-- a content is the tree of some entries, or a fault is met
abbrev pub TreeOrFault : Type 0
TreeOrFault =
    (mode : Mode) (n : ℕ) (s : Slice) → ((es : Entries) × DictTree mode n es s) ⊎ ((f : Fault) × Halts mode n s f)

-- and not both, and one fault at most
abbrev pub OneFault : Type 0
OneFault =
    (mode : Mode) (n : ℕ) (s : Slice) (f g : Fault) → Halts mode n s f → Halts mode n s g → f ≡ g

abbrev pub NoFaultInTree : Type 0
NoFaultInTree =
    (mode : Mode) (n : ℕ) (es : Entries) (s : Slice) (f : Fault) → DictTree mode n es s → Halts mode n s f → ⊥

-- what a walk answers is one edge, or one fault, and never both
abbrev pub OneEdge : Type 0
OneEdge =
    (closed : Bool) (mode : Mode) (n : ℕ) (s : Slice) (e d : Edge)
    → IsTop closed mode n s e → IsTop closed mode n s d → e ≡ d

abbrev pub OneHalt : Type 0
OneHalt =
    (closed : Bool) (mode : Mode) (n : ℕ) (s : Slice) (f g : Fault)
    → HaltsTop closed mode n s f → HaltsTop closed mode n s g → f ≡ g

abbrev pub NoHaltAtEdge : Type 0
NoHaltAtEdge =
    (closed : Bool) (mode : Mode) (n : ℕ) (s : Slice) (e : Edge) (f : Fault)
    → IsTop closed mode n s e → HaltsTop closed mode n s f → ⊥

-- a fork in place is the tree of its entries, and what follows it
abbrev pub ForkIsTree : Type 0
ForkIsTree =
    (mode : Mode) (n : ℕ) (es : Entries) (s after : Slice)
    → Fork mode n es s after → (u : Slice) × DictTree mode n es u × Then s u after

-- a leaf in place is the tree of its key and each content that what follows its label begins with
abbrev pub LeafIsTree : Type 0
LeafIsTree =
    (mode : Mode) (n : ℕ) (k : List ℕ) (s middle c after : Slice) → LeafEdge mode n k s middle → Then middle c after
    → (u : Slice) × DictTree mode n ((k, leaf c) ∷ []) u × Then s u after

-- ---- planting

-- in a tree each hidden part is a child of a fork
abbrev pub TreeIsPlaced : Type 0
TreeIsPlaced = (mode : Mode) (n : ℕ) (es : Entries) (s : Slice) → DictTree mode n es s → AllPlaced es

-- entries with a tree within the limits exceed none
abbrev pub TreeFits : Type 0
TreeFits =
    (n : ℕ) (es : Entries) (s : Slice) (f : Excess) → DictTree Partial n es s → IsWithin s → Exceeds n es f → ⊥

-- entries that exceed the limits have one first fault
abbrev pub OneExcess : Type 0
OneExcess = (n : ℕ) (es : Entries) (f g : Excess) → Exceeds n es f → Exceeds n es g → f ≡ g

-- contents and hidden parts as one list have their parts, and entries in order are what their parts make
abbrev pub MergedHasParts : Type 0
MergedHasParts =
    (xs : List (List ℕ × Slice)) (us : List (List ℕ × Hidden))
    → (pairs_in (merged xs us) ≡ xs) × (hidden_in (merged xs us) ≡ us)

abbrev pub OrderedIsMerged : Type 0
OrderedIsMerged = (n : ℕ) (es : Entries) → AreInOrder n es → es ≡ merged (pairs_in es) (hidden_in es)

-- entries in order whose hidden parts have a place have a tree
abbrev pub EntriesHaveTree : Type 0
EntriesHaveTree =
    (n : ℕ) (es : Entries) → AreInOrder n es → 0 < length es → AllPlaced es → AllCanHide es
    → (s : Slice) × DictTree Partial n es s

-- without hidden parts the trees in modes Whole and Partial are the same
abbrev pub WholeIsPartial : Type 0
WholeIsPartial =
    (n : ℕ) (es : Entries) (s : Slice) → hidden_in es ≡ [] → DictTree Whole n es s ↔ DictTree Partial n es s

-- where there is a tree within the limits, planting answers with it, or is out of memory
abbrev pub TreeIsPlanted : Type 0
TreeIsPlanted =
    (n : ℕ) (es : Entries) (s : Slice) (r : Result Held PlantError) → DictTree Partial n es s → IsWithin s
    → Plants n es r → IsTreeOrMemory s r

-- planting has one answer at most, but for memory
abbrev pub OneAnswer : Type 0
OneAnswer =
    (n : ℕ) (es : Entries) (q r : Result Held PlantError) → Plants n es q → Plants n es r → SameOrMemory q r

-- ---- dictionaries that may be empty

-- in each mode one list of entries, and one slice that is left
abbrev pub OneListE : Type 0
OneListE =
    (mode : Mode) (n : ℕ) (es more : Entries) (s after rest : Slice)
    → DictTreeE mode n es s after → DictTreeE mode n more s rest → (es ≡ more) × (after ≡ rest)

-- in modes Whole and Partial one slice, among those whose references are good cells
abbrev pub OneTreeE : Type 0
OneTreeE =
    (mode : Mode) → forms_of mode ≡ Required → (n : ℕ) (es : Entries) (s t after : Slice) → AllGood s.refs
    → AllGood t.refs → DictTreeE mode n es s after → DictTreeE mode n es t after → s ≡ t

-- pairs in order have one in each mode
abbrev pub HasTreeE : Type 0
HasTreeE =
    (mode : Mode) (n : ℕ) (xs : List (List ℕ × Slice)) (after : Slice)
    → InOrder n xs → (s : Slice) × DictTreeE mode n (leaves xs) s after

-- and entries in order have one, of which each hidden part has a place, or is the whole dictionary
abbrev pub EntriesHaveTreeE : Type 0
EntriesHaveTreeE =
    (n : ℕ) (es : Entries) (after : Slice) → AreInOrder n es → IsHiddenAlone es ⊎ AllPlaced es → AllCanHide es
    → (s : Slice) × DictTreeE Partial n es s after
