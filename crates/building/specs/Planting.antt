-- The tree of a dictionary, built bit by bit along the keys: for each edge its left part, its right part, and then the
-- edge itself, its label before its references. The first fault is the answer.
--
-- Source: TVM whitepaper, section 3.3, and the TON documentation on hashmaps.
use Rattle.std.specs.Prelude.{ℕ, zero, suc, ◌+◌, Bool, true, false, ◌||◌, if◌then◌else◌, nat_lt, nat_eq, List, [], ◌∷◌, ◌++◌, length, replicate, Result, Ok, Err}
use Rattle.bit_slice.specs.Bits.{bit_length, spelled}
use Rattle.cell_nodes.specs.Constructed.{pruned_of}
use Rattle.cell_nodes.specs.declared.tree.Tree.{Tree}
use Rattle.hashmap_labels.specs.Labels.{required_form}
use Rattle.hashmap_labels.specs.declared.forms.LabelForm.{LabelForm}
use Rattle.hashmap_labels.specs.declared.forms.LabelForm.TheVariants.{Short, Long, Same}
use Rattle.hashmap_tree.specs.Entries.{Slice, cell_of, Part, leaf, hidden, Entries}
use Rattle.hashmap_tree.specs.Exceeds.{Excess, full, deep, beneath, first_key}
use Rattle.building.specs.Growing.{is_deep}

infixl 10 ◌>>=◌
abbrev pub ◌>>=◌ : {A B : Type 0} → Result A Excess → (A → Result B Excess) → Result B Excess
(Ok x) >>= f = f x
(Err e) >>= f = Err e

-- ---- labels in their required form

abbrev pub first_bit : List ℕ → ℕ
first_bit [] = 0
first_bit (b ∷ bits) = b

-- a label of these bits in a form, and then the rest; a length takes k bits
abbrev pub in_form : LabelForm → ℕ → List ℕ → List ℕ → List ℕ
in_form Short k bits rest = 0 ∷ (replicate (length bits) 1 ++ (0 ∷ (bits ++ rest)))
in_form Long k bits rest = 1 ∷ (0 ∷ (spelled k (length bits) ++ (bits ++ rest)))
in_form Same k bits rest = 1 ∷ (1 ∷ (first_bit bits ∷ (spelled k (length bits) ++ rest)))

-- the label of at most n bits, and then the rest
abbrev pub labeled : ℕ → List ℕ → List ℕ → List ℕ
labeled n bits rest = in_form (required_form n bits) (bit_length n) bits rest

-- ---- the parts of an edge

-- an edge whose parts are built: its label, and the content of its leaf or the two cells of its fork
pub data Top : Type 0 where
  leaf_top : List ℕ → Slice → Top
  fork_top : List ℕ → Tree → Tree → Top

-- the content of the edge for keys of n bits
abbrev pub content_of : ℕ → Top → Slice
content_of n (leaf_top l c) = record { bits = labeled n l c.bits; refs = c.refs }
content_of n (fork_top l z o) = record { bits = labeled n l []; refs = z ∷ o ∷ [] }

-- a cell of the fork can't stand below another
abbrev pub has_deep : Top → Bool
has_deep (leaf_top l c) = false
has_deep (fork_top l z o) = is_deep z || is_deep o

-- the edge itself, of which this is the first key: its label with what follows it, and then its references
abbrev pub edge_of : ℕ → List ℕ → Top → Result Slice Excess
edge_of n key top =
    if nat_lt 1023 (length (content_of n top).bits) then Err (full key)
    else if has_deep top then Err deep
    else Ok (content_of n top)

-- the entries whose key begins with this bit, without it
abbrev pub with_bit : ℕ → List ℕ → Part → Entries → Entries
with_bit b [] x es = es
with_bit b (c ∷ k) x es = if nat_eq b c then (k, x) ∷ es else es

abbrev pub side : ℕ → Entries → Entries
side b [] = []
side b (e ∷ es) = with_bit b e.0 e.1 (side b es)

-- an edge for keys of so many bits more, by its label so far and its entries
abbrev pub Planter : Type 0
Planter = List ℕ → Entries → Result Top Excess

abbrev pub reported_below : {A : Type 0} → List ℕ → Result A Excess → Result A Excess
reported_below p (Ok x) = Ok x
reported_below p (Err f) = Err (beneath p f)

abbrev pub cell_from : ℕ → Entries → Result Top Excess → Result Tree Excess
cell_from m es r = r >>= λ top. edge_of m (first_key es) top >>= λ s. Ok (cell_of s)

-- the cell of one part of a fork, for keys of m bits; a hidden part may be too deep
abbrev pub part_of : Planter → ℕ → Entries → Result Tree Excess
part_of E m (([], hidden h) ∷ es) = if nat_lt 1024 h.depth then Err deep else Ok (pruned_of h.hash h.depth)
part_of E m es = cell_from m es (E [] es)

abbrev pub fork_of : Planter → ℕ → List ℕ → Entries → Entries → Result Top Excess
fork_of E m l zs os = do
  z ← reported_below (l ++ 0 ∷ []) (part_of E m zs)
  o ← reported_below (l ++ 1 ∷ []) (part_of E m os)
  Ok (fork_top l z o)

-- where all keys go on with one bit it lengthens the label
abbrev pub sides_of : Planter → ℕ → List ℕ → Entries → Entries → Result Top Excess
sides_of E m l [] os = E (l ++ 1 ∷ []) os
sides_of E m l (z ∷ zs) [] = E (l ++ 0 ∷ []) (z ∷ zs)
sides_of E m l (z ∷ zs) (o ∷ os) = fork_of E m l (z ∷ zs) (o ∷ os)

abbrev pub leaf_of : Planter
leaf_of l ((k, leaf c) ∷ es) = Ok (leaf_top l c)
leaf_of l ((k, hidden h) ∷ es) = Err deep
leaf_of l [] = Err deep

-- keys of n bits after the label so far; the last two lines of leaf_of are never met where the entries fit
abbrev pub tops : ℕ → Planter
tops zero l es = leaf_of l es
tops (suc n) l es = sides_of (tops n) n l (side 0 es) (side 1 es)

-- the content of the first edge
abbrev pub planting : ℕ → Entries → Result Slice Excess
planting n es = do
  top ← tops n [] es
  edge_of n (first_key es) top
