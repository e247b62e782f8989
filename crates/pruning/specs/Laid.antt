-- A value as it lies in a tree: beside each reference stands the cell that it leads to, and a map stands as the edges
-- of its dictionary.
use Rattle.std.specs.Prelude.{Bool, ℕ, List, [], ◌∷◌, ◌++◌, Option}
use Rattle.cell_nodes.specs.declared.tree.Tree.{Tree}
use Rattle.typed_value.specs.Values.{Slice, Plain, Plains, PlainPairs, no_vals, a_val, no_pairs, a_pair}
use Rattle.typed_value.specs.Values as values

mutual
  pub data Laid : Type 0 where
    number : Bool → ℕ → Laid
    bit_string : List ℕ → Laid
    record_of : Option (List ℕ) → List (List ℕ) → Laids → Laid
    absent : Laid
    list_of : Laids → Laid
    -- a reference to this cell, which holds the value; a reference to this cell as it is
    ref_to : Tree → Laid → Laid
    ref_to_raw : Tree → Laid
    -- a map without entries; one whose first edge is the cell of HashmapE's reference; one whose first edge is in place
    no_map : Laid
    map_under : Tree → LaidEdge → Laid
    map_here : LaidEdge → Laid
    -- all that was left of the cell
    rest : Slice → Laid

  pub data Laids : Type 0 where
    no_laids : Laids
    a_laid : Laid → Laids → Laids

  -- an edge by its label: a leaf with its value, or a fork with the cells and the edges that go on with 0 and with 1
  pub data LaidEdge : Type 0 where
    a_leaf : List ℕ → Laid → LaidEdge
    a_fork : List ℕ → Tree → LaidEdge → Tree → LaidEdge → LaidEdge

-- pairs and then others, and pairs with bits before each key
abbrev pub join : PlainPairs → PlainPairs → PlainPairs
join no_pairs qs = qs
join (a_pair k v ps) qs = a_pair k v (join ps qs)

abbrev pub below : List ℕ → PlainPairs → PlainPairs
below p no_pairs = no_pairs
below p (a_pair k v ps) = a_pair (p ++ k) v (below p ps)

-- the value
abbrev mutual
  pub plain : Laid → Plain
  plain (number negative size) = values.number negative size
  plain (bit_string bits) = values.bit_string bits
  plain (record_of name names ds) = values.record_of name names (plain_all ds)
  plain absent = values.absent
  plain (list_of ds) = values.list_of (plain_all ds)
  plain (ref_to c d) = values.ref_to tt (plain d)
  plain (ref_to_raw c) = values.ref_to tt (values.raw c)
  plain no_map = values.map_of tt no_pairs []
  plain (map_under c e) = values.map_of tt (plain_pairs e) []
  plain (map_here e) = values.map_of tt (plain_pairs e) []
  plain (rest s) = values.rest s

  pub plain_all : Laids → Plains
  plain_all no_laids = no_vals
  plain_all (a_laid d ds) = a_val (plain d) (plain_all ds)

  -- with the bits of keys from the edge's label on
  pub plain_pairs : LaidEdge → PlainPairs
  plain_pairs (a_leaf l d) = a_pair l (plain d) no_pairs
  plain_pairs (a_fork l z a o b) = join (below (l ++ 0 ∷ []) (plain_pairs a)) (below (l ++ 1 ∷ []) (plain_pairs b))

-- the references that the value takes in the cell that it begins in
abbrev mutual
  pub trees : Laid → List Tree
  trees (number negative size) = []
  trees (bit_string bits) = []
  trees (record_of name names ds) = trees_all ds
  trees absent = []
  trees (list_of ds) = trees_all ds
  trees (ref_to c d) = c ∷ []
  trees (ref_to_raw c) = c ∷ []
  trees no_map = []
  trees (map_under c e) = c ∷ []
  trees (map_here e) = edge_trees e
  trees (rest s) = s.refs

  pub trees_all : Laids → List Tree
  trees_all no_laids = []
  trees_all (a_laid d ds) = trees d ++ trees_all ds

  pub edge_trees : LaidEdge → List Tree
  edge_trees (a_leaf l d) = trees d
  edge_trees (a_fork l z a o b) = z ∷ (o ∷ [])
