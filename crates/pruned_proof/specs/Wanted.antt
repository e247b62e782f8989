-- What is left of chosen paths on the way through a value, and what a value's references are then cut to.
use Rattle.std.specs.Prelude.{Bool, true, false, ◌||◌, if◌then◌else◌, ℕ, suc, List, [], ◌∷◌, ◌++◌, Option, Some, None}
use Rattle.cell_nodes.specs.Constructed.{stub}
use Rattle.cell_nodes.specs.declared.tree.Tree.{Tree}
use Rattle.typed_value.specs.Paths.{Stride, named, item, keyed}
use Rattle.pruning.specs.Cut.{cell_with}
use Rattle.pruning.specs.Laid.{Laid, number, bit_string, record_of, absent, list_of, ref_to, ref_to_raw, no_map}
use Rattle.pruning.specs.Laid.{map_under, map_here, rest, Laids, no_laids, a_laid, LaidEdge, a_leaf, a_fork}
use Rattle.pruning.specs.SpellsLaid.{LaidRoot, as_it_is, laid}
use Rattle.pruning.specs.Spots.{same_stride, takes_key, first_name, other_names}

-- of each path that leads to a value or through it, the steps that are left from there on; of one that ends before it, none
abbrev pub Rests : Type 0
Rests = List (List Stride)

abbrev pub is_nothing : Rests → Bool
is_nothing [] = true
is_nothing (path ∷ k) = false

-- a path ends at the value or before it
abbrev pub is_empty : List Stride → Bool
is_empty [] = true
is_empty (s ∷ path) = false

abbrev pub is_whole : Rests → Bool
is_whole [] = false
is_whole (path ∷ k) = is_empty path || is_whole k

-- what a step or an edge leaves of one, if anything, and of all
abbrev pub add : Option (List Stride) → Rests → Rests
add None k = k
add (Some path) k = path ∷ k

abbrev pub each : (List Stride → Option (List Stride)) → Rests → Rests
each f [] = []
each f (path ∷ k) = add (f path) (each f k)

abbrev pub advanced : Stride → List Stride → Option (List Stride)
advanced s [] = Some []
advanced s (t ∷ path) = if same_stride s t then Some path else None

abbrev pub entering : List ℕ → List Stride → Option (List Stride)
entering q [] = Some []
entering q (t ∷ path) = if takes_key q (t ∷ path) then Some (t ∷ path) else None

-- from the value that a step leads to
abbrev pub onward : Stride → Rests → Rests
onward s = each (advanced s)

-- from a map on, those that go on with a key that the prefix begins
abbrev pub below : List ℕ → Rests → Rests
below q = each (entering q)

-- ---- the references that a value is left with

abbrev pub cut_at : Rests → Tree → List Tree → Tree
cut_at k c refs = if is_nothing k then stub c 0 else cell_with c refs

abbrev mutual
  pub cut_for : Rests → Laid → List Tree
  cut_for k (number negative size) = []
  cut_for k (bit_string bits) = []
  cut_for k (record_of name names ds) = cut_fields_for k names ds
  cut_for k absent = []
  cut_for k (list_of ds) = cut_items_for k 0 ds
  cut_for k (ref_to c d) = cut_at k c (cut_for k d) ∷ []
  cut_for k (ref_to_raw c) = (if is_nothing k then stub c 0 else c) ∷ []
  cut_for k no_map = []
  cut_for k (map_under c e) = cut_at (below [] k) c (cut_edge_for (below [] k) [] e) ∷ []
  cut_for k (map_here e) = cut_edge_for k [] e
  cut_for k (rest s) = s.refs

  pub cut_fields_for : Rests → List (List ℕ) → Laids → List Tree
  cut_fields_for k names no_laids = []
  cut_fields_for k names (a_laid d ds) =
      cut_for (onward (named (first_name names)) k) d ++ cut_fields_for k (other_names names) ds

  pub cut_items_for : Rests → ℕ → Laids → List Tree
  cut_items_for k i no_laids = []
  cut_items_for k i (a_laid d ds) = cut_for (onward (item i) k) d ++ cut_items_for k (suc i) ds

  -- an edge whose keys begin with q
  pub cut_edge_for : Rests → List ℕ → LaidEdge → List Tree
  cut_edge_for k q (a_leaf l d) = cut_for (onward (keyed (q ++ l)) k) d
  cut_edge_for k q (a_fork l z a o b) =
      cut_at (below (q ++ (l ++ 0 ∷ [])) k) z (cut_edge_for (below (q ++ (l ++ 0 ∷ [])) k) (q ++ (l ++ 0 ∷ [])) a)
      ∷ (cut_at (below (q ++ (l ++ 1 ∷ [])) k) o
      (cut_edge_for (below (q ++ (l ++ 1 ∷ [])) k) (q ++ (l ++ 1 ∷ [])) b)
      ∷ [])

-- the tree with what no path needs to be shown hidden
abbrev pub cut_root_for : Rests → LaidRoot → Tree → Tree
cut_root_for k (as_it_is x) c = c
cut_root_for k (laid d) c = cell_with c (cut_for k d)
