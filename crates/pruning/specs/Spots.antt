-- The references of a reading that can be pruned, and which of them chosen paths keep. This project's own.
use Rattle.std.specs.Prelude.{Bool, true, false, ◌&&◌, ◌||◌, ℕ, suc, ◌+◌, nat_eq, bytes_eq, List, []}
use Rattle.std.specs.Prelude.{◌∷◌, ◌++◌, length, Option, Some, None, filter, not}
use Rattle.cell_nodes.specs.declared.tree.Tree.{Tree}
use Rattle.schema_leads.specs.Leads.{begins}
use Rattle.typed_value.specs.Paths.{Stride, named, item, keyed}
use Rattle.pruning.specs.Laid.{Laid, number, bit_string, record_of, absent, list_of, ref_to, ref_to_raw, no_map}
use Rattle.pruning.specs.Laid.{map_under, map_here, rest, Laids, no_laids, a_laid, LaidEdge, a_leaf, a_fork, trees}
use Rattle.pruning.specs.SpellsLaid.{LaidRoot, as_it_is, laid}

pub record Spot : Type 0 where
  -- in the tree, from the root down: which child, from 0
  pub position : List ℕ
  -- the path of the value that stands there, or of the map
  pub path : List Stride
  -- how many references `^` stand around it at that same path
  pub around : ℕ
  -- of a dictionary: what the keys below the reference begin with
  pub prefix : Option (List ℕ)
  pub tree : Tree

-- where a value begins: the position of its cell, the number of the next reference there, its path, and the references
-- around it at that path
pub record Where : Type 0 where
  pub cell : List ℕ
  pub next : ℕ
  pub path : List Stride
  pub around : ℕ

abbrev pub at_root : Where
at_root = record { cell = []; next = 0; path = []; around = 0 }

-- one step on in the value, in the same cell
abbrev pub stepped : Where → Stride → Where
stepped w s = record { cell = w.cell; next = w.next; path = w.path ++ s ∷ []; around = 0 }

-- behind so many references
abbrev pub past : Where → ℕ → Where
past w n = record { cell = w.cell; next = w.next + n; path = w.path; around = w.around }

-- in the cell of the next reference, which is one of a dictionary, or one `^`
abbrev pub in_edge : Where → Where
in_edge w = record { cell = w.cell ++ w.next ∷ []; next = 0; path = w.path; around = w.around }

abbrev pub in_ref : Where → Where
in_ref w = record { cell = w.cell ++ w.next ∷ []; next = 0; path = w.path; around = suc w.around }

-- the next reference
abbrev pub spot : Where → Option (List ℕ) → Tree → Spot
spot w q c = record { position = w.cell ++ w.next ∷ []; path = w.path; around = w.around; prefix = q; tree = c }

abbrev pub first_name : List (List ℕ) → List ℕ
first_name [] = []
first_name (x ∷ names) = x

abbrev pub other_names : List (List ℕ) → List (List ℕ)
other_names [] = []
other_names (x ∷ names) = names

-- in the order of reading: the edges of a dictionary in preorder, and then its values by key
abbrev mutual
  pub spots : Where → Laid → List Spot
  spots w (number negative size) = []
  spots w (bit_string bits) = []
  spots w (record_of name names ds) = spots_fields w names ds
  spots w absent = []
  spots w (list_of ds) = spots_items w 0 ds
  spots w (ref_to c d) = spot w None c ∷ spots (in_ref w) d
  spots w (ref_to_raw c) = spot w None c ∷ []
  spots w no_map = []
  spots w (map_under c e) = spot w (Some []) c ∷ (edge_spots (in_edge w) [] e ++ value_spots (in_edge w) [] e)
  spots w (map_here e) = edge_spots w [] e ++ value_spots w [] e
  spots w (rest s) = []

  pub spots_fields : Where → List (List ℕ) → Laids → List Spot
  spots_fields w names no_laids = []
  spots_fields w names (a_laid d ds) =
      spots (stepped w (named (first_name names))) d ++ spots_fields (past w (length (trees d))) (other_names names) ds

  pub spots_items : Where → ℕ → Laids → List Spot
  spots_items w i no_laids = []
  spots_items w i (a_laid d ds) = spots (stepped w (item i)) d ++ spots_items (past w (length (trees d))) (suc i) ds

  -- of the references of the edges below an edge whose keys begin with q
  pub edge_spots : Where → List ℕ → LaidEdge → List Spot
  edge_spots w q (a_leaf l d) = []
  edge_spots w q (a_fork l z a o b) =
      (spot w (Some (q ++ (l ++ 0 ∷ []))) z ∷ edge_spots (in_edge w) (q ++ (l ++ 0 ∷ [])) a)
      ++ (spot (past w 1) (Some (q ++ (l ++ 1 ∷ []))) o ∷ edge_spots (in_edge (past w 1)) (q ++ (l ++ 1 ∷ [])) b)

  -- of the values below it
  pub value_spots : Where → List ℕ → LaidEdge → List Spot
  value_spots w q (a_leaf l d) = spots (stepped w (keyed (q ++ l))) d
  value_spots w q (a_fork l z a o b) =
      value_spots (in_edge w) (q ++ (l ++ 0 ∷ [])) a ++ value_spots (in_edge (past w 1)) (q ++ (l ++ 1 ∷ [])) b

-- the root is none of them, and a root cell as it is has none
abbrev pub spots_of : LaidRoot → List Spot
spots_of (as_it_is c) = []
spots_of (laid d) = spots at_root d

-- ---- chosen paths

abbrev pub same_stride : Stride → Stride → Bool
same_stride (named x) (named y) = bytes_eq x y
same_stride (named x) (item j) = false
same_stride (named x) (keyed k) = false
same_stride (item i) (named y) = false
same_stride (item i) (item j) = nat_eq i j
same_stride (item i) (keyed k) = false
same_stride (keyed k) (named y) = false
same_stride (keyed k) (item j) = false
same_stride (keyed k) (keyed l) = bytes_eq k l

-- whether the second path begins with the first
abbrev pub is_prefix : List Stride → List Stride → Bool
is_prefix [] path = true
is_prefix (s ∷ steps) [] = false
is_prefix (s ∷ steps) (t ∷ path) = same_stride s t && is_prefix steps path

-- whether the path goes on with a key that begins with q, and any further steps
abbrev pub takes_key : List ℕ → List Stride → Bool
takes_key q [] = false
takes_key q (named x ∷ steps) = false
takes_key q (item i ∷ steps) = false
takes_key q (keyed k ∷ steps) = begins q k

-- whether the second path is the first, followed by a key that begins with q and any further steps
abbrev pub enters : List ℕ → List Stride → List Stride → Bool
enters q [] path = takes_key q path
enters q (s ∷ steps) [] = false
enters q (s ∷ steps) (t ∷ path) = same_stride s t && enters q steps path

abbrev pub needs : List Stride → Spot → Option (List ℕ) → Bool
needs path x None = is_prefix path x.path || is_prefix x.path path
needs path x (Some q) = is_prefix path x.path || enters q x.path path

-- one of the chosen paths keeps it
abbrev pub kept : List (List Stride) → Spot → Bool
kept [] x = false
kept (path ∷ paths) x = needs path x x.prefix || kept paths x

-- those that no chosen path keeps
abbrev pub unless_kept : List (List Stride) → Spot → Bool
unless_kept paths x = not (kept paths x)

abbrev pub unkept : List (List Stride) → List Spot → List Spot
unkept paths xs = filter (unless_kept paths) xs
