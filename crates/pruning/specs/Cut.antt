-- A laid value with spots hidden: the references that it then takes, and the tree that its cell then is.
use Rattle.std.specs.Prelude.{Bool, if◌then◌else◌, ℕ, suc, List, [], ◌∷◌, ◌++◌, length, Some, None}
use Rattle.cell_nodes.specs.Constructed.{stub}
use Rattle.cell_nodes.specs.Tree.{tree_of}
use Rattle.cell_nodes.specs.declared.tree.Kind.TheVariants.{Ordinary}
use Rattle.cell_nodes.specs.declared.tree.Tree.{Tree, out-Tree}
use Rattle.typed_value.specs.Paths.{named, item, keyed}
use Rattle.pruning.specs.Laid.{Laid, number, bit_string, record_of, absent, list_of, ref_to, ref_to_raw, no_map}
use Rattle.pruning.specs.Laid.{map_under, map_here, rest, Laids, no_laids, a_laid, LaidEdge, a_leaf, a_fork, trees}
use Rattle.pruning.specs.SpellsLaid.{LaidRoot, as_it_is, laid}
use Rattle.pruning.specs.Spots.{Spot, Where, at_root, stepped, past, in_edge, in_ref, spot, first_name, other_names}

-- whether a spot is hidden
abbrev pub Choice : Type 0
Choice = Spot → Bool

abbrev pub cell_with : Tree → List Tree → Tree
cell_with c refs = tree_of Ordinary (out-Tree c).bits refs

abbrev pub cut_cell : Bool → Tree → List Tree → Tree
cut_cell hide c refs = if hide then stub c 0 else cell_with c refs

abbrev mutual
  pub cut : Choice → Where → Laid → List Tree
  cut f w (number negative size) = []
  cut f w (bit_string bits) = []
  cut f w (record_of name names ds) = cut_fields f w names ds
  cut f w absent = []
  cut f w (list_of ds) = cut_items f w 0 ds
  cut f w (ref_to c d) = cut_cell (f (spot w None c)) c (cut f (in_ref w) d) ∷ []
  cut f w (ref_to_raw c) = (if f (spot w None c) then stub c 0 else c) ∷ []
  cut f w no_map = []
  cut f w (map_under c e) = cut_cell (f (spot w (Some []) c)) c (cut_edge f (in_edge w) [] e) ∷ []
  cut f w (map_here e) = cut_edge f w [] e
  cut f w (rest s) = s.refs

  pub cut_fields : Choice → Where → List (List ℕ) → Laids → List Tree
  cut_fields f w names no_laids = []
  cut_fields f w names (a_laid d ds) =
      cut f (stepped w (named (first_name names))) d ++ cut_fields f (past w (length (trees d))) (other_names names) ds

  pub cut_items : Choice → Where → ℕ → Laids → List Tree
  cut_items f w i no_laids = []
  cut_items f w i (a_laid d ds) = cut f (stepped w (item i)) d ++ cut_items f (past w (length (trees d))) (suc i) ds

  pub cut_edge : Choice → Where → List ℕ → LaidEdge → List Tree
  cut_edge f w q (a_leaf l d) = cut f (stepped w (keyed (q ++ l))) d
  cut_edge f w q (a_fork l z a o b) =
      cut_cell (f (spot w (Some (q ++ (l ++ 0 ∷ []))) z)) z (cut_edge f (in_edge w) (q ++ (l ++ 0 ∷ [])) a)
      ∷ (cut_cell (f (spot (past w 1) (Some (q ++ (l ++ 1 ∷ []))) o)) o
      (cut_edge f (in_edge (past w 1)) (q ++ (l ++ 1 ∷ [])) b)
      ∷ [])

-- the tree with spots hidden
abbrev pub cut_root : Choice → LaidRoot → Tree → Tree
cut_root f (as_it_is x) c = c
cut_root f (laid d) c = cell_with c (cut f at_root d)
