-- A laid value with parts hidden: what is left of it where a choice says which spots are, and any choice as a relation
-- between the references that it takes and the value that these spell.
use Rattle.std.specs.Prelude.{if◌then◌else◌, ◌≡◌, ◌⊎◌, ℕ, suc, List, [], ◌∷◌, ◌++◌, length, Some, None}
use Rattle.cell_nodes.specs.Constructed.{stub}
use Rattle.cell_nodes.specs.declared.tree.Tree.{Tree}
use Rattle.typed_value.specs.Paths.{named, item, keyed}
use Rattle.typed_value.specs.Values.{Plain, Plains, PlainPairs, no_vals, a_val, no_pairs, a_pair}
use Rattle.typed_value.specs.Values as values
use Rattle.pruning.specs.Laid.{Laid, number, bit_string, record_of, absent, list_of, ref_to, ref_to_raw, no_map}
use Rattle.pruning.specs.Laid.{map_under, map_here, rest, Laids, no_laids, a_laid, LaidEdge, a_leaf, a_fork, join}
use Rattle.pruning.specs.Laid.{below, trees}
use Rattle.pruning.specs.SpellsLaid.{LaidRoot, as_it_is, laid}
use Rattle.pruning.specs.Spots.{Where, at_root, stepped, past, in_edge, in_ref, spot, first_name, other_names}
use Rattle.pruning.specs.Blanked.{KeyPart, hidden_of}
use Rattle.pruning.specs.Cut.{Choice, cell_with}

-- ---- values

-- what is left of a map's edge: pairs, and hidden parts, with the bits of keys from the edge on
pub record Parts : Type 0 where
  pub pairs : PlainPairs
  pub unknown : List KeyPart

abbrev pub below_parts : List ℕ → List KeyPart → List KeyPart
below_parts p [] = []
below_parts p (u ∷ us) = (p ++ u.0, u.1) ∷ below_parts p us

abbrev pub leaf_part : List ℕ → Plain → Parts
leaf_part l v = record { pairs = a_pair l v no_pairs; unknown = [] }

abbrev pub fork_part : List ℕ → Parts → Parts → Parts
fork_part l x y = record {
  pairs = join (below (l ++ 0 ∷ []) x.pairs) (below (l ++ 1 ∷ []) y.pairs);
  unknown = below_parts (l ++ 0 ∷ []) x.unknown ++ below_parts (l ++ 1 ∷ []) y.unknown;
}

abbrev pub hidden_part : Tree → Parts
hidden_part c = record { pairs = no_pairs; unknown = ([], hidden_of c) ∷ [] }

abbrev pub map_with : Parts → Plain
map_with x = values.map_of tt x.pairs x.unknown

abbrev mutual
  pub blank : Choice → Where → Laid → Plain
  blank f w (number negative size) = values.number negative size
  blank f w (bit_string bits) = values.bit_string bits
  blank f w (record_of name names ds) = values.record_of name names (blank_fields f w names ds)
  blank f w absent = values.absent
  blank f w (list_of ds) = values.list_of (blank_items f w 0 ds)
  blank f w (ref_to c d) =
      if f (spot w None c) then values.unknown (hidden_of c) else values.ref_to tt (blank f (in_ref w) d)
  blank f w (ref_to_raw c) =
      if f (spot w None c) then values.unknown (hidden_of c) else values.ref_to tt (values.raw c)
  blank f w no_map = values.map_of tt no_pairs []
  blank f w (map_under c e) =
      map_with (if f (spot w (Some []) c) then hidden_part c else blank_edge f (in_edge w) [] e)
  blank f w (map_here e) = map_with (blank_edge f w [] e)
  blank f w (rest s) = values.rest s

  pub blank_fields : Choice → Where → List (List ℕ) → Laids → Plains
  blank_fields f w names no_laids = no_vals
  blank_fields f w names (a_laid d ds) =
      a_val (blank f (stepped w (named (first_name names))) d)
      (blank_fields f (past w (length (trees d))) (other_names names) ds)

  pub blank_items : Choice → Where → ℕ → Laids → Plains
  blank_items f w i no_laids = no_vals
  blank_items f w i (a_laid d ds) =
      a_val (blank f (stepped w (item i)) d) (blank_items f (past w (length (trees d))) (suc i) ds)

  pub blank_edge : Choice → Where → List ℕ → LaidEdge → Parts
  blank_edge f w q (a_leaf l d) = leaf_part l (blank f (stepped w (keyed (q ++ l))) d)
  blank_edge f w q (a_fork l z a o b) =
      fork_part l
      (if f (spot w (Some (q ++ (l ++ 0 ∷ []))) z) then hidden_part z
      else blank_edge f (in_edge w) (q ++ (l ++ 0 ∷ [])) a)
      (if f (spot (past w 1) (Some (q ++ (l ++ 1 ∷ []))) o) then hidden_part o
      else blank_edge f (in_edge (past w 1)) (q ++ (l ++ 1 ∷ [])) b)

abbrev pub blank_root : Choice → LaidRoot → Plain
blank_root f (as_it_is c) = values.raw c
blank_root f (laid d) = blank f at_root d

-- ---- both at once, for any choice

-- what may stand for the references of a rest, and for a cell as it is
abbrev pub ForRest : Type 1
ForRest = List Tree → List Tree → Type 0

abbrev pub ForRaw : Type 1
ForRaw = Tree → Tree → Type 0

-- the cell of an edge is hidden, or goes on with other references
abbrev pub CutsCell : (List Tree → Parts → Type 0) → Tree → Tree → Parts → Type 0
CutsCell E c p x =
    ((p ≡ stub c 0) × (x ≡ hidden_part c)) ⊎ ((qs : List Tree) × (p ≡ cell_with c qs) × E qs x)

abbrev mutual
  -- a laid value, the references that it takes where parts are hidden, and the value that these spell
  pub Cuts : ForRest → ForRaw → Laid → List Tree → Plain → Type 0
  Cuts K R (number negative size) ps w = (ps ≡ []) × (w ≡ values.number negative size)
  Cuts K R (bit_string bits) ps w = (ps ≡ []) × (w ≡ values.bit_string bits)
  Cuts K R (record_of name names ds) ps w = (ws : Plains) × (w ≡ values.record_of name names ws) × CutsAll K R ds ps ws
  Cuts K R absent ps w = (ps ≡ []) × (w ≡ values.absent)
  Cuts K R (list_of ds) ps w = (ws : Plains) × (w ≡ values.list_of ws) × CutsAll K R ds ps ws
  Cuts K R (ref_to c d) ps w =
      ((ps ≡ stub c 0 ∷ []) × (w ≡ values.unknown (hidden_of c)))
      ⊎ ((qs : List Tree) × (u : Plain) × (ps ≡ cell_with c qs ∷ []) × (w ≡ values.ref_to tt u) × Cuts K R d qs u)
  Cuts K R (ref_to_raw c) ps w =
      ((ps ≡ stub c 0 ∷ []) × (w ≡ values.unknown (hidden_of c)))
      ⊎ ((p : Tree) × (ps ≡ p ∷ []) × (w ≡ values.ref_to tt (values.raw p)) × R c p)
  Cuts K R no_map ps w = (ps ≡ []) × (w ≡ values.map_of tt no_pairs [])
  Cuts K R (map_under c e) ps w =
      (p : Tree) × (x : Parts) × (ps ≡ p ∷ []) × (w ≡ map_with x) × CutsCell (CutsEdge K R e) c p x
  Cuts K R (map_here e) ps w = (x : Parts) × (w ≡ map_with x) × CutsEdge K R e ps x
  Cuts K R (rest s) ps w = K s.refs ps × (w ≡ values.rest (record { bits = s.bits; refs = ps }))

  pub CutsAll : ForRest → ForRaw → Laids → List Tree → Plains → Type 0
  CutsAll K R no_laids ps ws = (ps ≡ []) × (ws ≡ no_vals)
  CutsAll K R (a_laid d ds) ps ws =
      (qs : List Tree) × (rs : List Tree) × (u : Plain) × (us : Plains) × (ps ≡ qs ++ rs) × (ws ≡ a_val u us)
      × Cuts K R d qs u × CutsAll K R ds rs us

  pub CutsEdge : ForRest → ForRaw → LaidEdge → List Tree → Parts → Type 0
  CutsEdge K R (a_leaf l d) ps x = (w : Plain) × (x ≡ leaf_part l w) × Cuts K R d ps w
  CutsEdge K R (a_fork l z a o b) ps x =
      (y : Tree) × (u : Tree) × (A : Parts) × (B : Parts) × (ps ≡ y ∷ (u ∷ [])) × (x ≡ fork_part l A B)
      × CutsCell (CutsEdge K R a) z y A × CutsCell (CutsEdge K R b) o u B
