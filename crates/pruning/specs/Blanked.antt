-- A value with spots blanked: hidden parts stand in the place of references. This project's own.
use Rattle.std.specs.Prelude.{Bool, true, false, ◌&&◌, ◌||◌, if◌then◌else◌, ℕ, suc, nat_eq, nat_lt, List, [], ◌∷◌}
use Rattle.std.specs.Prelude.{◌++◌, length, Option, Some, None}
use Rattle.cell_nodes.specs.Tree.{hash, depth}
use Rattle.cell_nodes.specs.declared.tree.Hidden.{Hidden}
use Rattle.cell_nodes.specs.declared.tree.Tree.{Tree}
use Rattle.hashmap_tree.specs.Merged.{is_before}
use Rattle.schema_leads.specs.Leads.{begins}
use Rattle.typed_value.specs.Paths.{Stride, named, item, keyed}
use Rattle.typed_value.specs.Values.{Plain, Plains, PlainPairs, number, bit_string, record_of, absent, list_of}
use Rattle.typed_value.specs.Values.{ref_to, unknown, map_of, raw, rest, no_vals, a_val, no_pairs, a_pair}
use Rattle.pruning.specs.Spots.{Spot, first_name, other_names, same_stride}

-- what stands in the place of a cell
abbrev pub hidden_of : Tree → Hidden
hidden_of c = record { hash = hash c 0; depth = depth c 0 }

abbrev pub same_path : List Stride → List Stride → Bool
same_path [] [] = true
same_path [] (t ∷ path) = false
same_path (s ∷ steps) [] = false
same_path (s ∷ steps) (t ∷ path) = same_stride s t && same_path steps path

-- ---- one reference

-- the cell of the spot at a path, behind so many references at that path
abbrev pub is_ref_at : List Stride → ℕ → Spot → Option (List ℕ) → Bool
is_ref_at m k x None = same_path x.path m && nat_eq x.around k
is_ref_at m k x (Some q) = false

abbrev pub ref_at : List Stride → ℕ → List Spot → Option Tree
ref_at m k [] = None
ref_at m k (x ∷ xs) = if is_ref_at m k x x.prefix then Some x.tree else ref_at m k xs

abbrev pub blanked_ref : Option Tree → Plain → Plain
blanked_ref None v = ref_to tt v
blanked_ref (Some c) v = unknown (hidden_of c)

-- ---- one map

abbrev pub KeyPart : Type 0
KeyPart = List ℕ × Hidden

abbrev pub with_prefix : Spot → Option (List ℕ) → List KeyPart → List KeyPart
with_prefix x None us = us
with_prefix x (Some q) us = (q, hidden_of x.tree) ∷ us

-- the spots at a path that have a key prefix
abbrev pub edges_at : List Stride → List Spot → List KeyPart
edges_at m [] = []
edges_at m (x ∷ xs) = if same_path x.path m then with_prefix x x.prefix (edges_at m xs) else edges_at m xs

-- whether one of the prefixes begins a key, and whether another one begins a prefix
abbrev pub some_begin : List KeyPart → List ℕ → Bool
some_begin [] key = false
some_begin (u ∷ us) key = begins u.0 key || some_begin us key

abbrev pub others_begin : List KeyPart → List ℕ → Bool
others_begin [] q = false
others_begin (u ∷ us) q = (begins u.0 q && nat_lt (length u.0) (length q)) || others_begin us q

-- those of the second list that no other prefix of the first begins
abbrev pub outer_among : List KeyPart → List KeyPart → List KeyPart
outer_among all [] = []
outer_among all (u ∷ us) = if others_begin all u.0 then outer_among all us else u ∷ outer_among all us

abbrev pub outermost : List KeyPart → List KeyPart
outermost us = outer_among us us

-- hidden parts among others, in the order of bits
abbrev pub put : KeyPart → List KeyPart → List KeyPart
put u [] = u ∷ []
put u (x ∷ xs) = if is_before u.0 x.0 then u ∷ (x ∷ xs) else x ∷ put u xs

abbrev pub put_all : List KeyPart → List KeyPart → List KeyPart
put_all [] xs = xs
put_all (u ∷ us) xs = put u (put_all us xs)

-- ---- values

-- m: the path so far; k: the references met at it
abbrev mutual
  pub blanked : List Spot → List Stride → ℕ → Plain → Plain
  blanked S m k (number negative size) = number negative size
  blanked S m k (bit_string bits) = bit_string bits
  blanked S m k (record_of name names vs) = record_of name names (blanked_fields S m names vs)
  blanked S m k absent = absent
  blanked S m k (list_of vs) = list_of (blanked_items S m 0 vs)
  blanked S m k (ref_to a v) = blanked_ref (ref_at m k S) (blanked S m (suc k) v)
  blanked S m k (unknown h) = unknown h
  blanked S m k (map_of a ps us) =
      map_of tt (blanked_pairs S m (outermost (edges_at m S)) ps) (put_all (outermost (edges_at m S)) us)
  blanked S m k (raw c) = raw c
  blanked S m k (rest s) = rest s

  pub blanked_fields : List Spot → List Stride → List (List ℕ) → Plains → Plains
  blanked_fields S m names no_vals = no_vals
  blanked_fields S m names (a_val v vs) =
      a_val (blanked S (m ++ named (first_name names) ∷ []) 0 v) (blanked_fields S m (other_names names) vs)

  pub blanked_items : List Spot → List Stride → ℕ → Plains → Plains
  blanked_items S m i no_vals = no_vals
  blanked_items S m i (a_val v vs) = a_val (blanked S (m ++ item i ∷ []) 0 v) (blanked_items S m (suc i) vs)

  -- without those whose key begins with one of the prefixes
  pub blanked_pairs : List Spot → List Stride → List KeyPart → PlainPairs → PlainPairs
  blanked_pairs S m us no_pairs = no_pairs
  blanked_pairs S m us (a_pair key v ps) =
      if some_begin us key then blanked_pairs S m us ps
      else a_pair key (blanked S (m ++ keyed key ∷ []) 0 v) (blanked_pairs S m us ps)

abbrev pub Blanked : Plain → List Spot → Plain
Blanked v S = blanked S [] 0 v
