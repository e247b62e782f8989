-- Values as data. The ten forms are this project's own.
use Rattle.std.specs.Prelude.{ℕ, ◌+◌, max, min, Bool, List, Option}
use Rattle.cell_nodes.specs.declared.tree.Tree.{Tree}
use Rattle.cell_nodes.specs.declared.tree.Hidden.{Hidden}

-- bits and references: what is left of a cell (TVM whitepaper, section 3.1)
pub record Slice : Type 0 where
  pub bits : List ℕ
  pub refs : List Tree

-- An A stands beside each reference and each map, so that a statement can say what a value was read from.
mutual
  pub data Val (A : Type 0) : Type 0 where
    -- whether it is negative, and its size
    number : Bool → ℕ → Val A
    bit_string : List ℕ → Val A
    -- the constructor's name (none for a record inside a record), the names of the fields, and their values
    record_of : Option (List ℕ) → List (List ℕ) → Vals A → Val A
    absent : Val A
    list_of : Vals A → Val A
    -- a reference to a cell that holds this value
    ref_to : A → Val A → Val A
    -- a hidden part, by the hash and the depth that stand in its place
    unknown : Hidden → Val A
    -- values by key, and hidden parts by the prefix of their keys, both in the order of bits
    map_of : A → Pairs A → List (List ℕ × Hidden) → Val A
    -- a cell as it is
    raw : Tree → Val A
    -- all that was left of a cell
    rest : Slice → Val A

  pub data Vals (A : Type 0) : Type 0 where
    no_vals : Vals A
    a_val : Val A → Vals A → Vals A

  pub data Pairs (A : Type 0) : Type 0 where
    no_pairs : Pairs A
    a_pair : List ℕ → Val A → Pairs A → Pairs A

-- values as the program has them: nothing stands beside a reference or a map
abbrev pub Plain : Type 0
Plain = Val (Unit {0})

abbrev pub Plains : Type 0
Plains = Vals (Unit {0})

abbrev pub PlainPairs : Type 0
PlainPairs = Pairs (Unit {0})

-- how deep values stand in one another; a value that stands alone has one level
abbrev mutual
  pub levels : {A : Type 0} → Val A → ℕ
  levels (number negative size) = 1
  levels (bit_string bits) = 1
  levels (record_of name names vs) = 1 + levels_in vs
  levels absent = 1
  levels (list_of vs) = 1 + levels_in vs
  levels (ref_to a v) = 1 + levels v
  levels (unknown h) = 1
  levels (map_of a ps us) = 1 + levels_by ps
  levels (raw c) = 1
  levels (rest s) = 1

  pub levels_in : {A : Type 0} → Vals A → ℕ
  levels_in no_vals = 0
  levels_in (a_val v vs) = max (levels v) (levels_in vs)

  pub levels_by : {A : Type 0} → Pairs A → ℕ
  levels_by no_pairs = 0
  levels_by (a_pair k v ps) = max (levels v) (levels_by ps)

-- how many values a value is made of, itself included
abbrev mutual
  pub parts : {A : Type 0} → Val A → ℕ
  parts (number negative size) = 1
  parts (bit_string bits) = 1
  parts (record_of name names vs) = 1 + parts_in vs
  parts absent = 1
  parts (list_of vs) = 1 + parts_in vs
  parts (ref_to a v) = 1 + parts v
  parts (unknown h) = 1
  parts (map_of a ps us) = 1 + parts_by ps
  parts (raw c) = 1
  parts (rest s) = 1

  pub parts_in : {A : Type 0} → Vals A → ℕ
  parts_in no_vals = 0
  parts_in (a_val v vs) = parts v + parts_in vs

  pub parts_by : {A : Type 0} → Pairs A → ℕ
  parts_by no_pairs = 0
  parts_by (a_pair k v ps) = parts v + parts_by ps

-- the most levels of a value, and the most parts
abbrev pub most_levels : ℕ
most_levels = 2304

abbrev pub most_parts : ℕ
most_parts = 1048576

-- a count that stops one past its limit
abbrev pub stopped : ℕ → ℕ → ℕ
stopped most n = min n (most + 1)
