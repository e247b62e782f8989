-- The record of the lines that a map has, from its pairs alone. The label of each edge is the first bits that all its
-- keys share.
--
-- Source: the TON documentation on hashmaps; TVM whitepaper, section 3.3.
use Rattle.std.specs.Prelude.{ℕ, zero, suc, ◌-◌, false, List, [], ◌∷◌, length, drop, Some, codes, nat_eq, if◌then◌else◌}
use Rattle.hashmap_labels.specs.Labels.{required_form}
use Rattle.hashmap_labels.specs.declared.forms.LabelForm.{LabelForm}
use Rattle.hashmap_labels.specs.declared.forms.LabelForm.TheVariants.{Short, Long, Same}
use Rattle.typed_value.specs.Values.{Plain, Plains, PlainPairs, number, record_of, list_of, ref_to, absent, no_vals, a_val, no_pairs, a_pair}

-- ---- labels

abbrev pub bit_record : ℕ → Plain
bit_record b = record_of (Some (codes "bit")) (codes "_" ∷ []) (a_val (number false b) no_vals)

abbrev pub bit_records : List ℕ → Plains
bit_records [] = no_vals
bit_records (b ∷ l) = a_val (bit_record b) (bit_records l)

abbrev pub unary_record : ℕ → Plain
unary_record zero = record_of (Some (codes "unary_zero")) [] no_vals
unary_record (suc k) = record_of (Some (codes "unary_succ")) (codes "x" ∷ []) (a_val (unary_record k) no_vals)

abbrev pub first_bit : List ℕ → ℕ
first_bit [] = 0
first_bit (b ∷ l) = b

abbrev pub label_record : LabelForm → List ℕ → Plain
label_record Short l =
    record_of (Some (codes "hml_short")) (codes "len" ∷ codes "s" ∷ [])
    (a_val (unary_record (length l)) (a_val (list_of (bit_records l)) no_vals))
label_record Long l =
    record_of (Some (codes "hml_long")) (codes "n" ∷ codes "s" ∷ [])
    (a_val (number false (length l)) (a_val (list_of (bit_records l)) no_vals))
label_record Same l =
    record_of (Some (codes "hml_same")) (codes "v" ∷ codes "n" ∷ [])
    (a_val (bit_record (first_bit l)) (a_val (number false (length l)) no_vals))

-- ---- edges

-- an edge for keys of n bits: its label in the required form, and its node
abbrev pub edge_record : ℕ → List ℕ → Plain → Plain
edge_record n l node =
    record_of (Some (codes "hm_edge")) (codes "label" ∷ codes "node" ∷ [])
    (a_val (label_record (required_form n l) l) (a_val node no_vals))

abbrev pub leaf_record : Plain → Plain
leaf_record v = record_of (Some (codes "hmn_leaf")) (codes "value" ∷ []) (a_val v no_vals)

abbrev pub fork_record : Plain → Plain → Plain
fork_record left right =
    record_of (Some (codes "hmn_fork")) (codes "left" ∷ codes "right" ∷ [])
    (a_val (ref_to tt left) (a_val (ref_to tt right) no_vals))

-- ---- pairs

-- the first bits that two keys share
abbrev pub shared : List ℕ → List ℕ → List ℕ
shared [] l = []
shared (a ∷ k) [] = []
shared (a ∷ k) (b ∷ l) = if nat_eq a b then a ∷ shared k l else []

abbrev pub last_key : List ℕ → PlainPairs → List ℕ
last_key k no_pairs = k
last_key k (a_pair l v ps) = last_key l ps

-- the first bits that all keys share: keys stand in order, so they are those of the first and the last
abbrev pub common : PlainPairs → List ℕ
common no_pairs = []
common (a_pair k v ps) = shared k (last_key k ps)

abbrev pub with_bit : ℕ → List ℕ → Plain → PlainPairs → PlainPairs
with_bit b [] v ps = ps
with_bit b (c ∷ k) v ps = if nat_eq c b then a_pair k v ps else ps

-- those with this bit after so many bits of their keys, by what follows it
abbrev pub after_bit : ℕ → ℕ → PlainPairs → PlainPairs
after_bit n b no_pairs = no_pairs
after_bit n b (a_pair k v ps) = with_bit b (drop n k) v (after_bit n b ps)

-- ---- maps

-- an edge with two parts, whose records this function gives by the bits of their keys
abbrev pub fork_by : (ℕ → PlainPairs → Plain) → ℕ → List ℕ → PlainPairs → Plain
fork_by part n l ps =
    let m = n - length l - 1 in
    edge_record n l (fork_record (part m (after_bit (length l) 0 ps)) (part m (after_bit (length l) 1 ps)))

abbrev pub edge_by : (ℕ → PlainPairs → Plain) → ℕ → PlainPairs → Plain
edge_by part n no_pairs = absent
edge_by part n (a_pair k v no_pairs) = edge_record n k (leaf_record v)
edge_by part n (a_pair k v (a_pair l w ps)) =
    fork_by part n (common (a_pair k v (a_pair l w ps))) (a_pair k v (a_pair l w ps))

-- of less than so many forks one below the other
abbrev pub edge_within : ℕ → ℕ → PlainPairs → Plain
edge_within zero n ps = absent
edge_within (suc depth) n ps = edge_by (edge_within depth) n ps

-- the record of Hm n X of pairs with keys of n bits
abbrev pub edge_of : ℕ → PlainPairs → Plain
edge_of n ps = edge_within (suc n) n ps

-- a record of HmE n X that isn't empty
abbrev pub root_record : Plain → Plain
root_record edge = record_of (Some (codes "hme_root")) (codes "root" ∷ []) (a_val (ref_to tt edge) no_vals)

-- the record of HmE n X
abbrev pub root_of : ℕ → PlainPairs → Plain
root_of n no_pairs = record_of (Some (codes "hme_empty")) [] no_vals
root_of n (a_pair k v ps) = root_record (edge_of n (a_pair k v ps))
