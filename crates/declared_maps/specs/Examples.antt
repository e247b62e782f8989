-- Worked dictionaries, computed: the record of a map, its labels and pairs, and the readings of one cell as either.
use Rattle.std.specs.Prelude.{◌≡◌, ℕ, List, [], ◌∷◌, false, Some, Ok, codes, refl}
use Rattle.bit_slice.specs.Bits.{spelled, number_onto, bit_length_within}
use Rattle.cell_nodes.specs.declared.tree.Kind.TheVariants.{Ordinary}
use Rattle.cell_nodes.specs.declared.tree.Mode.TheVariants.{Whole}
use Rattle.cell_nodes.specs.declared.tree.Tree.{Tree, out-Tree}
use Rattle.cell_nodes.specs.Equations.{out-tree_of}
use Rattle.hashmap_labels.specs.declared.forms.LabelForm.{LabelForm}
use Rattle.hashmap_labels.specs.declared.forms.LabelForm.TheVariants.{Short, Same}
use Rattle.hashmap_tree.specs.Entries.{cell_of}
use Rattle.hashmap_tree.specs.First.{first_edge}
use Rattle.hashmap_tree.specs.Walk.{walk}
use Rattle.typed_value.specs.Values.{Plain, Plains, PlainPairs, number, record_of, list_of, ref_to, map_of, no_vals, a_val, no_pairs, a_pair}
use Rattle.core_form.specs.Core.{Word}
use Rattle.core_form.specs.Closed as closed
use Rattle.schema_leads.specs.Leads.{together, rounds, leads}
use Rattle.spelling.specs.PlainReader.{read, reading}
use Rattle.declared_maps.specs.Lines.{hm, hm_e}
use Rattle.declared_maps.specs.LineCores.{line_cores}
use Rattle.declared_maps.specs.Laws.{pair_args}
use Rattle.declared_maps.specs.Records.{Label, edge_labels, edge_pairs, root_labels, root_pairs}
use Rattle.declared_maps.specs.MapRecords.{edge_of, root_of}

-- ---- shorthands

abbrev node : List ℕ → List Tree → Tree
node bits refs = cell_of (record { bits = bits; refs = refs })

abbrev open_node : (bits : List ℕ) (refs : List Tree)
    → out-Tree (node bits refs) ≡ record { kind = Ordinary; bits = bits; children = refs }
open_node bits refs = out-tree_of Ordinary bits refs

abbrev vals : List Plain → Plains
vals [] = no_vals
vals (v ∷ vs) = a_val v (vals vs)

abbrev record_as : Word → List Word → List Plain → Plain
record_as c xs vs = record_of (Some c) xs (vals vs)

abbrev n_of : ℕ → Plain
n_of n = number false n

abbrev label_of : ℕ → LabelForm → List ℕ → Label
label_of most form bits = record { most = most; form = form; bits = bits }

abbrev bit_as : ℕ → Plain
bit_as b = record_as (codes "bit") (codes "_" ∷ []) (n_of b ∷ [])

abbrev edge_as : Plain → Plain → Plain
edge_as label below = record_as (codes "hm_edge") (codes "label" ∷ codes "node" ∷ []) (label ∷ below ∷ [])

abbrev leaf_as : Plain → Plain
leaf_as v = record_as (codes "hmn_leaf") (codes "value" ∷ []) (v ∷ [])

-- ---- two keys: <x{2_}:5,x{E_}:6> with keys of two bits, at HashmapE 2 uint4

abbrev two_keys : PlainPairs
two_keys = a_pair (0 ∷ 0 ∷ []) (n_of 5) (a_pair (1 ∷ 1 ∷ []) (n_of 6) no_pairs)

-- the label of one bit, in the short form
abbrev one_bit : ℕ → Plain
one_bit b =
    record_as (codes "hml_short") (codes "len" ∷ codes "s" ∷ []) (
    record_as (codes "unary_succ") (codes "x" ∷ []) (record_as (codes "unary_zero") [] [] ∷ [])
    ∷ list_of (vals (bit_as b ∷ [])) ∷ [])

abbrev no_bits : Plain
no_bits =
    record_as (codes "hml_short") (codes "len" ∷ codes "s" ∷ [])
    (record_as (codes "unary_zero") [] [] ∷ list_of no_vals ∷ [])

abbrev two_records : Plain
two_records =
    record_as (codes "hme_root") (codes "root" ∷ []) (
    ref_to tt (edge_as no_bits (record_as (codes "hmn_fork") (codes "left" ∷ codes "right" ∷ [])
    (ref_to tt (edge_as (one_bit 0) (leaf_as (n_of 5))) ∷ ref_to tt (edge_as (one_bit 1) (leaf_as (n_of 6))) ∷ []))) ∷ [])

pub record_of_two : root_of 2 two_keys ≡ two_records
unfolding bit_length_within
record_of_two = refl

pub pairs_of_two : root_pairs two_records ≡ two_keys
pairs_of_two = refl

pub labels_of_two : root_labels 2 two_records
    ≡ label_of 2 Short [] ∷ label_of 1 Short (0 ∷ []) ∷ label_of 1 Short (1 ∷ []) ∷ []
labels_of_two = refl

-- ---- one key of equal bits: <x{F_}:5> with keys of three bits, at Hashmap 3 uint4

abbrev one_key : PlainPairs
one_key = a_pair (1 ∷ 1 ∷ 1 ∷ []) (n_of 5) no_pairs

abbrev one_record : Plain
one_record =
    edge_as (record_as (codes "hml_same") (codes "v" ∷ codes "n" ∷ []) (bit_as 1 ∷ n_of 3 ∷ [])) (leaf_as (n_of 5))

pub record_of_one : edge_of 3 one_key ≡ one_record
unfolding bit_length_within
record_of_one = refl

pub pairs_of_one : edge_pairs one_record ≡ one_key
pairs_of_one = refl

pub labels_of_one : edge_labels 3 one_record ≡ label_of 3 Same (1 ∷ 1 ∷ 1 ∷ []) ∷ []
labels_of_one = refl

abbrev one_bits : List ℕ
one_bits = 1 ∷ 1 ∷ 1 ∷ 1 ∷ 1 ∷ spelled 4 5

pub one_as_map : read Whole line_cores (closed.dict 3 (closed.uint 4)) (node one_bits []) ≡ Ok (map_of tt one_key [])
unfolding spelled number_onto bit_length_within together rounds leads reading walk first_edge
one_as_map = rw (open_node one_bits []) refl

pub one_as_record : read Whole line_cores (closed.named hm (pair_args 3 (closed.uint 4))) (node one_bits []) ≡ Ok one_record
unfolding spelled number_onto bit_length_within together rounds leads reading walk first_edge
one_as_record = rw (open_node one_bits []) refl

-- ---- the same edge in the cell of a reference, at HashmapE 3 uint4

abbrev edge : Tree
edge = node one_bits []

abbrev root : Tree
root = node (1 ∷ []) (edge ∷ [])

pub root_as_map : read Whole line_cores (closed.dict_e 3 (closed.uint 4)) root ≡ Ok (map_of tt one_key [])
unfolding spelled number_onto bit_length_within together rounds leads reading walk first_edge
root_as_map = rw (open_node (1 ∷ []) (edge ∷ []), open_node one_bits []) refl

pub root_as_record : read Whole line_cores (closed.named hm_e (pair_args 3 (closed.uint 4))) root ≡ Ok (root_of 3 one_key)
unfolding spelled number_onto bit_length_within together rounds leads reading walk first_edge
root_as_record = rw (open_node (1 ∷ []) (edge ∷ []), open_node one_bits []) refl
