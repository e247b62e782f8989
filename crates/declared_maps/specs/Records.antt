-- What a record of the declared lines says as a dictionary: its labels, each in a form, and its pairs. A record is read
-- here by its fields in order, and not by bits.
--
-- Source: the TON documentation on hashmaps; TVM whitepaper, section 3.3.
use Rattle.std.specs.Prelude.{ℕ, ◌≡◌, ◌-◌, List, [], ◌∷◌, ◌++◌, length, replicate, Option, Some, None, codes, bytes_eq, if◌then◌else◌}
use Rattle.hashmap_labels.specs.Labels.{required_form}
use Rattle.hashmap_labels.specs.declared.forms.LabelForm.{LabelForm}
use Rattle.hashmap_labels.specs.declared.forms.LabelForm.TheVariants.{Short, Long, Same}
use Rattle.typed_value.specs.Values.{Plain, Plains, PlainPairs, number, record_of, list_of, ref_to, no_vals, a_val, no_pairs, a_pair}
use Rattle.core_form.specs.Core.{Word}

-- ---- labels

-- a label as it is written: the most bits that it may have, its form, and its bits
pub record Label : Type 0 where
  pub most : ℕ
  pub form : LabelForm
  pub bits : List ℕ

abbrev pub IsRequired : Label → Type 0
IsRequired l = l.form ≡ required_form l.most l.bits

abbrev pub AreRequired : List Label → Type 0
AreRequired [] = Unit {0}
AreRequired (l ∷ ls) = IsRequired l × AreRequired ls

-- of a record of Bit: its one number
abbrev pub bit_in : Plain → ℕ
bit_in (record_of name names (a_val (number negative size) no_vals)) = size
bit_in _ = 0

abbrev pub bits_in : Plains → List ℕ
bits_in no_vals = []
bits_in (a_val v vs) = bit_in v ∷ bits_in vs

-- by the two fields of a record of HmLabel: s of `len s` and of `n s`, or v of `v n` n times
abbrev pub bits_by : Plain → Plain → List ℕ
bits_by v (list_of vs) = bits_in vs
bits_by v (number negative size) = replicate size (bit_in v)
bits_by v _ = []

-- of a record of HmLabel
abbrev pub label_bits : Plain → List ℕ
label_bits (record_of name names (a_val v (a_val w no_vals))) = bits_by v w
label_bits _ = []

abbrev pub form_called : Option Word → LabelForm
form_called None = Short
form_called (Some x) =
    if bytes_eq x (codes "hml_short") then Short else if bytes_eq x (codes "hml_long") then Long else Same

abbrev pub label_form : Plain → LabelForm
label_form (record_of name names vs) = form_called name
label_form _ = Short

abbrev pub label_in : ℕ → Plain → Label
label_in most v = record { most = most; form = label_form v; bits = label_bits v }

-- of records of Hm and HmNode for keys of so many bits, from the root on
abbrev mutual
  pub edge_labels : ℕ → Plain → List Label
  edge_labels n (record_of name names (a_val label (a_val node no_vals))) =
      label_in n label ∷ node_labels (n - length (label_bits label)) node
  edge_labels n _ = []

  -- a leaf has one field, and a fork two; the bit that a key takes in a fork stands in no label
  pub node_labels : ℕ → Plain → List Label
  node_labels m (record_of name names (a_val left (a_val right no_vals))) =
      child_labels (m - 1) left ++ child_labels (m - 1) right
  node_labels m _ = []

  pub child_labels : ℕ → Plain → List Label
  child_labels m (ref_to a v) = edge_labels m v
  child_labels m _ = []

-- of a record of HmE, which has no field where it is empty
abbrev pub root_labels : ℕ → Plain → List Label
root_labels n (record_of name names (a_val root no_vals)) = child_labels n root
root_labels n _ = []

-- ---- pairs

-- those of the first list, and then those of the second
abbrev pub joined : PlainPairs → PlainPairs → PlainPairs
joined no_pairs qs = qs
joined (a_pair k v ps) qs = a_pair k v (joined ps qs)

-- with bits before each key
abbrev pub pairs_under : List ℕ → PlainPairs → PlainPairs
pairs_under p no_pairs = no_pairs
pairs_under p (a_pair k v ps) = a_pair (p ++ k) v (pairs_under p ps)

-- those whose keys go on with 0 and with 1 after the label p
abbrev pub fork_pairs : List ℕ → PlainPairs → PlainPairs → PlainPairs
fork_pairs p zs os = joined (pairs_under (p ++ 0 ∷ []) zs) (pairs_under (p ++ 1 ∷ []) os)

-- of a record of Hm
abbrev mutual
  pub edge_pairs : Plain → PlainPairs
  edge_pairs (record_of name names (a_val label (a_val node no_vals))) = node_pairs (label_bits label) node
  edge_pairs _ = no_pairs

  -- of a record of HmNode after this label: a leaf has one field, and a fork two
  pub node_pairs : List ℕ → Plain → PlainPairs
  node_pairs p (record_of name names (a_val value no_vals)) = a_pair p value no_pairs
  node_pairs p (record_of name names (a_val left (a_val right no_vals))) =
      fork_pairs p (child_pairs left) (child_pairs right)
  node_pairs p _ = no_pairs

  pub child_pairs : Plain → PlainPairs
  child_pairs (ref_to a v) = edge_pairs v
  child_pairs _ = no_pairs

-- of a record of HmE
abbrev pub root_pairs : Plain → PlainPairs
root_pairs (record_of name names (a_val root no_vals)) = child_pairs root
root_pairs _ = no_pairs
