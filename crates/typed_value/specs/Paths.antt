-- What a path names in a value. This project's own.
use Rattle.std.specs.Prelude.{ℕ, zero, suc, if◌then◌else◌, bytes_eq, List, [], ◌∷◌, Option, Some, None}
use Rattle.typed_value.specs.Values.{Val, Vals, Pairs, number, bit_string, record_of, absent, list_of, ref_to, unknown, map_of, raw, rest, no_vals, a_val, no_pairs, a_pair}

-- a step by a field's name, an item's place from 0, or a key's bits
pub data Stride : Type 0 where
  named : List ℕ → Stride
  item : ℕ → Stride
  keyed : List ℕ → Stride

-- the first value whose name is this one
abbrev pub field_at : {A : Type 0} → List (List ℕ) → Vals A → List ℕ → Option (Val A)
field_at [] vs name = None
field_at (found ∷ names) no_vals name = None
field_at (found ∷ names) (a_val v vs) name = if bytes_eq found name then Some v else field_at names vs name

-- the value at a place, from 0
abbrev pub item_at : {A : Type 0} → Vals A → ℕ → Option (Val A)
item_at no_vals i = None
item_at (a_val v vs) zero = Some v
item_at (a_val v vs) (suc i) = item_at vs i

-- the first value whose key is this one
abbrev pub entry_at : {A : Type 0} → Pairs A → List ℕ → Option (Val A)
entry_at no_pairs key = None
entry_at (a_pair found v ps) key = if bytes_eq found key then Some v else entry_at ps key

-- what a step names in a record, in a list, and in a map
abbrev pub in_record : {A : Type 0} → List (List ℕ) → Vals A → Stride → Option (Val A)
in_record names vs (named name) = field_at names vs name
in_record names vs (item i) = None
in_record names vs (keyed key) = None

abbrev pub in_list : {A : Type 0} → Vals A → Stride → Option (Val A)
in_list vs (named name) = None
in_list vs (item i) = item_at vs i
in_list vs (keyed key) = None

abbrev pub in_map : {A : Type 0} → Pairs A → Stride → Option (Val A)
in_map ps (named name) = None
in_map ps (item i) = None
in_map ps (keyed key) = entry_at ps key

-- what one step names; a reference adds no step
abbrev pub step_at : {A : Type 0} → Val A → Stride → Option (Val A)
step_at (number negative size) s = None
step_at (bit_string bits) s = None
step_at (record_of name names vs) s = in_record names vs s
step_at absent s = None
step_at (list_of vs) s = in_list vs s
step_at (ref_to a v) s = step_at v s
step_at (unknown h) s = None
step_at (map_of a ps us) s = in_map ps s
step_at (raw c) s = None
step_at (rest r) s = None

abbrev pub onward : {A : Type 0} → Option (Val A) → (Val A → Option (Val A)) → Option (Val A)
onward None next = None
onward (Some v) next = next v

-- what the steps name, one after the other; the value itself without a step
abbrev pub at_path : {A : Type 0} → Val A → List Stride → Option (Val A)
at_path v [] = Some v
at_path v (s ∷ steps) = onward (step_at v s) (λ inner. at_path inner steps)
