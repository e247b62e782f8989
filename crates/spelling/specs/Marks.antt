-- Values with a slice beside each reference and each map: the slice that it was read from.
use Rattle.std.specs.Prelude.{ℕ, List}
use Rattle.cell_nodes.specs.declared.tree.Mode.{Mode}
use Rattle.hashmap_tree.specs.Entries.{Slice}
use Rattle.typed_value.specs.Values.{Val, Vals, Pairs, Plain, Plains, PlainPairs, number, bit_string, record_of, absent, list_of, ref_to, unknown, map_of, raw, rest, no_vals, a_val, no_pairs, a_pair}
use Rattle.core_form.specs.Core.{CoreSchema}
use Rattle.spelling.specs.Goals.{Goal}
use Rattle.spelling.specs.Spells.{SpellsBy, just}

abbrev pub Marked : Type 0
Marked = Val Slice

-- the value without its slices
abbrev mutual
  pub plain : Marked → Plain
  plain (number negative size) = number negative size
  plain (bit_string bits) = bit_string bits
  plain (record_of name names vs) = record_of name names (plain_all vs)
  plain absent = absent
  plain (list_of vs) = list_of (plain_all vs)
  plain (ref_to a v) = ref_to tt (plain v)
  plain (unknown h) = unknown h
  plain (map_of a ps us) = map_of tt (plain_by ps) us
  plain (raw c) = raw c
  plain (rest r) = rest r

  pub plain_all : Vals Slice → Plains
  plain_all no_vals = no_vals
  plain_all (a_val v vs) = a_val (plain v) (plain_all vs)

  pub plain_by : Pairs Slice → PlainPairs
  plain_by no_pairs = no_pairs
  plain_by (a_pair k v ps) = a_pair k (plain v) (plain_by ps)

-- a marked value is spelled: beside each reference and each map stands the slice at which it begins
abbrev pub SpellsMarked : Mode → CoreSchema → Marked → Goal → Slice → List ℕ → Slice → Type 0
SpellsMarked mode schema d = SpellsBy just mode schema d
