-- A value that a text writes is in range: its bits are bits, its hidden parts have hashes, and its cells are good.
use Rattle.std.proofs.Common.{◌<◌, arith, suc, zero, ℕ, List, [], ◌∷◌, get_or}
use Rattle.cell_nodes.specs.declared.tree.Hidden.{Hidden}
use Rattle.typed_value.specs.Values.{Plain, PlainPairs, Plains, number, bit_string, record_of, absent, list_of, ref_to, unknown}
use Rattle.typed_value.specs.Values.{map_of, raw, rest, no_vals, a_val, no_pairs, a_pair}
use Rattle.value_text.specs.Writes.{AreBytes, AreEntries, AreFields, AreFormed, AreHidden, IsFormed, IsHidden, TextWrites}
use Rattle.building.specs.Buildable.{AllInRange, AreHashes, InRange, IsHash, PairsInRange}

byte-at : (bytes : List ℕ) → AreBytes bytes → (i : ℕ) → get_or bytes i 0 < 256
byte-at [] are i = omega arith
byte-at (b ∷ bytes) are zero = are.0
byte-at (b ∷ bytes) are (suc i) = byte-at bytes are.1 i

hash-in-range : (x : Hidden) → IsHidden x → IsHash x
hash-in-range x is = record { whole = is.0; bytes = byte-at x.hash is.1 }

hashes-in-range : (us : List (List ℕ × Hidden)) → AreHidden us → AreHashes us
hashes-in-range [] is = tt
hashes-in-range (u ∷ us) is = (hash-in-range u.1 is.1, hashes-in-range us is.2)

mutual
  formed-in-range : (v : Plain) → IsFormed v → InRange v
  formed-in-range (number negative size) is = tt
  formed-in-range (bit_string bits) is = is.0
  formed-in-range (record_of name names vs) is = fields-in-range names vs is.1
  formed-in-range absent is = tt
  formed-in-range (list_of vs) is = all-in-range vs is
  formed-in-range (ref_to a v) is = formed-in-range v is
  formed-in-range (unknown x) is = hash-in-range x is
  formed-in-range (map_of a ps us) is = (pairs-in-range ps is.0, hashes-in-range us is.1)
  formed-in-range (raw c) is = is
  formed-in-range (rest s) is = (is.0.0, is.1)

  all-in-range : (vs : Plains) → AreFormed vs → AllInRange vs
  all-in-range no_vals is = tt
  all-in-range (a_val v vs) is = (formed-in-range v is.0, all-in-range vs is.1)

  fields-in-range : (names : List (List ℕ)) (vs : Plains) → AreFields names vs → AllInRange vs
  fields-in-range [] no_vals is = tt
  fields-in-range [] (a_val v vs) is = absurd is
  fields-in-range (name ∷ names) no_vals is = absurd is
  fields-in-range (name ∷ names) (a_val v vs) is = (formed-in-range v is.1, fields-in-range names vs is.2)

  pairs-in-range : (ps : PlainPairs) → AreEntries ps → PairsInRange ps
  pairs-in-range no_pairs is = tt
  pairs-in-range (a_pair k v ps) is = (formed-in-range v is.1, pairs-in-range ps is.2)

pub written-in-range : (file : List ℕ) (v : Plain) → TextWrites file v → InRange v
written-in-range file v writes = formed-in-range v writes.writable.formed
