-- What the laws of building need of a schema and of a value.
use Rattle.std.specs.Prelude.{ℕ, ◌≡◌, List, [], ◌∷◌, Some, slice_get, length}
use Rattle.bit_slice.specs.Bits.{AreBits}
use Rattle.cell_nodes.specs.BytesLaws.{AreBytes}
use Rattle.cell_nodes.specs.Good.{IsGood, AllGood}
use Rattle.cell_nodes.specs.declared.tree.Hidden.{Hidden}
use Rattle.typed_value.specs.Values.{Plain, Plains, PlainPairs, number, bit_string, record_of, absent, list_of, ref_to, unknown, map_of, raw, rest, no_vals, a_val, no_pairs, a_pair}
use Rattle.core_form.specs.Core.{Declaration, CoreSchema}
use Rattle.spelling.specs.Acceptable.{IsAcceptable}

-- An acceptable schema in which two constructors of one type are shown by different names, and whose tags are bits.
-- Each is a rule of kinds or of the syntax tree's ranges.
pub record IsBuildable (schema : CoreSchema) : Type 0 where
  pub acceptable : IsAcceptable schema
  pub names : (i j : ℕ) (c e : Declaration) → slice_get schema i ≡ Some c → slice_get schema j ≡ Some e
      → c.of_type ≡ e.of_type → c.shown ≡ e.shown → i ≡ j
  pub tags : (i : ℕ) (c : Declaration) → slice_get schema i ≡ Some c → AreBits c.core.tag

-- ---- a value that the program can have: its cells are cells, its bits are bits, its hashes have 32 bytes

pub record IsHash (x : Hidden) : Type 0 where
  pub whole : length x.hash ≡ 32
  pub bytes : AreBytes x.hash

abbrev pub AreHashes : List (List ℕ × Hidden) → Type 0
AreHashes [] = Unit {0}
AreHashes (u ∷ us) = IsHash u.1 × AreHashes us

abbrev mutual
  pub InRange : Plain → Type 0
  InRange (number negative size) = Unit {0}
  InRange (bit_string bits) = AreBits bits
  InRange (record_of name names vs) = AllInRange vs
  InRange absent = Unit {0}
  InRange (list_of vs) = AllInRange vs
  InRange (ref_to a v) = InRange v
  InRange (unknown x) = IsHash x
  InRange (map_of a ps us) = PairsInRange ps × AreHashes us
  InRange (raw c) = IsGood c
  InRange (rest s) = AreBits s.bits × AllGood s.refs

  pub AllInRange : Plains → Type 0
  AllInRange no_vals = Unit {0}
  AllInRange (a_val v vs) = InRange v × AllInRange vs

  pub PairsInRange : PlainPairs → Type 0
  PairsInRange no_pairs = Unit {0}
  PairsInRange (a_pair k v ps) = InRange v × PairsInRange ps
