-- Which texts write a value, with white space before, between and after tokens. This project's own; the bounds of cells
-- are those of the TON documentation, "Cells as data storage".
use Rattle.std.specs.Prelude.{◌≡◌, ℕ, ◌+◌, ◌<◌, ◌≤◌, ◌^◌, ◌==◌, Bool, true, ◌&&◌, ◌||◌, not, bytes_eq, IsTrue, List, [], ◌∷◌, ◌++◌, length, take, drop, map, Option, Some, None, codes}
use Rattle.std.specs.List.{list_all}
use Rattle.bit_slice.specs.Bits.{AreBits}
use Rattle.bit_slice.specs.Names.{IsName}
use Rattle.cell_nodes.specs.Good.{IsGood, AllGood}
use Rattle.cell_nodes.specs.Tree.{total, unfolded}
use Rattle.cell_nodes.specs.declared.tree.Hidden.{Hidden}
use Rattle.typed_value.specs.Values.{Val, Vals, Pairs, number, bit_string, record_of, absent, list_of, ref_to, unknown, map_of, raw, rest, no_vals, a_val, no_pairs, a_pair, levels, most_levels, most_parts, parts}
use Rattle.value_text.specs.Text.{comes_before, count_before, tokens}
use Rattle.value_text.specs.Tokens.{Token, spelling}

-- ---- white space: space, tab, carriage return, line feed

abbrev pub is_space : ℕ → Bool
is_space b = (b == 32) || (b == 9) || (b == 13) || (b == 10)

abbrev pub AreSpaces : List ℕ → Type 0
AreSpaces file = IsTrue (list_all is_space file)

-- the tokens one after another, with white space before, between and after them
abbrev pub Spaced : List Token → List ℕ → Type 0
Spaced [] file = AreSpaces file
Spaced (t ∷ ts) file =
    (spaces : List ℕ) × (after : List ℕ) × (file ≡ spaces ++ spelling t ++ after) × AreSpaces spaces × Spaced ts after

-- ---- the order of a map's entries

-- the keys of the pairs and the prefixes of the hidden parts, as they are written
abbrev pub keys_of : {A : Type 0} → Pairs A → List (List ℕ × Hidden) → List (List ℕ)
keys_of no_pairs us = map (λ u. u.0) us
keys_of (a_pair k v ps) us =
    map (λ u. u.0) (take (count_before k us) us) ++ k ∷ keys_of ps (drop (count_before k us) us)

-- a key comes after another that does not begin it
abbrev pub comes_after : List ℕ → List ℕ → Bool
comes_after before key = comes_before before key && not (bytes_eq (take (length before) key) before)

-- each key comes after the one before it; so none begins another
abbrev pub in_order : List (List ℕ) → Bool
in_order [] = true
in_order (k ∷ []) = true
in_order (k ∷ key ∷ keys) = comes_after k key && in_order (key ∷ keys)

-- ---- what can be written

abbrev pub most_cells : ℕ
most_cells = 262144

-- how many cells stand in the text of a value
abbrev mutual
  pub cells_in : {A : Type 0} → Val A → ℕ
  cells_in (number negative size) = 0
  cells_in (bit_string bits) = 0
  cells_in (record_of name names vs) = cells_of vs
  cells_in absent = 0
  cells_in (list_of vs) = cells_of vs
  cells_in (ref_to a v) = cells_in v
  cells_in (unknown h) = 0
  cells_in (map_of a ps us) = cells_by ps
  cells_in (raw c) = unfolded c
  cells_in (rest s) = total (map unfolded s.refs)

  pub cells_of : {A : Type 0} → Vals A → ℕ
  cells_of no_vals = 0
  cells_of (a_val v vs) = cells_in v + cells_of vs

  pub cells_by : {A : Type 0} → Pairs A → ℕ
  cells_by no_pairs = 0
  cells_by (a_pair k v ps) = cells_in v + cells_by ps

-- bits that a cell can hold
abbrev pub AreFew : List ℕ → Type 0
AreFew bits = AreBits bits × (length bits ≤ 1023)

abbrev pub AreBytes : List ℕ → Type 0
AreBytes [] = Unit {0}
AreBytes (b ∷ bs) = (b < 256) × AreBytes bs

abbrev pub IsHidden : Hidden → Type 0
IsHidden h = (length h.hash ≡ 32) × AreBytes h.hash × (h.depth < 2 ^ 16)

abbrev pub AreHidden : List (List ℕ × Hidden) → Type 0
AreHidden [] = Unit {0}
AreHidden (u ∷ us) = AreFew u.0 × IsHidden u.1 × AreHidden us

-- no record is called x (120), since x before a brace begins bits
abbrev pub IsRecordName : Option (List ℕ) → Type 0
IsRecordName None = Unit {0}
IsRecordName (Some name) = IsName name × IsTrue (not (bytes_eq name (codes "x")))

-- each number is in its range, names have their form, and maps are in order
abbrev mutual
  pub IsFormed : {A : Type 0} → Val A → Type 0
  IsFormed (number negative size) = size < 2 ^ 128
  IsFormed (bit_string bits) = AreFew bits
  IsFormed (record_of name names vs) = IsRecordName name × AreFields names vs
  IsFormed absent = Unit {0}
  IsFormed (list_of vs) = AreFormed vs
  IsFormed (ref_to a v) = IsFormed v
  IsFormed (unknown h) = IsHidden h
  IsFormed (map_of a ps us) = AreEntries ps × AreHidden us × IsTrue (in_order (keys_of ps us))
  IsFormed (raw c) = IsGood c
  IsFormed (rest s) = AreFew s.bits × AllGood s.refs

  pub AreFormed : {A : Type 0} → Vals A → Type 0
  AreFormed no_vals = Unit {0}
  AreFormed (a_val v vs) = IsFormed v × AreFormed vs

  pub AreFields : {A : Type 0} → List (List ℕ) → Vals A → Type 0
  AreFields [] no_vals = Unit {0}
  AreFields [] (a_val v vs) = ⊥
  AreFields (name ∷ names) no_vals = ⊥
  AreFields (name ∷ names) (a_val v vs) = IsName name × IsFormed v × AreFields names vs

  pub AreEntries : {A : Type 0} → Pairs A → Type 0
  AreEntries no_pairs = Unit {0}
  AreEntries (a_pair k v ps) = AreFew k × IsFormed v × AreEntries ps

-- a value that has a text within the limits
pub record IsWritable {A : Type 0} (v : Val A) : Type 0 where
  pub formed : IsFormed v
  pub levels : levels v ≤ most_levels
  pub parts : parts v ≤ most_parts
  pub cells : cells_in v ≤ most_cells

-- the file writes the value
pub record TextWrites {A : Type 0} (file : List ℕ) (v : Val A) : Type 0 where
  pub text : Spaced (tokens v) file
  pub writable : IsWritable v
