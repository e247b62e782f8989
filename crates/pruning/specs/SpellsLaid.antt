-- What a laid value is spelled by, in mode Whole: what `Spells` says of its value, and that the cells and the edges
-- beside it are those of the tree.
--
-- Source: TON documentation, "TL-B language"; TVM whitepaper, 3.3, and the TON documentation on hashmaps.
use Rattle.std.specs.Prelude.{◌≡◌, ℕ, suc, ◌+◌, ◌≤◌, List, [], ◌∷◌, length}
use Rattle.cell_nodes.specs.declared.tree.Mode.TheVariants.{Whole}
use Rattle.cell_nodes.specs.declared.tree.Tree.{Tree}
use Rattle.hashmap_labels.specs.Labels.{IsLabel}
use Rattle.hashmap_tree.specs.Dict.{forms_of}
use Rattle.hashmap_tree.specs.Entries.{Slice, cell_of, Then}
use Rattle.hashmap_tree.specs.First.{LeafEdge}
use Rattle.core_form.specs.Core.{CoreSchema}
use Rattle.core_form.specs.Closed.{Closed}
use Rattle.core_form.specs.Closed as closed
use Rattle.spelling.specs.Slices.{nothing, only_bits, only_ref}
use Rattle.spelling.specs.Goals.{at_type, at_cell, typed, under_ref}
use Rattle.spelling.specs.Spells.{Meaning, Closing, Meanings, no_meanings, a_meaning, SpellsNumber, SpellsString}
use Rattle.spelling.specs.Spells.{SpellsRecord, SpellsAbsent, SpellsList, SpellsRef, SpellsRest, AtRow, ByShape}
use Rattle.spelling.specs.Spells.{Holds}
use Rattle.typed_value.specs.Values.{Plain, levels, parts, most_levels, most_parts}
use Rattle.typed_value.specs.Values as values
use Rattle.pruning.specs.Laid.{Laid, number, bit_string, record_of, absent, list_of, ref_to, ref_to_raw, no_map}
use Rattle.pruning.specs.Laid.{map_under, map_here, rest, Laids, no_laids, a_laid, LaidEdge, a_leaf, a_fork, plain}

-- this cell is the first reference
abbrev pub BeginsWith : Tree → Slice → Type 0
BeginsWith c s = (ts : List Tree) × (s.refs ≡ c ∷ ts)

-- `^Any` and `^Cell`
abbrev pub SpellsLaidRaw : Tree → Closing
SpellsLaidRaw c (typed (closed.ref closed.whole)) before outs after = (outs ≡ []) × Then before (only_ref c) after
SpellsLaidRaw c _ before outs after = ⊥

-- ---- dictionaries

-- what an edge is: for keys of so many bits and values of a type, from a slice to what it leaves
abbrev pub EdgeMeaning : Type 1
EdgeMeaning = ℕ → Closed → Slice → Slice → Type 0

-- an ordinary cell that holds the edge and nothing more
abbrev pub EdgeCell : EdgeMeaning → ℕ → Closed → Tree → Type 0
EdgeCell E n t c = (s : Slice) × (c ≡ cell_of s) × E n t s nothing

abbrev pub SpellsLeaf : List ℕ → Meaning → EdgeMeaning
SpellsLeaf l M n t before after =
    (middle : Slice) × (outs : List ℕ) × LeafEdge Whole n l before middle × M (at_type t) middle outs after

abbrev pub SpellsFork : List ℕ → Tree → EdgeMeaning → Tree → EdgeMeaning → EdgeMeaning
SpellsFork l z A o B n t before after =
    (m : ℕ) × (n ≡ length l + suc m) × IsLabel (forms_of Whole) n l before.bits after.bits
    × (before.refs ≡ z ∷ (o ∷ after.refs)) × EdgeCell A m t z × EdgeCell B m t o

-- Hashmap: the first edge in place
abbrev pub SpellsMapHere : EdgeMeaning → Closing
SpellsMapHere E (typed (closed.dict n t)) before outs after = (outs ≡ []) × E n t before after
SpellsMapHere E _ before outs after = ⊥

-- HashmapE: the bit 1 and a reference to the cell of the first edge, or the bit 0
abbrev pub SpellsMapUnder : Tree → EdgeMeaning → Closing
SpellsMapUnder c E (typed (closed.dict_e n t)) before outs after =
    (outs ≡ []) × Then before (record { bits = 1 ∷ []; refs = c ∷ [] }) after × EdgeCell E n t c
SpellsMapUnder c E _ before outs after = ⊥

abbrev pub SpellsNoMap : Closing
SpellsNoMap (typed (closed.dict_e n t)) before outs after = (outs ≡ []) × Then before (only_bits (0 ∷ [])) after
SpellsNoMap _ before outs after = ⊥

-- ---- values

abbrev mutual
  pub SpellsLaidShape : CoreSchema → Laid → Closing
  SpellsLaidShape schema (number negative size) = AtRow (SpellsNumber negative size)
  SpellsLaidShape schema (bit_string bits) = AtRow (SpellsString bits)
  SpellsLaidShape schema (record_of name names ds) = SpellsRecord schema name names (EachLaid schema ds)
  SpellsLaidShape schema absent = SpellsAbsent
  SpellsLaidShape schema (list_of ds) = SpellsList (EachLaid schema ds)
  SpellsLaidShape schema (ref_to c d) = SpellsRef (BeginsWith c) Whole (ByShape (SpellsLaidShape schema d))
  SpellsLaidShape schema (ref_to_raw c) = SpellsLaidRaw c
  SpellsLaidShape schema no_map = SpellsNoMap
  SpellsLaidShape schema (map_under c e) = SpellsMapUnder c (SpellsEdge schema e)
  SpellsLaidShape schema (map_here e) = SpellsMapHere (SpellsEdge schema e)
  SpellsLaidShape schema (rest s) = SpellsRest s

  pub EachLaid : CoreSchema → Laids → Meanings
  EachLaid schema no_laids = no_meanings
  EachLaid schema (a_laid d ds) = a_meaning (ByShape (SpellsLaidShape schema d)) (EachLaid schema ds)

  pub SpellsEdge : CoreSchema → LaidEdge → EdgeMeaning
  SpellsEdge schema (a_leaf l d) = SpellsLeaf l (ByShape (SpellsLaidShape schema d))
  SpellsEdge schema (a_fork l z a o b) = SpellsFork l z (SpellsEdge schema a) o (SpellsEdge schema b)

abbrev pub SpellsLaid : CoreSchema → Laid → Meaning
SpellsLaid schema d = ByShape (SpellsLaidShape schema d)

-- ---- the root

-- the root cell as it is, or a laid value
pub data LaidRoot : Type 0 where
  as_it_is : Tree → LaidRoot
  laid : Laid → LaidRoot

abbrev pub plain_root : LaidRoot → Plain
plain_root (as_it_is c) = values.raw c
plain_root (laid d) = plain d

abbrev pub IsLaidRoot : CoreSchema → Closed → Tree → LaidRoot → Type 0
IsLaidRoot schema t c (as_it_is x) = (under_ref t ≡ at_cell) × (x ≡ c)
IsLaidRoot schema t c (laid d) = Holds Whole (SpellsLaid schema d) (under_ref t) c

-- A reading in mode Whole that carries its trees: its value lies so in the root cell, within the limits of a value.
pub record LaidReading (schema : CoreSchema) (t : Closed) (c : Tree) (r : LaidRoot) : Type 0 where
  pub lies : IsLaidRoot schema t c r
  pub deep : levels (plain_root r) ≤ most_levels
  pub large : parts (plain_root r) ≤ most_parts
