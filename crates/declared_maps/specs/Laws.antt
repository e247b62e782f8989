-- What the laws say: the built-in dictionary is the declared one.
use Rattle.std.specs.Prelude.{ℕ, ◌≡◌, ◌≤◌, ◌↔◌, List, [], ◌++◌}
use Rattle.bit_slice.specs.Bits.{AreBits}
use Rattle.cell_nodes.specs.Good.{AllGood}
use Rattle.cell_nodes.specs.declared.tree.Mode.TheVariants.{Whole}
use Rattle.tlb_syntax.specs.Tree.{SchemaView}
use Rattle.hashmap_tree.specs.Entries.{Slice}
use Rattle.typed_value.specs.Values.{Plain, PlainPairs, map_of}
use Rattle.core_form.specs.Core.{CoreSchema}
use Rattle.core_form.specs.Closed.{Closed, ClosedArgs, nodes}
use Rattle.core_form.specs.Closed as closed
use Rattle.accepted_schema.specs.Accepted.{IsAccepted, kept_cores}
use Rattle.spelling.specs.Goals.{at_type}
use Rattle.spelling.specs.Spells.{Spells}
use Rattle.declared_maps.specs.Lines.{hm, hm_e, lines, AreOthers, HasLines}
use Rattle.declared_maps.specs.MapRecords.{edge_of, root_of}
use Rattle.declared_maps.specs.Records.{Label, AreRequired, edge_labels, root_labels, edge_pairs, root_pairs}

-- a schema of the lines is accepted
abbrev pub LinesAreAccepted : Type 0
LinesAreAccepted = IsAccepted lines

-- A schema that begins with the lines and then declares other types has the lines. It stands here by the core forms of
-- its declarations without those that are passed over, by which values are spelled.
abbrev pub LinesAreThere : Type 0
LinesAreThere = (rest : SchemaView) → AreOthers rest → HasLines (kept_cores (lines ++ rest))

-- what is left of a good tree
pub record IsGoodContent (s : Slice) : Type 0 where
  pub bits : AreBits s.bits
  pub refs : AllGood s.refs

-- A content spells a value at the type of maps exactly where it spells a record at the declared type in which each
-- label has the required form, and the value is the map of the record's pairs. Both take the same bits and references.
abbrev pub IsDeclaredAs : CoreSchema → Closed → Closed → (Plain → PlainPairs) → (Plain → List Label) → Type 0
IsDeclaredAs schema maps records pairs labels =
    (v : Plain) (before : Slice) (outs : List ℕ) (after : Slice) → IsGoodContent before
    → Spells Whole schema v (at_type maps) before outs after
    ↔ ((w : Plain) × (v ≡ map_of tt (pairs w) []) × AreRequired (labels w)
    × Spells Whole schema w (at_type records) before outs after)

-- And that record is a function of the map.
abbrev pub HasRecordAs : CoreSchema → Closed → Closed → (PlainPairs → Plain) → (Plain → PlainPairs)
    → (Plain → List Label) → Type 0
HasRecordAs schema maps records of_pairs pairs labels =
    (v : Plain) (before : Slice) (outs : List ℕ) (after : Slice) → IsGoodContent before
    → Spells Whole schema v (at_type maps) before outs after
    → (ps : PlainPairs) × (v ≡ map_of tt ps []) × (pairs (of_pairs ps) ≡ ps) × AreRequired (labels (of_pairs ps))
    × Spells Whole schema (of_pairs ps) (at_type records) before outs after

-- the arguments of the declared types
abbrev pub pair_args : ℕ → Closed → ClosedArgs
pair_args n t = closed.nat_arg n (closed.ty_arg t closed.no_args)

pub record AreDeclared (schema : CoreSchema) (n : ℕ) (t : Closed) : Type 0 where
  pub hashmap : IsDeclaredAs schema (closed.dict n t) (closed.named hm (pair_args n t)) edge_pairs (edge_labels n)
  pub hashmap_e :
      IsDeclaredAs schema (closed.dict_e n t) (closed.named hm_e (pair_args n t)) root_pairs (root_labels n)

pub record HaveRecords (schema : CoreSchema) (n : ℕ) (t : Closed) : Type 0 where
  pub hashmap :
      HasRecordAs schema (closed.dict n t) (closed.named hm (pair_args n t)) (edge_of n) edge_pairs (edge_labels n)
  pub hashmap_e :
      HasRecordAs schema (closed.dict_e n t) (closed.named hm_e (pair_args n t)) (root_of n) root_pairs (root_labels n)

-- Of keys of at most 1023 bits, and of a type that leaves room for the three nodes of a reference to a declared type of
-- it, in a closed type of at most 4,096 nodes.
abbrev pub MapsAreDeclared : Type 0
MapsAreDeclared =
    (schema : CoreSchema) → HasLines schema → (n : ℕ) → n ≤ 1023 → (t : Closed) → nodes t ≤ 4093
    → AreDeclared schema n t

abbrev pub MapsHaveRecords : Type 0
MapsHaveRecords =
    (schema : CoreSchema) → HasLines schema → (n : ℕ) → n ≤ 1023 → (t : Closed) → nodes t ≤ 4093
    → HaveRecords schema n t
