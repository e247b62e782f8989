-- A repetition and a dictionary at the type that was found.
use Rattle.std.proofs.Common.{◌≡◌, ℕ, ◌+◌, ◌≤◌, List, [], Some}
use Rattle.cell_nodes.specs.declared.tree.Hidden.{Hidden}
use Rattle.core_form.specs.Closed.{Closed}
use Rattle.core_form.specs.Closed as closed
use Rattle.core_form.specs.Core.{CoreSchema}
use Rattle.hashmap_tree.specs.Entries.{Slice}
use Rattle.spelling.specs.Goals.{at_type, typed}
use Rattle.typed_value.specs.Values.{Plain, PlainPairs}
use Rattle.typed_value.specs.Values as values
use Rattle.typed_value.specs.View.{vals_of}
use Rattle.pruning.specs.Laid.{Laid}
use Rattle.pruning.specs.SpellsLaid.{SpellsLaid, SpellsLaidShape}
use Rattle.pruned_proof.specs.Walks.{Is, Lies, mapped_here, mapped_under, repeated}
use Rattle.pruned_proof.specs.Wanted.{Rests}
use Rattle.pruned_proof.specs.declared.cutting.Cutting.{Cutting}
use Rattle.pruned_proof.proofs.Forms.{at_map_here, at_map_under, at_repetition}
use Rattle.pruned_proof.proofs.Typed.{DictLies, ItemsDue, dict_lies, few_bits, list_due, map_lies}

module _ (schema : CoreSchema) (t : Closed) (most : ℕ) (cell : Cutting) (outs : List ℕ) (after : Slice) (d : Laid)
    (l : Lies (SpellsLaid schema d (at_type t)) cell.left outs after) (n : ℕ) (inner : Closed) where
  pub list_at : (k : Rests) (vs : List Plain) → Is d (values.list_of (vals_of vs)) (most + 1) → Some (n, inner) ≡ repeated t
      → n ≤ 4294967295 → ItemsDue schema k most inner d outs after vs cell
  list_at k vs is found few =
      let x = at_repetition schema d t (most + 1) cell.left outs after l n inner found in
      list_due schema k most n inner outs after vs cell d few is x.lies

  module _ (ps : PlainPairs) (hidden : List (List ℕ × Hidden)) (is : Is d (values.map_of tt ps hidden) (most + 1)) where
    pub record HereAt : Type 0 where
      pub few : n ≤ 1023
      pub dict : DictLies schema most n inner d cell.left outs after ps

    pub here_at : Some (n, inner) ≡ mapped_here t → HereAt
    here_at found =
        let x = at_map_here schema d t (most + 1) cell.left outs after l n inner found in
        record { few = few_bits n x.wide; dict = dict_lies schema most n inner cell.left outs after ps hidden d is x.lies }

    pub record UnderAt : Type 0 where
      pub few : n ≤ 1023
      pub none : [] ≡ outs
      pub is_shown : Is d (values.map_of tt ps []) (most + 1)
      pub lies : Lies (SpellsLaidShape schema d (typed (closed.dict_e n inner))) cell.left outs after

    pub under_at : Some (n, inner) ≡ mapped_under t → UnderAt
    under_at found =
        let x = at_map_under schema d t (most + 1) cell.left outs after l n inner found in
        let y = map_lies schema (most + 1) n inner cell.left outs after ps hidden d is x.lies in
        record { few = few_bits n x.wide; none = y.none; is_shown = y.is; lies = x.lies }
