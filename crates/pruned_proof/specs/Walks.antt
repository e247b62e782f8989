-- What the walk gives for each laid value that is the one given.
use Rattle.std.specs.Prelude.{Bool, true, false, ◌≡◌, ℕ, ◌+◌, ◌≤◌, List, [], ◌∷◌, ◌++◌, Option, Some, None, Result, Ok, Err, slice_get}
use Rattle.cell_nodes.specs.declared.tree.Mode.TheVariants.{Whole}
use Rattle.cell_nodes.specs.declared.tree.Tree.{Tree}
use Rattle.core_form.specs.Closed.{Closed, ClosedArgs}
use Rattle.core_form.specs.Closed as closed
use Rattle.core_form.specs.Core.{CoreSchema, Items, Word}
use Rattle.core_form.specs.Scope.{Scope}
use Rattle.hashmap_tree.specs.Entries.{Slice}
use Rattle.spelling.specs.Goals.{Goal}
use Rattle.spelling.specs.Spells.{Fields, Holds, Repeats}
use Rattle.typed_value.specs.Values.{Plain, levels, levels_in, levels_by}
use Rattle.typed_value.specs.View.{names_in, vals_in, vals_of}
use Rattle.pruning.specs.Laid.{Laid, Laids, LaidEdge, plain, plain_all, plain_pairs, below}
use Rattle.pruning.specs.SpellsLaid.{SpellsLaid, EachLaid, SpellsEdge, EdgeCell}
use Rattle.pruning_laws.specs.CleanLaws.{IsClean, AllClean}
use Rattle.typed_value.specs.Values as values
use Rattle.pruned_proof.specs.Wanted.{Rests, cut_fields_for, cut_items_for}
use Rattle.pruned_proof.specs.declared.cutting.CutError.{CutError}
use Rattle.pruned_proof.specs.declared.cutting.CutError.TheVariants as cuts
use Rattle.pruned_proof.specs.declared.cutting.Cutting.{Cutting}
use Rattle.pruned_proof.specs.declared.cutting.Outputs.{Outputs}
use Rattle.pruned_proof.specs.declared.cutting.Outputs.TheVariants.{Empty, One, Several}

abbrev pub outputs_of : Outputs → List ℕ
outputs_of Empty = []
outputs_of (One n) = n ∷ []
outputs_of (Several ns) = ns

-- the most that a number of the type is, where it is its own output
abbrev pub most_own : Closed → Option ℕ
most_own closed.nat32 = Some 4294967295
most_own (closed.bits n) = Some 4294967295
most_own (closed.below n) = Some n
most_own (closed.up_to n) = Some n
most_own _ = None

-- what a type of references leads to, and how many of which type a repetition has
abbrev pub referred : Closed → Option Closed
referred (closed.ref t) = Some t
referred _ = None

abbrev pub repeated : Closed → Option (ℕ × Closed)
repeated (closed.repeat n t) = Some (n, t)
repeated _ = None

-- the width of the keys and the type of the values of a dictionary, its first edge in place or in a cell of its own
abbrev pub mapped_here : Closed → Option (ℕ × Closed)
mapped_here (closed.dict n t) = Some (n, t)
mapped_here _ = None

abbrev pub mapped_under : Closed → Option (ℕ × Closed)
mapped_under (closed.dict_e n t) = Some (n, t)
mapped_under _ = None

-- the name of a declared type and what it is given
abbrev pub named_as : Closed → Option (Word × ClosedArgs)
named_as (closed.named name args) = Some (name, args)
named_as _ = None

-- the cell of a reference, as it is
abbrev pub is_raw : Plain → Bool
is_raw (values.raw c) = true
is_raw _ = false

-- the value of a reference, and the names and the values of a record
abbrev pub held_in : Plain → Option Plain
held_in (values.ref_to a v) = Some v
held_in _ = None

abbrev pub fields_of : Plain → Option (List (List ℕ) × values.Plains)
fields_of (values.record_of name names vs) = Some (names, vs)
fields_of _ = None

-- the one failure is that memory ran out
abbrev pub Fails : CutError → Type 0
Fails cuts.Unread = ⊥
Fails cuts.NoMemory = Unit {0}

-- this holds of the answer, or memory ran out
abbrev pub Gives : {A : Type 0} → (A → Type 0) → Result A CutError → Type 0
Gives P (Ok x) = P x
Gives P (Err e) = Fails e

-- these references are left, and what is made goes on with those
abbrev pub Moves : List Tree → List Tree → Cutting → Cutting → Type 0
Moves made after old new = (new.left ≡ after) × (new.made.items ≡ old.made.items ++ made)

-- it is spelled from a slice with the references that are left, in a tree without hidden parts
pub record Lies (M : Slice → List ℕ → Slice → Type 0) (left : List Tree) (outs : List ℕ) (after : Slice) : Type 0 where
  pub before : Slice
  pub refs : before.refs ≡ left
  pub clean : AllClean left
  pub spelled : M before outs after

-- a laid value that is this one, with so many levels at most
pub record Is (d : Laid) (v : Plain) (most : ℕ) : Type 0 where
  pub value : plain d ≡ v
  pub deep : levels v ≤ most

pub record Are (ds : Laids) (vs : values.Plains) (most : ℕ) : Type 0 where
  pub values : plain_all ds ≡ vs
  pub deep : levels_in vs ≤ most

-- an edge whose keys begin with q, by its pairs
pub record IsEdge (q : List ℕ) (e : LaidEdge) (ps : values.PlainPairs) (most : ℕ) : Type 0 where
  pub pairs : below q (plain_pairs e) ≡ ps
  pub deep : levels_by ps ≤ most

-- all of a cell without hidden parts holds this laid value
pub record Fills (schema : CoreSchema) (g : Goal) (d : Laid) (c : Tree) : Type 0 where
  pub clean : IsClean c
  pub holds : Holds Whole (SpellsLaid schema d) g c

-- so many bits in stands this one, in the key of that number
abbrev pub HasBit : ℕ → ℕ → ℕ → List (List ℕ) → Type 0
HasBit place bit i keys = (k : List ℕ) → slice_get keys i ≡ Some k → slice_get k place ≡ Some bit

-- the next reference leads to the cell of this edge, whose keys begin with the first bits of this one
pub record IsBranch (schema : CoreSchema) (n : ℕ) (t : Closed) (q : List ℕ) (e : LaidEdge) (key : List ℕ) (c : Tree)
    (left after : List Tree) : Type 0 where
  pub there : left ≡ c ∷ after
  pub clean : IsClean c
  pub cell : EdgeCell (SpellsEdge schema e) n t c
  pub rest : List ℕ
  pub begins : key ≡ q ++ rest

-- The fields that are due lie in what is left, and with the references that they are then left with, all is made.
pub record Due (schema : CoreSchema) (k : Rests) (most : ℕ) (end : Scope) (after : Slice) (all : List Tree) (is : Items)
    (scope : Scope) (fields : List (List ℕ × Plain)) (cell : Cutting) : Type 0 where
  pub laids : Laids
  pub are : Are laids (vals_in fields) most
  pub before : Slice
  pub refs : before.refs ≡ cell.left
  pub clean : AllClean cell.left
  pub spelled : Fields is (EachLaid schema laids) scope before end after
  pub made : cell.made.items ++ cut_fields_for k (names_in fields) laids ≡ all

-- the same of the items of a repetition, from a number on
pub record DueItems (schema : CoreSchema) (k : Rests) (most : ℕ) (t : Closed) (after : Slice) (all : List Tree) (place : ℕ)
    (vs : List Plain) (cell : Cutting) : Type 0 where
  pub laids : Laids
  pub count : ℕ
  pub are : Are laids (vals_of vs) most
  pub few : place + count ≤ 4294967295
  pub before : Slice
  pub refs : before.refs ≡ cell.left
  pub clean : AllClean cell.left
  pub spelled : Repeats (EachLaid schema laids) count t before after
  pub made : cell.made.items ++ cut_items_for k place laids ≡ all
