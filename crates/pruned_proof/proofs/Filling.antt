-- The cell of a laid value, from its references to the cell that is made.
use Rattle.std.proofs.Common.{◌≡◌, ℕ, List, [], ◌∷◌, Ok, refl, sym, ap, ◌∙◌, subst}
use Rattle.cell_nodes.specs.Equations.{out-tree_of}
use Rattle.cell_nodes.specs.declared.tree.Kind.TheVariants.{Ordinary}
use Rattle.cell_nodes.specs.declared.tree.Mode.TheVariants.{Whole}
use Rattle.cell_nodes.specs.declared.tree.Tree.{Tree, out-Tree}
use Rattle.core_form.specs.Closed.{Closed}
use Rattle.core_form.specs.Closed as closed
use Rattle.core_form.specs.Core.{CoreSchema, Items}
use Rattle.core_form.specs.Scope.{Scope}
use Rattle.hashmap_tree.specs.Entries.{Slice, cell_of}
use Rattle.spelling.specs.Goals.{Goal, Shape, at_type, at_cell, at_fields, fields_here, shape_of, typed, under_ref}
use Rattle.spelling.specs.Slices.{nothing, only_ref}
use Rattle.spelling.specs.Spells.{Holds}
use Rattle.pruning.specs.Cut.{cell_with}
use Rattle.pruning.specs.Laid.{Laid, trees, LaidEdge, edge_trees, map_under}
use Rattle.pruning.specs.SpellsLaid.{SpellsLaid, SpellsLaidShape, SpellsEdge, EdgeCell}
use Rattle.pruning_laws.specs.CleanLaws.{IsClean, AllClean, clean-below}
use Rattle.pruning_laws.specs.FilledLaws.{IsFilledEdge, takes, cell_filled}
use Rattle.pruning_laws.specs.ReadsLaws.{no_cell, ok_cell}
use Rattle.pruned_proof.specs.Walks.{Fills, Lies}
use Rattle.pruned_proof.specs.Wanted.{Rests, cut_for, cut_edge_for}
use Rattle.pruned_proof.proofs.Pruned.{IsCell, cell_for, clean_in, cut_prunes, edge_prunes}

-- the slice of an ordinary cell
children-are : (c : Tree) (s : Slice) → c ≡ cell_of s → (out-Tree c).children ≡ s.refs
children-are c s e = ap (λ (z : Tree). (out-Tree z).children) e ∙ (λ i. (out-tree_of Ordinary s.bits s.refs i).children)

cell_clean : (c : Tree) (s : Slice) → c ≡ cell_of s → IsClean c → AllClean s.refs
cell_clean c s e h = let P : Tree → Type 0 = IsClean in clean-below s.bits s.refs (subst P e h)

pub in_cell : (M : Slice → List ℕ → Slice → Type 0) (c : Tree) (s : Slice) (outs : List ℕ) (left : List Tree) → IsClean c
    → c ≡ cell_of s → M s outs nothing → left ≡ (out-Tree c).children → Lies M left outs nothing
in_cell M c s outs left clean e m are =
    let same = children-are c s e in
    let P : List Tree → Type 0 = AllClean in
    record { before = s; refs = sym same ∙ sym are; clean = subst P (sym same ∙ sym are) (cell_clean c s e clean); spelled = m }

-- a value of a type fills the cell
pub record TypeFills (schema : CoreSchema) (d : Laid) (t : Closed) (left : List Tree) : Type 0 where
  pub outs : List ℕ
  pub lies : Lies (SpellsLaid schema d (at_type t)) left outs nothing

no_raw : (schema : CoreSchema) (d : Laid) (c : Tree) → Holds Whole (SpellsLaid schema d) at_cell c → ⊥
no_raw schema d c k =
    let P : Shape → Type 0 = λ x. SpellsLaidShape schema d x (only_ref c) k.0 nothing in
    no_cell schema d (only_ref c) k.0 nothing (subst P (sym (ok_cell k.2.0 k.2.1)) k.2.2)

type_holds : (schema : CoreSchema) (d : Laid) (t : Closed) (c : Tree) (left : List Tree) → IsClean c
    → Holds Whole (SpellsLaid schema d) (at_type t) c → left ≡ (out-Tree c).children → TypeFills schema d t left
type_holds schema d t c left clean k are = record {
  outs = k.1;
  lies = in_cell (SpellsLaid schema d (at_type t)) c k.0 k.1 left clean k.2 k.3 are;
}

pub type_fills : (schema : CoreSchema) (d : Laid) (t : Closed) (c : Tree) (left : List Tree) → Fills schema (under_ref t) d c
    → left ≡ (out-Tree c).children → TypeFills schema d t left
type_fills schema d closed.whole c left f are = absurd (no_raw schema d c f.holds)
type_fills schema d closed.nat32 c left f are = type_holds schema d closed.nat32 c left f.clean f.holds are
type_fills schema d (closed.bits n) c left f are = type_holds schema d (closed.bits n) c left f.clean f.holds are
type_fills schema d (closed.below n) c left f are = type_holds schema d (closed.below n) c left f.clean f.holds are
type_fills schema d (closed.up_to n) c left f are = type_holds schema d (closed.up_to n) c left f.clean f.holds are
type_fills schema d (closed.uint n) c left f are = type_holds schema d (closed.uint n) c left f.clean f.holds are
type_fills schema d (closed.int n) c left f are = type_holds schema d (closed.int n) c left f.clean f.holds are
type_fills schema d (closed.bit_str n) c left f are = type_holds schema d (closed.bit_str n) c left f.clean f.holds are
type_fills schema d (closed.ref t) c left f are = type_holds schema d (closed.ref t) c left f.clean f.holds are
type_fills schema d (closed.repeat n t) c left f are = type_holds schema d (closed.repeat n t) c left f.clean f.holds are
type_fills schema d (closed.dict n t) c left f are = type_holds schema d (closed.dict n t) c left f.clean f.holds are
type_fills schema d (closed.dict_e n t) c left f are = type_holds schema d (closed.dict_e n t) c left f.clean f.holds are
type_fills schema d (closed.named x args) c left f are =
    type_holds schema d (closed.named x args) c left f.clean f.holds are

-- a record fills it
pub record RecordFills (schema : CoreSchema) (d : Laid) (is : Items) (scope : Scope) (left : List Tree) : Type 0 where
  pub outs : List ℕ
  pub lies : Lies (SpellsLaidShape schema d (fields_here is scope)) left outs nothing

here_shape : (is : Items) (scope : Scope) (x : Shape) → shape_of (at_fields is scope) ≡ Ok x → fields_here is scope ≡ x
here_shape is scope x e = cc

pub record_fills : (schema : CoreSchema) (d : Laid) (is : Items) (scope : Scope) (c : Tree) (left : List Tree)
    → Fills schema (at_fields is scope) d c → left ≡ (out-Tree c).children → RecordFills schema d is scope left
record_fills schema d is scope c left f are =
    let k = f.holds in
    let P : Shape → Type 0 = λ x. SpellsLaidShape schema d x k.0 k.1 nothing in
    record {
      outs = k.1;
      lies = in_cell (SpellsLaidShape schema d (fields_here is scope)) c k.0 k.1 left f.clean k.2
          (subst P (sym (here_shape is scope k.3.0 k.3.1)) k.3.2) are;
    }

-- ---- the cell that is made

pub filled_cell : (schema : CoreSchema) (g : Goal) (d : Laid) (c : Tree) (k : Rests) → Fills schema g d c
    → IsCell (cell_with c (cut_for k d)) (cut_for k d)
filled_cell schema g d c k f =
    let x = cell_filled schema d (takes schema d) g c f.holds in
    cell_for c (trees d) (cut_for k d) x.0 f.clean (cut_prunes k d x.1 (clean_in c (trees d) x.0 f.clean))

-- the cell of an edge
pub record EdgeFilled (e : LaidEdge) (c : Tree) : Type 0 where
  pub full : c ≡ cell_with c (edge_trees e)
  pub filled : IsFilledEdge e

pub edge_filled : (schema : CoreSchema) (n : ℕ) (t : Closed) (e : LaidEdge) (c : Tree) → EdgeCell (SpellsEdge schema e) n t c
    → EdgeFilled e c
edge_filled schema n t e c k =
    let s : Slice = record { bits = 1 ∷ []; refs = c ∷ [] } in
    let x = takes schema (map_under c e) (typed (closed.dict_e n t)) s [] nothing
    (refl, record { bits = refl; refs = refl }, k) in
    record { full = x.is_filled.0; filled = x.is_filled.1 }

pub edge_cell : (e : LaidEdge) (c : Tree) (k : Rests) (q : List ℕ) → EdgeFilled e c → IsClean c
    → IsCell (cell_with c (cut_edge_for k q e)) (cut_edge_for k q e)
edge_cell e c k q x clean =
    cell_for c (edge_trees e) (cut_edge_for k q e) x.full clean
    (edge_prunes k q e x.filled (clean_in c (edge_trees e) x.full clean))
