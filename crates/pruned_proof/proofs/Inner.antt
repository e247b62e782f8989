-- A record in a record, and the items of a repetition, by what the walk holds of them.
use Rattle.std.proofs.Common.{◌≡◌, ℕ, ◌+◌, ◌-◌, ◌<◌, ◌≤◌, List, ◌++◌, None, ap, drop, get_or, length, map, subst, sym}
use Rattle.std.proofs.lemmas.List.{drop_all}
use Rattle.cell_nodes.specs.declared.tree.Tree.{Tree}
use Rattle.core_form.specs.Closed.{Closed}
use Rattle.core_form.specs.Core.{CoreSchema, Items}
use Rattle.core_form.specs.Scope.{Scope}
use Rattle.flat_form.specs.Stands.{items_in, range, record_at, type_at}
use Rattle.flat_form.specs.declared.lists.Flat.{Flat}
use Rattle.flat_form.specs.declared.lists.PlanOp.{PlanOp}
use Rattle.hashmap_tree.specs.Entries.{Slice}
use Rattle.spelling.specs.Goals.{fields_here}
use Rattle.typed_value.specs.Values.{Plain}
use Rattle.typed_value.specs.View.{names_in, value, vals_in}
use Rattle.typed_value.specs.declared.value.Value.{Value}
use Rattle.pruning.specs.Laid.{Laid}
use Rattle.pruning.specs.SpellsLaid.{SpellsLaidShape}
use Rattle.pruned_proof.specs.Walks.{Due, DueItems, Is, Lies, fields_of}
use Rattle.pruned_proof.specs.Wanted.{Rests, cut_for}
use Rattle.pruned_proof.specs.declared.cutting.Cutting.{Cutting}
use Rattle.pruned_proof.proofs.Fielded.{FirstItem, ItemsMade, first_item, no_item}
use Rattle.pruned_proof.proofs.Recorded.{parts, record_due}
use Rattle.pruned_proof.proofs.Seen.{item_next}
use Rattle.pruned_proof.proofs.Shaped.{items_there}

-- what is due of an inner record, by the operations that are looked up and the slots that are copied
pub record InnerDue (schema : CoreSchema) (k : Rests) (most : ℕ) (d : Laid) (p : Flat) (ops : List PlanOp) (scope : Scope)
    (after : Slice) (fields : List (List ℕ × Plain)) (cell : Cutting) : Type 0 where
  pub end : Scope
  pub due : Due schema k most end after (cell.made.items ++ cut_for k d) (items_in p (type_at p) None ops) scope fields cell

pub inner_due : (schema : CoreSchema) (k : Rests) (f p : Flat) (first count : ℕ) (ops : List PlanOp) → f ≡ p
    → ops ≡ range f.ops first count → (scope copy : Scope) → copy ≡ scope → (v : Plain) (n : ℕ) (cell : Cutting) (outs : List ℕ)
    (after : Slice) (d : Laid) (fields : List (List ℕ × Plain)) → Is d v n
    → Lies (SpellsLaidShape schema d (fields_here (record_at p first count) scope)) cell.left outs after
    → parts (names_in fields) (vals_in fields) ≡ fields_of v → InnerDue schema k (n - 1) d p ops copy after fields cell
inner_due schema k f p first count ops same are scope copy copied v n cell outs after d fields is l seen =
    let x = record_due schema k (record_at p first count) scope v n cell outs after d fields is l seen in
    let all = cell.made.items ++ cut_for k d in
    let D : Items → Scope → Type 0 = λ y z. Due schema k (n - 1) x.end after all y z fields cell in
    let there = items_there f p first count ops same are in
    record {
      end = x.end;
      due = subst (λ z. D z copy) (sym there) (subst (λ z. D (record_at p first count) z) (sym copied) x.due);
    }

-- the next item, and the end
module _ (schema : CoreSchema) (k : Rests) (most : ℕ) (t : Closed) (after : Slice) (all : List Tree) (place i : ℕ)
    (items : List Value) (cell : Cutting) (due : DueItems schema k most t after all place (map value (drop i items)) cell) where
  pub item_at : (v : Value) → i < length items → v ≡ get_or items i v
      → FirstItem schema k most t after all place (value v) (map value (drop (i + 1) items)) cell
  item_at v within is =
      let D : List Plain → Type 0 = λ z. DueItems schema k most t after all place z cell in
      first_item schema k most t after all place (value v) (map value (drop (i + 1) items)) cell
      (subst D (item_next items i v within is) due)

  pub items_done : length items ≤ i → ItemsMade schema k most t after all cell
  items_done done =
      let D : List Plain → Type 0 = λ z. DueItems schema k most t after all place z cell in
      no_item schema k most t after all place cell (subst D (ap (map value) (drop_all i items done)) due)
