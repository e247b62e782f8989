-- The reference that was taken, and what is put in its place.
use Rattle.std.proofs.Common.{◌≡◌, ℕ, ◌+◌, true, false, List, [], ◌∷◌, ◌++◌, Option, Some, None, Result, Err, ap, ◌∙◌, length}
use Rattle.std.proofs.lemmas.Option.{none-some}
use Rattle.std.specs.Prelude.{IfOk, IsErrAnd, IsErrOf, ◌≢◌, ◌<◌, ◌⊎◌}
use Rattle.std.proofs.lemmas.Result.{err_from_is_err_and}
use Rattle.bit_slice.specs.Bits.{taken}
use Rattle.cell_nodes.specs.Constructed.{stub}
use Rattle.cell_nodes.specs.Tree.{deepest}
use Rattle.cell_nodes.specs.declared.tree.Tree.{Tree, out-Tree}
use Rattle.core_form.specs.Closed.{Closed}
use Rattle.core_form.specs.Closed as closed
use Rattle.core_form.specs.Core.{CoreSchema, Items}
use Rattle.core_form.specs.Scope.{Scope}
use Rattle.hashmap_tree.specs.Entries.{Slice}
use Rattle.spelling.specs.Goals.{Goal, at_fields, fields_here, fields_under, typed, under_ref}
use Rattle.spelling.specs.Slices.{nothing}
use Rattle.typed_value.specs.Values.{Plain}
use Rattle.typed_value.specs.Values as values
use Rattle.pruning.specs.Cut.{cell_with}
use Rattle.pruning.specs.Laid.{Laid, LaidEdge}
use Rattle.pruning.specs.SpellsLaid.{SpellsEdge, SpellsLaidShape}
use Rattle.pruned_proof.specs.Walks.{Fails, Gives, Is, IsBranch, Lies, Moves, held_in, is_raw}
use Rattle.pruned_proof.specs.Wanted.{Rests, below, cut_at, cut_edge_for, cut_for, is_nothing, is_whole}
use Rattle.pruned_proof.specs.declared.cutting.CutError.{CutError}
use Rattle.pruned_proof.specs.declared.cutting.CutError.TheVariants.{Unread}
use Rattle.pruned_proof.specs.declared.cutting.Cutting.{Cutting}
use Rattle.pruned_proof.proofs.Branched.{branch_at, branch_kept, branch_opened, branch_wanted, edge_fills}
use Rattle.pruned_proof.proofs.Filling.{edge_cell, edge_filled, filled_cell, record_fills}
use Rattle.pruned_proof.proofs.Led.{Led, Opened, is_held, led, led_at, led_fields, led_hidden, led_kept, led_opened, led_raw, still}
use Rattle.pruned_proof.proofs.Pruned.{IsCell, finished}

-- ---- answers

-- a `?` that returns
pub stopped : {A : Type 0} (P : A → Type 0) (r : Result A CutError) (e : CutError) → IsErrAnd r (λ x. x ≡ e) → Fails e → Gives P r
stopped P r e is f = let p = err_from_is_err_and r is in still P r e (p.1 ∙ ap Err p.2) f

-- the cell of what was made in one
pub closed_cell : (r : Result Tree CutError) (c : Tree) (start end : Cutting) (ps : List Tree)
    → IfOk r (λ x. (end.left ≡ []) × (x ≡ cell_with c end.made.items))
    → (IsErrOf r Unread → (end.left ≢ []) ⊎ (4 < length end.made.items) ⊎ (1024 < deepest (cell_with c end.made.items)))
    → Moves ps [] start end → start.made.items ≡ [] → IsCell (cell_with c ps) ps → Gives (λ x. x ≡ cell_with c ps) r
closed_cell r c start end ps ok unread m none is =
    finished r c end.left end.made.items ps ok unread m.0 (m.1 ∙ ap (λ (z : List Tree). z ++ ps) none) is

-- ---- a reference

pub record Taken (schema : CoreSchema) (g : Goal) (v : Plain) (n : ℕ) (d : Laid) (mid after : List Tree) (child : Tree)
    (k : Rests) : Type 0 where
  pub rest : mid ≡ after
  pub hidden : is_nothing k ≡ true → cut_for k d ≡ stub child 0 ∷ []
  pub kept : is_whole k ≡ true → cut_for k d ≡ child ∷ []
  pub raw : is_raw v ≡ true → is_nothing k ≡ false → cut_for k d ≡ child ∷ []
  pub opened : is_raw v ≡ false → is_nothing k ≡ false → Opened schema g v n d child k

taken_at : (schema : CoreSchema) (g : Goal) (v : Plain) (n : ℕ) (d : Laid) (left mid after : List Tree) (child : Tree) (k : Rests)
    → Led schema g v n d left after → left ≡ child ∷ mid → Taken schema g v n d mid after child k
taken_at schema g v n d left mid after child k x there =
    let at = led_at schema g v n d left mid after child x there in
    record {
      rest = at.rest;
      hidden = led_hidden schema g v n d child k at.leads;
      kept = led_kept schema g v n d child k at.leads;
      raw = led_raw schema g v n d child k at.leads;
      opened = led_opened schema g v n d child k at.leads;
    }

pub ref_taken : (schema : CoreSchema) (d : Laid) (t : Closed) (v : Plain) (n : ℕ) (left : List Tree) (outs : List ℕ)
    (after : Slice) → Is d (values.ref_to tt v) (n + 1) → Lies (SpellsLaidShape schema d (typed (closed.ref t))) left outs after
    → (mid : List Tree) (child : Tree) (k : Rests) → left ≡ child ∷ mid
    → Taken schema (under_ref t) v n d mid after.refs child k
ref_taken schema d t v n left outs after is l mid child k there =
    taken_at schema (under_ref t) v n d left mid after.refs child k (led schema d t v n left outs after is l) there

-- ---- a reference under the `^` of a record

-- the record in its cell, by the value that the program holds
pub record UnderOpened (schema : CoreSchema) (is : Items) (scope : Scope) (m : ℕ) (d : Laid) (child : Tree) (k : Rests)
    (held : Plain) (inside : List Tree) : Type 0 where
  pub inner : Laid
  pub outs : List ℕ
  pub is_held : Is inner held m
  pub lies : Lies (SpellsLaidShape schema inner (fields_here is scope)) inside outs nothing
  pub cell : IsCell (cell_with child (cut_for k inner)) (cut_for k inner)
  pub made : cut_for k d ≡ cell_with child (cut_for k inner) ∷ []

pub record UnderTaken (schema : CoreSchema) (is : Items) (scope : Scope) (w : Plain) (m : ℕ) (d : Laid) (mid after : List Tree)
    (child : Tree) (k : Rests) : Type 0 where
  pub rest : mid ≡ after
  pub hidden : is_nothing k ≡ true → cut_for k d ≡ stub child 0 ∷ []
  pub kept : is_whole k ≡ true → cut_for k d ≡ child ∷ []
  pub holds : None ≡ held_in w → ⊥
  pub opened : is_nothing k ≡ false → (held : Plain) → Some held ≡ held_in w → (inside : List Tree)
      → inside ≡ (out-Tree child).children → UnderOpened schema is scope m d child k held inside

pub under_taken : (schema : CoreSchema) (d : Laid) (is : Items) (scope : Scope) (w : Plain) (m : ℕ) (left : List Tree)
    (outs : List ℕ) (after : Slice) → Is d w m → Lies (SpellsLaidShape schema d (fields_under is scope)) left outs after
    → (mid : List Tree) (child : Tree) (k : Rests) → left ≡ child ∷ mid
    → UnderTaken schema is scope w m d mid after.refs child k
under_taken schema d is scope w m left outs after i l mid child k there =
    let x = led_fields schema d is scope w m left outs after i l in
    let g = at_fields is scope in
    let at = taken_at schema g x.inner x.less d left mid after.refs child k x.leads there in
    record {
      rest = at.rest;
      hidden = at.hidden;
      kept = at.kept;
      holds = λ none. none-some x.inner (none ∙ ap held_in x.is_ref);
      opened = λ some held is_ref inside are.
          let o = at.opened x.value some in
          let z = record_fills schema o.inner is scope child inside o.fills are in
          record {
            inner = o.inner;
            outs = z.outs;
            is_held = is_held o.inner x.inner held w x.less m o.is x.is_ref is_ref x.levels;
            lies = z.lies;
            cell = filled_cell schema g o.inner child k o.fills;
            made = o.made;
          };
    }

-- ---- the reference of an edge

pub record BranchTaken (schema : CoreSchema) (n : ℕ) (t : Closed) (q : List ℕ) (e : LaidEdge) (c child : Tree)
    (mid after : List Tree) (k here : Rests) : Type 0 where
  pub rest : mid ≡ after
  pub kept : is_whole here ≡ true → cut_at (below q k) c (cut_edge_for (below q k) q e) ∷ [] ≡ child ∷ []
  pub opened : is_nothing here ≡ false
      → cut_at (below q k) c (cut_edge_for (below q k) q e) ∷ [] ≡ cell_with child (cut_edge_for here q e) ∷ []
  pub lies : (inside : List Tree) → inside ≡ (out-Tree child).children
      → Lies (λ b o a. SpellsEdge schema e n t b a) inside [] nothing
  pub cell : IsCell (cell_with child (cut_edge_for here q e)) (cut_edge_for here q e)

pub branch_taken : (schema : CoreSchema) (n : ℕ) (t : Closed) (q : List ℕ) (e : LaidEdge) (key : List ℕ) (c : Tree)
    (left after : List Tree) (at : IsBranch schema n t q e key c left after) (child : Tree) (mid : List Tree)
    → left ≡ child ∷ mid → (seen prefix more : List ℕ) (end : ℕ) (k here : Rests) (r : Option (List ℕ × List ℕ))
    → end ≡ length q → r ≡ Some (prefix, more) → r ≡ taken end seen → seen ≡ key → here ≡ below prefix k
    → BranchTaken schema n t q e c child mid after k here
branch_taken schema n t q e key c left after at child mid there seen prefix more end k here r long some took same are =
    let b = branch_at schema n t q e key c child left mid after at there in
    let wanted = branch_wanted q key seen at.rest prefix more end k here r at.begins long some took same are in
    record {
      rest = b.rest;
      kept = branch_kept schema n t q e c child mid after (below q k) here b wanted;
      opened = branch_opened schema n t q e c child mid after (below q k) here b wanted;
      lies = λ inside inside_is. edge_fills schema e n t child inside b.clean b.cell inside_is;
      cell = edge_cell e child here q (edge_filled schema n t e child b.cell) b.clean;
    }
