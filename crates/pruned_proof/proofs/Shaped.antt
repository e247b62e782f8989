-- The shape of a field's type, and the operations of a record.
use Rattle.std.proofs.Common.{◌≡◌, ℕ, suc, ◌+◌, ◌<◌, ◌≤◌, List, [], ◌∷◌, Option, Some, None, Result, Ok, sym, ap, ◌∙◌, subst, arith}
use Rattle.std.proofs.Common.{length, drop, drop-cons, get_or}
use Rattle.std.proofs.lemmas.List.{drop_all, append-nil}
use Rattle.cell_nodes.specs.declared.tree.Tree.{Tree}
use Rattle.core_form.specs.Core.{Condition, CoreSchema, Items}
use Rattle.core_form.specs.Scope.{Scope}
use Rattle.flat_form.specs.GrowthLaws.{ops_higher}
use Rattle.flat_form.specs.Stands.{items_in, range, record_at, type_at}
use Rattle.flat_form.specs.declared.lists.Flat.{Flat}
use Rattle.flat_form.specs.declared.lists.PlanOp.{PlanOp}
use Rattle.hashmap_tree.specs.Entries.{Slice}
use Rattle.plan_reading.specs.Shaped.{IsRecord, ShapeIsSound, governed, shape_view}
use Rattle.plan_reading.specs.declared.shapes.FlatShape.{FlatShape}
use Rattle.plan_reading.specs.declared.shapes.FlatShape.TheVariants.{Here, Under}
use Rattle.spelling.specs.Goals.{Goal, Shape, at_field, fields_here, fields_under, left_out, shape_of}
use Rattle.spelling.specs.declared.Cause.{Cause}
use Rattle.pruning.specs.Laid.{Laid, number, bit_string, record_of, absent, list_of, ref_to, ref_to_raw, no_map}
use Rattle.pruning.specs.Laid.{map_under, map_here, rest}
use Rattle.pruning.specs.SpellsLaid.{SpellsLaid, SpellsLaidShape}
use Rattle.typed_value.specs.Values.{Plain}
use Rattle.pruned_proof.specs.Walks.{Due, Lies, Moves}
use Rattle.pruned_proof.specs.Wanted.{Rests, cut_for}
use Rattle.pruned_proof.specs.declared.cutting.Cutting.{Cutting}
use Rattle.pruned_proof.proofs.Fielded.{AllMade, none_due}

-- ---- shapes

pub shaped : (f p : Flat) (c : Option (ℕ × ℕ)) (ty : ℕ) (scope : Scope) (x y : FlatShape) → f ≡ p
    → shape_of (at_field (governed f c) (type_at f ty) scope) ≡ Ok (shape_view f scope x) → x ≡ y
    → shape_of (at_field (governed p c) (type_at p ty) scope) ≡ Ok (shape_view p scope y)
shaped f p c ty scope x y same shape is =
    let P : Flat → Type 0 = λ z. shape_of (at_field (governed z c) (type_at z ty) scope) ≡ Ok (shape_view z scope x) in
    subst P same shape ∙ ap (λ z. Ok (shape_view p scope z)) is

-- what is spelled at a goal is spelled at its shape
pub at_shape : (schema : CoreSchema) (d : Laid) (g : Goal) (x : Shape) (left : List Tree) (outs : List ℕ) (after : Slice)
    → shape_of g ≡ Ok x → Lies (SpellsLaid schema d g) left outs after → Lies (SpellsLaidShape schema d x) left outs after
at_shape schema d g x left outs after is l =
    let k = l.spelled in
    let P : Shape → Type 0 = λ z. SpellsLaidShape schema d z l.before outs after in
    record { before = l.before; refs = l.refs; clean = l.clean; spelled = subst P (same (sym k.1 ∙ is)) k.2 }
  where
    same : {a b : Shape} → (◌≡◌ {A = Result Shape Cause} (Ok a) (Ok b)) → a ≡ b
    same e = cc

-- the same of a field, by the shape that was found
pub field_at : (schema : CoreSchema) (d : Laid) (f p : Flat) (c : Option (ℕ × ℕ)) (ty : ℕ) (scope : Scope) (x y : FlatShape)
    (left : List Tree) (outs : List ℕ) (after : Slice) → f ≡ p
    → shape_of (at_field (governed f c) (type_at f ty) scope) ≡ Ok (shape_view f scope x) → x ≡ y
    → Lies (SpellsLaid schema d (at_field (governed p c) (type_at p ty) scope)) left outs after
    → Lies (SpellsLaidShape schema d (shape_view p scope y)) left outs after
field_at schema d f p c ty scope x y left outs after same shape is l =
    at_shape schema d (at_field (governed p c) (type_at p ty) scope) (shape_view p scope y) left outs after
    (shaped f p c ty scope x y same shape is) l

pub here_outs : (schema : CoreSchema) (d : Laid) (is : Items) (scope : Scope) (left : List Tree) (outs : List ℕ)
    (after : Slice) → Lies (SpellsLaidShape schema d (fields_here is scope)) left outs after → outs ≡ []
here_outs schema (number negative size) is scope left outs after l = absurd l.spelled
here_outs schema (bit_string bits) is scope left outs after l = absurd l.spelled
here_outs schema (record_of (Some name) names ds) is scope left outs after l = absurd l.spelled
here_outs schema (record_of None names ds) is scope left outs after l = l.spelled.0
here_outs schema absent is scope left outs after l = absurd l.spelled
here_outs schema (list_of ds) is scope left outs after l = absurd l.spelled
here_outs schema (ref_to c d) is scope left outs after l = absurd l.spelled
here_outs schema (ref_to_raw c) is scope left outs after l = absurd l.spelled
here_outs schema no_map is scope left outs after l = absurd l.spelled
here_outs schema (map_under c e) is scope left outs after l = absurd l.spelled
here_outs schema (map_here e) is scope left outs after l = absurd l.spelled
here_outs schema (rest s) is scope left outs after l = absurd l.spelled

pub under_outs : (schema : CoreSchema) (d : Laid) (is : Items) (scope : Scope) (left : List Tree) (outs : List ℕ)
    (after : Slice) → Lies (SpellsLaidShape schema d (fields_under is scope)) left outs after → outs ≡ []
under_outs schema (number negative size) is scope left outs after l = absurd l.spelled
under_outs schema (bit_string bits) is scope left outs after l = absurd l.spelled
under_outs schema (record_of (Some name) names ds) is scope left outs after l = absurd l.spelled
under_outs schema (record_of None names ds) is scope left outs after l = absurd l.spelled
under_outs schema absent is scope left outs after l = absurd l.spelled
under_outs schema (list_of ds) is scope left outs after l = absurd l.spelled
under_outs schema (ref_to c d) is scope left outs after l = l.spelled.1
under_outs schema (ref_to_raw c) is scope left outs after l = absurd l.spelled
under_outs schema no_map is scope left outs after l = absurd l.spelled
under_outs schema (map_under c e) is scope left outs after l = absurd l.spelled
under_outs schema (map_here e) is scope left outs after l = absurd l.spelled
under_outs schema (rest s) is scope left outs after l = absurd l.spelled

-- a field that is left out takes nothing
pub record LeftOut (d : Laid) (k : Rests) (outs : List ℕ) (after : Slice) (cell : Cutting) : Type 0 where
  pub none : outs ≡ []
  pub moves : Moves (cut_for k d) after.refs cell cell

pub left_is : (schema : CoreSchema) (d : Laid) (k : Rests) (cell : Cutting) (outs : List ℕ) (after : Slice)
    → Lies (SpellsLaidShape schema d left_out) cell.left outs after → LeftOut d k outs after cell
left_is schema (number negative size) k cell outs after l = absurd l.spelled
left_is schema (bit_string bits) k cell outs after l = absurd l.spelled
left_is schema (record_of (Some name) names ds) k cell outs after l = absurd l.spelled
left_is schema (record_of None names ds) k cell outs after l = absurd l.spelled
left_is schema absent k cell outs after l = record {
  none = l.spelled.0;
  moves = (sym l.refs ∙ ap (λ (s : Slice). s.refs) (sym l.spelled.1), sym (append-nil cell.made.items));
}
left_is schema (list_of ds) k cell outs after l = absurd l.spelled
left_is schema (ref_to c d) k cell outs after l = absurd l.spelled
left_is schema (ref_to_raw c) k cell outs after l = absurd l.spelled
left_is schema no_map k cell outs after l = absurd l.spelled
left_is schema (map_under c e) k cell outs after l = absurd l.spelled
left_is schema (map_here e) k cell outs after l = absurd l.spelled
left_is schema (rest s) k cell outs after l = absurd l.spelled

-- ---- the operations of a record

record_within : (f p : Flat) (ty first count : ℕ) → f ≡ p → ty < length p.types → IsRecord f ty first count
    → IsRecord p (length p.types) first count
record_within f p ty first count same low is =
    let P : Flat → Type 0 = λ z. IsRecord z ty first count in
    let r : IsRecord p ty first count = subst P same is in
    record {
      there = r.there;
      sound = ops_higher p ty (length p.types) (range p.ops first count) (omega arith) r.sound;
    }

pub here_within : (f p : Flat) (ty first count : ℕ) (x : FlatShape) → f ≡ p → ty < length p.types → ShapeIsSound f ty x
    → x ≡ Here first count → IsRecord p (length p.types) first count
here_within f p ty first count x same low sound is =
    let P : FlatShape → Type 0 = λ z. ShapeIsSound f ty z in
    record_within f p ty first count same low (subst P is sound)

pub under_within : (f p : Flat) (ty first count : ℕ) (x : FlatShape) → f ≡ p → ty < length p.types → ShapeIsSound f ty x
    → x ≡ Under first count → IsRecord p (length p.types) first count
under_within f p ty first count x same low sound is =
    let P : FlatShape → Type 0 = λ z. ShapeIsSound f ty z in
    record_within f p ty first count same low (subst P is sound)

pub items_there : (f p : Flat) (first count : ℕ) (ops : List PlanOp) → f ≡ p → ops ≡ range f.ops first count
    → items_in p (type_at p) None ops ≡ record_at p first count
items_there f p first count ops same there =
    ap (λ z. items_in p (type_at p) None z) (there ∙ ap (λ (z : Flat). range z.ops first count) same)

-- the next operation, and the end
module _ (schema : CoreSchema) (k : Rests) (most : ℕ) (end : Scope) (after : Slice) (all : List Tree) (p : Flat)
    (g : Option Condition) (ops : List PlanOp) (i : ℕ) (scope : Scope) (fields : List (List ℕ × Plain)) (cell : Cutting) where
  pub next_due : (o : PlanOp) → i < length ops
      → Due schema k most end after all (items_in p (type_at p) g (drop i ops)) scope fields cell
      → Due schema k most end after all (items_in p (type_at p) g (get_or ops i o ∷ drop (i + 1) ops)) scope fields cell
  next_due o within due =
      let D : List PlanOp → Type 0 = λ z. Due schema k most end after all (items_in p (type_at p) g z) scope fields cell in
      let next : suc i ≡ i + 1 = omega arith in
      subst D (drop-cons ops i o within ∙ ap (λ n. get_or ops i o ∷ drop n ops) next) due

  pub last_due : length ops ≤ i
      → Due schema k most end after all (items_in p (type_at p) g (drop i ops)) scope fields cell
      → AllMade schema k most end after all scope cell
  last_due done due =
      let D : List PlanOp → Type 0 = λ z. Due schema k most end after all (items_in p (type_at p) g z) scope fields cell in
      none_due schema k most end after all scope fields cell (subst D (drop_all i ops done) due)
