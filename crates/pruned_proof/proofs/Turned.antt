-- One operation of a record, and the fields that are due after it.
use Rattle.std.proofs.Common.{◌≡◌, ℕ, List, [], ◌∷◌, Option, Some, None, Ok, Err, sym, ap, ◌∙◌, subst, slice_set}
use Rattle.cell_nodes.specs.declared.tree.Tree.{Tree}
use Rattle.closed_type.specs.declared.tree.ClosedType.{ClosedType}
use Rattle.core_form.specs.Core.{Condition, CoreSchema, sets}
use Rattle.core_form.specs.Scope.{Scope, bind}
use Rattle.flat_form.specs.Sound.{OpIsSound}
use Rattle.flat_form.specs.Stands.{expr_at, items_in, name_at, slot_of, type_at}
use Rattle.flat_form.specs.declared.lists.Flat.{Flat}
use Rattle.flat_form.specs.declared.lists.PlanOp.{PlanOp}
use Rattle.flat_form.specs.declared.lists.PlanOp.TheVariants.{Solve, Field}
use Rattle.hashmap_tree.specs.Entries.{Slice}
use Rattle.nat_solver.specs.Number.{Numbers}
use Rattle.plan_closing.specs.Counted.{scope_of}
use Rattle.spelling.specs.PlainReader.{sought_number}
use Rattle.spelling.specs.declared.Cause.{Cause}
use Rattle.typed_value.specs.Values.{Plain}
use Rattle.pruned_proof.specs.Walks.{Due}
use Rattle.pruned_proof.specs.Wanted.{Rests}
use Rattle.pruned_proof.specs.declared.cutting.Cutting.{Cutting}
use Rattle.pruned_proof.proofs.Fielded.{FirstDue, due_solved, field_due, first_due, solve_found}

module _ (schema : CoreSchema) (k : Rests) (most : ℕ) (end : Scope) (after : Slice) (all : List Tree) (p : Flat)
    (g : Option Condition) (op : PlanOp) (ops : List PlanOp) (fields : List (List ℕ × Plain)) (cell : Cutting) where
  pub op_solved : (f : Flat) (top v a b i n : ℕ) (numbers new : Numbers) (types : List (Option ClosedType)) → op ≡ Solve v a b i
      → f ≡ p → OpIsSound p top op → Ok n ≡ sought_number (expr_at f a) (expr_at f b) numbers
      → new ≡ slice_set numbers v (Some n)
      → Due schema k most end after all (items_in p (type_at p) g (op ∷ ops)) (scope_of numbers types) fields cell
      → Due schema k most end after all (items_in p (type_at p) None ops) (scope_of new types) fields cell
  op_solved f top v a b i n numbers new types is same sound found set x =
      let scope = scope_of numbers types in
      let P : PlanOp → Type 0 = λ z. Due schema k most end after all (items_in p (type_at p) g (z ∷ ops)) scope fields cell in
      let Q : PlanOp → Type 0 = λ z. OpIsSound p top z in
      let T : Flat → Type 0 = λ z. Ok n ≡ sought_number (expr_at z a) (expr_at z b) numbers in
      let one = subst Q is sound in
      due_solved schema k most end after all v (expr_at p a) (expr_at p b) i (items_in p (type_at p) None ops) scope
      (scope_of new types) fields cell n one.one (subst T same found) (ap (λ z. scope_of z types) set) (subst P is x)

  pub op_unsolved : (f : Flat) (top v a b i : ℕ) (why : Cause) (numbers : Numbers) (types : List (Option ClosedType))
      → op ≡ Solve v a b i → f ≡ p → OpIsSound p top op → Err why ≡ sought_number (expr_at f a) (expr_at f b) numbers
      → Due schema k most end after all (items_in p (type_at p) g (op ∷ ops)) (scope_of numbers types) fields cell → ⊥
  op_unsolved f top v a b i why numbers types is same sound found x =
      let scope = scope_of numbers types in
      let P : PlanOp → Type 0 = λ z. Due schema k most end after all (items_in p (type_at p) g (z ∷ ops)) scope fields cell in
      let Q : PlanOp → Type 0 = λ z. OpIsSound p top z in
      let T : Flat → Type 0 = λ z. Err why ≡ sought_number (expr_at z a) (expr_at z b) numbers in
      let one = subst Q is sound in
      solve_found schema k most end after all v (expr_at p a) (expr_at p b) i (items_in p (type_at p) None ops) scope
      fields cell why one.one (subst T same found) (subst P is x)

  pub op_no_field : (y ty slot : ℕ) (scope : Scope) → op ≡ Field y ty slot → fields ≡ []
      → Due schema k most end after all (items_in p (type_at p) g (op ∷ ops)) scope fields cell → ⊥
  op_no_field y ty slot scope is none x =
      let P : PlanOp → Type 0 = λ z. Due schema k most end after all (items_in p (type_at p) g (z ∷ ops)) scope fields cell in
      let F : List (List ℕ × Plain) → Type 0 = λ z. Due schema k most end after all
      (items_in p (type_at p) g (Field y ty slot ∷ ops)) scope z cell in
      field_due schema k most end after all (name_at p y) (slot_of slot) g (type_at p ty) (items_in p (type_at p) None ops) scope
      cell (subst F none (subst P is x))

  pub op_field : (y ty slot : ℕ) (scope : Scope) (name : List ℕ) (v : Plain) (due : List (List ℕ × Plain))
      → op ≡ Field y ty slot → fields ≡ (name, v) ∷ due
      → Due schema k most end after all (items_in p (type_at p) g (op ∷ ops)) scope fields cell
      → FirstDue schema k most end after all (slot_of slot) g (type_at p ty) (items_in p (type_at p) None ops) scope name v due
      cell
  op_field y ty slot scope name v due is one x =
      let P : PlanOp → Type 0 = λ z. Due schema k most end after all (items_in p (type_at p) g (z ∷ ops)) scope fields cell in
      let F : List (List ℕ × Plain) → Type 0 = λ z. Due schema k most end after all
      (items_in p (type_at p) g (Field y ty slot ∷ ops)) scope z cell in
      first_due schema k most end after all (name_at p y) (slot_of slot) g (type_at p ty) (items_in p (type_at p) None ops) scope
      name v due cell (subst F one (subst P is x))

-- what a field binds
pub bound_as : (f p : Flat) (ty slot : ℕ) (found outs : List ℕ) (scope next : Scope) → f ≡ p → found ≡ outs
    → bind (sets (slot_of slot) (type_at f ty)) found scope ≡ next
    → next ≡ bind (sets (slot_of slot) (type_at p ty)) outs scope
bound_as f p ty slot found outs scope next same is bound =
    sym bound ∙ ap (λ (z : Flat). bind (sets (slot_of slot) (type_at z ty)) found scope) same
    ∙ ap (λ (z : List ℕ). bind (sets (slot_of slot) (type_at p ty)) z scope) is
