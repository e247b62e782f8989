-- The fields of a record and the items of a repetition, one after the other.
use Rattle.std.proofs.Common.{◌≡◌, ℕ, suc, ◌+◌, ◌≤◌, List, [], ◌∷◌, ◌++◌, Option, Ok, Err, sym, ap, ◌∙◌, subst}
use Rattle.std.proofs.Common.{arith, append_assoc, Result}
use Rattle.std.proofs.lemmas.List.{append-nil}
use Rattle.cell_nodes.specs.declared.tree.Tree.{Tree}
use Rattle.core_form.specs.Closed.{Closed}
use Rattle.core_form.specs.Core.{CoreSchema, Condition, Items, Ty, Word, no_items, an_item, solve, field, sets}
use Rattle.core_form.specs.Scope.{Scope, with_number, bind}
use Rattle.hashmap_tree.specs.Entries.{Slice}
use Rattle.nat_solver.specs.Number.{Expr, OneUnknown}
use Rattle.spelling.specs.Goals.{Goal, at_field, at_type}
use Rattle.spelling.specs.PlainReader.{sought_number}
use Rattle.spelling.specs.Spells.{Fields, Repeats}
use Rattle.spelling.specs.declared.Cause.{Cause}
use Rattle.spelling_laws.specs.SolvingLaws.{sought_complete}
use Rattle.typed_value.specs.Paths.{named, item}
use Rattle.typed_value.specs.Values.{Plain, Plains, a_val, no_vals}
use Rattle.typed_value.specs.View.{names_in, vals_in, vals_of}
use Rattle.pruning.specs.Laid.{Laid, Laids, no_laids, a_laid, plain, plain_all, trees}
use Rattle.pruning.specs.SpellsLaid.{SpellsLaid, EachLaid}
use Rattle.pruning_laws.specs.CleanLaws.{AllClean, clean-right}
use Rattle.pruning_laws.specs.FilledLaws.{takes}
use Rattle.pruned_proof.specs.Walks.{Are, Due, DueItems, Is, Lies, Moves}
use Rattle.pruned_proof.specs.Wanted.{Rests, cut_for, cut_fields_for, cut_items_for, onward}
use Rattle.pruned_proof.specs.declared.cutting.Cutting.{Cutting}

-- ---- the first of several

first_value : (a b : Plain) (xs ys : Plains) → a_val a xs ≡ a_val b ys → a ≡ b
first_value a b xs ys e = cc

other_values : (a b : Plain) (xs ys : Plains) → a_val a xs ≡ a_val b ys → xs ≡ ys
other_values a b xs ys e = cc

first_is : (d : Laid) (ds : Laids) (v : Plain) (vs : Plains) (n : ℕ) → Are (a_laid d ds) (a_val v vs) n → Is d v n
first_is d ds v vs n are =
    let deep = are.deep in
    record { value = first_value (plain d) v (plain_all ds) vs are.values; deep = omega (arith, deep) }

others_are : (d : Laid) (ds : Laids) (v : Plain) (vs : Plains) (n : ℕ) → Are (a_laid d ds) (a_val v vs) n → Are ds vs n
others_are d ds v vs n are =
    let deep = are.deep in
    record { values = other_values (plain d) v (plain_all ds) vs are.values; deep = omega (arith, deep) }

-- what is left is without hidden parts
clean-after : (schema : CoreSchema) (d : Laid) (g : Goal) (before middle : Slice) (outs : List ℕ) (left : List Tree)
    → SpellsLaid schema d g before outs middle → before.refs ≡ left → AllClean left → AllClean middle.refs
clean-after schema d g before middle outs left s refs clean =
    let x = takes schema d s.0 before outs middle s.2 in
    let P : List Tree → Type 0 = AllClean in
    clean-right (trees d) middle.refs (subst P (sym refs ∙ x.refs) clean)

-- the next value moves the cell on
made-on : (old new : Cutting) (here more all : List Tree) (after : List Tree) → Moves here after old new
    → old.made.items ++ (here ++ more) ≡ all → new.made.items ++ more ≡ all
made-on old new here more all after m e =
    ap (λ (z : List Tree). z ++ more) m.1 ∙ append_assoc old.made.items here more ∙ e

-- ---- fields

module _ (schema : CoreSchema) (k : Rests) (most : ℕ) (end : Scope) (after : Slice) (all : List Tree) where
  -- an equation takes nothing
  pub due_solved : (v : ℕ) (a b : Expr) (i : ℕ) (is : Items) (scope next : Scope) (fields : List (List ℕ × Plain))
      (cell : Cutting) (n : ℕ) → OneUnknown a b v → Ok n ≡ sought_number a b scope.numbers → next ≡ with_number v n scope
      → Due schema k most end after all (an_item (solve v a b i) is) scope fields cell
      → Due schema k most end after all is next fields cell
  due_solved v a b i is scope next fields cell n one found is_next x =
      let other : Ok n ≡ Ok x.spelled.0 = found ∙ sought_complete a b scope.numbers v x.spelled.0 one x.spelled.1 in
      let same : x.spelled.0 ≡ n = given other in
      let P : Scope → Type 0 = λ z. Fields is (EachLaid schema x.laids) z x.before end after in
      record {
        laids = x.laids;
        are = x.are;
        before = x.before;
        refs = x.refs;
        clean = x.clean;
        spelled = subst P (ap (λ (m : ℕ). with_number v m scope) same ∙ sym is_next) x.spelled.2;
        made = x.made;
      }
    where
      given : {m : ℕ} → (◌≡◌ {A = Result ℕ Cause} (Ok n) (Ok m)) → m ≡ n
      given e = cc

  pub solve_found : (v : ℕ) (a b : Expr) (i : ℕ) (is : Items) (scope : Scope) (fields : List (List ℕ × Plain))
      (cell : Cutting) (w : Cause) → OneUnknown a b v → Err w ≡ sought_number a b scope.numbers
      → Due schema k most end after all (an_item (solve v a b i) is) scope fields cell → ⊥
  solve_found v a b i is scope fields cell w one found x =
      let other = found ∙ sought_complete a b scope.numbers v x.spelled.0 one x.spelled.1 in absurd (cc)

  -- a field is due
  pub field_due : (y : Word) (slot : Option ℕ) (c : Option Condition) (t : Ty) (is : Items) (scope : Scope) (cell : Cutting)
      → Due schema k most end after all (an_item (field y slot c t) is) scope [] cell → ⊥
  field_due y slot c t is scope cell x = go x.laids x.are x.spelled
    where
      go : (ds : Laids) → Are ds no_vals most → Fields (an_item (field y slot c t) is) (EachLaid schema ds) scope x.before end after
          → ⊥
      go no_laids are f = f
      go (a_laid d ds) are f = let e = are.values in absurd (cc)

  pub record FirstDue (slot : Option ℕ) (c : Option Condition) (t : Ty) (is : Items) (scope : Scope) (name : List ℕ) (v : Plain)
      (due : List (List ℕ × Plain)) (cell : Cutting) : Type 0 where
    pub first : Laid
    pub outs : List ℕ
    pub middle : Slice
    pub is_first : Is first v most
    pub lies : Lies (SpellsLaid schema first (at_field c t scope)) cell.left outs middle
    pub then : (next : Scope) (new : Cutting) → next ≡ bind (sets slot t) outs scope
        → Moves (cut_for (onward (named name) k) first) middle.refs cell new → Due schema k most end after all is next due new

  pub first_due : (y : Word) (slot : Option ℕ) (c : Option Condition) (t : Ty) (is : Items) (scope : Scope) (name : List ℕ)
      (v : Plain) (due : List (List ℕ × Plain)) (cell : Cutting)
      → Due schema k most end after all (an_item (field y slot c t) is) scope ((name, v) ∷ due) cell
      → FirstDue slot c t is scope name v due cell
  first_due y slot c t is scope name v due cell x = go x.laids x.are x.spelled x.made
    where
      go : (ds : Laids) → Are ds (a_val v (vals_in due)) most
          → Fields (an_item (field y slot c t) is) (EachLaid schema ds) scope x.before end after
          → cell.made.items ++ cut_fields_for k (name ∷ names_in due) ds ≡ all → FirstDue slot c t is scope name v due cell
      go no_laids are f made = absurd f
      go (a_laid d ds) are f made = record {
        first = d;
        outs = f.0;
        middle = f.1;
        is_first = first_is d ds v (vals_in due) most are;
        lies = record { before = x.before; refs = x.refs; clean = x.clean; spelled = f.2 };
        then = λ next new same m.
            let P : Scope → Type 0 = λ z. Fields is (EachLaid schema ds) z f.1 end after in
            let Q : List Tree → Type 0 = AllClean in
            record {
              laids = ds;
              are = others_are d ds v (vals_in due) most are;
              before = f.1;
              refs = sym m.0;
              clean = subst Q (sym m.0) (clean-after schema d (at_field c t scope) x.before f.1 f.0 cell.left f.2 x.refs x.clean);
              spelled = subst P (sym same) f.3;
              made = made-on cell new (cut_for (onward (named name) k) d) (cut_fields_for k (names_in due) ds) all f.1.refs m
                  made;
            };
      }

  pub record AllMade (scope : Scope) (cell : Cutting) : Type 0 where
    pub scope_is : scope ≡ end
    pub left : cell.left ≡ after.refs
    pub made : cell.made.items ≡ all

  pub none_due : (scope : Scope) (fields : List (List ℕ × Plain)) (cell : Cutting)
      → Due schema k most end after all no_items scope fields cell → AllMade scope cell
  none_due scope fields cell x = go x.laids x.spelled x.made
    where
      go : (ds : Laids) → Fields no_items (EachLaid schema ds) scope x.before end after
          → cell.made.items ++ cut_fields_for k (names_in fields) ds ≡ all → AllMade scope cell
      go no_laids f made = record {
        scope_is = sym f.0;
        left = sym x.refs ∙ ap (λ (s : Slice). s.refs) (sym f.1);
        made = sym (append-nil cell.made.items) ∙ made;
      }
      go (a_laid d ds) f made = absurd f

-- ---- items

module _ (schema : CoreSchema) (k : Rests) (most : ℕ) (t : Closed) (after : Slice) (all : List Tree) where
  pub record FirstItem (place : ℕ) (v : Plain) (vs : List Plain) (cell : Cutting) : Type 0 where
    pub first : Laid
    pub outs : List ℕ
    pub middle : Slice
    pub is_first : Is first v most
    pub below : place + 1 ≤ 4294967295
    pub lies : Lies (SpellsLaid schema first (at_type t)) cell.left outs middle
    pub then : (next : ℕ) (new : Cutting) → next ≡ place + 1 → Moves (cut_for (onward (item place) k) first) middle.refs cell new
        → DueItems schema k most t after all next vs new

  pub first_item : (place : ℕ) (v : Plain) (vs : List Plain) (cell : Cutting)
      → DueItems schema k most t after all place (v ∷ vs) cell → FirstItem place v vs cell
  first_item place v vs cell x = go x.laids x.are x.spelled x.made
    where
      go : (ds : Laids) → Are ds (a_val v (vals_of vs)) most → Repeats (EachLaid schema ds) x.count t x.before after
          → cell.made.items ++ cut_items_for k place ds ≡ all → FirstItem place v vs cell
      go no_laids are f made = let e = are.values in absurd (cc)
      go (a_laid d ds) are f made =
          let few = x.few in
          let count = f.3 in
          let after_it : suc place ≡ place + 1 = omega arith in
          record {
            first = d;
            outs = f.1;
            middle = f.2;
            is_first = first_is d ds v (vals_of vs) most are;
            below = omega (arith, few, count);
            lies = record { before = x.before; refs = x.refs; clean = x.clean; spelled = f.4 };
            then = λ next new same m.
                let Q : List Tree → Type 0 = AllClean in
                let P : ℕ → Type 0 = λ z. new.made.items ++ cut_items_for k z ds ≡ all in
                record {
                  laids = ds;
                  count = f.0;
                  are = others_are d ds v (vals_of vs) most are;
                  few = omega (arith, few, count, same);
                  before = f.2;
                  refs = sym m.0;
                  clean = subst Q (sym m.0) (clean-after schema d (at_type t) x.before f.2 f.1 cell.left f.4 x.refs x.clean);
                  spelled = f.6;
                  made = subst P (after_it ∙ sym same)
                      (made-on cell new (cut_for (onward (item place) k) d) (cut_items_for k (suc place) ds) all f.2.refs m made);
                };
          }

  pub record ItemsMade (cell : Cutting) : Type 0 where
    pub left : cell.left ≡ after.refs
    pub made : cell.made.items ≡ all

  pub no_item : (place : ℕ) (cell : Cutting) → DueItems schema k most t after all place [] cell → ItemsMade cell
  no_item place cell x = go x.laids x.are x.spelled x.made
    where
      go : (ds : Laids) → Are ds no_vals most → Repeats (EachLaid schema ds) x.count t x.before after
          → cell.made.items ++ cut_items_for k place ds ≡ all → ItemsMade cell
      go no_laids are f made = record {
        left = sym x.refs ∙ ap (λ (s : Slice). s.refs) (sym f.1);
        made = sym (append-nil cell.made.items) ∙ made;
      }
      go (a_laid d ds) are f made = let e = are.values in absurd (cc)
