-- The references of a laid value, and the cells beside it, as its cells have them.
use Rattle.std.proofs.Common.{◌≡◌, ℕ, Bool, List, [], ◌∷◌, ◌++◌, Some, None, sym, ap, ◌∙◌, subst, append_assoc}
use Rattle.std.proofs.lemmas.List.{append-nil}
use Rattle.cell_nodes.specs.Tree.{tree_of}
use Rattle.cell_nodes.specs.declared.tree.Kind.TheVariants.{Ordinary}
use Rattle.cell_nodes.specs.declared.tree.Mode.TheVariants.{Whole}
use Rattle.cell_nodes.specs.declared.tree.Tree.{Tree}
use Rattle.hashmap_tree.specs.Entries.{Slice, cell_of, Then}
use Rattle.core_form.specs.Core.{Items, CoreSchema, no_items, an_item, check, solve, field, sets}
use Rattle.core_form.specs.Closed.{Closed}
use Rattle.core_form.specs.Closed as closed
use Rattle.core_form.specs.Scope.{Scope, with_number, bind}
use Rattle.spelling.specs.Slices.{nothing, only_ref}
use Rattle.spelling.specs.Goals.{Row, natural, integer, string, no_row, row, Goal, at_type, at_field, at_cell, Shape}
use Rattle.spelling.specs.Goals.{typed, fields_here, fields_under, left_out, at_fields, under_ref}
use Rattle.spelling.specs.Spells.{Repeats, Fields, SpellsNumber, SpellsString, Holds}
use Rattle.typed_value.specs.Values as values
use Rattle.pruning.specs.Laid.{Laid, number, bit_string, record_of, absent, list_of, ref_to, ref_to_raw, no_map}
use Rattle.pruning.specs.Laid.{map_under, map_here, rest, Laids, no_laids, a_laid, LaidEdge, a_leaf, a_fork, trees}
use Rattle.pruning.specs.Laid.{trees_all, edge_trees}
use Rattle.pruning.specs.SpellsLaid.{BeginsWith, SpellsLaidShape, SpellsLaid, EachLaid, SpellsEdge}
use Rattle.pruning.specs.Cut.{cell_with}
use Rattle.pruning_laws.specs.ReadsLaws.{bits-cell, no_cell, ok_cell}

-- each cell beside a reference holds what the value below it takes, and nothing more
abbrev mutual
  pub IsFilled : Laid → Type 0
  IsFilled (number negative size) = Unit {0}
  IsFilled (bit_string bits) = Unit {0}
  IsFilled (record_of name names ds) = AreFilled ds
  IsFilled absent = Unit {0}
  IsFilled (list_of ds) = AreFilled ds
  IsFilled (ref_to c d) = (c ≡ cell_with c (trees d)) × IsFilled d
  IsFilled (ref_to_raw c) = Unit {0}
  IsFilled no_map = Unit {0}
  IsFilled (map_under c e) = (c ≡ cell_with c (edge_trees e)) × IsFilledEdge e
  IsFilled (map_here e) = IsFilledEdge e
  IsFilled (rest s) = Unit {0}

  pub AreFilled : Laids → Type 0
  AreFilled no_laids = Unit {0}
  AreFilled (a_laid d ds) = IsFilled d × AreFilled ds

  pub IsFilledEdge : LaidEdge → Type 0
  IsFilledEdge (a_leaf l d) = IsFilled d
  IsFilledEdge (a_fork l z a o b) =
      (z ≡ cell_with z (edge_trees a)) × IsFilledEdge a × (o ≡ cell_with o (edge_trees b)) × IsFilledEdge b

-- the references before are those that are taken, and those after
pub record Takes (taken : List Tree) (filled_in : Type 0) (s after : Slice) : Type 0 where
  pub refs : s.refs ≡ taken ++ after.refs
  pub is_filled : filled_in

abbrev Able : CoreSchema → Laid → Type 0
Able schema d =
    (c : Shape) (s : Slice) (outs : List ℕ) (after : Slice) → SpellsLaidShape schema d c s outs after
    → Takes (trees d) (IsFilled d) s after

abbrev AllAble : CoreSchema → Laids → Type 0
AllAble schema no_laids = Unit {0}
AllAble schema (a_laid d ds) = Able schema d × AllAble schema ds

number_takes : (negative : Bool) (size : ℕ) (r : Row) (s : Slice) (outs : List ℕ) (after : Slice)
    → SpellsNumber negative size r s outs after → s.refs ≡ after.refs
number_takes negative size (natural width bound named) s outs after e = e.3.refs
number_takes negative size (integer width) s outs after e = e.4.refs
number_takes negative size (string width) s outs after e = absurd e
number_takes negative size no_row s outs after e = absurd e

string_takes : (bits : List ℕ) (r : Row) (s : Slice) (outs : List ℕ) (after : Slice) → SpellsString bits r s outs after
    → s.refs ≡ after.refs
string_takes bits (string width) s outs after e = e.2.refs
string_takes bits (natural width bound named) s outs after e = absurd e
string_takes bits (integer width) s outs after e = absurd e
string_takes bits no_row s outs after e = absurd e

no_more : (s after : Slice) → after ≡ s → Takes [] (Unit {0}) s after
no_more s after e = record { refs = ap (λ (z : Slice). z.refs) (sym e); is_filled = tt }

one_more : (d : Laid) (ds : Laids) (s middle after : Slice) → Takes (trees d) (IsFilled d) s middle
    → Takes (trees_all ds) (AreFilled ds) middle after
    → Takes (trees_all (a_laid d ds)) (AreFilled (a_laid d ds)) s after
one_more d ds s middle after x y = record {
  refs = x.refs ∙ ap (λ (l : List Tree). trees d ++ l) y.refs ∙ sym (append_assoc (trees d) (trees_all ds) after.refs);
  is_filled = (x.is_filled, y.is_filled);
}

repeat_takes : (schema : CoreSchema) (ds : Laids) → AllAble schema ds → (k : ℕ) (t : Closed) (s after : Slice)
    → Repeats (EachLaid schema ds) k t s after → Takes (trees_all ds) (AreFilled ds) s after
repeat_takes schema no_laids able k t s after r = no_more s after r.1
repeat_takes schema (a_laid d ds) able k t s after r =
    one_more d ds s r.2 after (able.0 r.4.0 s r.1 r.2 r.4.2) (repeat_takes schema ds able.1 r.0 t r.2 after r.6)

fields_take : (schema : CoreSchema) (is : Items) (ds : Laids) → AllAble schema ds → (scope : Scope) (s : Slice)
    (end : Scope) (after : Slice) → Fields is (EachLaid schema ds) scope s end after
    → Takes (trees_all ds) (AreFilled ds) s after
fields_take schema no_items no_laids able scope s end after f = no_more s after f.1
fields_take schema no_items (a_laid d ds) able scope s end after f = absurd f
fields_take schema (an_item (check a op b i) is) ds able scope s end after f =
    fields_take schema is ds able scope s end after f.5
fields_take schema (an_item (solve v a b i) is) ds able scope s end after f =
    fields_take schema is ds able (with_number v f.0 scope) s end after f.2
fields_take schema (an_item (field y slot c t) is) no_laids able scope s end after f = absurd f
fields_take schema (an_item (field y slot c t) is) (a_laid d ds) able scope s end after f =
    one_more d ds s f.1 after (able.0 f.2.0 s f.0 f.1 f.2.2)
    (fields_take schema is ds able.1 (bind (sets slot t) f.0 scope) f.1 end after f.3)

-- an ordinary cell that holds these references
filled : (c : Tree) (s : Slice) (ts : List Tree) → c ≡ cell_of s → s.refs ≡ ts ++ [] → c ≡ cell_with c ts
filled c s ts e f =
    e ∙ (λ i. tree_of Ordinary ((sym (bits-cell c s e)) i) ((f ∙ append-nil ts) i))

pub cell_filled : (schema : CoreSchema) (d : Laid) → Able schema d → (g : Goal) (c : Tree)
    → Holds Whole (SpellsLaid schema d) g c → (c ≡ cell_with c (trees d)) × IsFilled d
cell_filled schema d able at_cell c k =
    let P : Shape → Type 0 = λ x. SpellsLaidShape schema d x (only_ref c) k.0 nothing in
    absurd (no_cell schema d (only_ref c) k.0 nothing (subst P (sym (ok_cell k.2.0 k.2.1)) k.2.2))
cell_filled schema d able (at_type t) c k =
    let x = able k.3.0 k.0 k.1 nothing k.3.2 in (filled c k.0 (trees d) k.2 x.refs, x.is_filled)
cell_filled schema d able (at_field e t scope) c k =
    let x = able k.3.0 k.0 k.1 nothing k.3.2 in (filled c k.0 (trees d) k.2 x.refs, x.is_filled)

first_of : Tree → List Tree → Tree
first_of c [] = c
first_of c (t ∷ ts) = t

same_first : (s after : Slice) (c e : Tree) → Then s (only_ref c) after → BeginsWith e s → c ≡ e
unfolding first_of
same_first s after c e t b = ap (first_of c) (sym t.refs ∙ b.1)

-- a reference to a cell that holds a value
ref_takes : (schema : CoreSchema) (a : Tree) (d : Laid) → Able schema d → (g : Goal) (s after : Slice) (c : Tree)
    → Then s (only_ref c) after → Holds Whole (SpellsLaid schema d) g c → BeginsWith a s
    → Takes (a ∷ []) ((a ≡ cell_with a (trees d)) × IsFilled d) s after
ref_takes schema a d able g s after c t k b =
    let e = same_first s after c a t b in
    let H : Tree → Type 0 = λ x. Holds Whole (SpellsLaid schema d) g x in
    record {
      refs = t.refs ∙ ap (λ (x : Tree). x ∷ after.refs) e;
      is_filled = cell_filled schema d able g a (subst H e k);
    }

mutual
  pub takes : (schema : CoreSchema) (d : Laid) → Able schema d
  takes schema (number negative size) (typed t) s outs after e =
      record { refs = number_takes negative size (row t) s outs after e; is_filled = tt }
  takes schema (number negative size) _ s outs after e = absurd e
  takes schema (bit_string bits) (typed t) s outs after e =
      record { refs = string_takes bits (row t) s outs after e; is_filled = tt }
  takes schema (bit_string bits) _ s outs after e = absurd e
  takes schema (record_of (Some name) xs ds) (typed (closed.named x args)) s outs after e =
      let y = fields_take schema e.1.core.items ds (all_take schema ds) e.2 e.3 e.4 after e.8 in
      record { refs = e.7.refs ∙ y.refs; is_filled = y.is_filled }
  takes schema (record_of (Some name) xs ds) _ s outs after e = absurd e
  takes schema (record_of None xs ds) (fields_here is scope) s outs after e =
      let y = fields_take schema is ds (all_take schema ds) scope s e.2 after e.3 in
      record { refs = y.refs; is_filled = y.is_filled }
  takes schema (record_of None xs ds) _ s outs after e = absurd e
  takes schema absent left_out s outs after e = no_more s after e.1
  takes schema absent _ s outs after e = absurd e
  takes schema (list_of ds) (typed (closed.repeat n t)) s outs after e =
      let y = repeat_takes schema ds (all_take schema ds) n t s after e.1 in
      record { refs = y.refs; is_filled = y.is_filled }
  takes schema (list_of ds) _ s outs after e = absurd e
  takes schema (ref_to a d) (typed (closed.ref t)) s outs after e =
      ref_takes schema a d (takes schema d) (under_ref t) s after e.0 e.2 e.3 e.4
  takes schema (ref_to a d) (fields_under is scope) s outs after e =
      ref_takes schema a d (takes schema d) (at_fields is scope) s after e.0 e.2 e.3 e.4
  takes schema (ref_to a d) _ s outs after e = absurd e
  takes schema (ref_to_raw a) (typed (closed.ref closed.whole)) s outs after e = record
      { refs = e.1.refs; is_filled = tt }
  takes schema (ref_to_raw a) _ s outs after e = absurd e
  takes schema no_map (typed (closed.dict_e n t)) s outs after e = record { refs = e.1.refs; is_filled = tt }
  takes schema no_map _ s outs after e = absurd e
  takes schema (map_under a x) (typed (closed.dict_e n t)) s outs after e =
      let y = edge_takes schema x n t e.2.0 nothing e.2.2 in
      record { refs = e.1.refs; is_filled = (filled a e.2.0 (edge_trees x) e.2.1 y.refs, y.is_filled) }
  takes schema (map_under a x) _ s outs after e = absurd e
  takes schema (map_here x) (typed (closed.dict n t)) s outs after e = edge_takes schema x n t s after e.1
  takes schema (map_here x) _ s outs after e = absurd e
  takes schema (rest r) (typed closed.whole) s outs after e = record {
    refs = sym (append-nil s.refs)
        ∙ (λ i. (ap (λ (x : values.Slice). x.refs) (sym e.1)) i ++ (ap (λ (x : Slice). x.refs) (sym e.2)) i);
    is_filled = tt;
  }
  takes schema (rest r) _ s outs after e = absurd e

  all_take : (schema : CoreSchema) (ds : Laids) → AllAble schema ds
  all_take schema no_laids = tt
  all_take schema (a_laid d ds) = (takes schema d, all_take schema ds)

  edge_takes : (schema : CoreSchema) (e : LaidEdge) (n : ℕ) (t : Closed) (s after : Slice) → SpellsEdge schema e n t s
      after
      → Takes (edge_trees e) (IsFilledEdge e) s after
  edge_takes schema (a_leaf l d) n t s after k =
      let x = takes schema d k.3.0 k.0 k.1 after k.3.2 in
      record { refs = k.2.refs ∙ x.refs; is_filled = x.is_filled }
  edge_takes schema (a_fork l z a o b) n t s after k =
      let x = edge_takes schema a k.0 t k.4.0 nothing k.4.2 in
      let y = edge_takes schema b k.0 t k.5.0 nothing k.5.2 in
      record {
        refs = k.3;
        is_filled = (
          filled z k.4.0 (edge_trees a) k.4.1 x.refs,
          x.is_filled,
          filled o k.5.0 (edge_trees b) k.5.1 y.refs,
          y.is_filled,
        );
      }
