-- A value of a closed type, by its form.
use Rattle.std.proofs.Common.{◌≡◌, ℕ, ◌+◌, ◌≤◌, Bool, true, false, cond, List, [], ◌∷◌, ◌++◌, Result, Ok, Err, refl, sym, ap}
use Rattle.std.proofs.Common.{◌∙◌, subst, arith, map, Some, None, nat_le, ◌-◌}
use Rattle.std.proofs.lemmas.Bool.{leb-true}
use Rattle.std.proofs.lemmas.List.{append-nil}
use Rattle.cell_nodes.specs.declared.tree.Hidden.{Hidden}
use Rattle.cell_nodes.specs.declared.tree.Tree.{Tree}
use Rattle.core_form.specs.Closed.{Closed}
use Rattle.core_form.specs.Closed as closed
use Rattle.core_form.specs.Core.{CoreSchema}
use Rattle.hashmap_tree.specs.Entries.{Slice}
use Rattle.spelling.specs.Goals.{Row, Shape, at_type, in_table, integer, natural, no_row, row, string, typed}
use Rattle.spelling.specs.Slices.{kept, nothing}
use Rattle.spelling.specs.Spells.{SpellsNumber, SpellsRest, SpellsString}
use Rattle.spelling.specs.declared.Cause.{Cause}
use Rattle.spelling.specs.declared.Cause.TheVariants.{Width}
use Rattle.typed_value.specs.Values.{Plain, PlainPairs, Plains, levels, levels_by, levels_in}
use Rattle.typed_value.specs.Values as values
use Rattle.typed_value.specs.View.{pair_of, pairs_of, vals_of}
use Rattle.typed_value.specs.declared.value.Value.{Value}
use Rattle.pruning.specs.Laid.{Laid, number, bit_string, record_of, absent, list_of, ref_to, ref_to_raw, no_map}
use Rattle.pruning.specs.Laid.{LaidEdge, map_under, map_here, rest, plain_all, plain_pairs}
use Rattle.pruning.specs.SpellsLaid.{SpellsEdge, SpellsLaid, SpellsLaidShape}
use Rattle.pruning_laws.specs.FilledLaws.{takes}
use Rattle.pruning_laws.specs.TrieLaws.{pairs-nothing}
use Rattle.pruned_proof.specs.Walks.{DueItems, Gives, Is, IsBranch, IsEdge, Lies, Moves, outputs_of}
use Rattle.pruned_proof.specs.Wanted.{Rests, below, cut_at, cut_edge_for, cut_for}
use Rattle.pruned_proof.specs.declared.cutting.CutError.{CutError}
use Rattle.pruned_proof.specs.declared.cutting.Cutting.{Cutting}
use Rattle.pruned_proof.specs.declared.cutting.Outputs.{Outputs}
use Rattle.pruned_proof.proofs.Edges.{no_edge}
use Rattle.pruned_proof.proofs.Led.{clean-first, gives_as}

-- ---- the shape of a type

pub record AtType (schema : CoreSchema) (d : Laid) (t : Closed) (left : List Tree) (outs : List ℕ) (after : Slice) : Type 0
  where
    pub wide : in_table t ≡ true
    pub lies : Lies (SpellsLaidShape schema d (typed t)) left outs after

shape_same : (a b : Shape) → (◌≡◌ {A = Result Shape Cause} (Ok a) (Ok b)) → a ≡ b
shape_same a b e = cc

pub type_lies : (schema : CoreSchema) (d : Laid) (t : Closed) (left : List Tree) (outs : List ℕ) (after : Slice)
    → Lies (SpellsLaid schema d (at_type t)) left outs after → AtType schema d t left outs after
type_lies schema d t left outs after l = go (in_table t) refl l.spelled.1
  where
    go : (b : Bool) → in_table t ≡ b → (◌≡◌ {A = Result Shape Cause} (cond b (Ok (typed t)) (Err Width)) (Ok l.spelled.0))
        → AtType schema d t left outs after
    go true wide e =
        let P : Shape → Type 0 = λ z. SpellsLaidShape schema d z l.before outs after in
        record {
          wide = wide;
          lies = record {
            before = l.before;
            refs = l.refs;
            clean = l.clean;
            spelled = subst P (sym (shape_same (typed t) l.spelled.0 e)) l.spelled.2;
          };
        }
    go false wide e = absurd (cc)

-- ---- what takes no reference

stays : (cell : Cutting) (after : List Tree) → cell.left ≡ after → Moves [] after cell cell
stays cell after same = (same, sym (append-nil cell.made.items))

number_size : (a b : Bool) (m n : ℕ) → (◌≡◌ {A = Plain} (values.number a m) (values.number b n)) → m ≡ n
number_size a b m n e = cc

string_outs : (bits : List ℕ) (r : Row) (before : Slice) (outs : List ℕ) (after : Slice) → SpellsString bits r before outs after
    → [] ≡ outs
string_outs bits (string width) before outs after s = sym s.1
string_outs bits (natural width bound named) before outs after s = absurd s
string_outs bits (integer width) before outs after s = absurd s
string_outs bits no_row before outs after s = absurd s

module _ (schema : CoreSchema) (t : Closed) (k : Rests) (n : ℕ) (cell : Cutting) (outs : List ℕ) (after : Slice) where
  pub number_gives : (d : Laid) (negative : Bool) (size : ℕ) (r : Result Outputs CutError) → Is d (values.number negative size) n
      → Lies (SpellsLaid schema d (at_type t)) cell.left outs after
      → ((sign : Bool) (os : List ℕ) (b a : Slice) → in_table t ≡ true → SpellsNumber sign size (row t) b os a
      → Gives (λ x. outputs_of x ≡ os) r)
      → Gives (λ x. (outputs_of x ≡ outs) × Moves (cut_for k d) after.refs cell cell) r
  number_gives (number negative size) sign m r is l own =
      let x = type_lies schema (number negative size) t cell.left outs after l in
      let s = x.lies.spelled in
      let y = takes schema (number negative size) (typed t) x.lies.before outs after s in
      let P : ℕ → Type 0 = λ z. SpellsNumber negative z (row t) x.lies.before outs after in
      let same = number_size negative sign size m is.value in
      gives_as (λ z. outputs_of z ≡ outs) _ r (λ z e. (e, stays cell after.refs (sym x.lies.refs ∙ y.refs)))
      (own negative outs x.lies.before after x.wide (subst P same s))
  number_gives (bit_string bits) sign m r is l own = let e = is.value in absurd (cc)
  number_gives (record_of name names ds) sign m r is l own = let e = is.value in absurd (cc)
  number_gives absent sign m r is l own = let e = is.value in absurd (cc)
  number_gives (list_of ds) sign m r is l own = let e = is.value in absurd (cc)
  number_gives (ref_to c d) sign m r is l own = let e = is.value in absurd (cc)
  number_gives (ref_to_raw c) sign m r is l own = let e = is.value in absurd (cc)
  number_gives no_map sign m r is l own = let e = is.value in absurd (cc)
  number_gives (map_under c e) sign m r is l own = let e = is.value in absurd (cc)
  number_gives (map_here e) sign m r is l own = let e = is.value in absurd (cc)
  number_gives (rest s) sign m r is l own = let e = is.value in absurd (cc)

  pub bits_give : (d : Laid) (bits : List ℕ) → Is d (values.bit_string bits) n
      → Lies (SpellsLaid schema d (at_type t)) cell.left outs after
      → ([] ≡ outs) × Moves (cut_for k d) after.refs cell cell
  bits_give (number negative size) bs is l = let e = is.value in absurd (cc)
  bits_give (bit_string bits) bs is l =
      let x = type_lies schema (bit_string bits) t cell.left outs after l in
      let y = takes schema (bit_string bits) (typed t) x.lies.before outs after x.lies.spelled in
      (string_outs bits (row t) x.lies.before outs after x.lies.spelled, stays cell after.refs (sym x.lies.refs ∙ y.refs))
  bits_give (record_of name names ds) bs is l = let e = is.value in absurd (cc)
  bits_give absent bs is l = let e = is.value in absurd (cc)
  bits_give (list_of ds) bs is l = let e = is.value in absurd (cc)
  bits_give (ref_to c d) bs is l = let e = is.value in absurd (cc)
  bits_give (ref_to_raw c) bs is l = let e = is.value in absurd (cc)
  bits_give no_map bs is l = let e = is.value in absurd (cc)
  bits_give (map_under c e) bs is l = let e = is.value in absurd (cc)
  bits_give (map_here e) bs is l = let e = is.value in absurd (cc)
  bits_give (rest s) bs is l = let e = is.value in absurd (cc)

rest_whole : (s : values.Slice) (t : Closed) (before : Slice) (outs : List ℕ) (after : Slice)
    → SpellsRest s (typed t) before outs after → ([] ≡ outs) × (s ≡ kept before) × (after ≡ nothing)
rest_whole s closed.nat32 before outs after x = absurd x
rest_whole s (closed.bits n) before outs after x = absurd x
rest_whole s (closed.below n) before outs after x = absurd x
rest_whole s (closed.up_to n) before outs after x = absurd x
rest_whole s (closed.uint n) before outs after x = absurd x
rest_whole s (closed.int n) before outs after x = absurd x
rest_whole s (closed.bit_str n) before outs after x = absurd x
rest_whole s closed.whole before outs after x = (sym x.0, x.1, x.2)
rest_whole s (closed.ref t) before outs after x = absurd x
rest_whole s (closed.repeat n t) before outs after x = absurd x
rest_whole s (closed.dict n t) before outs after x = absurd x
rest_whole s (closed.dict_e n t) before outs after x = absurd x
rest_whole s (closed.named name args) before outs after x = absurd x

pub rest_gives : (schema : CoreSchema) (t : Closed) (k : Rests) (n : ℕ) (old new : Cutting) (outs : List ℕ) (after : Slice)
    (d : Laid) (part : values.Slice) → Is d (values.rest part) n → Lies (SpellsLaid schema d (at_type t)) old.left outs after
    → new.left ≡ [] → new.made.items ≡ old.made.items ++ old.left
    → ([] ≡ outs) × Moves (cut_for k d) after.refs old new
rest_gives schema t k n old new outs after (number negative size) part is l none made = let e = is.value in absurd (cc)
rest_gives schema t k n old new outs after (bit_string bits) part is l none made = let e = is.value in absurd (cc)
rest_gives schema t k n old new outs after (record_of name names ds) part is l none made = let e = is.value in absurd (cc)
rest_gives schema t k n old new outs after absent part is l none made = let e = is.value in absurd (cc)
rest_gives schema t k n old new outs after (list_of ds) part is l none made = let e = is.value in absurd (cc)
rest_gives schema t k n old new outs after (ref_to c d) part is l none made = let e = is.value in absurd (cc)
rest_gives schema t k n old new outs after (ref_to_raw c) part is l none made = let e = is.value in absurd (cc)
rest_gives schema t k n old new outs after no_map part is l none made = let e = is.value in absurd (cc)
rest_gives schema t k n old new outs after (map_under c e) part is l none made = let e = is.value in absurd (cc)
rest_gives schema t k n old new outs after (map_here e) part is l none made = let e = is.value in absurd (cc)
rest_gives schema t k n old new outs after (rest s) part is l none made =
    let x = type_lies schema (rest s) t old.left outs after l in
    let w = rest_whole s t x.lies.before outs after x.lies.spelled in
    let all : s.refs ≡ old.left = ap (λ (z : values.Slice). z.refs) w.1 ∙ x.lies.refs in (
      w.0,
      (
        none ∙ ap (λ (z : Slice). z.refs) (sym w.2),
        made ∙ ap (λ (z : List Tree). old.made.items ++ z) (sym all),
      ),
    )

-- ---- references

pub ref_outs : (schema : CoreSchema) (d : Laid) (t : Closed) (left : List Tree) (outs : List ℕ) (after : Slice)
    → Lies (SpellsLaidShape schema d (typed (closed.ref t))) left outs after → [] ≡ outs
ref_outs schema (number negative size) t left outs after l = absurd l.spelled
ref_outs schema (bit_string bits) t left outs after l = absurd l.spelled
ref_outs schema (record_of (Some name) names ds) t left outs after l = absurd l.spelled
ref_outs schema (record_of None names ds) t left outs after l = absurd l.spelled
ref_outs schema absent t left outs after l = absurd l.spelled
ref_outs schema (list_of ds) t left outs after l = absurd l.spelled
ref_outs schema (ref_to c d) t left outs after l = sym l.spelled.1
ref_outs schema (ref_to_raw c) closed.whole left outs after l = sym l.spelled.0
ref_outs schema (ref_to_raw c) _ left outs after l = absurd l.spelled
ref_outs schema no_map t left outs after l = absurd l.spelled
ref_outs schema (map_under c e) t left outs after l = absurd l.spelled
ref_outs schema (map_here e) t left outs after l = absurd l.spelled
ref_outs schema (rest s) t left outs after l = absurd l.spelled

-- ---- repetitions

pub record ItemsDue (schema : CoreSchema) (k : Rests) (most : ℕ) (t : Closed) (d : Laid) (outs : List ℕ) (after : Slice)
    (vs : List Plain) (cell : Cutting) : Type 0 where
  pub none : [] ≡ outs
  pub due : DueItems schema k most t after (cell.made.items ++ cut_for k d) 0 vs cell

list_values : (a b : Plains) → (◌≡◌ {A = Plain} (values.list_of a) (values.list_of b)) → a ≡ b
list_values a b e = cc

pub list_due : (schema : CoreSchema) (k : Rests) (most m : ℕ) (t : Closed) (outs : List ℕ) (after : Slice) (vs : List Plain)
    (cell : Cutting) (d : Laid) → m ≤ 4294967295 → Is d (values.list_of (vals_of vs)) (most + 1)
    → Lies (SpellsLaidShape schema d (typed (closed.repeat m t))) cell.left outs after
    → ItemsDue schema k most t d outs after vs cell
list_due schema k most m t outs after vs cell (number negative size) few is l = let e = is.value in absurd (cc)
list_due schema k most m t outs after vs cell (bit_string bits) few is l = let e = is.value in absurd (cc)
list_due schema k most m t outs after vs cell (record_of name names ds) few is l = let e = is.value in absurd (cc)
list_due schema k most m t outs after vs cell absent few is l = let e = is.value in absurd (cc)
list_due schema k most m t outs after vs cell (list_of ds) few is l =
    let deep = is.deep in
    let same = list_values (plain_all ds) (vals_of vs) is.value in
    record {
      none = sym l.spelled.0;
      due = record {
        laids = ds;
        count = m;
        are = record { values = same; deep = omega (arith, deep) };
        few = omega (arith, few);
        before = l.before;
        refs = l.refs;
        clean = l.clean;
        spelled = l.spelled.1;
        made = refl;
      };
    }
list_due schema k most m t outs after vs cell (ref_to c d) few is l = let e = is.value in absurd (cc)
list_due schema k most m t outs after vs cell (ref_to_raw c) few is l = let e = is.value in absurd (cc)
list_due schema k most m t outs after vs cell no_map few is l = let e = is.value in absurd (cc)
list_due schema k most m t outs after vs cell (map_under c e) few is l = let e = is.value in absurd (cc)
list_due schema k most m t outs after vs cell (map_here e) few is l = let e = is.value in absurd (cc)
list_due schema k most m t outs after vs cell (rest s) few is l = let e = is.value in absurd (cc)

-- ---- dictionaries

map_pairs : (ps qs : PlainPairs) (us vs : List (List ℕ × Hidden))
    → (◌≡◌ {A = Plain} (values.map_of tt ps us) (values.map_of tt qs vs)) → ps ≡ qs
map_pairs ps qs us vs e = cc

map_hidden : (ps qs : PlainPairs) (us vs : List (List ℕ × Hidden))
    → (◌≡◌ {A = Plain} (values.map_of tt ps us) (values.map_of tt qs vs)) → us ≡ vs
map_hidden ps qs us vs e = cc

pub record DictLies (schema : CoreSchema) (most n : ℕ) (t : Closed) (d : Laid) (left : List Tree) (outs : List ℕ)
    (after : Slice) (ps : PlainPairs) : Type 0 where
  pub edge : LaidEdge
  pub none : [] ≡ outs
  pub is_edge : IsEdge [] edge ps most
  pub lies : Lies (λ b o a. SpellsEdge schema edge n t b a) left [] after
  pub made : (k : Rests) → cut_edge_for k [] edge ≡ cut_for k d

pub dict_lies : (schema : CoreSchema) (most n : ℕ) (t : Closed) (left : List Tree) (outs : List ℕ) (after : Slice)
    (ps : PlainPairs) (us : List (List ℕ × Hidden)) (d : Laid) → Is d (values.map_of tt ps us) (most + 1)
    → Lies (SpellsLaidShape schema d (typed (closed.dict n t))) left outs after
    → DictLies schema most n t d left outs after ps
dict_lies schema most n t left outs after ps us (number negative size) is l = let e = is.value in absurd (cc)
dict_lies schema most n t left outs after ps us (bit_string bits) is l = let e = is.value in absurd (cc)
dict_lies schema most n t left outs after ps us (record_of name names ds) is l = let e = is.value in absurd (cc)
dict_lies schema most n t left outs after ps us absent is l = let e = is.value in absurd (cc)
dict_lies schema most n t left outs after ps us (list_of ds) is l = let e = is.value in absurd (cc)
dict_lies schema most n t left outs after ps us (ref_to c d) is l = let e = is.value in absurd (cc)
dict_lies schema most n t left outs after ps us (ref_to_raw c) is l = let e = is.value in absurd (cc)
dict_lies schema most n t left outs after ps us no_map is l = absurd l.spelled
dict_lies schema most n t left outs after ps us (map_under c e) is l = absurd l.spelled
dict_lies schema most n t left outs after ps us (map_here e) is l =
    let deep = is.deep in
    record {
      edge = e;
      none = sym l.spelled.0;
      is_edge = record {
        pairs = pairs-nothing (plain_pairs e) ∙ map_pairs (plain_pairs e) ps [] us is.value;
        deep = omega (arith, deep);
      };
      lies = record { before = l.before; refs = l.refs; clean = l.clean; spelled = l.spelled.1 };
      made = λ k. refl;
    }
dict_lies schema most n t left outs after ps us (rest s) is l = let e = is.value in absurd (cc)

-- a dictionary that may be empty
pub record MapLies (d : Laid) (most : ℕ) (outs : List ℕ) (ps : PlainPairs) : Type 0 where
  pub none : [] ≡ outs
  pub is : Is d (values.map_of tt ps []) most

is_shown : (d : Laid) (most : ℕ) (ps : PlainPairs) (us : List (List ℕ × Hidden)) → [] ≡ us → Is d (values.map_of tt ps us) most
    → Is d (values.map_of tt ps []) most
is_shown d most ps us none is =
    let P : List (List ℕ × Hidden) → Type 0 = λ z. Is d (values.map_of tt ps z) most in subst P (sym none) is

pub map_lies : (schema : CoreSchema) (most n : ℕ) (t : Closed) (left : List Tree) (outs : List ℕ) (after : Slice)
    (ps : PlainPairs) (us : List (List ℕ × Hidden)) (d : Laid) → Is d (values.map_of tt ps us) most
    → Lies (SpellsLaidShape schema d (typed (closed.dict_e n t))) left outs after → MapLies d most outs ps
map_lies schema most n t left outs after ps us (number negative size) is l = let e = is.value in absurd (cc)
map_lies schema most n t left outs after ps us (bit_string bits) is l = let e = is.value in absurd (cc)
map_lies schema most n t left outs after ps us (record_of name names ds) is l = let e = is.value in absurd (cc)
map_lies schema most n t left outs after ps us absent is l = let e = is.value in absurd (cc)
map_lies schema most n t left outs after ps us (list_of ds) is l = let e = is.value in absurd (cc)
map_lies schema most n t left outs after ps us (ref_to c d) is l = let e = is.value in absurd (cc)
map_lies schema most n t left outs after ps us (ref_to_raw c) is l = let e = is.value in absurd (cc)
map_lies schema most n t left outs after ps us no_map is l = record {
  none = sym l.spelled.0;
  is = is_shown no_map most ps us (map_hidden values.no_pairs ps [] us is.value) is;
}
map_lies schema most n t left outs after ps us (map_under c e) is l = record {
  none = sym l.spelled.0;
  is = is_shown (map_under c e) most ps us (map_hidden (plain_pairs e) ps [] us is.value) is;
}
map_lies schema most n t left outs after ps us (map_here e) is l = absurd l.spelled
map_lies schema most n t left outs after ps us (rest s) is l = let e = is.value in absurd (cc)

pub empty_map : (schema : CoreSchema) (k : Rests) (most n : ℕ) (t : Closed) (cell : Cutting) (outs : List ℕ) (after : Slice)
    (xs : List (List ℕ × Value)) (d : Laid) → xs ≡ [] → Is d (values.map_of tt (pairs_of (map pair_of xs)) []) (most + 1)
    → Lies (SpellsLaidShape schema d (typed (closed.dict_e n t))) cell.left outs after
    → Moves (cut_for k d) after.refs cell cell
empty_map schema k most n t cell outs after xs (number negative size) none is l = let e = is.value in absurd (cc)
empty_map schema k most n t cell outs after xs (bit_string bits) none is l = let e = is.value in absurd (cc)
empty_map schema k most n t cell outs after xs (record_of name names ds) none is l = let e = is.value in absurd (cc)
empty_map schema k most n t cell outs after xs absent none is l = let e = is.value in absurd (cc)
empty_map schema k most n t cell outs after xs (list_of ds) none is l = let e = is.value in absurd (cc)
empty_map schema k most n t cell outs after xs (ref_to c d) none is l = let e = is.value in absurd (cc)
empty_map schema k most n t cell outs after xs (ref_to_raw c) none is l = let e = is.value in absurd (cc)
empty_map schema k most n t cell outs after xs no_map none is l =
    let y = takes schema no_map (typed (closed.dict_e n t)) l.before outs after l.spelled in
    stays cell after.refs (sym l.refs ∙ y.refs)
empty_map schema k most n t cell outs after xs (map_under c e) none is l =
    let deep = is.deep in
    let pairs = map_pairs (plain_pairs e) (pairs_of (map pair_of xs)) [] [] is.value in
    let edge : IsEdge [] e (pairs_of (map pair_of xs)) most =
    record { pairs = pairs-nothing (plain_pairs e) ∙ pairs; deep = omega (arith, deep) } in
    absurd (no_edge [] e xs most edge none)
empty_map schema k most n t cell outs after xs (map_here e) none is l = absurd l.spelled
empty_map schema k most n t cell outs after xs (rest s) none is l = let e = is.value in absurd (cc)

pub record MapUnder (schema : CoreSchema) (most n : ℕ) (t : Closed) (d : Laid) (left : List Tree) (after : Slice)
    (key : List ℕ) (xs : List (List ℕ × Value)) : Type 0 where
  pub cell : Tree
  pub edge : LaidEdge
  pub is_edge : IsEdge [] edge (pairs_of (map pair_of xs)) most
  pub branch : IsBranch schema n t [] edge key cell left after.refs
  pub made : (k : Rests) → cut_at (below [] k) cell (cut_edge_for (below [] k) [] edge) ∷ [] ≡ cut_for k d

pub some_map : (schema : CoreSchema) (most n : ℕ) (t : Closed) (left : List Tree) (outs : List ℕ) (after : Slice)
    (key : List ℕ) (x : List ℕ × Value) (xs ys : List (List ℕ × Value)) (d : Laid) → xs ≡ x ∷ ys
    → Is d (values.map_of tt (pairs_of (map pair_of xs)) []) (most + 1)
    → Lies (SpellsLaidShape schema d (typed (closed.dict_e n t))) left outs after
    → MapUnder schema most n t d left after key xs
some_map schema most n t left outs after key x xs ys (number negative size) some is l = let e = is.value in absurd (cc)
some_map schema most n t left outs after key x xs ys (bit_string bits) some is l = let e = is.value in absurd (cc)
some_map schema most n t left outs after key x xs ys (record_of name names ds) some is l = let e = is.value in absurd (cc)
some_map schema most n t left outs after key x xs ys absent some is l = let e = is.value in absurd (cc)
some_map schema most n t left outs after key x xs ys (list_of ds) some is l = let e = is.value in absurd (cc)
some_map schema most n t left outs after key x xs ys (ref_to c d) some is l = let e = is.value in absurd (cc)
some_map schema most n t left outs after key x xs ys (ref_to_raw c) some is l = let e = is.value in absurd (cc)
some_map schema most n t left outs after key x xs ys no_map some is l =
    let pairs = map_pairs values.no_pairs (pairs_of (map pair_of xs)) [] [] is.value in
    let e = pairs ∙ ap (λ (z : List (List ℕ × Value)). pairs_of (map pair_of z)) some in
    absurd (cc)
some_map schema most n t left outs after key x xs ys (map_under c e) some is l =
    let deep = is.deep in
    let pairs = map_pairs (plain_pairs e) (pairs_of (map pair_of xs)) [] [] is.value in
    let there : left ≡ c ∷ after.refs = sym l.refs ∙ l.spelled.1.refs in
    record {
      cell = c;
      edge = e;
      is_edge = record { pairs = pairs-nothing (plain_pairs e) ∙ pairs; deep = omega (arith, deep) };
      branch = record {
        there = there;
        clean = clean-first c left after.refs l.clean there;
        cell = l.spelled.2;
        rest = key;
        begins = refl;
      };
      made = λ k. refl;
    }
some_map schema most n t left outs after key x xs ys (map_here e) some is l = absurd l.spelled
some_map schema most n t left outs after key x xs ys (rest s) some is l = let e = is.value in absurd (cc)

-- so many bits a key
pub few_bits : (n : ℕ) → nat_le n 1023 ≡ true → n ≤ 1023
few_bits n wide = leb-true n 1023 wide

-- one level less
pub inside : (d : Laid) (w : Plain) (n : ℕ) → (n ≡ 0 → ⊥) → Is d w n → Is d w (n - 1 + 1)
inside d w n some is =
    let more : n ≡ n - 1 + 1 = omega (arith, some) in
    let Q : ℕ → Type 0 = λ z. Is d w z in
    subst Q more is
