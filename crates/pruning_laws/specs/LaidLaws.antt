-- Each value that is spelled in mode Whole lies so in its cells.
use Rattle.std.proofs.Common.{◌≡◌, inl, inr, ℕ, Bool, true, false, cond, List, [], ◌∷◌, ◌++◌, Option, Some, None}
use Rattle.std.proofs.Common.{Result, Ok, Err, refl, sym, ap, ◌∙◌, subst}
use Rattle.cell_nodes.specs.declared.tree.Hidden.{Hidden}
use Rattle.cell_nodes.specs.declared.tree.Mode.TheVariants.{Whole}
use Rattle.cell_nodes.specs.declared.tree.Tree.{Tree}
use Rattle.hashmap_tree.specs.Dict.{DictTree, one, two, Branch, open_edge, hidden_edge}
use Rattle.hashmap_tree.specs.Entries.{Slice, leaf, hidden, Entries, Then, under, fork, pairs_in, hidden_in}
use Rattle.hashmap_tree.specs.First.{Fork, forked}
use Rattle.typed_value.specs.Values.{Plain, Plains, PlainPairs, no_vals, a_val, no_pairs, a_pair}
use Rattle.typed_value.specs.Values as values
use Rattle.core_form.specs.Core.{Ty, Items, CoreSchema, no_items, an_item, check, solve, field, sets}
use Rattle.core_form.specs.Core as core
use Rattle.core_form.specs.Closed.{Closed}
use Rattle.core_form.specs.Closed as closed
use Rattle.core_form.specs.Closing.{Refusal, close}
use Rattle.core_form.specs.Scope.{Scope, with_number, value_in, bind}
use Rattle.spelling.specs.Slices.{nothing, only_ref}
use Rattle.spelling.specs.Goals.{Goal, at_type, at_field, at_cell, Shape, typed, fields_here, fields_under, left_out}
use Rattle.spelling.specs.Goals.{as_cell, at_fields, under_ref, typed_or, laid, in_table, in_width, judged, passes}
use Rattle.spelling.specs.Goals.{tested, shape_of}
use Rattle.spelling.specs.Spells.{Repeats, Fields, SpellsShape, Spells, Each, EachPair, Holds, Contents, SpellsDict}
use Rattle.spelling.specs.Spells.{SpellsDictE, no_entries, some_entries, IsRootOf, Reading}
use Rattle.spelling.specs.declared.Cause.{Cause}
use Rattle.spelling.specs.declared.Cause.TheVariants.{Width}
use Rattle.pruning.specs.Laid.{Laid, number, bit_string, record_of, absent, list_of, ref_to, ref_to_raw, no_map}
use Rattle.pruning.specs.Laid.{map_under, map_here, rest, Laids, no_laids, a_laid, LaidEdge, a_leaf, a_fork, join}
use Rattle.pruning.specs.Laid.{below, plain, plain_all, plain_pairs}
use Rattle.pruning.specs.SpellsLaid.{EdgeCell, SpellsLaidShape, SpellsLaid, EachLaid, SpellsEdge, LaidRoot, as_it_is}
use Rattle.pruning.specs.SpellsLaid.{laid as laid_root, plain_root, IsLaidRoot}

-- ---- only the cell of a reference is taken as it is

abbrev IsValue : Shape → Type 0
IsValue (typed t) = Unit {0}
IsValue (fields_here is scope) = Unit {0}
IsValue (fields_under is scope) = Unit {0}
IsValue left_out = Unit {0}
IsValue as_cell = ⊥

abbrev IsOpen : Goal → Type 0
IsOpen (at_type t) = Unit {0}
IsOpen (at_field e t scope) = Unit {0}
IsOpen at_cell = ⊥

abbrev OkValue : Result Shape Cause → Type 0
OkValue (Ok c) = IsValue c
OkValue (Err why) = Unit {0}

value_typed : (r : Result Closed Refusal) → OkValue (typed_or r)
value_typed (Ok t) = tt
value_typed (Err why) = tt

value_laid : (t : Ty) (scope : Scope) → OkValue (laid t scope)
value_laid (core.group is) scope = tt
value_laid (core.ref (core.group is)) scope = tt
value_laid t scope = value_typed (close t scope)

value_width : (c : Shape) → IsValue c → OkValue (in_width c)
value_width (typed t) v = go (in_table t)
  where
    go : (b : Bool) → OkValue (cond b (Ok (typed t)) (Err Width))
    go true = tt
    go false = tt
value_width (fields_here is scope) v = tt
value_width (fields_under is scope) v = tt
value_width left_out v = tt
value_width as_cell v = absurd v

value_judged : (r : Result Shape Cause) → OkValue r → OkValue (judged r)
value_judged (Ok c) v = value_width c v
value_judged (Err why) v = tt

value_tested : (k n : Option ℕ) (r : Result Shape Cause) → OkValue r → OkValue (tested k n r)
value_tested k None r v = tt
value_tested k (Some n) (Err why) v = tt
value_tested k (Some n) (Ok c) v = go (passes k n)
  where
    go : (b : Bool) → OkValue (cond b (in_width c) (Ok left_out))
    go true = value_width c v
    go false = tt

value_of : (g : Goal) → IsOpen g → OkValue (shape_of g)
value_of (at_type t) o = value_width (typed t) tt
value_of (at_field None t scope) o = value_judged (laid t scope) (value_laid t scope)
value_of (at_field (Some e) t scope) o =
    value_tested e.bit (value_in e.number scope) (laid t scope) (value_laid t scope)
value_of at_cell o = absurd o

is_value : (g : Goal) → IsOpen g → (c : Shape) → shape_of g ≡ Ok c → IsValue c
is_value g o c e = let P : Result Shape Cause → Type 0 = OkValue in subst P e (value_of g o)

-- ---- values

abbrev Laying : CoreSchema → Plain → Shape → Slice → List ℕ → Slice → Type 0
Laying schema v c s outs after = (d : Laid) × (plain d ≡ v) × SpellsLaidShape schema d c s outs after

abbrev Able : CoreSchema → Plain → Type 0
Able schema v =
    (g : Goal) → IsOpen g → (s : Slice) (outs : List ℕ) (after : Slice) → Spells Whole schema v g s outs after
    → (d : Laid) × (plain d ≡ v) × SpellsLaid schema d g s outs after

abbrev AllAble : CoreSchema → Plains → Type 0
AllAble schema no_vals = Unit {0}
AllAble schema (a_val v vs) = Able schema v × AllAble schema vs

abbrev ByAble : CoreSchema → PlainPairs → Type 0
ByAble schema no_pairs = Unit {0}
ByAble schema (a_pair k v ps) = Able schema v × ByAble schema ps

repeat_laid : (schema : CoreSchema) (vs : Plains) → AllAble schema vs → (k : ℕ) (t : Closed) (s after : Slice)
    → Repeats (Each Whole schema vs) k t s after
    → (ds : Laids) × (plain_all ds ≡ vs) × Repeats (EachLaid schema ds) k t s after
repeat_laid schema no_vals able k t s after r = (no_laids, refl, r)
repeat_laid schema (a_val v vs) able k t s after r =
    let d = able.0 (at_type t) tt s r.1 r.2 r.4 in
    let ds = repeat_laid schema vs able.1 r.0 t r.2 after r.6 in
    (a_laid d.0 ds.0, (λ i. a_val (d.1 i) (ds.1 i)), (r.0, r.1, r.2, r.3, d.2, r.5, ds.2))

fields_laid : (schema : CoreSchema) (is : Items) (vs : Plains) → AllAble schema vs → (scope : Scope) (s : Slice)
    (end : Scope) (after : Slice) → Fields is (Each Whole schema vs) scope s end after
    → (ds : Laids) × (plain_all ds ≡ vs) × Fields is (EachLaid schema ds) scope s end after
fields_laid schema no_items no_vals able scope s end after f = (no_laids, refl, f)
fields_laid schema no_items (a_val v vs) able scope s end after f = absurd f
fields_laid schema (an_item (check a op b i) is) vs able scope s end after f =
    let r = fields_laid schema is vs able scope s end after f.5 in
    (r.0, r.1, (f.0, f.1, f.2, f.3, f.4, r.2))
fields_laid schema (an_item (solve v a b i) is) vs able scope s end after f =
    let r = fields_laid schema is vs able (with_number v f.0 scope) s end after f.2 in
    (r.0, r.1, (f.0, f.1, r.2))
fields_laid schema (an_item (field y slot c t) is) no_vals able scope s end after f = absurd f
fields_laid schema (an_item (field y slot c t) is) (a_val v vs) able scope s end after f =
    let d = able.0 (at_field c t scope) tt s f.0 f.1 f.2 in
    let r = fields_laid schema is vs able.1 (bind (sets slot t) f.0 scope) f.1 end after f.3 in
    (a_laid d.0 r.0, (λ i. a_val (d.1 i) (r.1 i)), (f.0, f.1, d.2, r.2))

-- ---- references

first_of : Tree → List Tree → Tree
first_of c [] = c
first_of c (t ∷ ts) = t

-- one slice has one first reference
pub same_first : (s a b : Slice) (c e : Tree) → Then s (only_ref c) a → Then s (only_ref e) b → c ≡ e
unfolding first_of
same_first s a b c e t u = ap (first_of c) (sym t.refs ∙ u.refs)

cell_laid : (schema : CoreSchema) (v : Plain) → Able schema v → (g : Goal) → IsOpen g → (c : Tree)
    → Holds Whole (Spells Whole schema v) g c
    → (d : Laid) × (plain d ≡ v) × Holds Whole (SpellsLaid schema d) g c
cell_laid schema v able at_cell o c k = absurd o
cell_laid schema v able (at_type t) o c k =
    let d = able (at_type t) tt k.0 k.1 nothing k.3 in (d.0, d.1, (k.0, k.1, k.2, d.2))
cell_laid schema v able (at_field e t scope) o c k =
    let d = able (at_field e t scope) tt k.0 k.1 nothing k.3 in (d.0, d.1, (k.0, k.1, k.2, d.2))

raw_only : (schema : CoreSchema) (v : Plain) (s : Slice) (outs : List ℕ) (after : Slice)
    → SpellsShape Whole schema v as_cell s outs after → (x : Tree) × (v ≡ values.raw x) × Then s (only_ref x) after
raw_only schema (values.number negative size) s outs after e = absurd e
raw_only schema (values.bit_string bits) s outs after e = absurd e
raw_only schema (values.record_of (Some name) names vs) s outs after e = absurd e
raw_only schema (values.record_of None names vs) s outs after e = absurd e
raw_only schema values.absent s outs after e = absurd e
raw_only schema (values.list_of vs) s outs after e = absurd e
raw_only schema (values.ref_to a v) s outs after e = absurd e
raw_only schema (values.unknown h) s outs after e = absurd e
raw_only schema (values.map_of a ps us) s outs after e = absurd e
raw_only schema (values.raw c) s outs after e = (c, refl, e.1)
raw_only schema (values.rest r) s outs after e = absurd e

ok_same : (c e : Shape) → (◌≡◌ {A = Result Shape Cause} (Ok c) (Ok e)) → c ≡ e
ok_same c e h = cc

-- what a cell as it is spells is that cell
pub held_raw : (schema : CoreSchema) (v : Plain) (c : Tree) → Holds Whole (Spells Whole schema v) at_cell c
    → v ≡ values.raw c
held_raw schema v c k =
    let e = k.2 in
    let P : Shape → Type 0 = λ x. SpellsShape Whole schema v x (only_ref c) k.0 nothing in
    let x = raw_only schema v (only_ref c) k.0 nothing (subst P (sym (ok_same as_cell e.0 e.1)) e.2) in
    let same : Then (only_ref c) (only_ref c) nothing = record { bits = refl; refs = refl } in
    x.1 ∙ ap values.raw (same_first (only_ref c) nothing nothing x.0 c x.2 same)

under_laid : (schema : CoreSchema) (v : Plain) → Able schema v → (t : Closed) (s : Slice) (outs : List ℕ)
    (after : Slice) (c : Tree) → outs ≡ [] → Then s (only_ref c) after
    → Holds Whole (Spells Whole schema v) (under_ref t) c
    → Laying schema (values.ref_to tt v) (typed (closed.ref t)) s outs after
under_laid schema v able closed.whole s outs after c o b k =
    (ref_to_raw c, (λ i. values.ref_to tt ((sym (held_raw schema v c k)) i)), (o, b))
under_laid schema v able t s outs after c o b k =
    let d = cell_laid schema v able (at_type t) tt c k in
    (ref_to c d.0, ap (values.ref_to tt) d.1, (c, o, b, d.2, (after.refs, b.refs)))

-- ---- dictionaries

one_content : (schema : CoreSchema) (ps : PlainPairs) → ByAble schema ps → (t : Closed) (k : List ℕ) (c : Slice)
    → Contents (EachPair Whole schema ps) t ((k, c) ∷ [])
    → (v : Plain) × (outs : List ℕ) × (ps ≡ a_pair k v no_pairs) × Able schema v
    × Spells Whole schema v (at_type t) c outs nothing
one_content schema no_pairs able t k c h = absurd (cc)
one_content schema (a_pair l v no_pairs) able t k c h =
    (v, h.0, (λ i. a_pair ((sym h.1) i) v no_pairs), able.0, h.2)
one_content schema (a_pair l v (a_pair m w ps)) able t k c h = absurd h.3

-- the pairs of the entries below these bits, without them, and the pairs of the others
split_contents : (schema : CoreSchema) (p : List ℕ) (zs others : Entries) (ps : PlainPairs) → ByAble schema ps
    → (t : Closed) → Contents (EachPair Whole schema ps) t (pairs_in (under p zs ++ others))
    → (xs : PlainPairs) × (ys : PlainPairs) × (ps ≡ join (below p xs) ys) × ByAble schema xs × ByAble schema ys
    × Contents (EachPair Whole schema xs) t (pairs_in zs) × Contents (EachPair Whole schema ys) t (pairs_in others)
split_contents schema p [] others ps able t h = (no_pairs, ps, refl, tt, able, refl, h)
split_contents schema p ((k, leaf c) ∷ zs) others no_pairs able t h = absurd (cc)
split_contents schema p ((k, leaf c) ∷ zs) others (a_pair l v ps) able t h =
    let r = split_contents schema p zs others ps able.1 t h.3 in
    (a_pair k v r.0, r.1, (λ i. a_pair ((sym h.1) i) v (r.2 i)), (able.0, r.3), r.4, (h.0, refl, h.2, r.5), r.6)
split_contents schema p ((k, hidden u) ∷ zs) others ps able t h = split_contents schema p zs others ps able t h

lift_contents : (schema : CoreSchema) (p : List ℕ) (zs : Entries) (ps : PlainPairs) → ByAble schema ps → (t : Closed)
    → Contents (EachPair Whole schema ps) t (pairs_in (under p zs))
    → (xs : PlainPairs) × (ps ≡ below p xs) × ByAble schema xs × Contents (EachPair Whole schema xs) t (pairs_in zs)
lift_contents schema p [] no_pairs able t h = (no_pairs, refl, tt, refl)
lift_contents schema p [] (a_pair l v ps) able t h = absurd h
lift_contents schema p ((k, leaf c) ∷ zs) no_pairs able t h = absurd (cc)
lift_contents schema p ((k, leaf c) ∷ zs) (a_pair l v ps) able t h =
    let r = lift_contents schema p zs ps able.1 t h.3 in
    (a_pair k v r.0, (λ i. a_pair ((sym h.1) i) v (r.1 i)), (able.0, r.2), (h.0, refl, h.2, r.3))
lift_contents schema p ((k, hidden u) ∷ zs) ps able t h = lift_contents schema p zs ps able t h

no_hidden : (p : List ℕ) (zs others : Entries) → hidden_in zs ≡ [] → hidden_in (under p zs ++ others) ≡ hidden_in others
no_hidden p [] others h = refl
no_hidden p ((k, leaf c) ∷ zs) others h = no_hidden p zs others h
no_hidden p ((k, hidden u) ∷ zs) others h = absurd (cc)

none_hidden : (p : List ℕ) (zs : Entries) → hidden_in zs ≡ [] → hidden_in (under p zs) ≡ []
none_hidden p [] h = refl
none_hidden p ((k, leaf c) ∷ zs) h = none_hidden p zs h
none_hidden p ((k, hidden u) ∷ zs) h = absurd (cc)

-- the edge of a content, and of a cell
abbrev EdgeOf : CoreSchema → PlainPairs → Entries → (LaidEdge → Type 0) → Type 0
EdgeOf schema ps es P = (e : LaidEdge) × (plain_pairs e ≡ ps) × (hidden_in es ≡ []) × P e

fork_laid : (schema : CoreSchema) (p : List ℕ) (zs os : Entries) (ps : PlainPairs) → ByAble schema ps → (t : Closed)
    (A B : LaidEdge → Type 0)
    → ((xs : PlainPairs) → ByAble schema xs → Contents (EachPair Whole schema xs) t (pairs_in zs)
    → EdgeOf schema xs zs A)
    → ((ys : PlainPairs) → ByAble schema ys → Contents (EachPair Whole schema ys) t (pairs_in os)
    → EdgeOf schema ys os B)
    → Contents (EachPair Whole schema ps) t (pairs_in (fork p zs os))
    → (a : LaidEdge) × (b : LaidEdge) × (join (below (p ++ 0 ∷ []) (plain_pairs a))
    (below (p ++ 1 ∷ []) (plain_pairs b)) ≡ ps)
    × (hidden_in (fork p zs os) ≡ []) × A a × B b
fork_laid schema p zs os ps able t A B left right h =
    let x = split_contents schema (p ++ 0 ∷ []) zs (under (p ++ 1 ∷ []) os) ps able t h in
    let y = lift_contents schema (p ++ 1 ∷ []) os x.1 x.4 t x.6 in
    let a = left x.0 x.3 x.5 in
    let b = right y.0 y.2 y.3 in (
      a.0,
      b.0,
      (λ i. join (below (p ++ 0 ∷ []) (a.1 i)) (below (p ++ 1 ∷ []) (b.1 i)))
          ∙ ap (join (below (p ++ 0 ∷ []) x.0)) (sym y.1) ∙ sym x.2,
      no_hidden (p ++ 0 ∷ []) zs (under (p ++ 1 ∷ []) os) a.2 ∙ none_hidden (p ++ 1 ∷ []) os b.2,
      a.3,
      b.3,
    )

mutual
  tree_laid : (schema : CoreSchema) (n : ℕ) (es : Entries) (s : Slice) → DictTree Whole n es s → (ps : PlainPairs)
      → ByAble schema ps → (t : Closed) → Contents (EachPair Whole schema ps) t (pairs_in es)
      → EdgeOf schema ps es (λ e. SpellsEdge schema e n t s nothing)
  tree_laid schema n es s (one _ _ _ _ k c same len l r) ps able t h =
      let P : Entries → Type 0 = λ x. Contents (EachPair Whole schema ps) t (pairs_in x) in
      let v = one_content schema ps able t k c (subst P same h) in
      let d = v.3 (at_type t) tt c v.1 nothing v.4 in (
        a_leaf k d.0,
        (λ i. a_pair k (d.1 i) no_pairs) ∙ sym v.2,
        ap hidden_in same,
        (c, v.1, record { long = len; label = l; refs = r }, d.2),
      )
  tree_laid schema n es s (two _ _ _ _ p m zs os z o same len l r dz do_) ps able t h =
      let P : Entries → Type 0 = λ x. Contents (EachPair Whole schema ps) t (pairs_in x) in
      let x = fork_laid schema p zs os ps able t (λ e. EdgeCell (SpellsEdge schema e) m t z)
      (λ e. EdgeCell (SpellsEdge schema e) m t o)
      (λ xs able h. branch_laid schema m zs z dz xs able t h) (λ ys able h. branch_laid schema m os o do_ ys able t h)
      (subst P same h) in
      (a_fork p z x.0 o x.1, x.2, ap hidden_in same ∙ x.3, (m, len, l, r, x.4, x.5))

  branch_laid : (schema : CoreSchema) (m : ℕ) (es : Entries) (c : Tree) → Branch Whole m es c → (ps : PlainPairs)
      → ByAble schema ps → (t : Closed) → Contents (EachPair Whole schema ps) t (pairs_in es)
      → EdgeOf schema ps es (λ e. EdgeCell (SpellsEdge schema e) m t c)
  branch_laid schema m es c (open_edge _ _ _ _ s same d) ps able t h =
      let x = tree_laid schema m es s d ps able t h in
      (x.0, x.1, x.2, (s, same, x.3))
  branch_laid schema m es c (hidden_edge _ _ _ _ u seen same) ps able t h = absurd (cc)

first_laid : (schema : CoreSchema) (n : ℕ) (es : Entries) (s after : Slice) → Fork Whole n es s after
    → (ps : PlainPairs) → ByAble schema ps → (t : Closed) → Contents (EachPair Whole schema ps) t (pairs_in es)
    → EdgeOf schema ps es (λ e. SpellsEdge schema e n t s after)
first_laid schema n es s after (forked p m zs os z o same len l r dz do_) ps able t h =
    let P : Entries → Type 0 = λ x. Contents (EachPair Whole schema ps) t (pairs_in x) in
    let x = fork_laid schema p zs os ps able t (λ e. EdgeCell (SpellsEdge schema e) m t z)
    (λ e. EdgeCell (SpellsEdge schema e) m t o)
    (λ xs able h. branch_laid schema m zs z dz xs able t h) (λ ys able h. branch_laid schema m os o do_ ys able t h)
    (subst P same h) in
    (a_fork p z x.0 o x.1, x.2, ap hidden_in same ∙ x.3, (m, len, l, r, x.4, x.5))

abbrev Unknowns : Type 0
Unknowns = List (List ℕ × Hidden)

dict_laid : (schema : CoreSchema) (ps : PlainPairs) → ByAble schema ps → (us : Unknowns) (n : ℕ) (t : Closed)
    (s : Slice) (outs : List ℕ) (after : Slice) → outs ≡ [] → SpellsDict Whole (EachPair Whole schema ps) us n t s after
    → Laying schema (values.map_of tt ps us) (typed (closed.dict n t)) s outs after
dict_laid schema no_pairs able us n t s outs after o (inl e) = absurd e
dict_laid schema (a_pair k v (a_pair l w ps)) able us n t s outs after o (inl e) = absurd e
dict_laid schema (a_pair k v no_pairs) able (u ∷ us) n t s outs after o (inl e) = absurd e
dict_laid schema (a_pair k v no_pairs) able [] n t s outs after o (inl e) =
    let d = able.0 (at_type t) tt e.0 e.1 after e.3 in
    (map_here (a_leaf k d.0), (λ i. values.map_of tt (a_pair k (d.1 i) no_pairs) []), (o, (e.0, e.1, e.2, d.2)))
dict_laid schema ps able us n t s outs after o (inr e) =
    let x = first_laid schema n e.0 s after e.1 ps able t e.2.0 in
    (map_here x.0, (λ i. values.map_of tt (x.1 i) ((sym x.2 ∙ e.2.1) i)), (o, x.3))

dict_e_laid : (schema : CoreSchema) (ps : PlainPairs) → ByAble schema ps → (us : Unknowns) (n : ℕ) (t : Closed)
    (s : Slice) (outs : List ℕ) (after : Slice) → outs ≡ [] → SpellsDictE Whole (EachPair Whole schema ps) us n t s
    after
    → Laying schema (values.map_of tt ps us) (typed (closed.dict_e n t)) s outs after
dict_e_laid schema no_pairs able us n t s outs after o (no_entries a u b) =
    (no_map, (λ i. values.map_of tt no_pairs ((sym u) i)), (o, b))
dict_e_laid schema (a_pair k v ps) able us n t s outs after o (no_entries a u b) = absurd a
dict_e_laid schema ps able us n t s outs after o (some_entries c es b d k) =
    let x = branch_laid schema n es c d ps able t k.0 in
    (map_under c x.0, (λ i. values.map_of tt (x.1 i) ((sym x.2 ∙ k.1) i)), (o, b, x.3))

-- ---- all values

closed_laid : (schema : CoreSchema) (v : Plain)
    → ((c : Shape) → IsValue c → (s : Slice) (outs : List ℕ) (after : Slice) → SpellsShape Whole schema v c s outs after
    → Laying schema v c s outs after)
    → Able schema v
closed_laid schema v lays g o s outs after e =
    let d = lays e.0 (is_value g o e.0 e.1) s outs after e.2 in (d.0, d.1, (e.0, e.1, d.2))

mutual
  shape_laid : (schema : CoreSchema) (v : Plain) (c : Shape) → IsValue c → (s : Slice) (outs : List ℕ) (after : Slice)
      → SpellsShape Whole schema v c s outs after → Laying schema v c s outs after
  shape_laid schema (values.number negative size) c i s outs after e = (number negative size, refl, e)
  shape_laid schema (values.bit_string bits) c i s outs after e = (bit_string bits, refl, e)
  shape_laid schema values.absent c i s outs after e = (absent, refl, e)
  shape_laid schema (values.unknown h) (typed (closed.ref t)) i s outs after e = absurd (let u = e.3 in cc)
  shape_laid schema (values.unknown h) (fields_under is scope) i s outs after e = absurd (let u = e.3 in cc)
  shape_laid schema (values.unknown h) _ i s outs after e = absurd e
  shape_laid schema (values.raw d) as_cell i s outs after e = absurd i
  shape_laid schema (values.raw d) _ i s outs after e = absurd e
  shape_laid schema (values.rest r) c i s outs after e = (rest r, refl, e)
  shape_laid schema (values.ref_to a v) (typed (closed.ref t)) i s outs after e =
      under_laid schema v (closed_laid schema v (shape_laid schema v)) t s outs after e.0 e.1 e.2 e.3
  shape_laid schema (values.ref_to a v) (fields_under is scope) i s outs after e =
      let d = cell_laid schema v (closed_laid schema v (shape_laid schema v)) (at_fields is scope) tt e.0 e.3 in
      (ref_to e.0 d.0, ap (values.ref_to tt) d.1, (e.0, e.1, e.2, d.2, (after.refs, e.2.refs)))
  shape_laid schema (values.ref_to a v) _ i s outs after e = absurd e
  shape_laid schema (values.list_of vs) (typed (closed.repeat n t)) i s outs after e =
      let r = repeat_laid schema vs (all_laid schema vs) n t s after e.1 in
      (list_of r.0, ap values.list_of r.1, (e.0, r.2))
  shape_laid schema (values.list_of vs) _ i s outs after e = absurd e
  shape_laid schema (values.record_of (Some name) names vs) (typed (closed.named x args)) i s outs after e =
      let r = fields_laid schema e.1.core.items vs (all_laid schema vs) e.2 e.3 e.4 after e.8 in (
        record_of (Some name) names r.0,
        ap (values.record_of (Some name) names) r.1,
        (e.0, e.1, e.2, e.3, e.4, e.5, e.6, e.7, r.2, e.9),
      )
  shape_laid schema (values.record_of (Some name) names vs) _ i s outs after e = absurd e
  shape_laid schema (values.record_of None names vs) (fields_here is scope) i s outs after e =
      let r = fields_laid schema is vs (all_laid schema vs) scope s e.2 after e.3 in
      (record_of None names r.0, ap (values.record_of None names) r.1, (e.0, e.1, e.2, r.2))
  shape_laid schema (values.record_of None names vs) _ i s outs after e = absurd e
  shape_laid schema (values.map_of a ps us) (typed (closed.dict n t)) i s outs after e =
      dict_laid schema ps (by_laid schema ps) us n t s outs after e.0 e.1
  shape_laid schema (values.map_of a ps us) (typed (closed.dict_e n t)) i s outs after e =
      dict_e_laid schema ps (by_laid schema ps) us n t s outs after e.0 e.1
  shape_laid schema (values.map_of a ps us) _ i s outs after e = absurd e

  all_laid : (schema : CoreSchema) (vs : Plains) → AllAble schema vs
  all_laid schema no_vals = tt
  all_laid schema (a_val v vs) = (closed_laid schema v (shape_laid schema v), all_laid schema vs)

  by_laid : (schema : CoreSchema) (ps : PlainPairs) → ByAble schema ps
  by_laid schema no_pairs = tt
  by_laid schema (a_pair k v ps) = (closed_laid schema v (shape_laid schema v), by_laid schema ps)

pub value_is_laid : (schema : CoreSchema) (v : Plain) → Able schema v
value_is_laid schema v = closed_laid schema v (shape_laid schema v)

-- ---- the root

held_laid : (schema : CoreSchema) (t : Closed) (c : Tree) (v : Plain)
    → Holds Whole (Spells Whole schema v) (under_ref t) c
    → (r : LaidRoot) × (plain_root r ≡ v) × IsLaidRoot schema t c r
held_laid schema closed.whole c v k = (as_it_is c, sym (held_raw schema v c k), (refl, refl))
held_laid schema t c v k =
    let d = cell_laid schema v (value_is_laid schema v) (at_type t) tt c k in
    (laid_root d.0, d.1, d.2)

root_laid : (schema : CoreSchema) (t : Closed) (c : Tree) (v : Plain) → IsRootOf Whole schema t c v
    → (r : LaidRoot) × (plain_root r ≡ v) × IsLaidRoot schema t c r
root_laid schema t c v (inl k) = held_laid schema t c v k
root_laid schema t c (values.unknown h) (inr k) = absurd (let u = k.0 in cc)
root_laid schema t c _ (inr k) = absurd k

pub reading_is_laid : (schema : CoreSchema) (t : Closed) (c : Tree) (v : Plain) → Reading Whole schema t c v
    → (r : LaidRoot) × (plain_root r ≡ v) × IsLaidRoot schema t c r
reading_is_laid schema t c v r = root_laid schema t c v r.root
