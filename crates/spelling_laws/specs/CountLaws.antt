-- What is read has no more levels than are left, and no more parts than may begin.
use Rattle.std.proofs.Common.{◌≡◌, ℕ, zero, suc, ◌+◌, ◌≤◌, max, Bool, true, false, List, [], ◌∷◌, Option, Some, None, Ok, subst, arith, nat_lt}
use Rattle.std.specs.Prelude.{ℤ, pos, negsuc}
use Rattle.std.proofs.Math.Nat.{max-le}
use Rattle.std.proofs.lemmas.Bool.{ltb-true}
use Rattle.bit_slice.specs.Bits.{number_of, signed_number_of}
use Rattle.nat_solver.specs.Number.{comparison}
use Rattle.cell_nodes.specs.declared.tree.Tree.{Tree, out-Tree}
use Rattle.cell_nodes.specs.declared.tree.Kind.{Kind}
use Rattle.cell_nodes.specs.declared.tree.Kind.TheVariants.{Ordinary, Pruned, Library, Proof, Update}
use Rattle.cell_nodes.specs.declared.tree.Hidden.{Hidden}
use Rattle.cell_nodes.specs.declared.tree.Mode.{Mode}
use Rattle.hashmap_labels.specs.Reading.{are_bits}
use Rattle.hashmap_tree.specs.Entries.{Slice, content, pairs_in}
use Rattle.hashmap_tree.specs.Dict.{unseen}
use Rattle.hashmap_tree.specs.First.{Edge, at_leaf, at_fork, first_edge}
use Rattle.typed_value.specs.Values.{Plain, Plains, PlainPairs, levels, levels_in, levels_by, parts, parts_in, parts_by}
use Rattle.core_form.specs.Core.{Item, Items, no_items, an_item, check, solve, field, CoreSchema}
use Rattle.core_form.specs.Closed.{Closed}
use Rattle.core_form.specs.Closed as closed
use Rattle.core_form.specs.Scope.{Scope, value_in, values_in}
use Rattle.spelling.specs.Slices.{only_ref, is_nothing, took}
use Rattle.spelling.specs.Goals.{Row, natural, integer, string, no_row, row, Goal, at_type, at_field, at_cell, Shape, typed, fields_here, fields_under, left_out, as_cell, at_fields, under_ref, is_ref, shape_of}
use Rattle.spelling.specs.Spells.{next_bit}
use Rattle.spelling.specs.Places.{Spot, start, item_of, field_of, result_of, at_root}
use Rattle.spelling.specs.PlainReader.{prepend, Found, Reader, known, reported, take_bits, number_value, read_row, whole_of, ordinary_of, cell_value, child_of, read_ref, read_cell, walked, leaf_values, at_edge, read_dict, walk_cell, read_root, by_bit, turn, repeat, sought_number, Step, step, Got, read_fields, Choice, choose, after_tag, read_declared, read_type, read_shape, reading, root_of, read_within}
use Rattle.spelling_laws.specs.StepLaws.{bind_ok, guard_ok, only_ok, ok_one}

-- these levels and parts, where so many levels are left and so many parts have begun of those that may
pub record Counted (n most q levels parts : ℕ) : Type 0 where
  pub low : levels ≤ n
  pub few : q + parts ≤ most

abbrev pub CountedOne : ℕ → ℕ → ℕ → Plain → Type 0
CountedOne n most q v = Counted n most q (levels v) (parts v)

abbrev pub IsCounted : ℕ → ℕ → Reader → Type 0
IsCounted n most R =
    (h : Spot) (g : Goal) (q : ℕ) (s : Slice) (x : Found) → R h g q s ≡ Ok x → CountedOne n most q x.0

-- one that is alone
lone : (n most q : ℕ) → q ≤ most → Counted (suc n) (suc most) q 1 1
lone n most q le = record { low = omega arith; few = omega (arith, le) }

-- one more around those in it
around : (n most q l p : ℕ) → Counted n most q l p → Counted (suc n) (suc most) q (1 + l) (1 + p)
around n most q l p c = record { low = let a = c.low in omega (arith, a); few = let b = c.few in omega (arith, b) }

-- one, and then others
followed : (n most q : ℕ) (v : Plain) (l p : ℕ) → CountedOne n most q v → Counted n most (q + parts v) l p
    → Counted n most q (max (levels v) l) (parts v + p)
followed n most q v l p c d = record { low = max-le c.low d.low; few = let b = d.few in omega (arith, b) }

none : (n most q : ℕ) → q ≤ most → Counted n most q 0 0
none n most q le = record { low = omega arith; few = omega (arith, le) }

begun_le : (n most q l p : ℕ) → Counted n most q l p → q + p ≤ most
begun_le n most q l p c = c.few

-- ---- lists and records

turn_counted : (n most : ℕ) (R : Reader) → IsCounted n most R → (h : Spot) (t : Closed) (q : ℕ) (s : Slice) (x : Found)
    → turn R h t q s ≡ Ok x → CountedOne n most q x.0
turn_counted n most R counted h t q s x e =
    let o = bind_ok (R h (at_type t) q s) _ x e in
    let b = only_ok (took s o.0.2) _ _ x o.2 in
    let Q : Found → Type 0 = λ y. CountedOne n most q y.0 in
    subst Q (ok_one _ _ (Ok x) b.1) (counted h (at_type t) q s o.0 o.1)

repeat_counted : (n most : ℕ) (R : Reader) → IsCounted n most R → (h : Spot) (k : ℕ) (t : Closed) (q : ℕ) (s : Slice)
    (x : Plains × Slice) → q ≤ most → repeat R h k t q s ≡ Ok x → Counted n most q (levels_in x.0) (parts_in x.0)
repeat_counted n most R counted h zero t q s x le e =
    let Q : Plains × Slice → Type 0 = λ y. Counted n most q (levels_in y.0) (parts_in y.0) in
    subst Q (ok_one _ _ (Ok x) e) (none n most q le)
repeat_counted n most R counted h (suc k) t q s x le e =
    let a = bind_ok (turn R h t q s) _ x e in
    let r = bind_ok (repeat R h k t (q + parts a.0.0) a.0.2) _ x a.2 in
    let one = turn_counted n most R counted h t q s a.0 a.1 in
    let more = repeat_counted n most R counted h k t (q + parts a.0.0) a.0.2 r.0 one.few r.1 in
    let Q : Plains × Slice → Type 0 = λ y. Counted n most q (levels_in y.0) (parts_in y.0) in
    subst Q (ok_one _ _ (Ok x) r.2) (followed n most q a.0.0 (levels_in r.0.0) (parts_in r.0.0) one more)

pub record Grows (n most q : ℕ) (x : Step) : Type 0 where
  pub begun : x.begun ≤ most
  pub before : (vs : Plains) → Counted n most x.begun (levels_in vs) (parts_in vs)
      → Counted n most q (levels_in (prepend x.gives vs)) (parts_in (prepend x.gives vs))

step_counted : (n most : ℕ) (R : Reader) → IsCounted n most R → (h : Spot) (i : Item) (scope : Scope) (q : ℕ)
    (s : Slice)
    (x : Step) → q ≤ most → step R h i scope q s ≡ Ok x → Grows n most q x
step_counted n most R counted h (check a op b i) scope q s x le e =
    let k = bind_ok (known (item_of h i) (value_in a scope)) _ x e in
    let l = bind_ok (known (item_of h i) (value_in b scope)) _ x k.2 in
    let g = only_ok (comparison op k.0 l.0) _ _ x l.2 in
    let Q : Step → Type 0 = Grows n most q in
    subst Q (ok_one _ _ (Ok x) g.1) (record { begun = le; before = λ vs c. c })
step_counted n most R counted h (solve v a b i) scope q s x le e =
    let k = bind_ok (reported (item_of h i) (sought_number a b scope.numbers)) _ x e in
    let Q : Step → Type 0 = Grows n most q in
    subst Q (ok_one _ _ (Ok x) k.2) (record { begun = le; before = λ vs c. c })
step_counted n most R counted h (field y slot c t) scope q s x le e =
    let v = bind_ok (R (field_of h y) (at_field c t scope) q s) _ x e in
    let one = counted (field_of h y) (at_field c t scope) q s v.0 v.1 in
    let Q : Step → Type 0 = Grows n most q in
    subst Q (ok_one _ _ (Ok x) v.2) (record { begun = one.few; before = λ vs c. followed n most q v.0.0 (levels_in vs) (parts_in vs) one c })

fields_counted : (n most : ℕ) (R : Reader) → IsCounted n most R → (h : Spot) (is : Items) (scope : Scope) (q : ℕ)
    (s : Slice) (x : Got) → q ≤ most → read_fields R h is scope q s ≡ Ok x
    → Counted n most q (levels_in x.0) (parts_in x.0)
fields_counted n most R counted h no_items scope q s x le e =
    let Q : Got → Type 0 = λ y. Counted n most q (levels_in y.0) (parts_in y.0) in
    subst Q (ok_one _ _ (Ok x) e) (none n most q le)
fields_counted n most R counted h (an_item i is) scope q s x le e =
    let a = bind_ok (step R h i scope q s) _ x e in
    let r = bind_ok (read_fields R h is a.0.scope a.0.begun a.0.left) _ x a.2 in
    let one = step_counted n most R counted h i scope q s a.0 le a.1 in
    let more = fields_counted n most R counted h is a.0.scope a.0.begun a.0.left r.0 one.begun r.1 in
    let Q : Got → Type 0 = λ y. Counted n most q (levels_in y.0) (parts_in y.0) in
    subst Q (ok_one _ _ (Ok x) r.2) (one.before r.0.0 more)

declared_counted : (n most : ℕ) (R : Reader) → IsCounted n most R → (h : Spot) (o : Option Choice) (q : ℕ) (s : Slice)
    (x : Found) → q ≤ most → read_declared R h o q s ≡ Ok x → CountedOne (suc n) (suc most) q x.0
declared_counted n most R counted h None q s x le e = cc
declared_counted n most R counted h (Some (c, scope)) q s x le e =
    let v = bind_ok (read_fields R (start c) c.core.items scope q (after_tag c.core.tag s)) _ x e in
    let o = bind_ok (known (result_of (start c)) (values_in c.core.outputs v.0.1)) _ x v.2 in
    let Q : Found → Type 0 = λ y. CountedOne (suc n) (suc most) q y.0 in
    subst Q (ok_one _ _ (Ok x) o.2) (around n most q (levels_in v.0.0) (parts_in v.0.0) (fields_counted n most R counted (start c) c.core.items scope q (after_tag c.core.tag s) v.0 le v.1))

-- ---- references

whole_counted : (n most : ℕ) (R : Reader) → IsCounted n most R → (h : Spot) (g : Goal) (q : ℕ) (s : Slice) (v : Plain)
    → whole_of R h g q s ≡ Ok v → CountedOne n most q v
whole_counted n most R counted h g q s v e =
    let o = bind_ok (R h g q s) _ v e in
    let b = only_ok (is_nothing o.0.2) _ _ v o.2 in
    let Q : Plain → Type 0 = λ y. CountedOne n most q y in
    subst Q (ok_one _ _ (Ok v) b.1) (counted h g q s o.0 o.1)

ordinary_counted : (n most : ℕ) (R : Reader) → IsCounted n most R → (h : Spot) (g : Goal) (q : ℕ) (k : Kind) (s : Slice)
    (v : Plain) → ordinary_of R h g q k s ≡ Ok v → CountedOne n most q v
ordinary_counted n most R counted h g q Ordinary s v e = whole_counted n most R counted h g q s v e
ordinary_counted n most R counted h g q Pruned s v e = cc
ordinary_counted n most R counted h g q Library s v e = cc
ordinary_counted n most R counted h g q Proof s v e = cc
ordinary_counted n most R counted h g q Update s v e = cc

cell_value_counted : (n most : ℕ) (R : Reader) → IsCounted n most R → (h : Spot) (g : Goal) (q : ℕ) (c : Tree) (v : Plain)
    → cell_value R h g q c ≡ Ok v → CountedOne n most q v
cell_value_counted n most R counted h at_cell q c v e = whole_counted n most R counted h at_cell q (only_ref c) v e
cell_value_counted n most R counted h (at_type t) q c v e =
    ordinary_counted n most R counted h (at_type t) q (out-Tree c).kind (content c) v e
cell_value_counted n most R counted h (at_field x t scope) q c v e =
    ordinary_counted n most R counted h (at_field x t scope) q (out-Tree c).kind (content c) v e

child_counted : (n most : ℕ) (R : Reader) → IsCounted n most R → (h : Spot) (g : Goal) (q : ℕ) (o : Option Hidden)
    (c : Tree) (v : Plain) → q ≤ most → child_of R h g q o c ≡ Ok v → CountedOne (suc n) (suc most) q v
child_counted n most R counted h g q (Some x) c v le e =
    let Q : Plain → Type 0 = λ y. CountedOne (suc n) (suc most) q y in
    subst Q (ok_one _ _ (Ok v) e) (lone n most q le)
child_counted n most R counted h g q None c v le e =
    let u = bind_ok (cell_value R h g q c) _ v e in
    let Q : Plain → Type 0 = λ y. CountedOne (suc n) (suc most) q y in
    subst Q (ok_one _ _ (Ok v) u.2) (around n most q (levels u.0) (parts u.0) (cell_value_counted n most R counted h g q c u.0 u.1))

ref_counted : (n most : ℕ) (mode : Mode) (R : Reader) → IsCounted n most R → (h : Spot) (g : Goal) (q : ℕ)
    (bits : List ℕ) (refs : List Tree) (x : Found) → q ≤ most → read_ref mode R h g q bits refs ≡ Ok x
    → CountedOne (suc n) (suc most) q x.0
ref_counted n most mode R counted h g q bits [] x le e = cc
ref_counted n most mode R counted h g q bits (c ∷ refs) x le e =
    let u = bind_ok (child_of R h g q (unseen mode c) c) _ x e in
    let Q : Found → Type 0 = λ y. CountedOne (suc n) (suc most) q y.0 in
    subst Q (ok_one _ _ (Ok x) u.2) (child_counted n most R counted h g q (unseen mode c) c u.0 le u.1)

-- ---- dictionaries

leaves_counted : (n most : ℕ) (R : Reader) → IsCounted n most R → (h : Spot) (t : Closed) (q : ℕ)
    (ls : List (List ℕ × Slice)) (x : PlainPairs) → q ≤ most → leaf_values R h t q ls ≡ Ok x
    → Counted n most q (levels_by x) (parts_by x)
leaves_counted n most R counted h t q [] x le e =
    let Q : PlainPairs → Type 0 = λ y. Counted n most q (levels_by y) (parts_by y) in
    subst Q (ok_one _ _ (Ok x) e) (none n most q le)
leaves_counted n most R counted h t q (l ∷ ls) x le e =
    let a = bind_ok (whole_of R h (at_type t) q l.1) _ x e in
    let r = bind_ok (leaf_values R h t (q + parts a.0) ls) _ x a.2 in
    let one = whole_counted n most R counted h (at_type t) q l.1 a.0 a.1 in
    let more = leaves_counted n most R counted h t (q + parts a.0) ls r.0 one.few r.1 in
    let Q : PlainPairs → Type 0 = λ y. Counted n most q (levels_by y) (parts_by y) in
    subst Q (ok_one _ _ (Ok x) r.2) (followed n most q a.0 (levels_by r.0) (parts_by r.0) one more)

edge_counted : (n most : ℕ) (R : Reader) → IsCounted n most R → (h : Spot) (t : Closed) (q : ℕ) (d : Edge) (x : Found)
    → q ≤ most → at_edge R h t q d ≡ Ok x → CountedOne (suc n) (suc most) q x.0
edge_counted n most R counted h t q (at_leaf k middle) x le e =
    let v = bind_ok (R h (at_type t) q middle) _ x e in
    let one = counted h (at_type t) q middle v.0 v.1 in
    let Q : Found → Type 0 = λ y. CountedOne (suc n) (suc most) q y.0 in
    let all = followed n most q v.0.0 0 0 one (none n most (q + parts v.0.0) one.few) in
    subst Q (ok_one _ _ (Ok x) v.2) (around n most q (max (levels v.0.0) 0) (parts v.0.0 + 0) all)
edge_counted n most R counted h t q (at_fork es after) x le e =
    let v = bind_ok (leaf_values R h t q (pairs_in es)) _ x e in
    let Q : Found → Type 0 = λ y. CountedOne (suc n) (suc most) q y.0 in
    subst Q (ok_one _ _ (Ok x) v.2) (around n most q (levels_by v.0) (parts_by v.0) (leaves_counted n most R counted h t q (pairs_in es) v.0 le v.1))

dict_counted : (n most : ℕ) (mode : Mode) (R : Reader) → IsCounted n most R → (h : Spot) (k : ℕ) (t : Closed) (q : ℕ)
    (s : Slice) (x : Found) → q ≤ most → read_dict mode R h k t q s ≡ Ok x → CountedOne (suc n) (suc most) q x.0
dict_counted n most mode R counted h k t q s x le e =
    let d = bind_ok (walked h (first_edge mode k s)) _ x e in
    edge_counted n most R counted h t q d.0 x le d.2

root_counted : (n most : ℕ) (mode : Mode) (R : Reader) → IsCounted n most R → (h : Spot) (k : ℕ) (t : Closed) (q : ℕ)
    (bits : List ℕ) (refs : List Tree) (x : Found) → q ≤ most → read_root mode R h k t q bits refs ≡ Ok x
    → CountedOne (suc n) (suc most) q x.0
root_counted n most mode R counted h k t q bits [] x le e = cc
root_counted n most mode R counted h k t q bits (c ∷ refs) x le e =
    let d = bind_ok (walked h (walk_cell mode k c)) _ x e in
    let v = bind_ok (leaf_values R h t q (pairs_in d.0)) _ x d.2 in
    let Q : Found → Type 0 = λ y. CountedOne (suc n) (suc most) q y.0 in
    subst Q (ok_one _ _ (Ok x) v.2) (around n most q (levels_by v.0) (parts_by v.0) (leaves_counted n most R counted h t q (pairs_in d.0) v.0 le v.1))

bit_counted : (n most : ℕ) (mode : Mode) (R : Reader) → IsCounted n most R → (h : Spot) (k : ℕ) (t : Closed) (q : ℕ)
    (o : Option (Bool × List ℕ)) (refs : List Tree) (x : Found) → q ≤ most → by_bit mode R h k t q o refs ≡ Ok x
    → CountedOne (suc n) (suc most) q x.0
bit_counted n most mode R counted h k t q None refs x le e = cc
bit_counted n most mode R counted h k t q (Some (false, bits)) refs x le e =
    let Q : Found → Type 0 = λ y. CountedOne (suc n) (suc most) q y.0 in
    subst Q (ok_one _ _ (Ok x) e) (around n most q 0 0 (none n most q le))
bit_counted n most mode R counted h k t q (Some (true, bits)) refs x le e =
    root_counted n most mode R counted h k t q bits refs x le e

-- ---- basic types

integer_counted : (n most q : ℕ) → q ≤ most → (z : ℤ) → CountedOne (suc n) (suc most) q (number_value z)
integer_counted n most q le (pos m) = lone n most q le
integer_counted n most q le (negsuc m) = lone n most q le

row_counted : (n most : ℕ) (h : Spot) (r : Row) (q : ℕ) (s : Slice) (x : Found) → q ≤ most → read_row h r s ≡ Ok x
    → CountedOne (suc n) (suc most) q x.0
row_counted n most h (natural width bound named) q s x le e =
    let y = bind_ok (take_bits h width s) _ x e in
    let b = only_ok (are_bits y.0.0) _ _ x y.2 in
    let g = only_ok (nat_lt (number_of y.0.0) bound) _ _ x b.1 in
    let Q : Found → Type 0 = λ y. CountedOne (suc n) (suc most) q y.0 in
    subst Q (ok_one _ _ (Ok x) g.1) (lone n most q le)
row_counted n most h (integer width) q s x le e =
    let y = bind_ok (take_bits h width s) _ x e in
    let b = only_ok (are_bits y.0.0) _ _ x y.2 in
    let Q : Found → Type 0 = λ y. CountedOne (suc n) (suc most) q y.0 in
    subst Q (ok_one _ _ (Ok x) b.1) (integer_counted n most q le (signed_number_of y.0.0))
row_counted n most h (string width) q s x le e =
    let y = bind_ok (take_bits h width s) _ x e in
    let Q : Found → Type 0 = λ y. CountedOne (suc n) (suc most) q y.0 in
    subst Q (ok_one _ _ (Ok x) y.2) (lone n most q le)
row_counted n most h no_row q s x le e = cc

-- ---- goals

type_counted : (n most : ℕ) (mode : Mode) (schema : CoreSchema) (R : Reader) → IsCounted n most R → (h : Spot)
    (t : Closed) (q : ℕ) (s : Slice) (x : Found) → q ≤ most → read_type mode schema R h t q s ≡ Ok x
    → CountedOne (suc n) (suc most) q x.0
type_counted n most mode schema R counted h closed.nat32 q s x le e = row_counted n most h (row closed.nat32) q s x le e
type_counted n most mode schema R counted h (closed.bits k) q s x le e = row_counted n most h (row (closed.bits k)) q s x le e
type_counted n most mode schema R counted h (closed.below k) q s x le e = row_counted n most h (row (closed.below k)) q s x le e
type_counted n most mode schema R counted h (closed.up_to k) q s x le e = row_counted n most h (row (closed.up_to k)) q s x le e
type_counted n most mode schema R counted h (closed.uint k) q s x le e = row_counted n most h (row (closed.uint k)) q s x le e
type_counted n most mode schema R counted h (closed.int k) q s x le e = row_counted n most h (row (closed.int k)) q s x le e
type_counted n most mode schema R counted h (closed.bit_str k) q s x le e = row_counted n most h (row (closed.bit_str k)) q s x le e
type_counted n most mode schema R counted h closed.whole q s x le e =
    let Q : Found → Type 0 = λ y. CountedOne (suc n) (suc most) q y.0 in
    subst Q (ok_one _ _ (Ok x) e) (lone n most q le)
type_counted n most mode schema R counted h (closed.ref t) q s x le e =
    ref_counted n most mode R counted h (under_ref t) q s.bits s.refs x le e
type_counted n most mode schema R counted h (closed.repeat k t) q s x le e =
    let v = bind_ok (repeat R h k t q s) _ x e in
    let Q : Found → Type 0 = λ y. CountedOne (suc n) (suc most) q y.0 in
    subst Q (ok_one _ _ (Ok x) v.2) (around n most q (levels_in v.0.0) (parts_in v.0.0) (repeat_counted n most R counted h k t q s v.0 le v.1))
type_counted n most mode schema R counted h (closed.dict k t) q s x le e =
    dict_counted n most mode R counted h k t q s x le e
type_counted n most mode schema R counted h (closed.dict_e k t) q s x le e =
    bit_counted n most mode R counted h k t q (next_bit s.bits) s.refs x le e
type_counted n most mode schema R counted h (closed.named y args) q s x le e =
    declared_counted n most R counted h (choose schema schema y args s.bits) q s x le e

cell_counted : (n most : ℕ) (h : Spot) (q : ℕ) (bits : List ℕ) (refs : List Tree) (x : Found) → q ≤ most
    → read_cell h bits refs ≡ Ok x → CountedOne (suc n) (suc most) q x.0
cell_counted n most h q bits [] x le e = cc
cell_counted n most h q bits (c ∷ refs) x le e =
    let Q : Found → Type 0 = λ y. CountedOne (suc n) (suc most) q y.0 in
    subst Q (ok_one _ _ (Ok x) e) (lone n most q le)

shape_counted : (n most : ℕ) (mode : Mode) (schema : CoreSchema) (R : Reader) → IsCounted n most R → (h : Spot)
    (c : Shape) (q : ℕ) (s : Slice) (x : Found) → q ≤ most → read_shape mode schema R h c q s ≡ Ok x
    → CountedOne (suc n) (suc most) q x.0
shape_counted n most mode schema R counted h (typed t) q s x le e = type_counted n most mode schema R counted h t q s x le e
shape_counted n most mode schema R counted h (fields_here is scope) q s x le e =
    let v = bind_ok (read_fields R h is scope q s) _ x e in
    let Q : Found → Type 0 = λ y. CountedOne (suc n) (suc most) q y.0 in
    subst Q (ok_one _ _ (Ok x) v.2) (around n most q (levels_in v.0.0) (parts_in v.0.0) (fields_counted n most R counted h is scope q s v.0 le v.1))
shape_counted n most mode schema R counted h (fields_under is scope) q s x le e =
    ref_counted n most mode R counted h (at_fields is scope) q s.bits s.refs x le e
shape_counted n most mode schema R counted h left_out q s x le e =
    let Q : Found → Type 0 = λ y. CountedOne (suc n) (suc most) q y.0 in
    subst Q (ok_one _ _ (Ok x) e) (lone n most q le)
shape_counted n most mode schema R counted h as_cell q s x le e = cell_counted n most h q s.bits s.refs x le e

pub reading_counted : (n most : ℕ) (mode : Mode) (schema : CoreSchema) → IsCounted n most (reading n most mode schema)
unfolding reading
reading_counted zero most mode schema h g q s x e = cc
reading_counted (suc n) most mode schema h g q s x e =
    let b = only_ok (nat_lt q most) _ _ x e in
    let lt = ltb-true q most b.0 in
    let c = bind_ok (reported h (shape_of g)) _ x b.1 in
    let le : q + 1 ≤ most = omega (arith, lt) in
    let up = shape_counted n most mode schema (reading n most mode schema) (reading_counted n most mode schema) h c.0 (q + 1) s x le c.2 in
    record { low = up.low; few = let f = up.few in omega (arith, f) }

-- ---- the root; a hidden one has one level and one part

pub root_counted_at : (n most : ℕ) (mode : Mode) (schema : CoreSchema) (t : Closed) (c : Tree) (v : Plain)
    → 1 ≤ n → 1 ≤ most → read_within n most mode schema t c ≡ Ok v → (levels v ≤ n) × (parts v ≤ most)
root_counted_at n most mode schema t c v deep large e = go (unseen mode c) e
  where
    go : (o : Option Hidden) → root_of (reading n most mode schema) t o c ≡ Ok v → (levels v ≤ n) × (parts v ≤ most)
    go (Some x) e =
        let g = guard_ok (is_ref t) _ _ v e in
        let Q : Plain → Type 0 = λ y. (levels y ≤ n) × (parts y ≤ most) in
        subst Q (ok_one _ _ (Ok v) g.1) (deep, large)
    go None e =
        let r = cell_value_counted n most (reading n most mode schema) (reading_counted n most mode schema) at_root (under_ref t) 0 c v e in
        (r.low, (let f = r.few in omega (arith, f)))
