-- What the plain reader reads is spelled so.
use Rattle.std.proofs.Common.{◌≡◌, ℕ, zero, suc, ◌+◌, Bool, true, false, cond, ◌&&◌, ◌||◌, List, [], ◌∷◌, ◌++◌, length, drop, Option, Some, None, Ok, slice_get, refl, sym, ap, ◌∙◌, subst, ◌⊎◌, inl, inr, arith, nat_lt, nat_eq}
use Rattle.std.specs.Prelude.{ℤ, pos, negsuc, bytes_eq}
use Rattle.std.proofs.lemmas.List.{take-append-drop, length-take-le, nil_from_length}
use Rattle.std.proofs.lemmas.Bool.{ltb-false, ltb-true, eqb-true, leb-true}
use Rattle.std.proofs.lemmas.Slice.Eq.{bytes_eq-Decides}
use Rattle.bit_slice.specs.Bits.{number_of, spelled, signed_number_of, signed_spelled, InSignedRange}
use Rattle.bit_slice.specs.BitLists.{spelled-number_of}
use Rattle.bit_slice.specs.SignedLists.{InSignedRange-signed_number_of, signed_spelled-signed_number_of}
use Rattle.nat_solver.specs.Number.{Compares, comparison}
use Rattle.nat_solver.specs.declared.compare.Op.{Op}
use Rattle.nat_solver.specs.declared.compare.Op.TheVariants.{Eq, Lt, Le, Gt, Ge}
use Rattle.cell_nodes.specs.declared.tree.Tree.{Tree, out-Tree}
use Rattle.cell_nodes.specs.declared.tree.Kind.{Kind}
use Rattle.cell_nodes.specs.declared.tree.Kind.TheVariants.{Ordinary, Pruned, Library, Proof, Update}
use Rattle.cell_nodes.specs.declared.tree.Hidden.{Hidden}
use Rattle.cell_nodes.specs.declared.tree.Mode.{Mode}
use Rattle.hashmap_labels.specs.Reading.{are_bits}
use Rattle.hashmap_labels.specs.LengthLaws.{AreBits-are_bits}
use Rattle.hashmap_tree.specs.Entries.{Slice, content, cell_of, Then, Entries, pairs_in}
use Rattle.hashmap_tree.specs.Dict.{unseen, Branch}
use Rattle.hashmap_tree.specs.First.{Edge, at_leaf, at_fork, IsEdge, first_edge}
use Rattle.hashmap_tree.specs.Walk.{walk}
use Rattle.hashmap_tree.specs.CellLaws.{ordinary_cell}
use Rattle.hashmap_tree.specs.FirstLaws.{first_sound}
use Rattle.hashmap_tree.specs.SoundLaws.{branch_sound, walk_sound}
use Rattle.typed_value.specs.Values.{Plain, Plains, PlainPairs, number, bit_string, ref_to, unknown, no_pairs, parts}
use Rattle.core_form.specs.Core.{Word, Item, Items, no_items, an_item, check, solve, field, Declaration, CoreSchema}
use Rattle.core_form.specs.Closed.{Closed, ClosedArgs}
use Rattle.core_form.specs.Closed as closed
use Rattle.core_form.specs.Scope.{Scope, value_in, values_in}
use Rattle.core_form.specs.Fit.{fit}
use Rattle.schema_leads.specs.Leads.{begins, leads, some_begins, by_tag, by_first, type_leads, first_of}
use Rattle.spelling.specs.Slices.{nothing, only_bits, only_ref, is_nothing, took}
use Rattle.spelling.specs.Goals.{Row, natural, integer, string, no_row, row, Goal, at_type, at_field, at_cell, Shape, typed, fields_here, fields_under, left_out, as_cell, at_fields, under_ref, is_ref, shape_of}
use Rattle.spelling.specs.Spells.{SpellsNumber, SpellsString, Spells, SpellsShape, SpellsChild, SpellsPruned, Holds, IsRootOf, free, Each, EachPair, Contents, Repeats, Fields, no_entries, some_entries, next_bit}
use Rattle.spelling.specs.Places.{Spot, start, item_of, field_of, result_of, at_root}
use Rattle.spelling.specs.PlainReader.{prepend, Found, Reader, known, reported, take_bits, number_value, natural_of, integer_of, read_row, whole_of, ordinary_of, cell_value, child_of, read_ref, read_cell, walked, leaf_values, at_edge, read_dict, walk_cell, read_root, by_bit, turn, repeat, sought_number, Step, step, Got, read_fields, candidate, Choice, first, choose, after_tag, read_declared, read_type, read_shape, read_goal, reading, root_of, read_within}
use Rattle.spelling.specs.Stuck.{Enters}
use Rattle.spelling_laws.specs.StepLaws.{bind_ok, guard_ok, only_ok, known_ok, reported_ok, walked_ok, ok_one, both}
use Rattle.spelling_laws.specs.FitLaws.{fit_sound}
use Rattle.spelling_laws.specs.SolvingLaws.{sought_sound}

-- ---- basic types

-- a value of a row
abbrev OfRow : Plain → Row → Slice → List ℕ → Slice → Type 0
OfRow (number negative size) r = SpellsNumber negative size r
OfRow (bit_string bits) r = SpellsString bits r
OfRow _ r = λ before outs after. ⊥

abbrev RowSpelled : Row → Slice → Found → Type 0
RowSpelled r s x = OfRow x.0 r s x.1 x.2

taken : (h : Spot) (n : ℕ) (s : Slice) (y : List ℕ × Slice) → take_bits h n s ≡ Ok y
    → (length y.0 ≡ n) × Then s (only_bits y.0) y.1
taken h n s y e =
    let g = guard_ok (nat_lt (length s.bits) n) _ _ y e in
    let P : List ℕ × Slice → Type 0 = λ z. (length z.0 ≡ n) × Then s (only_bits z.0) z.1 in
    subst P (ok_one _ _ (Ok y) g.1) (length-take-le n s.bits (ltb-false (length s.bits) n g.0), record { bits = sym (take-append-drop n s.bits); refs = refl })

natural_sound : (h : Spot) (width bound : ℕ) (named : Bool) (s : Slice) (y : List ℕ × Slice)
    → (length y.0 ≡ width) × Then s (only_bits y.0) y.1 → (x : Found) → natural_of h bound named y.0 y.1 ≡ Ok x
    → RowSpelled (natural width bound named) s x
natural_sound h width bound named s y t x e =
    let b = only_ok (are_bits y.0) _ _ x e in
    let g = only_ok (nat_lt (number_of y.0) bound) _ _ x b.1 in
    let E : ℕ → Type 0 = λ w. spelled w (number_of y.0) ≡ y.0 in
    let same : spelled width (number_of y.0) ≡ y.0 = subst E t.0 (spelled-number_of y.0 (AreBits-are_bits y.0 b.0)) in
    let T : List ℕ → Type 0 = λ z. Then s (only_bits z) y.1 in
    let P : Found → Type 0 = RowSpelled (natural width bound named) s in
    subst P (ok_one _ _ (Ok x) g.1) (refl, ltb-true (number_of y.0) bound g.0, refl, subst T (sym same) t.1)

integer_value : (width : ℕ) (s after : Slice) (z : ℤ) → InSignedRange width z
    → Then s (only_bits (signed_spelled width z)) after → RowSpelled (integer width) s (number_value z, [], after)
integer_value width s after (pos n) r u = (pos n, refl, r, refl, u)
integer_value width s after (negsuc n) r u = (negsuc n, refl, r, refl, u)

integer_sound : (h : Spot) (width : ℕ) (s : Slice) (y : List ℕ × Slice)
    → (length y.0 ≡ width) × Then s (only_bits y.0) y.1 → (x : Found) → integer_of h y.0 y.1 ≡ Ok x
    → RowSpelled (integer width) s x
integer_sound h width s y t x e =
    let b = only_ok (are_bits y.0) _ _ x e in
    let z : ℤ = signed_number_of y.0 in
    let E : ℕ → Type 0 = λ w. InSignedRange w z × (signed_spelled w z ≡ y.0) in
    let r = subst E t.0 (InSignedRange-signed_number_of y.0 (AreBits-are_bits y.0 b.0), signed_spelled-signed_number_of y.0 (AreBits-are_bits y.0 b.0)) in
    let T : List ℕ → Type 0 = λ z. Then s (only_bits z) y.1 in
    let P : Found → Type 0 = RowSpelled (integer width) s in
    subst P (ok_one _ _ (Ok x) b.1) (integer_value width s y.1 z r.0 (subst T (sym r.1) t.1))

row_sound : (h : Spot) (r : Row) (s : Slice) (x : Found) → read_row h r s ≡ Ok x → RowSpelled r s x
row_sound h (natural width bound named) s x e = let y = bind_ok (take_bits h width s) _ x e in natural_sound h width bound named s y.0 (taken h width s y.0 y.1) x y.2
row_sound h (integer width) s x e = let y = bind_ok (take_bits h width s) _ x e in integer_sound h width s y.0 (taken h width s y.0 y.1) x y.2
row_sound h (string width) s x e =
    let y = bind_ok (take_bits h width s) _ x e in
    let t = taken h width s y.0 y.1 in
    let P : Found → Type 0 = RowSpelled (string width) s in
    subst P (ok_one _ _ (Ok x) y.2) (t.0, refl, t.1)
row_sound h no_row s x e = cc

of_row : (mode : Mode) (schema : CoreSchema) (t : Closed) (v : Plain) (s : Slice) (outs : List ℕ) (after : Slice)
    → OfRow v (row t) s outs after → SpellsShape mode schema v (typed t) s outs after
of_row mode schema t (number negative size) s outs after k = k
of_row mode schema t (bit_string bits) s outs after k = k
of_row mode schema t _ s outs after k = absurd k

basic_sound : (mode : Mode) (schema : CoreSchema) (h : Spot) (t : Closed) (s : Slice) (x : Found)
    → read_row h (row t) s ≡ Ok x → SpellsShape mode schema x.0 (typed t) s x.1 x.2
basic_sound mode schema h t s x e = of_row mode schema t x.0 s x.1 x.2 (row_sound h (row t) s x e)

-- ---- equations and comparisons

pub compares : (op : Op) (m n : ℕ) → comparison op m n ≡ true → Compares op m n
compares Eq m n e = eqb-true m n e
compares Lt m n e = ltb-true m n e
compares Le m n e = leb-true m n e
compares Gt m n e = ltb-true n m e
compares Ge m n e = leb-true n m e

-- ---- lists and records

abbrev pub IsSound : Mode → CoreSchema → Reader → Type 0
IsSound mode schema R = (h : Spot) (g : Goal) (q : ℕ) (s : Slice) (x : Found) → R h g q s ≡ Ok x → Spells mode schema x.0 g s x.1 x.2

repeat_sound : (mode : Mode) (schema : CoreSchema) (R : Reader) → IsSound mode schema R
    → (h : Spot) (k : ℕ) (t : Closed) (q : ℕ) (s : Slice) (x : Plains × Slice) → repeat R h k t q s ≡ Ok x
    → Repeats (Each mode schema x.0) k t s x.1
repeat_sound mode schema R sound h zero t q s x e =
    let P : Plains × Slice → Type 0 = λ y. Repeats (Each mode schema y.0) 0 t s y.1 in
    subst P (ok_one _ _ (Ok x) e) (refl, refl)
repeat_sound mode schema R sound h (suc k) t q s x e =
    let a = bind_ok (turn R h t q s) _ x e in
    let o = bind_ok (R h (at_type t) q s) _ a.0 a.1 in
    let b = only_ok (took s o.0.2) _ _ a.0 o.2 in
    let same : o.0 ≡ a.0 = ok_one _ _ (Ok a.0) b.1 in
    let Q : Found → Type 0 = λ y. Spells mode schema y.0 (at_type t) s y.1 y.2 × (took s y.2 ≡ true) in
    let v = subst Q same (sound h (at_type t) q s o.0 o.1, b.0) in
    let c = bind_ok (repeat R h k t (q + parts a.0.0) a.0.2) _ x a.2 in
    let P : Plains × Slice → Type 0 = λ y. Repeats (Each mode schema y.0) (suc k) t s y.1 in
    subst P (ok_one _ _ (Ok x) c.2)
    (k, a.0.1, a.0.2, omega arith, v.0, v.1, repeat_sound mode schema R sound h k t (q + parts a.0.0) a.0.2 c.0 c.1)

abbrev Takes : Mode → CoreSchema → Items → Item → Scope → Slice → Step → Type 0
Takes mode schema is i scope s x = (vs : Plains) (end : Scope) (after : Slice) → Fields is (Each mode schema vs) x.scope x.left end after → Fields (an_item i is) (Each mode schema (prepend x.gives vs)) scope s end after

step_sound : (mode : Mode) (schema : CoreSchema) (R : Reader) → IsSound mode schema R → (h : Spot) (i : Item)
    (is : Items) (scope : Scope) (q : ℕ) (s : Slice) (x : Step) → step R h i scope q s ≡ Ok x
    → Takes mode schema is i scope s x
step_sound mode schema R sound h (check a op b i) is scope q s x e =
    let m = bind_ok (known (item_of h i) (value_in a scope)) _ x e in
    let n = bind_ok (known (item_of h i) (value_in b scope)) _ x m.2 in
    let g = only_ok (comparison op m.0 n.0) _ _ x n.2 in
    let P : Step → Type 0 = Takes mode schema is (check a op b i) scope s in
    subst P (ok_one _ _ (Ok x) g.1) (λ vs end after more.
    (m.0, n.0, known_ok (item_of h i) (value_in a scope) m.0 m.1, known_ok (item_of h i) (value_in b scope) n.0 n.1, compares op m.0 n.0 g.0, more))
step_sound mode schema R sound h (solve v a b i) is scope q s x e =
    let y = bind_ok (reported (item_of h i) (sought_number a b scope.numbers)) _ x e in
    let P : Step → Type 0 = Takes mode schema is (solve v a b i) scope s in
    subst P (ok_one _ _ (Ok x) y.2) (λ vs end after more.
    (y.0, sought_sound a b scope.numbers y.0 (reported_ok (item_of h i) (sought_number a b scope.numbers) y.0 y.1), more))
step_sound mode schema R sound h (field y slot c t) is scope q s x e =
    let v = bind_ok (R (field_of h y) (at_field c t scope) q s) _ x e in
    let P : Step → Type 0 = Takes mode schema is (field y slot c t) scope s in
    subst P (ok_one _ _ (Ok x) v.2) (λ vs end after more. (v.0.1, v.0.2, sound (field_of h y) (at_field c t scope) q s v.0 v.1, more))

fields_sound : (mode : Mode) (schema : CoreSchema) (R : Reader) → IsSound mode schema R → (h : Spot) (is : Items)
    (scope : Scope) (q : ℕ) (s : Slice) (x : Got) → read_fields R h is scope q s ≡ Ok x
    → Fields is (Each mode schema x.0) scope s x.1 x.2
fields_sound mode schema R sound h no_items scope q s x e =
    let P : Got → Type 0 = λ y. Fields no_items (Each mode schema y.0) scope s y.1 y.2 in
    subst P (ok_one _ _ (Ok x) e) (refl, refl)
fields_sound mode schema R sound h (an_item i is) scope q s x e =
    let a = bind_ok (step R h i scope q s) _ x e in
    let r = bind_ok (read_fields R h is a.0.scope a.0.begun a.0.left) _ x a.2 in
    let P : Got → Type 0 = λ z. Fields (an_item i is) (Each mode schema z.0) scope s z.1 z.2 in
    subst P (ok_one _ _ (Ok x) r.2)
    (step_sound mode schema R sound h i is scope q s a.0 a.1 r.0.0 r.0.1 r.0.2 (fields_sound mode schema R sound h is a.0.scope a.0.begun a.0.left r.0 r.1))

-- ---- references

pub nothing_left : (s : Slice) → is_nothing s ≡ true → s ≡ nothing
nothing_left s e =
    let b = both (nat_eq (length s.bits) 0) (nat_eq (length s.refs) 0) e in
    let bits : s.bits ≡ [] = nil_from_length s.bits (eqb-true (length s.bits) 0 b.0) in
    let refs : s.refs ≡ [] = nil_from_length s.refs (eqb-true (length s.refs) 0 b.1) in
    λ i. record { bits = bits i; refs = refs i }

abbrev AllSpelled : Mode → CoreSchema → Goal → Slice → Plain → Type 0
AllSpelled mode schema g s v = (outs : List ℕ) × Spells mode schema v g s outs nothing

whole_sound : (mode : Mode) (schema : CoreSchema) (R : Reader) → IsSound mode schema R → (h : Spot) (g : Goal) (q : ℕ)
    (s : Slice) (v : Plain) → whole_of R h g q s ≡ Ok v → AllSpelled mode schema g s v
whole_sound mode schema R sound h g q s v e =
    let o = bind_ok (R h g q s) _ v e in
    let k = only_ok (is_nothing o.0.2) _ _ v o.2 in
    let Q : Slice → Type 0 = λ y. Spells mode schema o.0.0 g s o.0.1 y in
    let P : Plain → Type 0 = AllSpelled mode schema g s in
    subst P (ok_one _ _ (Ok v) k.1) (o.0.1, subst Q (nothing_left o.0.2 k.0) (sound h g q s o.0 o.1))

ordinary_sound : (mode : Mode) (schema : CoreSchema) (R : Reader) → IsSound mode schema R → (h : Spot) (g : Goal)
    (q : ℕ) (c : Tree) (k : Kind) → (out-Tree c).kind ≡ k → (v : Plain) → ordinary_of R h g q k (content c) ≡ Ok v
    → (s : Slice) × (outs : List ℕ) × (c ≡ cell_of s) × Spells mode schema v g s outs nothing
ordinary_sound mode schema R sound h g q c Ordinary kind v e = let w = whole_sound mode schema R sound h g q (content c) v e in (content c, w.0, ordinary_cell c kind, w.1)
ordinary_sound mode schema R sound h g q c Pruned kind v e = cc
ordinary_sound mode schema R sound h g q c Library kind v e = cc
ordinary_sound mode schema R sound h g q c Proof kind v e = cc
ordinary_sound mode schema R sound h g q c Update kind v e = cc

cell_value_sound : (mode : Mode) (schema : CoreSchema) (R : Reader) → IsSound mode schema R → (h : Spot) (g : Goal) (q : ℕ)
    (c : Tree) → unseen mode c ≡ None → (v : Plain) → cell_value R h g q c ≡ Ok v → Holds mode (Spells mode schema v) g c
cell_value_sound mode schema R sound h at_cell q c u v e = let w = whole_sound mode schema R sound h at_cell q (only_ref c) v e in (w.0, u, w.1)
cell_value_sound mode schema R sound h (at_type t) q c u v e = ordinary_sound mode schema R sound h (at_type t) q c (out-Tree c).kind refl v e
cell_value_sound mode schema R sound h (at_field x t scope) q c u v e = ordinary_sound mode schema R sound h (at_field x t scope) q c (out-Tree c).kind refl v e

-- how a shape is spelled by a reference
abbrev Wraps : Mode → CoreSchema → Goal → Shape → Type 0
Wraps mode schema g shape =
    ((v : Plain) (s : Slice) (outs : List ℕ) (after : Slice) → SpellsChild (free tt) mode (Spells mode schema v) g s outs after → SpellsShape mode schema (ref_to tt v) shape s outs after)
    × ((x : Hidden) (s : Slice) (outs : List ℕ) (after : Slice) → SpellsPruned mode x s outs after → SpellsShape mode schema (unknown x) shape s outs after)

child_sound : (mode : Mode) (schema : CoreSchema) (R : Reader) → IsSound mode schema R → (h : Spot) (g : Goal)
    (shape : Shape) → Wraps mode schema g shape → (q : ℕ) (bits : List ℕ) (c : Tree) (refs : List Tree)
    (o : Option Hidden) → unseen mode c ≡ o → (v : Plain)
    → child_of R h g q o c ≡ Ok v → SpellsShape mode schema v shape (record { bits = bits; refs = c ∷ refs }) [] (record { bits = bits; refs = refs })
child_sound mode schema R sound h g shape wrap q bits c refs (Some x) u v e =
    let s : Slice = record { bits = bits; refs = c ∷ refs } in
    let after : Slice = record { bits = bits; refs = refs } in
    let P : Plain → Type 0 = λ y. SpellsShape mode schema y shape s [] after in
    subst P (ok_one _ _ (Ok v) e) (wrap.1 x s [] after (c, refl, record { bits = refl; refs = refl }, u))
child_sound mode schema R sound h g shape wrap q bits c refs None u v e =
    let s : Slice = record { bits = bits; refs = c ∷ refs } in
    let after : Slice = record { bits = bits; refs = refs } in
    let w = bind_ok (cell_value R h g q c) _ v e in
    let P : Plain → Type 0 = λ y. SpellsShape mode schema y shape s [] after in
    subst P (ok_one _ _ (Ok v) w.2) (wrap.0 w.0 s [] after (c, refl, record { bits = refl; refs = refl }, cell_value_sound mode schema R sound h g q c u w.0 w.1, tt))

ref_sound : (mode : Mode) (schema : CoreSchema) (R : Reader) → IsSound mode schema R → (h : Spot) (g : Goal)
    (shape : Shape) → Wraps mode schema g shape → (q : ℕ) (bits : List ℕ) (refs : List Tree) (x : Found)
    → read_ref mode R h g q bits refs ≡ Ok x
    → SpellsShape mode schema x.0 shape (record { bits = bits; refs = refs }) x.1 x.2
ref_sound mode schema R sound h g shape wrap q bits [] x e = cc
ref_sound mode schema R sound h g shape wrap q bits (c ∷ refs) x e =
    let v = bind_ok (child_of R h g q (unseen mode c) c) _ x e in
    let P : Found → Type 0 = λ y. SpellsShape mode schema y.0 shape (record { bits = bits; refs = c ∷ refs }) y.1 y.2 in
    subst P (ok_one _ _ (Ok x) v.2) (child_sound mode schema R sound h g shape wrap q bits c refs (unseen mode c) refl v.0 v.1)

cell_sound : (mode : Mode) (schema : CoreSchema) (h : Spot) (bits : List ℕ) (refs : List Tree) (x : Found)
    → read_cell h bits refs ≡ Ok x → SpellsShape mode schema x.0 as_cell (record { bits = bits; refs = refs }) x.1 x.2
cell_sound mode schema h bits [] x e = cc
cell_sound mode schema h bits (c ∷ refs) x e =
    let P : Found → Type 0 = λ y. SpellsShape mode schema y.0 as_cell (record { bits = bits; refs = c ∷ refs }) y.1 y.2 in
    subst P (ok_one _ _ (Ok x) e) (refl, record { bits = refl; refs = refl })

-- ---- dictionaries

leaves_sound : (mode : Mode) (schema : CoreSchema) (R : Reader) → IsSound mode schema R
    → (h : Spot) (t : Closed) (q : ℕ) (ls : List (List ℕ × Slice)) (x : PlainPairs) → leaf_values R h t q ls ≡ Ok x
    → Contents (EachPair mode schema x) t ls
leaves_sound mode schema R sound h t q [] x e =
    let P : PlainPairs → Type 0 = λ y. Contents (EachPair mode schema y) t [] in
    let none : Contents (EachPair mode schema no_pairs) t [] = refl in
    subst P (ok_one _ _ (Ok x) e) none
leaves_sound mode schema R sound h t q (l ∷ ls) x e =
    let a = bind_ok (whole_of R h (at_type t) q l.1) _ x e in
    let r = bind_ok (leaf_values R h t (q + parts a.0) ls) _ x a.2 in
    let w = whole_sound mode schema R sound h (at_type t) q l.1 a.0 a.1 in
    let P : PlainPairs → Type 0 = λ y. Contents (EachPair mode schema y) t (l ∷ ls) in
    subst P (ok_one _ _ (Ok x) r.2) (w.0, refl, w.1, leaves_sound mode schema R sound h t (q + parts a.0) ls r.0 r.1)

edge_sound : (mode : Mode) (schema : CoreSchema) (R : Reader) → IsSound mode schema R → (h : Spot) (n : ℕ)
    (t : Closed) (q : ℕ) (s : Slice) (d : Edge) → IsEdge mode n s d → (x : Found) → at_edge R h t q d ≡ Ok x
    → SpellsShape mode schema x.0 (typed (closed.dict n t)) s x.1 x.2
edge_sound mode schema R sound h n t q s (at_leaf k middle) d x e =
    let v = bind_ok (R h (at_type t) q middle) _ x e in
    let P : Found → Type 0 = λ y. SpellsShape mode schema y.0 (typed (closed.dict n t)) s y.1 y.2 in
    subst P (ok_one _ _ (Ok x) v.2) (refl, inl (middle, v.0.1, d, sound h (at_type t) q middle v.0 v.1), tt)
edge_sound mode schema R sound h n t q s (at_fork es after) d x e =
    let v = bind_ok (leaf_values R h t q (pairs_in es)) _ x e in
    let P : Found → Type 0 = λ y. SpellsShape mode schema y.0 (typed (closed.dict n t)) s y.1 y.2 in
    subst P (ok_one _ _ (Ok x) v.2) (refl, inr (es, d, (leaves_sound mode schema R sound h t q (pairs_in es) v.0 v.1, refl)), tt)

dict_sound : (mode : Mode) (schema : CoreSchema) (R : Reader) → IsSound mode schema R → (h : Spot) (n : ℕ)
    (t : Closed) (q : ℕ) (s : Slice) (x : Found) → read_dict mode R h n t q s ≡ Ok x
    → SpellsShape mode schema x.0 (typed (closed.dict n t)) s x.1 x.2
dict_sound mode schema R sound h n t q s x e =
    let d = bind_ok (walked h (first_edge mode n s)) _ x e in
    edge_sound mode schema R sound h n t q s d.0 (first_sound mode n s d.0 (walked_ok h (first_edge mode n s) d.0 d.1)) x d.2

-- the entries of a cell
pub cell_sound_at : (mode : Mode) (n : ℕ) (c : Tree) (es : Entries) → walk_cell mode n c ≡ Ok es → Branch mode n es c
cell_sound_at mode n c es e = branch_sound mode (suc n) (walk (suc n) mode) (walk_sound (suc n) mode) n c es (omega arith) e

false_true : false ≡ true → ⊥
false_true e = cc

abbrev which : Option (Bool × List ℕ) → Bool
which (Some p) = p.0
which None = false

abbrev second : Option (Bool × List ℕ) → List ℕ → List ℕ
second (Some p) d = p.1
second None d = d

one_bit : (bits after : List ℕ) (b : Bool) → next_bit bits ≡ Some (b, after) → bits ≡ (cond {A = ℕ} b 1 0) ∷ after
one_bit [] after b e = cc
one_bit (zero ∷ bits) after true e = absurd (false_true (ap which e))
one_bit (zero ∷ bits) after false e = ap (λ o. 0 ∷ second o bits) e
one_bit (suc zero ∷ bits) after true e = ap (λ o. 1 ∷ second o bits) e
one_bit (suc zero ∷ bits) after false e = absurd (false_true (sym (ap which e)))
one_bit (suc (suc n) ∷ bits) after b e = cc

root_sound : (mode : Mode) (schema : CoreSchema) (R : Reader) → IsSound mode schema R → (h : Spot) (n : ℕ)
    (t : Closed) (q : ℕ) (s : Slice) (bits : List ℕ) → next_bit s.bits ≡ Some (true, bits) → (refs : List Tree)
    → s.refs ≡ refs → (x : Found) → read_root mode R h n t q bits refs ≡ Ok x
    → SpellsShape mode schema x.0 (typed (closed.dict_e n t)) s x.1 x.2
root_sound mode schema R sound h n t q s bits b [] r x e = cc
root_sound mode schema R sound h n t q s bits b (c ∷ refs) r x e =
    let d = bind_ok (walked h (walk_cell mode n c)) _ x e in
    let v = bind_ok (leaf_values R h t q (pairs_in d.0)) _ x d.2 in
    let P : Found → Type 0 = λ y. SpellsShape mode schema y.0 (typed (closed.dict_e n t)) s y.1 y.2 in
    let k = cell_sound_at mode n c d.0 (walked_ok h (walk_cell mode n c) d.0 d.1) in
    subst P (ok_one _ _ (Ok x) v.2) (refl, some_entries c d.0 (record { bits = one_bit s.bits bits true b; refs = r }) k (leaves_sound mode schema R sound h t q (pairs_in d.0) v.0 v.1, refl), tt)

bit_sound : (mode : Mode) (schema : CoreSchema) (R : Reader) → IsSound mode schema R
    → (h : Spot) (n : ℕ) (t : Closed) (q : ℕ) (s : Slice) (o : Option (Bool × List ℕ)) → next_bit s.bits ≡ o
    → (x : Found) → by_bit mode R h n t q o s.refs ≡ Ok x
    → SpellsShape mode schema x.0 (typed (closed.dict_e n t)) s x.1 x.2
bit_sound mode schema R sound h n t q s None b x e = cc
bit_sound mode schema R sound h n t q s (Some (false, bits)) b x e =
    let P : Found → Type 0 = λ y. SpellsShape mode schema y.0 (typed (closed.dict_e n t)) s y.1 y.2 in
    subst P (ok_one _ _ (Ok x) e) (refl, no_entries tt refl (record { bits = one_bit s.bits bits false b; refs = refl }), tt)
bit_sound mode schema R sound h n t q s (Some (true, bits)) b x e = root_sound mode schema R sound h n t q s bits b s.refs refl x e

-- ---- declared types

first_some : (c : Declaration) (o : Option Scope) (later : Option Choice) (x : Choice) → first c o later ≡ Some x
    → ((scope : Scope) × (o ≡ Some scope) × (◌≡◌ {A = Choice} (c, scope) x)) ⊎ ((o ≡ None) × (later ≡ Some x))
first_some c (Some scope) later x e = inl (scope, refl, some_one _ _ e)
  where
    some_one : (a b : Choice) → (◌≡◌ {A = Option Choice} (Some a) (Some b)) → a ≡ b
    some_one a b e = cc
first_some c None later x e = inr (refl, e)

pub choice_stands : (schema cs : CoreSchema) (type : Word) (args : ClosedArgs) (bits : List ℕ) (x : Choice)
    → choose schema cs type args bits ≡ Some x
    → (i : ℕ) × (slice_get cs i ≡ Some x.0) × (candidate schema type args bits x.0 ≡ Some x.1)
choice_stands schema [] type args bits x e = cc
choice_stands schema (c ∷ cs) type args bits x e = go (choice_stands schema cs type args bits x) (first_some c (candidate schema type args bits c) (choose schema cs type args bits) x e)
  where
    go :
        (choose schema cs type args bits ≡ Some x → (i : ℕ) × (slice_get cs i ≡ Some x.0) × (candidate schema type args bits x.0 ≡ Some x.1))
        → ((scope : Scope) × (candidate schema type args bits c ≡ Some scope) × (◌≡◌ {A = Choice} (c, scope) x)) ⊎ ((candidate schema type args bits c ≡ None) × (choose schema cs type args bits ≡ Some x))
        → (i : ℕ) × (slice_get (c ∷ cs) i ≡ Some x.0) × (candidate schema type args bits x.0 ≡ Some x.1)
    go ih (inl h) =
        let P : Choice → Type 0 = λ y. (i : ℕ) × (slice_get (c ∷ cs) i ≡ Some y.0) × (candidate schema type args bits y.0 ≡ Some y.1) in
        subst P h.2 (0, refl, h.1)
    go ih (inr h) = let r = ih h.1 in (suc r.0, r.1, r.2)

pub begun : (tag bits : List ℕ) → begins tag bits ≡ true → bits ≡ tag ++ drop (length tag) bits
begun [] bits e = refl
begun (b ∷ tag) [] e = cc
begun (b ∷ tag) (c ∷ bits) e =
    let h = both (nat_eq b c) (begins tag bits) e in
    let same : c ≡ b = sym (eqb-true b c h.0) in
    ap (λ z. z ∷ bits) same ∙ ap (λ z. b ∷ z) (begun tag bits h.1)

-- a lead that begins the bits begins with the tag
pub tag_begins : (schema : CoreSchema) (c : Declaration) (bits : List ℕ) → some_begins (leads schema c) bits ≡ true
    → begins c.core.tag bits ≡ true
unfolding leads
tag_begins schema c bits e = go c.core.tag e
  where
    go : (tag : List ℕ) → some_begins (by_tag tag (by_first (type_leads schema) (first_of c.core.items))) bits ≡ true
        → begins tag bits ≡ true
    go [] h = refl
    go (b ∷ tag) h = either_true (begins (b ∷ tag) bits) h
      where
        either_true : (b : Bool) → (b || false) ≡ true → b ≡ true
        either_true true e = refl
        either_true false e = cc

-- a candidate can be entered
pub candidate_enters : (schema : CoreSchema) (type : Word) (args : ClosedArgs) (bits : List ℕ) (at : ℕ) (c : Declaration)
    (scope : Scope) → slice_get schema at ≡ Some c → candidate schema type args bits c ≡ Some scope
    → Enters schema type args bits at c scope
candidate_enters schema type args bits at c scope there e =
    go (bytes_eq c.of_type type && some_begins (leads schema c) bits) refl e
  where
    go : (b : Bool) → (bytes_eq c.of_type type && some_begins (leads schema c) bits) ≡ b
        → cond b (fit c.core args) None ≡ Some scope → Enters schema type args bits at c scope
    go true h e =
        let b = both (bytes_eq c.of_type type) (some_begins (leads schema c) bits) h in
        record {
          meets = record {
            there = there;
            of_type = (bytes_eq-Decides c.of_type type).0 b.0;
            shown = refl;
            fitting = fit_sound c.core args scope e;
          };
          begins = b.1;
        }
    go false h e = cc

declared_sound : (mode : Mode) (schema : CoreSchema) (R : Reader) → IsSound mode schema R → (h : Spot) (type : Word)
    (args : ClosedArgs) (s : Slice) (o : Option Choice) → choose schema schema type args s.bits ≡ o → (q : ℕ)
    (x : Found) → read_declared R h o q s ≡ Ok x
    → SpellsShape mode schema x.0 (typed (closed.named type args)) s x.1 x.2
declared_sound mode schema R sound h type args s None found q x e = cc
declared_sound mode schema R sound h type args s (Some (c, scope)) found q x e =
    let i = choice_stands schema schema type args s.bits (c, scope) found in
    let k = candidate_enters schema type args s.bits i.0 c scope i.1 i.2 in
    let middle : Slice = after_tag c.core.tag s in
    let v = bind_ok (read_fields R (start c) c.core.items scope q middle) _ x e in
    let o = bind_ok (known (result_of (start c)) (values_in c.core.outputs v.0.1)) _ x v.2 in
    let P : Found → Type 0 = λ y. SpellsShape mode schema y.0 (typed (closed.named type args)) s y.1 y.2 in
    subst P (ok_one _ _ (Ok x) o.2) (
      i.0,
      c,
      scope,
      middle,
      v.0.1,
      k.meets,
      refl,
      record { bits = begun c.core.tag s.bits (tag_begins schema c s.bits k.begins); refs = refl },
      fields_sound mode schema R sound (start c) c.core.items scope q middle v.0 v.1,
      known_ok (result_of (start c)) (values_in c.core.outputs v.0.1) o.0 o.1,
    )

-- ---- goals

type_sound : (mode : Mode) (schema : CoreSchema) (R : Reader) → IsSound mode schema R → (h : Spot) (t : Closed)
    (q : ℕ) (s : Slice) (x : Found) → read_type mode schema R h t q s ≡ Ok x
    → SpellsShape mode schema x.0 (typed t) s x.1 x.2
type_sound mode schema R sound h closed.nat32 q s x e = basic_sound mode schema h closed.nat32 s x e
type_sound mode schema R sound h (closed.bits n) q s x e = basic_sound mode schema h (closed.bits n) s x e
type_sound mode schema R sound h (closed.below n) q s x e = basic_sound mode schema h (closed.below n) s x e
type_sound mode schema R sound h (closed.up_to n) q s x e = basic_sound mode schema h (closed.up_to n) s x e
type_sound mode schema R sound h (closed.uint n) q s x e = basic_sound mode schema h (closed.uint n) s x e
type_sound mode schema R sound h (closed.int n) q s x e = basic_sound mode schema h (closed.int n) s x e
type_sound mode schema R sound h (closed.bit_str n) q s x e = basic_sound mode schema h (closed.bit_str n) s x e
type_sound mode schema R sound h closed.whole q s x e =
    let P : Found → Type 0 = λ y. SpellsShape mode schema y.0 (typed closed.whole) s y.1 y.2 in
    subst P (ok_one _ _ (Ok x) e) (refl, refl, refl)
type_sound mode schema R sound h (closed.ref t) q s x e = ref_sound mode schema R sound h (under_ref t) (typed (closed.ref t)) (λ v s outs after k. k, λ b s outs after k. k) q s.bits s.refs x e
type_sound mode schema R sound h (closed.repeat n t) q s x e =
    let v = bind_ok (repeat R h n t q s) _ x e in
    let P : Found → Type 0 = λ y. SpellsShape mode schema y.0 (typed (closed.repeat n t)) s y.1 y.2 in
    subst P (ok_one _ _ (Ok x) v.2) (refl, repeat_sound mode schema R sound h n t q s v.0 v.1)
type_sound mode schema R sound h (closed.dict n t) q s x e = dict_sound mode schema R sound h n t q s x e
type_sound mode schema R sound h (closed.dict_e n t) q s x e = bit_sound mode schema R sound h n t q s (next_bit s.bits) refl x e
type_sound mode schema R sound h (closed.named type args) q s x e = declared_sound mode schema R sound h type args s (choose schema schema type args s.bits) refl q x e

shape_sound : (mode : Mode) (schema : CoreSchema) (R : Reader) → IsSound mode schema R → (h : Spot) (c : Shape)
    (q : ℕ) (s : Slice) (x : Found) → read_shape mode schema R h c q s ≡ Ok x
    → SpellsShape mode schema x.0 c s x.1 x.2
shape_sound mode schema R sound h (typed t) q s x e = type_sound mode schema R sound h t q s x e
shape_sound mode schema R sound h (fields_here is scope) q s x e =
    let v = bind_ok (read_fields R h is scope q s) _ x e in
    let P : Found → Type 0 = λ y. SpellsShape mode schema y.0 (fields_here is scope) s y.1 y.2 in
    subst P (ok_one _ _ (Ok x) v.2) (refl, refl, v.0.1, fields_sound mode schema R sound h is scope q s v.0 v.1)
shape_sound mode schema R sound h (fields_under is scope) q s x e = ref_sound mode schema R sound h (at_fields is scope) (fields_under is scope) (λ v s outs after k. k, λ b s outs after k. k) q s.bits s.refs x e
shape_sound mode schema R sound h left_out q s x e =
    let P : Found → Type 0 = λ y. SpellsShape mode schema y.0 left_out s y.1 y.2 in
    subst P (ok_one _ _ (Ok x) e) (refl, refl)
shape_sound mode schema R sound h as_cell q s x e = cell_sound mode schema h s.bits s.refs x e

goal_sound : (mode : Mode) (schema : CoreSchema) (R : Reader) → IsSound mode schema R
    → IsSound mode schema (read_goal mode schema R)
goal_sound mode schema R sound h g q s x e =
    let c = bind_ok (reported h (shape_of g)) _ x e in
    (c.0, reported_ok h (shape_of g) c.0 c.1, shape_sound mode schema R sound h c.0 q s x c.2)

pub reads_spelled : (n most : ℕ) (mode : Mode) (schema : CoreSchema) → IsSound mode schema (reading n most mode schema)
unfolding reading
reads_spelled zero most mode schema h g q s x e = cc
reads_spelled (suc n) most mode schema h g q s x e =
    let k = only_ok (nat_lt q most) _ _ x e in
    goal_sound mode schema (reading n most mode schema) (reads_spelled n most mode schema) h g (q + 1) s x k.1

-- ---- the root

root_of_sound : (mode : Mode) (schema : CoreSchema) (R : Reader) → IsSound mode schema R → (t : Closed) (c : Tree)
    (o : Option Hidden) → unseen mode c ≡ o → (v : Plain) → root_of R t o c ≡ Ok v → IsRootOf mode schema t c v
root_of_sound mode schema R sound t c (Some x) u v e =
    let g = guard_ok (is_ref t) _ _ v e in
    let P : Plain → Type 0 = λ y. IsRootOf mode schema t c y in
    subst P (ok_one _ _ (Ok v) g.1) (inr (u, g.0))
root_of_sound mode schema R sound t c None u v e = inl (cell_value_sound mode schema R sound at_root (under_ref t) 0 c u v e)

pub root_spelled : (n most : ℕ) (mode : Mode) (schema : CoreSchema) (t : Closed) (c : Tree) (v : Plain)
    → read_within n most mode schema t c ≡ Ok v → IsRootOf mode schema t c v
root_spelled n most mode schema t c v e = root_of_sound mode schema (reading n most mode schema) (reads_spelled n most mode schema) t c (unseen mode c) refl v e
