-- Where the plain reader stops a reading is stuck, at that very place.
use Rattle.std.proofs.Common.{◌≡◌, ◌≢◌, ℕ, zero, suc, ◌+◌, ◌^◌, Bool, true, false, cond, List, [], ◌∷◌, length, take, drop, Option, Some, None, Result, Ok, Err, slice_get, refl, sym, ap, ◌∙◌, subst, inl, inr, arith, nat_lt, nat_le}
use Rattle.std.proofs.lemmas.Bool.{ltb-true, ltb-false}
use Rattle.bit_slice.specs.Bits.{number_of, signed_number_of}
use Rattle.nat_solver.specs.Number.{Expr, comparison}
use Rattle.cell_nodes.specs.declared.tree.Tree.{Tree, out-Tree}
use Rattle.cell_nodes.specs.declared.tree.Kind.{Kind}
use Rattle.cell_nodes.specs.declared.tree.Kind.TheVariants.{Ordinary, Pruned, Library, Proof, Update}
use Rattle.cell_nodes.specs.declared.tree.Hidden.{Hidden}
use Rattle.cell_nodes.specs.declared.tree.Mode.{Mode}
use Rattle.hashmap_labels.specs.Reading.{are_bits}
use Rattle.hashmap_tree.specs.Entries.{Slice, content, pairs_in}
use Rattle.hashmap_tree.specs.Dict.{unseen}
use Rattle.hashmap_tree.specs.First.{Edge, at_leaf, at_fork, IsEdge, first_edge}
use Rattle.hashmap_tree.specs.Halts.{HaltsBranch}
use Rattle.hashmap_tree.specs.Walk.{Fault, walk}
use Rattle.hashmap_tree.specs.CellLaws.{ordinary_cell}
use Rattle.hashmap_tree.specs.FirstLaws.{first_sound, first_refused}
use Rattle.hashmap_tree.specs.RefusedLaws.{branch_refused, walk_refused}
use Rattle.typed_value.specs.Values.{Plain, number, bit_string, no_vals, record_of, unknown, parts}
use Rattle.core_form.specs.Core.{Word, Items, no_items, an_item, check, solve, field, sets, field_names, Declaration, CoreSchema}
use Rattle.core_form.specs.Closed.{Closed, ClosedArgs}
use Rattle.core_form.specs.Closed as closed
use Rattle.core_form.specs.Scope.{Scope, value_in, values_in, with_number, bind}
use Rattle.spelling.specs.Slices.{nothing, only_ref, is_nothing, took}
use Rattle.spelling.specs.Goals.{Row, natural, integer, string, no_row, row, Goal, at_type, at_field, at_cell, Shape, typed, fields_here, fields_under, left_out, as_cell, at_fields, under_ref, is_ref, shape_of}
use Rattle.spelling.specs.Spells.{own, next_bit}
use Rattle.spelling.specs.Places.{Spot, Place, stuck, start, item_of, field_of, result_of, at_root}
use Rattle.spelling.specs.PlainReader.{◌>>=◌, prepend, Found, Reader, known, reported, number_value, natural_of, integer_of, read_row, whole_of, ordinary_of, cell_value, child_of, read_ref, read_cell, walked, leaf_values, at_edge, read_dict, walk_cell, read_root, by_bit, turn, repeat, sought_number, Step, step, Got, read_fields, candidate, Choice, first, choose, after_tag, read_declared, read_type, read_shape, reading, root_of, read_within}
use Rattle.spelling.specs.Acceptable.{IsAcceptable, Seeks}
use Rattle.spelling.specs.Stuck.{Stops, Parts, StopsRow, StopsWhole, within, over, StopsOrdinary, exotic, inside, StopsCell, StopsRef, no_ref, child, StopsLeaves, StopsDict, in_edges, in_leaf, in_values, StopsDictE, no_bit, no_root, root_edges, root_values, StopsTurn, this, idle, later, StopsRepeat, StopsPair, StopsSolve, too_great, unsolved, onward, StopsFields, NoEnd, StopsResult, StopsDeclared, none_fits, entered, StopsType, StopsShape, Within, StuckWithin, StuckRoot, hidden_root, open_root}
use Rattle.spelling.specs.declared.Cause.{Cause}
use Rattle.spelling.specs.declared.Cause.TheVariants.{ShortBits, ShortRefs, OutOfRange, Idle, Exotic, Leftover}
use Rattle.spelling_laws.specs.StepLaws.{bind_ok, bind_err, only_ok, only_err, test_err, ok_one, err_one, ok_err, known_ok, known_err, reported_ok, reported_err, walked_ok, walked_err, step_then}
use Rattle.spelling_laws.specs.ProperLaws.{Proper, ProperShape, proper_under, proper_shape}
use Rattle.spelling_laws.specs.SolvingLaws.{Unsolved, sought_sound, sought_refused}
use Rattle.spelling_laws.specs.SolvingLaws as solving
use Rattle.spelling_laws.specs.SoundLaws.{choice_stands, candidate_enters, begun, tag_begins, nothing_left, cell_sound_at, reads_spelled, compares}
use Rattle.spelling_laws.specs.CompleteLaws.{compares_on, enters_candidate}
use Rattle.spelling_laws.specs.CountLaws.{reading_counted}

-- what is read is a part as P says
abbrev pub Reads : Parts → Reader → Type 0
Reads P R = (h : Spot) (g : Goal) (q : ℕ) (s : Slice) (x : Found) → R h g q s ≡ Ok x → P g q x.0 s x.1 x.2

abbrev pub Refuses : Stops → Reader → Type 0
Refuses S R = (h : Spot) (g : Goal) (q : ℕ) (s : Slice) (p : Place) → Proper g → R h g q s ≡ Err p → S h g q s p

-- ---- lists

turn_refused : (S : Stops) (P : Parts) (R : Reader) → Reads P R → Refuses S R → (Later : ℕ → Slice → Type 0) (h : Spot)
    (t : Closed) (q : ℕ) (s : Slice) (p : Place) → turn R h t q s ≡ Err p → StopsTurn S P Later h t q s p
turn_refused S P R reads refuses Later h t q s p e = elim (bind_err (R h (at_type t) q s) _ p e) [
  | inl e ↦ this (refuses h (at_type t) q s p tt e)
  | inr e ↦
      let g = only_err (took s e.0.2) e.0 (stuck h Idle) p e.2 in
      idle e.0.0 e.0.1 e.0.2 (reads h (at_type t) q s e.0 e.1) g.0 g.1
]

turn_read : (P : Parts) (R : Reader) → Reads P R → (h : Spot) (t : Closed) (q : ℕ) (s : Slice) (x : Found)
    → turn R h t q s ≡ Ok x → P (at_type t) q x.0 s x.1 x.2 × (took s x.2 ≡ true)
turn_read P R reads h t q s x e =
    let o = bind_ok (R h (at_type t) q s) _ x e in
    let b = only_ok (took s o.0.2) _ _ x o.2 in
    let Q : Found → Type 0 = λ y. P (at_type t) q y.0 s y.1 y.2 × (took s y.2 ≡ true) in
    subst Q (ok_one _ _ (Ok x) b.1) (reads h (at_type t) q s o.0 o.1, b.0)

repeat_refused : (S : Stops) (P : Parts) (R : Reader) → Reads P R → Refuses S R → (h : Spot) (k : ℕ) (t : Closed)
    (q : ℕ) (s : Slice) (p : Place) → repeat R h k t q s ≡ Err p → StopsRepeat S P h k t q s p
repeat_refused S P R reads refuses h zero t q s p e = cc
repeat_refused S P R reads refuses h (suc k) t q s p e = elim (bind_err (turn R h t q s) _ p e) [
  | inl e ↦ turn_refused S P R reads refuses _ h t q s p e
  | inr e ↦
      let r = turn_read P R reads h t q s e.0 e.1 in
      later e.0.0 e.0.1 e.0.2 r.0 r.1 (repeat_refused S P R reads refuses h k t (q + parts e.0.0) e.0.2 p (ok_err (repeat R h k t (q + parts e.0.0) e.0.2) _ p e.2))
]

-- ---- references

whole_refused : (S : Stops) (P : Parts) (R : Reader) → Reads P R → Refuses S R → (h : Spot) (g : Goal) (q : ℕ)
    (s : Slice) (p : Place) → Proper g → whole_of R h g q s ≡ Err p → StopsWhole S P h g q s p
whole_refused S P R reads refuses h g q s p proper e = elim (bind_err (R h g q s) _ p e) [
  | inl e ↦ within (refuses h g q s p proper e)
  | inr e ↦
      let k = only_err (is_nothing e.0.2) e.0.0 (stuck h Leftover) p e.2 in
      over e.0.0 e.0.1 e.0.2 (reads h g q s e.0 e.1) (something e.0.2 k.0) k.1
]
  where
    something : (s : Slice) → is_nothing s ≡ false → s ≢ nothing
    something s e same = let b : true ≡ false = sym (ap is_nothing same) ∙ e in cc

whole_read : (P : Parts) (R : Reader) → Reads P R → (h : Spot) (g : Goal) (q : ℕ) (s : Slice) (v : Plain)
    → whole_of R h g q s ≡ Ok v → (outs : List ℕ) × P g q v s outs nothing
whole_read P R reads h g q s v e =
    let o = bind_ok (R h g q s) _ v e in
    let k = only_ok (is_nothing o.0.2) _ _ v o.2 in
    let T : Plain → Type 0 = λ y. (outs : List ℕ) × P g q y s outs nothing in
    let Q : Slice → Type 0 = λ y. P g q o.0.0 s o.0.1 y in
    subst T (ok_one _ _ (Ok v) k.1) (o.0.1, subst Q (nothing_left o.0.2 k.0) (reads h g q s o.0 o.1))

ordinary_refused : (S : Stops) (P : Parts) (R : Reader) → Reads P R → Refuses S R → (h : Spot) (g : Goal) (q : ℕ)
    (c : Tree) (k : Kind) → (out-Tree c).kind ≡ k → (p : Place) → Proper g → ordinary_of R h g q k (content c) ≡ Err p
    → StopsOrdinary S P h g q c p
ordinary_refused S P R reads refuses h g q c Ordinary kind p proper e =
    inside (content c) (ordinary_cell c kind) (whole_refused S P R reads refuses h g q (content c) p proper e)
ordinary_refused S P R reads refuses h g q c Pruned kind p proper e =
    exotic (λ f. let k : Pruned ≡ Ordinary = sym kind ∙ f in cc) (err_one _ _ e)
ordinary_refused S P R reads refuses h g q c Library kind p proper e =
    exotic (λ f. let k : Library ≡ Ordinary = sym kind ∙ f in cc) (err_one _ _ e)
ordinary_refused S P R reads refuses h g q c Proof kind p proper e =
    exotic (λ f. let k : Proof ≡ Ordinary = sym kind ∙ f in cc) (err_one _ _ e)
ordinary_refused S P R reads refuses h g q c Update kind p proper e =
    exotic (λ f. let k : Update ≡ Ordinary = sym kind ∙ f in cc) (err_one _ _ e)

pub cell_value_refused : (S : Stops) (P : Parts) (R : Reader) → Reads P R → Refuses S R → (h : Spot) (g : Goal) (q : ℕ)
    (c : Tree)
    (p : Place) → Proper g → cell_value R h g q c ≡ Err p → StopsCell S P h g q c p
cell_value_refused S P R reads refuses h at_cell q c p proper e =
    whole_refused S P R reads refuses h at_cell q (only_ref c) p tt e
cell_value_refused S P R reads refuses h (at_type t) q c p proper e =
    ordinary_refused S P R reads refuses h (at_type t) q c (out-Tree c).kind refl p tt e
cell_value_refused S P R reads refuses h (at_field x t scope) q c p proper e =
    ordinary_refused S P R reads refuses h (at_field x t scope) q c (out-Tree c).kind refl p proper e

ref_refused : (mode : Mode) (S : Stops) (P : Parts) (R : Reader) → Reads P R → Refuses S R → (h : Spot) (g : Goal)
    (q : ℕ) (bits : List ℕ) (refs : List Tree) (p : Place) → Proper g → read_ref mode R h g q bits refs ≡ Err p
    → StopsRef mode S P h g q (record { bits = bits; refs = refs }) p
ref_refused mode S P R reads refuses h g q bits [] p proper e = no_ref refl (err_one _ _ e)
ref_refused mode S P R reads refuses h g q bits (c ∷ refs) p proper e =
    go (unseen mode c) refl (ok_err (child_of R h g q (unseen mode c) c) _ p e)
  where
    go : (o : Option Hidden) → unseen mode c ≡ o → child_of R h g q o c ≡ Err p
        → StopsRef mode S P h g q (record { bits = bits; refs = c ∷ refs }) p
    go (Some x) u e = cc
    go None u e =
        child c (record { bits = bits; refs = refs }) (record { bits = refl; refs = refl }) u
        (cell_value_refused S P R reads refuses h g q c p proper (ok_err (cell_value R h g q c) _ p e))

-- ---- dictionaries

leaves_refused : (S : Stops) (P : Parts) (R : Reader) → Reads P R → Refuses S R → (h : Spot) (t : Closed) (q : ℕ)
    (ls : List (List ℕ × Slice)) (p : Place) → leaf_values R h t q ls ≡ Err p → StopsLeaves S P h t q ls p
leaves_refused S P R reads refuses h t q [] p e = cc
leaves_refused S P R reads refuses h t q (l ∷ ls) p e = elim (bind_err (whole_of R h (at_type t) q l.1) _ p e) [
  | inl e ↦ inl (whole_refused S P R reads refuses h (at_type t) q l.1 p tt e)
  | inr e ↦
      let w = whole_read P R reads h (at_type t) q l.1 e.0 e.1 in
      inr (
        e.0,
        w.0,
        w.1,
        leaves_refused S P R reads refuses h t (q + parts e.0) ls p (ok_err (leaf_values R h t (q + parts e.0) ls) _ p e.2),
      )
]

edge_refused : (mode : Mode) (S : Stops) (P : Parts) (R : Reader) → Reads P R → Refuses S R → (h : Spot) (n : ℕ)
    (t : Closed) (q : ℕ) (s : Slice) (d : Edge) → IsEdge mode n s d → (p : Place) → at_edge R h t q d ≡ Err p
    → StopsDict mode S P h n t q s p
edge_refused mode S P R reads refuses h n t q s (at_leaf k middle) d p e =
    in_leaf k middle d (refuses h (at_type t) q middle p tt (ok_err (R h (at_type t) q middle) _ p e))
edge_refused mode S P R reads refuses h n t q s (at_fork es after) d p e =
    in_values es after d (leaves_refused S P R reads refuses h t q (pairs_in es) p (ok_err (leaf_values R h t q (pairs_in es)) _ p e))

dict_refused : (mode : Mode) (S : Stops) (P : Parts) (R : Reader) → Reads P R → Refuses S R → (h : Spot) (n : ℕ)
    (t : Closed) (q : ℕ) (s : Slice) (p : Place) → read_dict mode R h n t q s ≡ Err p → StopsDict mode S P h n t q s p
dict_refused mode S P R reads refuses h n t q s p e = elim (bind_err (walked h (first_edge mode n s)) _ p e) [
  | inl e ↦ let k = walked_err h (first_edge mode n s) p e in in_edges k.0 (first_refused mode n s k.0 k.1) k.2
  | inr e ↦
      edge_refused mode S P R reads refuses h n t q s e.0 (first_sound mode n s e.0 (walked_ok h (first_edge mode n s) e.0 e.1)) p e.2
]

pub cell_refused_at : (mode : Mode) (n : ℕ) (c : Tree) (f : Fault) → walk_cell mode n c ≡ Err f → HaltsBranch mode n c f
cell_refused_at mode n c f e =
    branch_refused mode (suc n) (walk (suc n) mode) (walk_refused (suc n) mode) n c f (omega arith) e

root_refused : (mode : Mode) (S : Stops) (P : Parts) (R : Reader) → Reads P R → Refuses S R → (h : Spot) (n : ℕ)
    (t : Closed) (q : ℕ) (s : Slice) (bits : List ℕ) → next_bit s.bits ≡ Some (true, bits) → (refs : List Tree)
    → s.refs ≡ refs → (p : Place) → read_root mode R h n t q bits refs ≡ Err p → StopsDictE mode S P h n t q s p
root_refused mode S P R reads refuses h n t q s bits b [] r p e = no_root bits b r (err_one _ _ e)
root_refused mode S P R reads refuses h n t q s bits b (c ∷ refs) r p e =
    let first = one_bit s.bits bits b in
    elim (bind_err (walked h (walk_cell mode n c)) _ p e) [
      | inl e ↦
          let k = walked_err h (walk_cell mode n c) p e in
          root_edges c (record { bits = bits; refs = refs }) k.0 (record { bits = first; refs = r }) (cell_refused_at mode n c k.0 k.1) k.2
      | inr e ↦
          root_values c (record { bits = bits; refs = refs }) e.0 (record { bits = first; refs = r }) (cell_sound_at mode n c e.0 (walked_ok h (walk_cell mode n c) e.0 e.1))
          (leaves_refused S P R reads refuses h t q (pairs_in e.0) p (ok_err (leaf_values R h t q (pairs_in e.0)) _ p e.2))
    ]
  where
    one_bit : (bits after : List ℕ) → next_bit bits ≡ Some (true, after) → bits ≡ 1 ∷ after
    one_bit [] after e = cc
    one_bit (zero ∷ bits) after e = absurd (let b : false ≡ true = ap which e in cc)
      where
        which : Option (Bool × List ℕ) → Bool
        which (Some p) = p.0
        which None = true
    one_bit (suc zero ∷ bits) after e = ap (λ o. 1 ∷ second o) e
      where
        second : Option (Bool × List ℕ) → List ℕ
        second (Some p) = p.1
        second None = []
    one_bit (suc (suc n) ∷ bits) after e = cc

bit_refused : (mode : Mode) (S : Stops) (P : Parts) (R : Reader) → Reads P R → Refuses S R → (h : Spot) (n : ℕ)
    (t : Closed) (q : ℕ) (s : Slice) (o : Option (Bool × List ℕ)) → next_bit s.bits ≡ o → (p : Place)
    → by_bit mode R h n t q o s.refs ≡ Err p → StopsDictE mode S P h n t q s p
bit_refused mode S P R reads refuses h n t q s None b p e = no_bit b (err_one _ _ e)
bit_refused mode S P R reads refuses h n t q s (Some (false, bits)) b p e = cc
bit_refused mode S P R reads refuses h n t q s (Some (true, bits)) b p e =
    root_refused mode S P R reads refuses h n t q s bits b s.refs refl p e

-- ---- items

pair_stops : (h : Spot) (Here Later : ℕ → ℕ → Type 0) (o q : Option ℕ) (test : ℕ → ℕ → Bool) (done : ℕ → ℕ → Step)
    (why : Place) (p : Place) → ((m n : ℕ) → test m n ≡ false → p ≡ why → Here m n)
    → (known h o >>= λ m. known h q >>= λ n. cond (test m n) (Ok (done m n)) (Err why)) ≡ Err p
    → StopsPair h Here Later o q p
pair_stops h Here Later None q test done why p here e = err_one _ _ e
pair_stops h Here Later (Some m) None test done why p here e = err_one _ _ e
pair_stops h Here Later (Some m) (Some n) test done why p here e =
    let g = only_err (test m n) (done m n) why p e in inl (here m n g.0 g.1)

pair_goes : (h : Spot) (Here Later : ℕ → ℕ → Type 0) (o q : Option ℕ) (m n : ℕ) (p : Place) → o ≡ Some m → q ≡ Some n
    → Later m n → StopsPair h Here Later o q p
pair_goes h Here Later None q m n p e f r = cc
pair_goes h Here Later (Some k) None m n p e f r = cc
pair_goes h Here Later (Some k) (Some l) m n p e f r =
    let em : m ≡ k = cc in
    let en : n ≡ l = cc in
    inr (subst (Later k) en (let Q : ℕ → Type 0 = λ z. Later z n in subst Q em r))

does_not_hold : (b : Bool) → b ≡ false → b ≡ true → ⊥
does_not_hold b e f = let k : true ≡ false = sym f ∙ e in cc

solve_stops : (h : Spot) (a b : Expr) (scope : Scope) (v : ℕ) (Later : ℕ → Type 0) (p : Place) (w : Cause)
    → Unsolved a b scope.numbers w → p ≡ stuck h w → StopsSolve h a b scope Later p
solve_stops h a b scope v Later p w (solving.lacking e is same) k =
    too_great (λ none. some_none e (sym is ∙ none)) (k ∙ ap (stuck h) same)
  where
    some_none : (e : Expr) → (◌≡◌ {A = Option Expr} (Some e) None) → ⊥
    some_none e k = cc
solve_stops h a b scope v Later p w (solving.unsolved is not same) k = unsolved is not (k ∙ ap (stuck h) same)

-- k: what follows the items
fields_refused : {C : Type 0} (S : Stops) (P : Parts) (R : Reader) → Reads P R → Refuses S R → (End : Scope → Type 0)
    (k : Got → Result C Place) (h : Spot) (is : Items) → Seeks is → (scope : Scope) (q : ℕ) (s : Slice) (p : Place)
    → ((x : Got) → k x ≡ Err p → End x.1) → (read_fields R h is scope q s >>= k) ≡ Err p
    → StopsFields S P End h is scope q s p
fields_refused S P R reads refuses End k h no_items seeks scope q s p ends e = ends (no_vals, scope, s) e
fields_refused S P R reads refuses End k h (an_item (check a op b i) is) seeks scope q s p ends e =
    elim (bind_err (step R h (check a op b i) scope q s) _ p (sym (step_then (step R h (check a op b i) scope q s) (λ x. read_fields R h is x.scope x.begun x.left) (λ x y. (let z : Got = (prepend x.gives y.0, y.1, y.2) in z)) k) ∙ e)) [
      | inl e ↦
          pair_stops (item_of h i) _ _ (value_in a scope) (value_in b scope) (comparison op) _ _ p
          (λ m n t same. (λ c. does_not_hold (comparison op m n) t (compares_on op m n c), same)) e
      | inr e ↦
          let m = bind_ok (known (item_of h i) (value_in a scope)) _ e.0 e.1 in
          let n = bind_ok (known (item_of h i) (value_in b scope)) _ e.0 m.2 in
          let g = only_ok (comparison op m.0 n.0) _ _ e.0 n.2 in
          let T : Step → Type 0 = λ x. (read_fields R h is x.scope x.begun x.left >>= λ y. k (prepend x.gives y.0, y.1, y.2)) ≡ Err p in
          let more = subst T (sym (ok_one _ _ (Ok e.0) g.1)) e.2 in
          pair_goes (item_of h i) _ _ (value_in a scope) (value_in b scope) m.0 n.0 p (known_ok (item_of h i) (value_in a scope) m.0 m.1) (known_ok (item_of h i) (value_in b scope) n.0 n.1)
          (compares op m.0 n.0 g.0, fields_refused S P R reads refuses End k h is seeks scope q s p ends more)
    ]
fields_refused S P R reads refuses End k h (an_item (solve v a b i) is) seeks scope q s p ends e =
    elim (bind_err (step R h (solve v a b i) scope q s) _ p (sym (step_then (step R h (solve v a b i) scope q s) (λ x. read_fields R h is x.scope x.begun x.left) (λ x y. (let z : Got = (prepend x.gives y.0, y.1, y.2) in z)) k) ∙ e)) [
      | inl e ↦
          let t = reported_err (item_of h i) (sought_number a b scope.numbers) p (ok_err (reported (item_of h i) (sought_number a b scope.numbers)) _ p e) in
          solve_stops (item_of h i) a b scope v _ p t.0 (sought_refused a b scope.numbers v t.0 seeks.0 t.1) t.2
      | inr e ↦
          let x = bind_ok (reported (item_of h i) (sought_number a b scope.numbers)) _ e.0 e.1 in
          let T : Step → Type 0 = λ x. (read_fields R h is x.scope x.begun x.left >>= λ y. k (prepend x.gives y.0, y.1, y.2)) ≡ Err p in
          let more = subst T (sym (ok_one _ _ (Ok e.0) x.2)) e.2 in
          onward x.0 (sought_sound a b scope.numbers x.0 (reported_ok (item_of h i) (sought_number a b scope.numbers) x.0 x.1))
          (fields_refused S P R reads refuses End k h is seeks.1 (with_number v x.0 scope) q s p ends more)
    ]
fields_refused S P R reads refuses End k h (an_item (field y slot c t) is) seeks scope q s p ends e =
    elim (bind_err (step R h (field y slot c t) scope q s) _ p (sym (step_then (step R h (field y slot c t) scope q s) (λ x. read_fields R h is x.scope x.begun x.left) (λ x y. (let z : Got = (prepend x.gives y.0, y.1, y.2) in z)) k) ∙ e)) [
      | inl e ↦ inl (refuses (field_of h y) (at_field c t scope) q s p seeks.0 (ok_err (R (field_of h y) (at_field c t scope) q s) _ p e))
      | inr e ↦
          let v = bind_ok (R (field_of h y) (at_field c t scope) q s) _ e.0 e.1 in
          let T : Step → Type 0 = λ x. (read_fields R h is x.scope x.begun x.left >>= λ y. k (prepend x.gives y.0, y.1, y.2)) ≡ Err p in
          let more = subst T (sym (ok_one _ _ (Ok e.0) v.2)) e.2 in
          inr (
            v.0.0,
            v.0.1,
            v.0.2,
            reads (field_of h y) (at_field c t scope) q s v.0 v.1,
            fields_refused S P R reads refuses End (λ y. k (prepend (v.0.0 ∷ []) y.0, y.1, y.2)) h is seeks.1 (bind (sets slot t) v.0.1 scope) (q + parts v.0.0) v.0.2 p (λ x. ends (prepend (v.0.0 ∷ []) x.0, x.1, x.2)) more,
          )
    ]

-- ---- declared types

none_before : (c : Declaration) (o : Option Scope) (more : Option Choice) → first c o more ≡ None
    → (o ≡ None) × (more ≡ None)
none_before c (Some x) more e = cc
none_before c None more e = (refl, e)

none_chosen : (schema cs : CoreSchema) (x : Word) (args : ClosedArgs) (bits : List ℕ)
    → choose schema cs x args bits ≡ None → (at : ℕ) (c : Declaration) (scope : Scope) → slice_get cs at ≡ Some c
    → candidate schema x args bits c ≡ Some scope → ⊥
none_chosen schema [] x args bits e at c scope there ok = cc
none_chosen schema (b ∷ cs) x args bits e zero c scope there ok =
    let n = none_before b (candidate schema x args bits b) (choose schema cs x args bits) e in
    let same : b ≡ c = some_same b c there in
    clash (candidate schema x args bits b) scope n.0 (ap (λ z. candidate schema x args bits z) same ∙ ok)
  where
    some_same : (x y : Declaration) → (◌≡◌ {A = Option Declaration} (Some x) (Some y)) → x ≡ y
    some_same x y e = cc

    clash : (o : Option Scope) (x : Scope) → o ≡ None → o ≡ Some x → ⊥
    clash o x e f = cc
none_chosen schema (b ∷ cs) x args bits e (suc at) c scope there ok =
    none_chosen schema cs x args bits (none_before b (candidate schema x args bits b) (choose schema cs x args bits) e).1 at c scope there ok

declared_refused : (schema : CoreSchema) → IsAcceptable schema → (S : Stops) (P : Parts) (R : Reader) → Reads P R
    → Refuses S R → (h : Spot) (x : Word) (args : ClosedArgs) (s : Slice) (o : Option Choice)
    → choose schema schema x args s.bits ≡ o → (q : ℕ) (p : Place) → read_declared R h o q s ≡ Err p
    → StopsDeclared schema S P h x args q s p
declared_refused schema accepted S P R reads refuses h x args s None found q p e =
    none_fits (λ at c scope k. none_chosen schema schema x args s.bits found at c scope k.meets.there (enters_candidate schema x args s.bits at c scope k)) (err_one _ _ e)
declared_refused schema accepted S P R reads refuses h x args s (Some (c, scope)) found q p e =
    let i = choice_stands schema schema x args s.bits (c, scope) found in
    let k = candidate_enters schema x args s.bits i.0 c scope i.1 i.2 in
    let middle : Slice = after_tag c.core.tag s in
    entered i.0 c scope middle k (record { bits = begun c.core.tag s.bits (tag_begins schema c s.bits k.begins); refs = refl })
    (fields_refused S P R reads refuses (StopsResult (start c) c.core.outputs p) _ (start c) c.core.items (accepted.seeks i.0 c i.1) scope q middle p
    (λ x e. known_err (result_of (start c)) (values_in c.core.outputs x.1) p (ok_err (known (result_of (start c)) (values_in c.core.outputs x.1)) _ p e)) e)

-- ---- basic types

abbrev HasRow : Row → Type 0
HasRow (natural width bound named) = Unit {0}
HasRow (integer width) = Unit {0}
HasRow (string width) = Unit {0}
HasRow no_row = ⊥

has_uint : (n : ℕ) → HasRow (row (closed.uint n))
has_uint n = go (nat_le n 128)
  where
    go : (b : Bool) → HasRow (cond b (natural n (2 ^ n) false) (string n))
    go true = tt
    go false = tt

has_int : (n : ℕ) → HasRow (row (closed.int n))
has_int n = go (nat_le n 128)
  where
    go : (b : Bool) → HasRow (cond b (integer n) (string n))
    go true = tt
    go false = tt

natural_refused : (h : Spot) (width bound : ℕ) (named : Bool) (s : Slice) (p : Place)
    → nat_lt (length s.bits) width ≡ false
    → natural_of h bound named (take width s.bits) (record { bits = drop width s.bits; refs = s.refs }) ≡ Err p
    → StopsRow h (natural width bound named) s p
natural_refused h width bound named s p l e =
    go (are_bits (take width s.bits)) (nat_lt (number_of (take width s.bits)) bound) refl refl e
  where
    go : (b c : Bool) → are_bits (take width s.bits) ≡ b → nat_lt (number_of (take width s.bits)) bound ≡ c
        → cond b (cond c (Ok (let x : Found = (number false (number_of (take width s.bits)), own named (number_of (take width s.bits)), record { bits = drop width s.bits; refs = s.refs }) in x)) (Err (stuck h OutOfRange))) (Err (stuck h ShortBits)) ≡ Err p
        → StopsRow h (natural width bound named) s p
    go false c k m e = inl (inr (ltb-false (length s.bits) width l, k), err_one _ _ e)
    go true true k m e = cc
    go true false k m e =
        inr ((ltb-false (length s.bits) width l, k, ltb-false (number_of (take width s.bits)) bound m), err_one _ _ e)

integer_refused : (h : Spot) (width : ℕ) (s : Slice) (p : Place) → nat_lt (length s.bits) width ≡ false
    → integer_of h (take width s.bits) (record { bits = drop width s.bits; refs = s.refs }) ≡ Err p
    → StopsRow h (integer width) s p
integer_refused h width s p l e = go (are_bits (take width s.bits)) refl e
  where
    go : (b : Bool) → are_bits (take width s.bits) ≡ b
        → cond b (Ok (let x : Found = (number_value (signed_number_of (take width s.bits)), [], record { bits = drop width s.bits; refs = s.refs }) in x)) (Err (stuck h ShortBits)) ≡ Err p
        → StopsRow h (integer width) s p
    go true k e = cc
    go false k e = (inr (ltb-false (length s.bits) width l, k), err_one _ _ e)

abbrev Taken : Type 0
Taken = List ℕ × Slice

row_refused : (h : Spot) (r : Row) → HasRow r → (s : Slice) (p : Place) → read_row h r s ≡ Err p → StopsRow h r s p
row_refused h (natural width bound named) has s p e = go (nat_lt (length s.bits) width) refl e
  where
    go : (a : Bool) → nat_lt (length s.bits) width ≡ a
        → (cond a (Err (stuck h ShortBits)) (Ok (let t : Taken = (take width s.bits, record { bits = drop width s.bits; refs = s.refs }) in t)) >>= λ x. natural_of h bound named x.0 x.1) ≡ Err p
        → StopsRow h (natural width bound named) s p
    go true l e = inl (inl (ltb-true (length s.bits) width l), err_one _ _ e)
    go false l e = natural_refused h width bound named s p l e
row_refused h (integer width) has s p e = go (nat_lt (length s.bits) width) refl e
  where
    go : (a : Bool) → nat_lt (length s.bits) width ≡ a
        → (cond a (Err (stuck h ShortBits)) (Ok (let t : Taken = (take width s.bits, record { bits = drop width s.bits; refs = s.refs }) in t)) >>= λ x. integer_of h x.0 x.1) ≡ Err p
        → StopsRow h (integer width) s p
    go true l e = (inl (ltb-true (length s.bits) width l), err_one _ _ e)
    go false l e = integer_refused h width s p l e
row_refused h (string width) has s p e = go (nat_lt (length s.bits) width) refl e
  where
    go : (a : Bool) → nat_lt (length s.bits) width ≡ a
        → (cond a (Err (stuck h ShortBits)) (Ok (let t : Taken = (take width s.bits, record { bits = drop width s.bits; refs = s.refs }) in t)) >>= λ x. Ok (let y : Found = (bit_string x.0, [], x.1) in y)) ≡ Err p
        → StopsRow h (string width) s p
    go true l e = (ltb-true (length s.bits) width l, err_one _ _ e)
    go false l e = cc
row_refused h no_row has s p e = absurd has

-- ---- goals

type_refused : (mode : Mode) (schema : CoreSchema) → IsAcceptable schema → (S : Stops) (P : Parts) (R : Reader)
    → Reads P R
    → Refuses S R → (h : Spot) (t : Closed) (q : ℕ) (s : Slice) (p : Place) → read_type mode schema R h t q s ≡ Err p
    → StopsType mode schema S P h t q s p
type_refused mode schema ok S P R reads refuses h closed.nat32 q s p e = row_refused h (row closed.nat32) tt s p e
type_refused mode schema ok S P R reads refuses h (closed.bits n) q s p e = row_refused h (row (closed.bits n)) tt s p e
type_refused mode schema ok S P R reads refuses h (closed.below n) q s p e = row_refused h (row (closed.below n)) tt s p e
type_refused mode schema ok S P R reads refuses h (closed.up_to n) q s p e = row_refused h (row (closed.up_to n)) tt s p e
type_refused mode schema ok S P R reads refuses h (closed.uint n) q s p e = row_refused h (row (closed.uint n)) (has_uint n) s p e
type_refused mode schema ok S P R reads refuses h (closed.int n) q s p e = row_refused h (row (closed.int n)) (has_int n) s p e
type_refused mode schema ok S P R reads refuses h (closed.bit_str n) q s p e = row_refused h (row (closed.bit_str n)) tt s p e
type_refused mode schema ok S P R reads refuses h closed.whole q s p e = cc
type_refused mode schema ok S P R reads refuses h (closed.ref t) q s p e =
    ref_refused mode S P R reads refuses h (under_ref t) q s.bits s.refs p (proper_under t) e
type_refused mode schema ok S P R reads refuses h (closed.repeat n t) q s p e =
    repeat_refused S P R reads refuses h n t q s p (ok_err (repeat R h n t q s) _ p e)
type_refused mode schema ok S P R reads refuses h (closed.dict n t) q s p e =
    dict_refused mode S P R reads refuses h n t q s p e
type_refused mode schema ok S P R reads refuses h (closed.dict_e n t) q s p e =
    bit_refused mode S P R reads refuses h n t q s (next_bit s.bits) refl p e
type_refused mode schema ok S P R reads refuses h (closed.named x args) q s p e =
    declared_refused schema ok S P R reads refuses h x args s (choose schema schema x args s.bits) refl q p e

cell_refused : (h : Spot) (bits : List ℕ) (refs : List Tree) (p : Place) → read_cell h bits refs ≡ Err p
    → (refs ≡ []) × (p ≡ stuck h ShortRefs)
cell_refused h bits [] p e = (refl, err_one _ _ e)
cell_refused h bits (c ∷ refs) p e = cc

shape_refused : (mode : Mode) (schema : CoreSchema) → IsAcceptable schema → (S : Stops) (P : Parts) (R : Reader)
    → Reads P R → Refuses S R → (h : Spot) (o : Result Shape Cause) → ((c : Shape) → o ≡ Ok c → ProperShape c) → (q : ℕ)
    (s : Slice) (p : Place) → (reported h o >>= λ c. read_shape mode schema R h c q s) ≡ Err p
    → StopsShape mode schema S P h o q s p
shape_refused mode schema ok S P R reads refuses h (Err why) proper q s p e = err_one _ _ e
shape_refused mode schema ok S P R reads refuses h (Ok (typed t)) proper q s p e =
    type_refused mode schema ok S P R reads refuses h t q s p e
shape_refused mode schema ok S P R reads refuses h (Ok (fields_here is scope)) proper q s p e =
    fields_refused S P R reads refuses NoEnd (λ x. Ok (let y : Found = (record_of None (field_names is) x.0, [], x.2) in y)) h is (proper (fields_here is scope) refl) scope q s p (λ x e. (cc)) e
shape_refused mode schema ok S P R reads refuses h (Ok (fields_under is scope)) proper q s p e =
    ref_refused mode S P R reads refuses h (at_fields is scope) q s.bits s.refs p (proper (fields_under is scope) refl) e
shape_refused mode schema ok S P R reads refuses h (Ok left_out) proper q s p e = cc
shape_refused mode schema ok S P R reads refuses h (Ok as_cell) proper q s p e = cell_refused h s.bits s.refs p e

-- what is read is spelled, with the levels and parts that it has
pub reading_within : (n most : ℕ) (mode : Mode) (schema : CoreSchema)
    → Reads (Within n most mode schema) (reading n most mode schema)
reading_within n most mode schema h g q s x e =
    let c = reading_counted n most mode schema h g q s x e in
    (reads_spelled n most mode schema h g q s x e, c.low, c.few)

pub reading_refused : (n most : ℕ) (mode : Mode) (schema : CoreSchema) → IsAcceptable schema
    → Refuses (StuckWithin n most mode schema) (reading n most mode schema)
unfolding reading
reading_refused zero most mode schema ok h g q s p proper e = err_one _ _ e
reading_refused (suc n) most mode schema ok h g q s p proper e = elim (test_err (nat_lt q most) _ _ p e) [
  | inl k ↦ inr (
    ltb-true q most k.0,
    shape_refused mode schema ok (StuckWithin n most mode schema) (Within n most mode schema) (reading n most mode schema) (reading_within n most mode schema) (reading_refused n most mode schema ok) h (shape_of g) (λ c k. proper_shape g c proper k) (q + 1) s p k.1,
  )
  | inr k ↦ inl (ltb-false q most k.0, k.1)
]

-- ---- the root

some_none : (x : Hidden) → (◌≡◌ {A = Option Hidden} (Some x) None) → ⊥
some_none x k = cc

pub root_refused_at : (n most : ℕ) (mode : Mode) (schema : CoreSchema) → IsAcceptable schema → (t : Closed) (c : Tree)
    (p : Place) → read_within n most mode schema t c ≡ Err p → StuckRoot n most mode schema t c p
root_refused_at n most mode schema ok t c p e = go (unseen mode c) refl e
  where
    go : (o : Option Hidden) → unseen mode c ≡ o → root_of (reading n most mode schema) t o c ≡ Err p
        → StuckRoot n most mode schema t c p
    go (Some x) u e = at_ref (is_ref t) refl e
      where
        at_ref : (b : Bool) → is_ref t ≡ b
            → cond {A = Result Plain Place} b (Err (stuck at_root Exotic)) (Ok (unknown x)) ≡ Err p
            → StuckRoot n most mode schema t c p
        at_ref true r e = hidden_root (λ none. some_none x (sym u ∙ none)) r (err_one _ _ e)
        at_ref false r e = cc
    go None u e =
        open_root u (cell_value_refused (StuckWithin n most mode schema) (Within n most mode schema) (reading n most mode schema) (reading_within n most mode schema) (reading_refused n most mode schema ok) at_root (under_ref t) 0 c p (proper_under t) e)
