-- Where a reading is stuck the plain reader stops, at that very place.
use Rattle.std.proofs.Common.{◌≡◌, ◌≢◌, ℕ, zero, suc, ◌+◌, ◌<◌, ◌≤◌, Bool, true, false, cond, List, [], ◌∷◌, ◌++◌, length, take, drop, Option, Some, None, Result, Ok, Err, refl, sym, ap, ◌∙◌, inl, inr, arith, nat_lt}
use Rattle.std.proofs.lemmas.Bool.{lt-ltb, le-ltb}
use Rattle.bit_slice.specs.Bits.{number_of}
use Rattle.nat_solver.specs.Number.{Expr, Compares, comparison, Solves, first_lacking}
use Rattle.nat_solver.specs.Number as numbers
use Rattle.cell_nodes.specs.declared.tree.Tree.{Tree, out-Tree}
use Rattle.cell_nodes.specs.declared.tree.Kind.{Kind}
use Rattle.cell_nodes.specs.declared.tree.Kind.TheVariants.{Ordinary, Pruned, Library, Proof, Update}
use Rattle.cell_nodes.specs.declared.tree.Hidden.{Hidden}
use Rattle.cell_nodes.specs.declared.tree.Mode.{Mode}
use Rattle.hashmap_labels.specs.Reading.{are_bits}
use Rattle.hashmap_tree.specs.Entries.{Slice, content, pairs_in}
use Rattle.hashmap_tree.specs.Dict.{unseen}
use Rattle.hashmap_tree.specs.First.{at_leaf, at_fork, first_edge}
use Rattle.hashmap_tree.specs.Halts.{HaltsBranch}
use Rattle.hashmap_tree.specs.Walk.{Fault}
use Rattle.hashmap_tree.specs.FirstLaws.{first_stands, leaf_complete, fork_complete}
use Rattle.hashmap_tree.specs.StandsLaws.{branch_stands}
use Rattle.typed_value.specs.Values.{Plain, no_vals, record_of, parts}
use Rattle.core_form.specs.Core.{Word, Items, no_items, an_item, check, solve, field, sets, field_names, Declaration, CoreSchema}
use Rattle.core_form.specs.Closed.{Closed, ClosedArgs}
use Rattle.core_form.specs.Closed as closed
use Rattle.core_form.specs.Scope.{Scope, value_in, values_in, with_number, bind}
use Rattle.spelling.specs.Slices.{nothing, only_ref, is_nothing, took}
use Rattle.spelling.specs.Goals.{Row, natural, integer, string, no_row, row, Goal, at_type, at_field, at_cell, Shape, typed, fields_here, fields_under, left_out, as_cell, at_fields, under_ref, is_ref, shape_of}
use Rattle.spelling.specs.Spells.{next_bit}
use Rattle.spelling.specs.Places.{Spot, Place, stuck, start, item_of, field_of, result_of, at_root}
use Rattle.spelling.specs.PlainReader.{◌>>=◌, prepend, Found, Reader, known, reported, take_bits, read_row, whole_of, ordinary_of, cell_value, child_of, read_ref, read_cell, walked, leaf_values, read_dict, walk_cell, by_bit, turn, repeat, sought_number, Step, step, Got, read_fields, Choice, choose, read_declared, read_type, read_shape, reading, root_of, read_within}
use Rattle.spelling.specs.Acceptable.{IsAcceptable, Seeks}
use Rattle.spelling.specs.Stuck.{Stops, Parts, StopsRow, StopsWhole, within, over, StopsOrdinary, exotic, inside, StopsCell, StopsRef, no_ref, child, StopsLeaves, StopsDict, in_edges, in_leaf, in_values, StopsDictE, no_bit, no_root, root_edges, root_values, this, idle, later, StopsRepeat, StopsPair, StopsSolve, too_great, unsolved, onward, StopsField, StopsFields, Enters, NoEnd, StopsResult, StopsDeclared, none_fits, entered, StopsType, StopsShape, Within, StuckWithin, StuckRoot, hidden_root, open_root}
use Rattle.spelling.specs.declared.Cause.{Cause}
use Rattle.spelling.specs.declared.Cause.TheVariants.{Overflow, NoSolution, ShortBits, Exotic}
use Rattle.spelling_laws.specs.StepLaws.{bind_on, bind_fault, when_true, when_false, walked_on, step_then}
use Rattle.spelling_laws.specs.ProperLaws.{Proper, ProperShape, proper_under, proper_shape}
use Rattle.spelling_laws.specs.SolvingLaws.{sought_complete, sought_stands}
use Rattle.spelling_laws.specs.SolvingLaws as solving
use Rattle.spelling_laws.specs.SoundLaws.{choice_stands, candidate_enters, nothing_left, compares}
use Rattle.spelling_laws.specs.CompleteLaws.{complete, compares_on, whole_complete, ordinary_opens, cell_complete_at, chosen, after_begun}

abbrev pub Gets : Parts → Reader → Type 0
Gets P R =
    (h : Spot) (g : Goal) (q : ℕ) (v : Plain) (s : Slice) (outs : List ℕ) (after : Slice) → Proper g → P g q v s outs after
    → R h g q s ≡ Ok (v, outs, after)

abbrev pub Stands : Stops → Reader → Type 0
Stands S R = (h : Spot) (g : Goal) (q : ℕ) (s : Slice) (p : Place) → Proper g → S h g q s p → R h g q s ≡ Err p

-- ---- lists

turn_ok : (P : Parts) (R : Reader) → Gets P R → (h : Spot) (t : Closed) (q : ℕ) (v : Plain) (s : Slice) (outs : List ℕ)
    (middle : Slice) → P (at_type t) q v s outs middle → took s middle ≡ true → turn R h t q s ≡ Ok (v, outs, middle)
turn_ok P R gets h t q v s outs middle m k =
    bind_on (R h (at_type t) q s) _ (v, outs, middle) (Ok (v, outs, middle)) (gets h (at_type t) q v s outs middle tt m) (when_true (took s middle) _ _ k)

repeat_stands : (S : Stops) (P : Parts) (R : Reader) → Gets P R → Stands S R → (h : Spot) (k : ℕ) (t : Closed) (q : ℕ)
    (s : Slice) (p : Place) → StopsRepeat S P h k t q s p → repeat R h k t q s ≡ Err p
repeat_stands S P R gets stands h zero t q s p e = absurd e
repeat_stands S P R gets stands h (suc k) t q s p (this e) =
    bind_fault (turn R h t q s) _ p (bind_fault (R h (at_type t) q s) _ p (stands h (at_type t) q s p tt e))
repeat_stands S P R gets stands h (suc k) t q s p (idle v outs middle m still same) =
    bind_fault (turn R h t q s) _ p (bind_on (R h (at_type t) q s) _ (v, outs, middle) (Err p) (gets h (at_type t) q v s outs middle tt m) (when_false (took s middle) _ _ still ∙ ap Err (sym same)))
repeat_stands S P R gets stands h (suc k) t q s p (later v outs middle m moved more) =
    bind_on (turn R h t q s) _ (v, outs, middle) (Err p) (turn_ok P R gets h t q v s outs middle m moved) (bind_fault (repeat R h k t (q + parts v) middle) _ p (repeat_stands S P R gets stands h k t (q + parts v) middle p more))

-- ---- references

is_not_nothing : (s : Slice) → s ≢ nothing → is_nothing s ≡ false
is_not_nothing s h = go (is_nothing s) refl
  where
    go : (b : Bool) → is_nothing s ≡ b → b ≡ false
    go true e = absurd (h (nothing_left s e))
    go false e = refl

whole_stands : (S : Stops) (P : Parts) (R : Reader) → Gets P R → Stands S R → (h : Spot) (g : Goal) (q : ℕ) (s : Slice)
    (p : Place) → Proper g → StopsWhole S P h g q s p → whole_of R h g q s ≡ Err p
whole_stands S P R gets stands h g q s p proper (within e) = bind_fault (R h g q s) _ p (stands h g q s p proper e)
whole_stands S P R gets stands h g q s p proper (over v outs left m some same) =
    bind_on (R h g q s) _ (v, outs, left) (Err p) (gets h g q v s outs left proper m) (when_false (is_nothing left) _ _ (is_not_nothing left some) ∙ ap Err (sym same))

exotic_stands : (R : Reader) (h : Spot) (g : Goal) (q : ℕ) (k : Kind) (s : Slice) → k ≢ Ordinary
    → ordinary_of R h g q k s ≡ Err (stuck h Exotic)
exotic_stands R h g q Ordinary s a = absurd (a refl)
exotic_stands R h g q Pruned s a = refl
exotic_stands R h g q Library s a = refl
exotic_stands R h g q Proof s a = refl
exotic_stands R h g q Update s a = refl

ordinary_stands : (S : Stops) (P : Parts) (R : Reader) → Gets P R → Stands S R → (h : Spot) (g : Goal) (q : ℕ)
    (c : Tree)
    (p : Place) → Proper g → StopsOrdinary S P h g q c p
    → ordinary_of R h g q (out-Tree c).kind (content c) ≡ Err p
ordinary_stands S P R gets stands h g q c p proper (exotic k same) =
    exotic_stands R h g q (out-Tree c).kind (content c) k ∙ ap Err (sym same)
ordinary_stands S P R gets stands h g q c p proper (inside s same k) =
    ordinary_opens R h g q c s same ∙ whole_stands S P R gets stands h g q s p proper k

pub cell_value_stands : (S : Stops) (P : Parts) (R : Reader) → Gets P R → Stands S R → (h : Spot) (g : Goal) (q : ℕ)
    (c : Tree)
    (p : Place) → Proper g → StopsCell S P h g q c p → cell_value R h g q c ≡ Err p
cell_value_stands S P R gets stands h at_cell q c p proper k =
    whole_stands S P R gets stands h at_cell q (only_ref c) p tt k
cell_value_stands S P R gets stands h (at_type t) q c p proper k =
    ordinary_stands S P R gets stands h (at_type t) q c p tt k
cell_value_stands S P R gets stands h (at_field e t scope) q c p proper k =
    ordinary_stands S P R gets stands h (at_field e t scope) q c p proper k

ref_stands : (mode : Mode) (S : Stops) (P : Parts) (R : Reader) → Gets P R → Stands S R → (h : Spot) (g : Goal) (q : ℕ)
    (s : Slice) (p : Place) → Proper g → StopsRef mode S P h g q s p → read_ref mode R h g q s.bits s.refs ≡ Err p
ref_stands mode S P R gets stands h g q s p proper (no_ref e same) =
    ap (read_ref mode R h g q s.bits) e ∙ ap Err (sym same)
ref_stands mode S P R gets stands h g q s p proper (child c after t u k) =
    ap (read_ref mode R h g q s.bits) t.refs
    ∙ bind_fault (child_of R h g q (unseen mode c) c) _ p (ap (λ o. child_of R h g q o c) u ∙ bind_fault (cell_value R h g q c) _ p (cell_value_stands S P R gets stands h g q c p proper k))

-- ---- dictionaries

leaves_stand : (S : Stops) (P : Parts) (R : Reader) → Gets P R → Stands S R → (h : Spot) (t : Closed) (q : ℕ)
    (ls : List (List ℕ × Slice)) (p : Place) → StopsLeaves S P h t q ls p → leaf_values R h t q ls ≡ Err p
leaves_stand S P R gets stands h t q [] p e = absurd e
leaves_stand S P R gets stands h t q (l ∷ ls) p (inl e) =
    bind_fault (whole_of R h (at_type t) q l.1) _ p (whole_stands S P R gets stands h (at_type t) q l.1 p tt e)
leaves_stand S P R gets stands h t q (l ∷ ls) p (inr e) =
    bind_on (whole_of R h (at_type t) q l.1) _ e.0 (Err p) (whole_complete R e.0 h (at_type t) q l.1 e.1 (gets h (at_type t) q e.0 l.1 e.1 nothing tt e.2))
    (bind_fault (leaf_values R h t (q + parts e.0) ls) _ p (leaves_stand S P R gets stands h t (q + parts e.0) ls p e.3))

dict_stands : (mode : Mode) (S : Stops) (P : Parts) (R : Reader) → Gets P R → Stands S R → (h : Spot) (n : ℕ)
    (t : Closed)
    (q : ℕ) (s : Slice) (p : Place) → StopsDict mode S P h n t q s p → read_dict mode R h n t q s ≡ Err p
dict_stands mode S P R gets stands h n t q s p (in_edges f k same) =
    bind_fault (walked h (first_edge mode n s)) _ p (ap (walked h) (first_stands mode n s f k) ∙ ap Err (sym same))
dict_stands mode S P R gets stands h n t q s p (in_leaf k middle d e) =
    bind_on (walked h (first_edge mode n s)) _ (at_leaf k middle) (Err p) (walked_on h (first_edge mode n s) (at_leaf k middle) (leaf_complete mode n s k middle d)) (bind_fault (R h (at_type t) q middle) _ p (stands h (at_type t) q middle p tt e))
dict_stands mode S P R gets stands h n t q s p (in_values es after d e) =
    bind_on (walked h (first_edge mode n s)) _ (at_fork es after) (Err p) (walked_on h (first_edge mode n s) (at_fork es after) (fork_complete mode n s es after d)) (bind_fault (leaf_values R h t q (pairs_in es)) _ p (leaves_stand S P R gets stands h t q (pairs_in es) p e))

cell_stands_at : (mode : Mode) (n : ℕ) (c : Tree) (f : Fault) → HaltsBranch mode n c f → walk_cell mode n c ≡ Err f
cell_stands_at mode n c f k = branch_stands (suc n) mode n c f (omega arith) k

dict_e_stands : (mode : Mode) (S : Stops) (P : Parts) (R : Reader) → Gets P R → Stands S R → (h : Spot) (n : ℕ)
    (t : Closed) (q : ℕ) (s : Slice) (p : Place) → StopsDictE mode S P h n t q s p
    → by_bit mode R h n t q (next_bit s.bits) s.refs ≡ Err p
dict_e_stands mode S P R gets stands h n t q s p (no_bit b same) =
    ap (λ o. by_bit mode R h n t q o s.refs) b ∙ ap Err (sym same)
dict_e_stands mode S P R gets stands h n t q s p (no_root bits b r same) =
    (λ i. by_bit mode R h n t q (b i) (r i)) ∙ ap Err (sym same)
dict_e_stands mode S P R gets stands h n t q s p (root_edges c after f b k same) =
    (λ i. by_bit mode R h n t q (next_bit (b.bits i)) (b.refs i))
    ∙ bind_fault (walked h (walk_cell mode n c)) _ p (ap (walked h) (cell_stands_at mode n c f k) ∙ ap Err (sym same))
dict_e_stands mode S P R gets stands h n t q s p (root_values c after es b d e) =
    (λ i. by_bit mode R h n t q (next_bit (b.bits i)) (b.refs i))
    ∙ bind_on (walked h (walk_cell mode n c)) _ es (Err p) (walked_on h (walk_cell mode n c) es (cell_complete_at mode n c es d)) (bind_fault (leaf_values R h t q (pairs_in es)) _ p (leaves_stand S P R gets stands h t q (pairs_in es) p e))

-- ---- items

-- a pair of numbers and what follows, against the same of the reader
pair_stands : {C : Type 0} (h : Spot) (Here Later : ℕ → ℕ → Type 0) (o q : Option ℕ) (f : ℕ → ℕ → Result Step Place)
    (g : Step → Result C Place) (p : Place) → ((m n : ℕ) → Here m n → (f m n >>= g) ≡ Err p)
    → ((m n : ℕ) → Later m n → (f m n >>= g) ≡ Err p) → StopsPair h Here Later o q p
    → ((known h o >>= λ m. known h q >>= λ n. f m n) >>= g) ≡ Err p
pair_stands h Here Later None q f g p here more e = ap Err (sym e)
pair_stands h Here Later (Some m) None f g p here more e = ap Err (sym e)
pair_stands h Here Later (Some m) (Some n) f g p here more (inl e) = here m n e
pair_stands h Here Later (Some m) (Some n) f g p here more (inr e) = more m n e

field_stands : {C : Type 0} (S : Stops) (P : Parts) (R : Reader) → Gets P R → Stands S R
    → (Later : List ℕ → ℕ → Slice → Type 0) (h : Spot) (o : Goal) (scope : Scope) (vs : List ℕ) (q : ℕ) (s : Slice)
    (g : Step → Result C Place) (p : Place) → Proper o
    → ((v : Plain) (outs : List ℕ) (middle : Slice) → Later outs (q + parts v) middle
    → g (record { gives = v ∷ []; scope = bind vs outs scope; begun = q + parts v; left = middle }) ≡ Err p)
    → StopsField S P Later h o q s p
    → ((R h o q s >>= λ v. Ok (let x : Step = record { gives = v.0 ∷ []; scope = bind vs v.1 scope; begun = q + parts v.0; left = v.2 } in x)) >>= g) ≡ Err p
field_stands S P R gets stands Later h o scope vs q s g p proper more (inl e) =
    bind_fault (R h o q s >>= _) g p (bind_fault (R h o q s) _ p (stands h o q s p proper e))
field_stands S P R gets stands Later h o scope vs q s g p proper more (inr e) =
    ap (λ r. (r >>= λ v. Ok (let x : Step = record { gives = v.0 ∷ []; scope = bind vs v.1 scope; begun = q + parts v.0; left = v.2 } in x)) >>= g) (gets h o q e.0 s e.1 e.2 proper e.3)
    ∙ more e.0 e.1 e.2 e.4

guard_then : {C : Type 0} (b : Bool) (q : Place) (x : Step) (g : Step → Result C Place) (r : Result C Place) → b ≡ true
    → g x ≡ r → (cond b (Ok x) (Err q) >>= g) ≡ r
guard_then true q x g r e h = h
guard_then false q x g r e h = cc

guard_stops : {C : Type 0} (b : Bool) (q p : Place) (x : Step) (g : Step → Result C Place) → b ≡ false → p ≡ q
    → (cond b (Ok x) (Err q) >>= g) ≡ Err p
guard_stops true q p x g e h = cc
guard_stops false q p x g e h = ap Err (sym h)

fails : (b : Bool) → (b ≡ true → ⊥) → b ≡ false
fails true h = absurd (h refl)
fails false h = refl

some_of : (o : Option Expr) → o ≢ None → (e : Expr) × (o ≡ Some e)
some_of (Some e) h = (e, refl)
some_of None h = absurd (h refl)

-- an equation and what follows, against the same of the reader
solve_stands : {C : Type 0} (h : Spot) (a b : Expr) (scope : Scope) (v : ℕ) → numbers.OneUnknown a b v
    → (Later : ℕ → Type 0) (f : ℕ → Step) (g : Step → Result C Place) (p : Place)
    → ((x : ℕ) → Later x → g (f x) ≡ Err p) → StopsSolve h a b scope Later p
    → ((reported h (sought_number a b scope.numbers) >>= λ x. Ok (f x)) >>= g) ≡ Err p
solve_stands h a b scope v one Later f g p more (too_great not same) =
    let e = some_of (first_lacking (numbers.parts a ++ numbers.parts b) scope.numbers) not in
    ap (λ o. (reported h o >>= λ x. Ok (f x)) >>= g) (sought_stands a b scope.numbers Overflow (solving.lacking e.0 e.1 refl)) ∙ ap Err (sym same)
solve_stands h a b scope v one Later f g p more (unsolved is not same) =
    ap (λ o. (reported h o >>= λ x. Ok (f x)) >>= g) (sought_stands a b scope.numbers NoSolution (solving.unsolved is not refl)) ∙ ap Err (sym same)
solve_stands h a b scope v one Later f g p more (onward x s k) =
    ap (λ o. (reported h o >>= λ x. Ok (f x)) >>= g) (sought_complete a b scope.numbers v x one s) ∙ more x k

fields_stand : {C : Type 0} (S : Stops) (P : Parts) (R : Reader) → Gets P R → Stands S R → (End : Scope → Type 0)
    (k : Got → Result C Place) (h : Spot) (is : Items) → Seeks is → (scope : Scope) (q : ℕ) (s : Slice) (p : Place)
    → ((x : Got) → End x.1 → k x ≡ Err p) → StopsFields S P End h is scope q s p
    → (read_fields R h is scope q s >>= k) ≡ Err p
fields_stand S P R gets stands End k h no_items seeks scope q s p ends e = ends (no_vals, scope, s) e
fields_stand S P R gets stands End k h (an_item (check a op b i) is) seeks scope q s p ends e =
    step_then (step R h (check a op b i) scope q s) (λ x. read_fields R h is x.scope x.begun x.left) (λ x y. (let z : Got = (prepend x.gives y.0, y.1, y.2) in z)) k
    ∙ pair_stands (item_of h i) _ _ (value_in a scope) (value_in b scope) _ _ p
    (λ m n k. guard_stops (comparison op m n) _ p _ _ (fails (comparison op m n) (λ t. k.0 (compares op m n t))) k.1)
    (λ m n j. guard_then (comparison op m n) _ _ _ (Err p) (compares_on op m n j.0) (fields_stand S P R gets stands End k h is seeks scope q s p ends j.1)) e
fields_stand S P R gets stands End k h (an_item (solve v a b i) is) seeks scope q s p ends e =
    step_then (step R h (solve v a b i) scope q s) (λ x. read_fields R h is x.scope x.begun x.left) (λ x y. (let z : Got = (prepend x.gives y.0, y.1, y.2) in z)) k
    ∙ solve_stands (item_of h i) a b scope v seeks.0 (λ x. StopsFields S P End h is (with_number v x scope) q s p) _ _ p
    (λ x j. fields_stand S P R gets stands End k h is seeks.1 (with_number v x scope) q s p ends j) e
fields_stand S P R gets stands End k h (an_item (field y slot c t) is) seeks scope q s p ends e =
    step_then (step R h (field y slot c t) scope q s) (λ x. read_fields R h is x.scope x.begun x.left) (λ x y. (let z : Got = (prepend x.gives y.0, y.1, y.2) in z)) k
    ∙ field_stands S P R gets stands (λ outs q middle. StopsFields S P End h is (bind (sets slot t) outs scope) q middle p) (field_of h y) (at_field c t scope) scope (sets slot t) q s _ p seeks.0
    (λ v outs middle j. fields_stand S P R gets stands End (λ y. k (prepend (v ∷ []) y.0, y.1, y.2)) h is seeks.1 (bind (sets slot t) outs scope) (q + parts v) middle p (λ x. ends (prepend (v ∷ []) x.0, x.1, x.2)) j) e

-- ---- declared types

nothing_chosen : (schema : CoreSchema) (x : Word) (args : ClosedArgs) (bits : List ℕ)
    → ((at : ℕ) (c : Declaration) (scope : Scope) → Enters schema x args bits at c scope → ⊥)
    → choose schema schema x args bits ≡ None
nothing_chosen schema x args bits none = go (choose schema schema x args bits) refl
  where
    go : (o : Option Choice) → choose schema schema x args bits ≡ o → o ≡ None
    go None e = refl
    go (Some c) e =
        let k = choice_stands schema schema x args bits c e in
        absurd (none k.0 c.0 c.1 (candidate_enters schema x args bits k.0 c.0 c.1 k.1 k.2))

declared_stands : (mode : Mode) (schema : CoreSchema) → IsAcceptable schema → (S : Stops) (P : Parts) (R : Reader)
    → Gets P R → Stands S R → (h : Spot) (x : Word) (args : ClosedArgs) (q : ℕ) (s : Slice) (p : Place)
    → StopsDeclared schema S P h x args q s p → read_type mode schema R h (closed.named x args) q s ≡ Err p
declared_stands mode schema ok S P R gets stands h x args q s p (none_fits none same) =
    ap (λ o. read_declared R h o q s) (nothing_chosen schema x args s.bits none) ∙ ap Err (sym same)
declared_stands mode schema ok S P R gets stands h x args q s p (entered at c scope middle e t more) =
    ap (λ o. read_declared R h o q s) (chosen schema ok x args s.bits at c scope e)
    ∙ ap (λ z. read_fields R (start c) c.core.items scope q z >>= λ x. known (result_of (start c)) (values_in c.core.outputs x.1) >>= λ o. Ok (let y : Found = (record_of (Some c.shown) (field_names c.core.items) x.0, o, x.2) in y)) (after_begun c.core.tag s middle t)
    ∙ fields_stand S P R gets stands (StopsResult (start c) c.core.outputs p) _ (start c) c.core.items (ok.seeks at c e.meets.there) scope q middle p (λ x o. bind_fault (known (result_of (start c)) (values_in c.core.outputs x.1)) _ p (ap (known (result_of (start c))) o.0 ∙ ap Err (sym o.1))) more

-- ---- basic types

lacks_stands : {B : Type 0} (h : Spot) (width : ℕ) (s : Slice) (f : List ℕ × Slice → Result B Place) (p : Place)
    → length s.bits < width → p ≡ stuck h ShortBits → (take_bits h width s >>= f) ≡ Err p
lacks_stands h width s f p l same =
    bind_fault (take_bits h width s) f p (when_true (nat_lt (length s.bits) width) _ _ (lt-ltb (length s.bits) width l) ∙ ap Err (sym same))

enough : (h : Spot) (width : ℕ) (s : Slice) → width ≤ length s.bits
    → take_bits h width s ≡ Ok (take width s.bits, record { bits = drop width s.bits; refs = s.refs })
enough h width s l = when_false (nat_lt (length s.bits) width) _ _ (le-ltb (length s.bits) width l)

row_stands : (h : Spot) (r : Row) (s : Slice) (p : Place) → StopsRow h r s p → read_row h r s ≡ Err p
row_stands h (natural width bound named) s p (inl (inl l, same)) = lacks_stands h width s _ p l same
row_stands h (natural width bound named) s p (inl (inr k, same)) =
    bind_on (take_bits h width s) _ _ (Err p) (enough h width s k.0) (when_false (are_bits (take width s.bits)) _ _ k.1 ∙ ap Err (sym same))
row_stands h (natural width bound named) s p (inr (k, same)) =
    bind_on (take_bits h width s) _ _ (Err p) (enough h width s k.0) (when_true (are_bits (take width s.bits)) _ _ k.1 ∙ when_false (nat_lt (number_of (take width s.bits)) bound) _ _ (le-ltb (number_of (take width s.bits)) bound k.2) ∙ ap Err (sym same))
row_stands h (integer width) s p (inl l, same) = lacks_stands h width s _ p l same
row_stands h (integer width) s p (inr k, same) =
    bind_on (take_bits h width s) _ _ (Err p) (enough h width s k.0) (when_false (are_bits (take width s.bits)) _ _ k.1 ∙ ap Err (sym same))
row_stands h (string width) s p (l, same) = lacks_stands h width s _ p l same
row_stands h no_row s p e = absurd e

-- ---- goals

type_stands : (mode : Mode) (schema : CoreSchema) → IsAcceptable schema → (S : Stops) (P : Parts) (R : Reader)
    → Gets P R
    → Stands S R → (h : Spot) (t : Closed) (q : ℕ) (s : Slice) (p : Place) → StopsType mode schema S P h t q s p
    → read_type mode schema R h t q s ≡ Err p
type_stands mode schema ok S P R gets stands h closed.nat32 q s p e = row_stands h (row closed.nat32) s p e
type_stands mode schema ok S P R gets stands h (closed.bits n) q s p e = row_stands h (row (closed.bits n)) s p e
type_stands mode schema ok S P R gets stands h (closed.below n) q s p e = row_stands h (row (closed.below n)) s p e
type_stands mode schema ok S P R gets stands h (closed.up_to n) q s p e = row_stands h (row (closed.up_to n)) s p e
type_stands mode schema ok S P R gets stands h (closed.uint n) q s p e = row_stands h (row (closed.uint n)) s p e
type_stands mode schema ok S P R gets stands h (closed.int n) q s p e = row_stands h (row (closed.int n)) s p e
type_stands mode schema ok S P R gets stands h (closed.bit_str n) q s p e = row_stands h (row (closed.bit_str n)) s p e
type_stands mode schema ok S P R gets stands h closed.whole q s p e = absurd e
type_stands mode schema ok S P R gets stands h (closed.ref t) q s p e =
    ref_stands mode S P R gets stands h (under_ref t) q s p (proper_under t) e
type_stands mode schema ok S P R gets stands h (closed.repeat n t) q s p e =
    bind_fault (repeat R h n t q s) _ p (repeat_stands S P R gets stands h n t q s p e)
type_stands mode schema ok S P R gets stands h (closed.dict n t) q s p e = dict_stands mode S P R gets stands h n t q s p e
type_stands mode schema ok S P R gets stands h (closed.dict_e n t) q s p e =
    dict_e_stands mode S P R gets stands h n t q s p e
type_stands mode schema ok S P R gets stands h (closed.named x args) q s p e =
    declared_stands mode schema ok S P R gets stands h x args q s p e

shape_stands : (mode : Mode) (schema : CoreSchema) → IsAcceptable schema → (S : Stops) (P : Parts) (R : Reader)
    → Gets P R
    → Stands S R → (h : Spot) (o : Result Shape Cause) → ((c : Shape) → o ≡ Ok c → ProperShape c) → (q : ℕ) (s : Slice)
    (p : Place) → StopsShape mode schema S P h o q s p → (reported h o >>= λ c. read_shape mode schema R h c q s) ≡ Err p
shape_stands mode schema ok S P R gets stands h (Err why) proper q s p e = ap Err (sym e)
shape_stands mode schema ok S P R gets stands h (Ok (typed t)) proper q s p e =
    type_stands mode schema ok S P R gets stands h t q s p e
shape_stands mode schema ok S P R gets stands h (Ok (fields_here is scope)) proper q s p e =
    fields_stand S P R gets stands NoEnd _ h is (proper (fields_here is scope) refl) scope q s p (λ x no. absurd no) e
shape_stands mode schema ok S P R gets stands h (Ok (fields_under is scope)) proper q s p e =
    ref_stands mode S P R gets stands h (at_fields is scope) q s p (proper (fields_under is scope) refl) e
shape_stands mode schema ok S P R gets stands h (Ok left_out) proper q s p e = absurd e
shape_stands mode schema ok S P R gets stands h (Ok as_cell) proper q s p e =
    ap (read_cell h s.bits) e.0 ∙ ap Err (sym e.1)

-- what is within the limits is read
pub within_reads : (n most : ℕ) (mode : Mode) (schema : CoreSchema) → IsAcceptable schema
    → Gets (Within n most mode schema) (reading n most mode schema)
within_reads n most mode schema ok h g q v s outs after proper k =
    complete mode schema ok v n most k.1 h g q s outs after proper k.2 k.0

pub reading_stands : (n most : ℕ) (mode : Mode) (schema : CoreSchema) → IsAcceptable schema
    → Stands (StuckWithin n most mode schema) (reading n most mode schema)
unfolding reading
reading_stands zero most mode schema ok h g q s p proper e = ap Err (sym e)
reading_stands (suc n) most mode schema ok h g q s p proper (inl e) =
    when_false (nat_lt q most) _ _ (le-ltb q most e.0) ∙ ap Err (sym e.1)
reading_stands (suc n) most mode schema ok h g q s p proper (inr e) =
    when_true (nat_lt q most) _ _ (lt-ltb q most e.0)
    ∙ shape_stands mode schema ok (StuckWithin n most mode schema) (Within n most mode schema) (reading n most mode schema) (within_reads n most mode schema ok) (reading_stands n most mode schema ok) h (shape_of g) (λ c k. proper_shape g c proper k) (q + 1) s p e.1

-- ---- the root

some_hidden : (o : Option Hidden) → o ≢ None → (x : Hidden) × (o ≡ Some x)
some_hidden (Some x) h = (x, refl)
some_hidden None h = absurd (h refl)

pub root_stands_at : (n most : ℕ) (mode : Mode) (schema : CoreSchema) → IsAcceptable schema → (t : Closed) (c : Tree)
    (p : Place) → StuckRoot n most mode schema t c p → read_within n most mode schema t c ≡ Err p
root_stands_at n most mode schema ok t c p (hidden_root u r same) =
    let x = some_hidden (unseen mode c) u in
    ap (λ o. root_of (reading n most mode schema) t o c) x.1 ∙ when_true (is_ref t) _ _ r ∙ ap Err (sym same)
root_stands_at n most mode schema ok t c p (open_root u k) =
    ap (λ o. root_of (reading n most mode schema) t o c) u
    ∙ cell_value_stands (StuckWithin n most mode schema) (Within n most mode schema) (reading n most mode schema) (within_reads n most mode schema ok) (reading_stands n most mode schema ok) at_root (under_ref t) 0 c p (proper_under t) k
