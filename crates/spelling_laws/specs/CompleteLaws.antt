-- What is spelled so is read, where at most one constructor can be entered.
use Rattle.std.proofs.Common.{◌≡◌, ℕ, zero, suc, ◌+◌, ◌<◌, ◌≤◌, Bool, true, ◌&&◌, List, [], ◌∷◌, length, drop, Option, Some, None, Ok, slice_get, refl, sym, ap, ◌∙◌, arith, nat_lt, inl, inr}
use Rattle.std.specs.Prelude.{bytes_eq}
use Rattle.std.proofs.Math.Seq.{drop-append_seam}
use Rattle.std.proofs.Math.Nat.{le-max_left, le-max_right}
use Rattle.std.proofs.lemmas.Bool.{lt-ltb, eq-eqb, le-leb}
use Rattle.std.proofs.lemmas.Slice.Eq.{bytes_eq-Decides}
use Rattle.nat_solver.specs.Number.{Compares, comparison}
use Rattle.nat_solver.specs.declared.compare.Op.{Op}
use Rattle.nat_solver.specs.declared.compare.Op.TheVariants.{Eq, Lt, Le, Gt, Ge}
use Rattle.cell_nodes.specs.declared.tree.Tree.{Tree, out-Tree}
use Rattle.cell_nodes.specs.declared.tree.Kind.{Kind}
use Rattle.cell_nodes.specs.declared.tree.Hidden.{Hidden}
use Rattle.cell_nodes.specs.declared.tree.Mode.{Mode}
use Rattle.hashmap_tree.specs.Entries.{Slice, content, cell_of, Then, Entries, pairs_in}
use Rattle.hashmap_tree.specs.Dict.{unseen, Branch}
use Rattle.hashmap_tree.specs.First.{at_leaf, at_fork, LeafEdge, first_edge}
use Rattle.hashmap_tree.specs.CellLaws.{kind-cell_of, content-cell_of, seen-ordinary}
use Rattle.hashmap_tree.specs.FirstLaws.{leaf_complete, fork_complete}
use Rattle.hashmap_tree.specs.CompleteLaws.{branch_complete}
use Rattle.typed_value.specs.Values as values
use Rattle.typed_value.specs.Values.{Plain, Plains, PlainPairs, number, bit_string, record_of, absent, list_of, ref_to, unknown, map_of, raw, rest, no_vals, a_val, no_pairs, a_pair, levels, levels_in, levels_by, parts, parts_in, parts_by}
use Rattle.core_form.specs.Core.{Word, Items, no_items, an_item, check, solve, field, sets, field_names, Declaration, CoreSchema}
use Rattle.core_form.specs.Closed.{Closed, ClosedArgs}
use Rattle.core_form.specs.Closed as closed
use Rattle.core_form.specs.Scope.{Scope, value_in, values_in, with_number, bind}
use Rattle.schema_leads.specs.Leads.{leads, some_begins}
use Rattle.spelling.specs.Slices.{nothing, only_bits, only_ref, took}
use Rattle.spelling.specs.Goals.{row, Goal, at_type, at_field, at_cell, Shape, typed, fields_here, fields_under, left_out, as_cell, at_fields, under_ref, is_ref, shape_of}
use Rattle.spelling.specs.Spells.{Spells, Each, EachPair, Repeats, Fields, SpellsNumber, SpellsString, AtRow, SpellsDeclared, SpellsInner, SpellsAbsent, SpellsList, Holds, SpellsChild, SpellsRef, SpellsPruned, SpellsUnknown, SpellsRaw, SpellsRest, Contents, SpellsDict, SpellsDictE, no_entries, some_entries, next_bit, SpellsMap, free, IsRootOf}
use Rattle.spelling.specs.Places.{Spot, start, item_of, field_of, result_of, at_root}
use Rattle.spelling.specs.PlainReader.{◌>>=◌, Found, Reader, known, reported, whole_of, ordinary_of, cell_value, child_of, read_ref, read_cell, walked, leaf_values, read_dict, walk_cell, by_bit, turn, repeat, sought_number, Step, step, read_fields, candidate, first, choose, after_tag, read_declared, read_type, read_shape, read_goal, reading, root_of, read_within}
use Rattle.spelling.specs.Acceptable.{IsAcceptable, Seeks}
use Rattle.spelling.specs.Stuck.{Enters}
use Rattle.spelling_laws.specs.StepLaws.{bind_on, known_on, reported_on, walked_on, when_true, when_false, both_on}
use Rattle.spelling_laws.specs.FitLaws.{fit_complete}
use Rattle.spelling_laws.specs.LeadsLaws.{leads_hold}
use Rattle.spelling_laws.specs.EnterLaws.{one_constructor}
use Rattle.spelling_laws.specs.ProperLaws.{Proper, ProperShape, proper_under, proper_shape}
use Rattle.spelling_laws.specs.RowLaws.{row_fits, number_complete, string_complete}
use Rattle.spelling_laws.specs.SolvingLaws.{sought_complete}
use Rattle.spelling_laws.specs.SoundLaws.{candidate_enters}

-- a value is read where it is spelled so
abbrev pub Done : ℕ → Mode → CoreSchema → Reader → Plain → Type 0
Done most mode schema R v =
    (h : Spot) (g : Goal) (q : ℕ) (s : Slice) (outs : List ℕ) (after : Slice) → Proper g → q + parts v ≤ most
    → Spells mode schema v g s outs after → R h g q s ≡ Ok (v, outs, after)

abbrev pub AllDone : ℕ → Mode → CoreSchema → Reader → Plains → Type 0
AllDone most mode schema R no_vals = Unit {0}
AllDone most mode schema R (a_val v vs) = Done most mode schema R v × AllDone most mode schema R vs

abbrev pub ByDone : ℕ → Mode → CoreSchema → Reader → PlainPairs → Type 0
ByDone most mode schema R no_pairs = Unit {0}
ByDone most mode schema R (a_pair k v ps) = Done most mode schema R v × ByDone most mode schema R ps

-- ---- lists and records

repeat_complete : (most : ℕ) (mode : Mode) (schema : CoreSchema) (R : Reader) (vs : Plains)
    → AllDone most mode schema R vs → (h : Spot) (k : ℕ) (t : Closed) (q : ℕ) (s after : Slice) → q + parts_in vs ≤ most
    → Repeats (Each mode schema vs) k t s after → repeat R h k t q s ≡ Ok (vs, after)
repeat_complete most mode schema R no_vals done h k t q s after le r =
    ap (λ z. repeat R h z t q s) r.0 ∙ ap (λ z. Ok (no_vals, z)) (sym r.1)
repeat_complete most mode schema R (a_val v vs) done h k t q s after le r =
    let n : k ≡ suc r.0 = omega (arith, r.3) in
    let x : Found = (v, r.1, r.2) in
    let one : turn R h t q s ≡ Ok x =
    bind_on (R h (at_type t) q s) _ x (Ok x) (done.0 h (at_type t) q s r.1 r.2 tt (omega (arith, le)) r.4) (when_true (took s r.2) _ _ r.5) in
    let more = repeat_complete most mode schema R vs done.1 h r.0 t (q + parts v) r.2 after (omega (arith, le)) r.6 in
    ap (λ z. repeat R h z t q s) n
    ∙ bind_on (turn R h t q s) _ x (Ok (a_val v vs, after)) one
    (bind_on (repeat R h r.0 t (q + parts v) r.2) _ (vs, after) (Ok (a_val v vs, after)) more refl)

pub compares_on : (op : Op) (m n : ℕ) → Compares op m n → comparison op m n ≡ true
compares_on Eq m n e = eq-eqb m n e
compares_on Lt m n e = lt-ltb m n e
compares_on Le m n e = le-leb m n e
compares_on Gt m n e = lt-ltb n m e
compares_on Ge m n e = le-leb n m e

fields_complete : (most : ℕ) (mode : Mode) (schema : CoreSchema) (R : Reader) (h : Spot) (is : Items) → Seeks is
    → (vs : Plains) → AllDone most mode schema R vs → (scope : Scope) (q : ℕ) (s : Slice) (end : Scope) (after : Slice)
    → q + parts_in vs ≤ most → Fields is (Each mode schema vs) scope s end after
    → read_fields R h is scope q s ≡ Ok (vs, end, after)
fields_complete most mode schema R h no_items seeks no_vals done scope q s end after le f =
    λ i. Ok (no_vals, (sym f.0) i, (sym f.1) i)
fields_complete most mode schema R h no_items seeks (a_val v vs) done scope q s end after le f = absurd f
fields_complete most mode schema R h (an_item (check a op b i) is) seeks vs done scope q s end after le f =
    let x : Step = record { gives = []; scope = scope; begun = q; left = s } in
    let one : step R h (check a op b i) scope q s ≡ Ok x =
    bind_on (known (item_of h i) (value_in a scope)) _ f.0 (Ok x) (known_on (item_of h i) (value_in a scope) f.0 f.2)
    (bind_on (known (item_of h i) (value_in b scope)) _ f.1 (Ok x) (known_on (item_of h i) (value_in b scope) f.1 f.3) (when_true (comparison op f.0 f.1) _ _ (compares_on op f.0 f.1 f.4))) in
    bind_on (step R h (check a op b i) scope q s) _ x (Ok (vs, end, after)) one
    (bind_on (read_fields R h is scope q s) _ (vs, end, after) (Ok (vs, end, after)) (fields_complete most mode schema R h is seeks vs done scope q s end after le f.5) refl)
fields_complete most mode schema R h (an_item (solve v a b i) is) seeks vs done scope q s end after le f =
    let x : Step = record { gives = []; scope = with_number v f.0 scope; begun = q; left = s } in
    let one : step R h (solve v a b i) scope q s ≡ Ok x =
    bind_on (reported (item_of h i) (sought_number a b scope.numbers)) _ f.0 (Ok x) (reported_on (item_of h i) (sought_number a b scope.numbers) f.0 (sought_complete a b scope.numbers v f.0 seeks.0 f.1)) refl in
    bind_on (step R h (solve v a b i) scope q s) _ x (Ok (vs, end, after)) one
    (bind_on (read_fields R h is x.scope q s) _ (vs, end, after) (Ok (vs, end, after)) (fields_complete most mode schema R h is seeks.1 vs done x.scope q s end after le f.2) refl)
fields_complete most mode schema R h (an_item (field y slot c t) is) seeks no_vals done scope q s end after le f = absurd f
fields_complete most mode schema R h (an_item (field y slot c t) is) seeks (a_val v vs) done scope q s end after le f =
    let x : Step = record { gives = v ∷ []; scope = bind (sets slot t) f.0 scope; begun = q + parts v; left = f.1 } in
    let one : step R h (field y slot c t) scope q s ≡ Ok x =
    bind_on (R (field_of h y) (at_field c t scope) q s) _ (v, f.0, f.1) (Ok x) (done.0 (field_of h y) (at_field c t scope) q s f.0 f.1 seeks.0 (omega (arith, le)) f.2) refl in
    bind_on (step R h (field y slot c t) scope q s) _ x (Ok (a_val v vs, end, after)) one
    (bind_on (read_fields R h is x.scope (q + parts v) f.1) _ (vs, end, after) (Ok (a_val v vs, end, after)) (fields_complete most mode schema R h is seeks.1 vs done.1 x.scope (q + parts v) f.1 end after (omega (arith, le)) f.3) refl)

-- ---- references

pub whole_complete : (R : Reader) (v : Plain) (h : Spot) (g : Goal) (q : ℕ) (s : Slice) (outs : List ℕ)
    → R h g q s ≡ Ok (v, outs, nothing) → whole_of R h g q s ≡ Ok v
whole_complete R v h g q s outs e = bind_on (R h g q s) _ (v, outs, nothing) (Ok v) e refl

-- the cell of a content is read as the content
pub ordinary_opens : (R : Reader) (h : Spot) (g : Goal) (q : ℕ) (c : Tree) (s : Slice) → c ≡ cell_of s
    → ordinary_of R h g q (out-Tree c).kind (content c) ≡ whole_of R h g q s
ordinary_opens R h g q c s same =
    ap (λ (t : Tree). ordinary_of R h g q (out-Tree t).kind (content t)) same
    ∙ ap (λ (k : Kind). ordinary_of R h g q k (content (cell_of s))) (kind-cell_of s)
    ∙ ap (whole_of R h g q) (content-cell_of s)

pub seen_cell : (mode : Mode) (c : Tree) (s : Slice) → c ≡ cell_of s → unseen mode c ≡ None
seen_cell mode c s same = seen-ordinary mode c (ap (λ (t : Tree). (out-Tree t).kind) same ∙ kind-cell_of s)

pub cell_value_seen : (mode : Mode) (schema : CoreSchema) (v : Plain) (g : Goal) (c : Tree)
    → Holds mode (Spells mode schema v) g c → unseen mode c ≡ None
cell_value_seen mode schema v at_cell c k = k.1
cell_value_seen mode schema v (at_type t) c k = seen_cell mode c k.0 k.2
cell_value_seen mode schema v (at_field e t scope) c k = seen_cell mode c k.0 k.2

pub cell_value_complete : (most : ℕ) (mode : Mode) (schema : CoreSchema) (R : Reader) (v : Plain) → Done most mode schema R v
    → (h : Spot) (g : Goal) (q : ℕ) (c : Tree) → Proper g → q + parts v ≤ most → Holds mode (Spells mode schema v) g c
    → cell_value R h g q c ≡ Ok v
cell_value_complete most mode schema R v done h at_cell q c proper le k =
    whole_complete R v h at_cell q (only_ref c) k.0 (done h at_cell q (only_ref c) k.0 nothing tt le k.2)
cell_value_complete most mode schema R v done h (at_type t) q c proper le k =
    ordinary_opens R h (at_type t) q c k.0 k.2
    ∙ whole_complete R v h (at_type t) q k.0 k.1 (done h (at_type t) q k.0 k.1 nothing tt le k.3)
cell_value_complete most mode schema R v done h (at_field e t scope) q c proper le k =
    ordinary_opens R h (at_field e t scope) q c k.0 k.2
    ∙ whole_complete R v h (at_field e t scope) q k.0 k.1 (done h (at_field e t scope) q k.0 k.1 nothing proper le k.3)

child_complete : (most : ℕ) (mode : Mode) (schema : CoreSchema) (R : Reader) (v : Plain) → Done most mode schema R v
    → (h : Spot) (g : Goal) (q : ℕ) (s : Slice) (outs : List ℕ) (after : Slice) → Proper g → q + parts v ≤ most
    → SpellsChild (free tt) mode (Spells mode schema v) g s outs after
    → read_ref mode R h g q s.bits s.refs ≡ Ok (ref_to tt v, outs, after)
child_complete most mode schema R v done h g q s outs after proper le e =
    let c = e.0 in
    let left : Slice = record { bits = s.bits; refs = after.refs } in
    let child : child_of R h g q None c ≡ Ok (ref_to tt v) =
    bind_on (cell_value R h g q c) _ v (Ok (ref_to tt v)) (cell_value_complete most mode schema R v done h g q c proper le e.3) refl in
    ap (λ z. read_ref mode R h g q s.bits z) e.2.refs
    ∙ bind_on (child_of R h g q (unseen mode c) c) _ (ref_to tt v) (Ok (ref_to tt v, [], left)) (ap (λ o. child_of R h g q o c) (cell_value_seen mode schema v g c e.3) ∙ child) refl
    ∙ (λ i. Ok (ref_to tt v, (sym e.1) i, record { bits = e.2.bits i; refs = after.refs }))

pruned_complete : (mode : Mode) (R : Reader) (x : Hidden) (h : Spot) (g : Goal) (q : ℕ) (s : Slice) (outs : List ℕ)
    (after : Slice) → SpellsPruned mode x s outs after → read_ref mode R h g q s.bits s.refs ≡ Ok (unknown x, outs, after)
pruned_complete mode R x h g q s outs after e =
    let left : Slice = record { bits = s.bits; refs = after.refs } in
    ap (λ z. read_ref mode R h g q s.bits z) e.2.refs
    ∙ bind_on (child_of R h g q (unseen mode e.0) e.0) _ (unknown x) (Ok (unknown x, [], left)) (ap (λ o. child_of R h g q o e.0) e.3) refl
    ∙ (λ i. Ok (unknown x, (sym e.1) i, record { bits = e.2.bits i; refs = after.refs }))

-- ---- dictionaries

leaves_complete : (most : ℕ) (mode : Mode) (schema : CoreSchema) (R : Reader) (ps : PlainPairs)
    → ByDone most mode schema R ps → (h : Spot) (t : Closed) (q : ℕ) (ls : List (List ℕ × Slice))
    → q + parts_by ps ≤ most → Contents (EachPair mode schema ps) t ls → leaf_values R h t q ls ≡ Ok ps
leaves_complete most mode schema R no_pairs done h t q ls le e = ap (leaf_values R h t q) e
leaves_complete most mode schema R (a_pair k v ps) done h t q [] le e = absurd e
leaves_complete most mode schema R (a_pair k v ps) done h t q (l ∷ ls) le e =
    bind_on (whole_of R h (at_type t) q l.1) _ v (Ok (a_pair k v ps)) (whole_complete R v h (at_type t) q l.1 e.0 (done.0 h (at_type t) q l.1 e.0 nothing tt (omega (arith, le)) e.2))
    (bind_on (leaf_values R h t (q + parts v) ls) _ ps (Ok (a_pair k v ps)) (leaves_complete most mode schema R ps done.1 h t (q + parts v) ls (omega (arith, le)) e.3) (ap (λ j. Ok (a_pair j v ps)) e.1))

in_place_complete : (most : ℕ) (mode : Mode) (schema : CoreSchema) (R : Reader) (k : List ℕ) (v : Plain)
    → Done most mode schema R v → (h : Spot) (n : ℕ) (t : Closed) (q : ℕ) (s middle : Slice) (outs : List ℕ) (after : Slice)
    → q + parts v ≤ most → LeafEdge mode n k s middle → Spells mode schema v (at_type t) middle outs after
    → read_dict mode R h n t q s ≡ Ok (map_of tt (a_pair k v no_pairs) [], [], after)
in_place_complete most mode schema R k v done h n t q s middle outs after le d e =
    let y : Found = (map_of tt (a_pair k v no_pairs) [], [], after) in
    bind_on (walked h (first_edge mode n s)) _ (at_leaf k middle) (Ok y) (walked_on h (first_edge mode n s) (at_leaf k middle) (leaf_complete mode n s k middle d))
    (bind_on (R h (at_type t) q middle) _ (v, outs, after) (Ok y) (done h (at_type t) q middle outs after tt le e) refl)

abbrev Unknowns : Type 0
Unknowns = List (List ℕ × Hidden)

dict_complete : (most : ℕ) (mode : Mode) (schema : CoreSchema) (R : Reader) (ps : PlainPairs) (us : Unknowns)
    → ByDone most mode schema R ps → (h : Spot) (n : ℕ) (t : Closed) (q : ℕ) (s after : Slice) → q + parts_by ps ≤ most
    → SpellsDict mode (EachPair mode schema ps) us n t s after
    → read_dict mode R h n t q s ≡ Ok (map_of tt ps us, [], after)
dict_complete most mode schema R no_pairs us done h n t q s after le (inl e) = absurd e
dict_complete most mode schema R (a_pair k v (a_pair l w ps)) us done h n t q s after le (inl e) = absurd e
dict_complete most mode schema R (a_pair k v no_pairs) (u ∷ us) done h n t q s after le (inl e) = absurd e
dict_complete most mode schema R (a_pair k v no_pairs) [] done h n t q s after le (inl e) =
    in_place_complete most mode schema R k v done.0 h n t q s e.0 e.1 after (omega (arith, le)) e.2 e.3
dict_complete most mode schema R ps us done h n t q s after le (inr e) =
    let y : Found = (map_of tt ps us, [], after) in
    bind_on (walked h (first_edge mode n s)) _ (at_fork e.0 after) (Ok y) (walked_on h (first_edge mode n s) (at_fork e.0 after) (fork_complete mode n s e.0 after e.1))
    (bind_on (leaf_values R h t q (pairs_in e.0)) _ ps (Ok y) (leaves_complete most mode schema R ps done h t q (pairs_in e.0) le e.2.0) (ap (λ (u : Unknowns). Ok (let z : Found = (map_of tt ps u, [], after) in z)) e.2.1))

pub cell_complete_at : (mode : Mode) (n : ℕ) (c : Tree) (es : Entries) → Branch mode n es c → walk_cell mode n c ≡ Ok es
cell_complete_at mode n c es d = branch_complete (suc n) mode n es c (omega arith) d

dict_e_complete : (most : ℕ) (mode : Mode) (schema : CoreSchema) (R : Reader) (ps : PlainPairs) (us : Unknowns)
    → ByDone most mode schema R ps → (h : Spot) (n : ℕ) (t : Closed) (q : ℕ) (s after : Slice) → q + parts_by ps ≤ most
    → SpellsDictE mode (EachPair mode schema ps) us n t s after
    → by_bit mode R h n t q (next_bit s.bits) s.refs ≡ Ok (map_of tt ps us, [], after)
dict_e_complete most mode schema R no_pairs us done h n t q s after le (no_entries a u b) =
    (λ i. by_bit mode R h n t q (next_bit (b.bits i)) (b.refs i)) ∙ (λ i. Ok (map_of tt no_pairs ((sym u) i), [], after))
dict_e_complete most mode schema R (a_pair k v ps) us done h n t q s after le (no_entries a u b) = absurd a
dict_e_complete most mode schema R ps us done h n t q s after le (some_entries c es b d cell_value) =
    let y : Found = (map_of tt ps us, [], after) in
    (λ i. by_bit mode R h n t q (next_bit (b.bits i)) (b.refs i))
    ∙ bind_on (walked h (walk_cell mode n c)) _ es (Ok y) (walked_on h (walk_cell mode n c) es (cell_complete_at mode n c es d))
    (bind_on (leaf_values R h t q (pairs_in es)) _ ps (Ok y) (leaves_complete most mode schema R ps done h t q (pairs_in es) le cell_value.0) (ap (λ (u : Unknowns). Ok (let z : Found = (map_of tt ps u, [], after) in z)) cell_value.1))

-- ---- declared types

-- what can be entered is a candidate
pub enters_candidate : (schema : CoreSchema) (x : Word) (args : ClosedArgs) (bits : List ℕ) (at : ℕ) (c : Declaration)
    (scope : Scope) → Enters schema x args bits at c scope → candidate schema x args bits c ≡ Some scope
enters_candidate schema x args bits at c scope e =
    let one : bytes_eq c.of_type x ≡ true = (bytes_eq-Decides c.of_type x).1 e.meets.of_type in
    when_true (bytes_eq c.of_type x && some_begins (leads schema c) bits) _ _ (both_on (bytes_eq c.of_type x) (some_begins (leads schema c) bits) one e.begins)
    ∙ fit_complete c.core args scope e.meets.fitting

some_same : (x y : Declaration) → (◌≡◌ {A = Option Declaration} (Some x) (Some y)) → x ≡ y
some_same x y e = cc

-- the one candidate is chosen
chosen_one : (schema cs : CoreSchema) (x : Word) (args : ClosedArgs) (bits : List ℕ) (at : ℕ) (c : Declaration)
    (scope : Scope) → slice_get cs at ≡ Some c → candidate schema x args bits c ≡ Some scope
    → ((j : ℕ) (e : Declaration) (y : Scope) → slice_get cs j ≡ Some e → candidate schema x args bits e ≡ Some y → j ≡ at)
    → choose schema cs x args bits ≡ Some (c, scope)
chosen_one schema [] x args bits at c scope there ok only = cc
chosen_one schema (b ∷ cs) x args bits zero c scope there ok only =
    let same : b ≡ c = some_same b c there in
    ap (λ o. first b o (choose schema cs x args bits)) (ap (λ z. candidate schema x args bits z) same ∙ ok)
    ∙ (λ i. Some (same i, scope))
chosen_one schema (b ∷ cs) x args bits (suc at) c scope there ok only =
    let none : candidate schema x args bits b ≡ None = no_other (candidate schema x args bits b) (λ y e. absurd (let k : 0 ≡ suc at = only 0 b y refl e in omega (arith, k))) in
    let more = chosen_one schema cs x args bits at c scope there ok (λ j e y there ok. let k : suc j ≡ suc at = only (suc j) e y there ok in omega (arith, k)) in
    ap (λ o. first b o (choose schema cs x args bits)) none ∙ more
  where
    no_other : (o : Option Scope) → ((y : Scope) → o ≡ Some y → ⊥) → o ≡ None
    no_other (Some y) h = absurd (h y refl)
    no_other None h = refl

pub chosen : (schema : CoreSchema) → IsAcceptable schema → (x : Word) (args : ClosedArgs) (bits : List ℕ) (at : ℕ)
    (c : Declaration) (scope : Scope) → Enters schema x args bits at c scope
    → choose schema schema x args bits ≡ Some (c, scope)
chosen schema ok x args bits at c scope e =
    chosen_one schema schema x args bits at c scope e.meets.there (enters_candidate schema x args bits at c scope e) (λ j f y there k. one_constructor schema ok x args bits j at f c y scope (candidate_enters schema x args bits j f y there k) e)

pub after_begun : (tag : List ℕ) (s middle : Slice) → Then s (only_bits tag) middle → after_tag tag s ≡ middle
after_begun tag s middle t =
    let left : drop (length tag) s.bits ≡ middle.bits = ap (drop (length tag)) t.bits ∙ drop-append_seam tag middle.bits in
    λ i. record { bits = left i; refs = t.refs i }

declared_complete : (most : ℕ) (mode : Mode) (schema : CoreSchema) → IsAcceptable schema → (R : Reader) (name : Word)
    (names : List Word) (vs : Plains) → AllDone most mode schema R vs → (h : Spot) (x : Word) (args : ClosedArgs) (q : ℕ)
    (s : Slice) (outs : List ℕ) (after : Slice) → q + parts_in vs ≤ most
    → SpellsDeclared schema name names (Each mode schema vs) (typed (closed.named x args)) s outs after
    → read_type mode schema R h (closed.named x args) q s ≡ Ok (record_of (Some name) names vs, outs, after)
declared_complete most mode schema ok R name names vs done h x args q s outs after le e =
    let c = e.1 in
    let lead = leads_hold mode schema ok x args name names vs s outs after e in
    let enters : Enters schema x args s.bits e.0 c e.2 = record {
      meets = record { there = e.5.there; of_type = e.5.of_type; shown = refl; fitting = e.5.fitting };
      begins = lead;
    } in
    let found = chosen schema ok x args s.bits e.0 c e.2 enters in
    let y : Found = (record_of (Some c.shown) (field_names c.core.items) vs, outs, after) in
    ap (λ o. read_declared R h o q s) found
    ∙ ap (λ z. read_fields R (start c) c.core.items e.2 q z >>= λ x. known (result_of (start c)) (values_in c.core.outputs x.1) >>= λ o. Ok (let y : Found = (record_of (Some c.shown) (field_names c.core.items) x.0, o, x.2) in y)) (after_begun c.core.tag s e.3 e.7)
    ∙ bind_on (read_fields R (start c) c.core.items e.2 q e.3) _ (vs, e.4, after) (Ok y) (fields_complete most mode schema R (start c) c.core.items (ok.seeks e.0 c e.5.there) vs done e.2 q e.3 e.4 after le e.8)
    (bind_on (known (result_of (start c)) (values_in c.core.outputs e.4)) _ outs (Ok y) (known_on (result_of (start c)) (values_in c.core.outputs e.4) outs e.9) refl)
    ∙ (λ i. Ok (record_of (Some (e.5.shown i)) ((sym e.6) i) vs, outs, after))

-- ---- one lemma for each form of value, by cases on the shape

-- a basic type is read by its row
number_read : (mode : Mode) (schema : CoreSchema) (R : Reader) (negative : Bool) (size : ℕ) (h : Spot) (t : Closed) (q : ℕ)
    (s : Slice) (outs : List ℕ) (after : Slice) → SpellsNumber negative size (row t) s outs after
    → read_type mode schema R h t q s ≡ Ok (number negative size, outs, after)
number_read mode schema R negative size h closed.nat32 q s outs after e =
    number_complete h (row closed.nat32) (row_fits closed.nat32) negative size s outs after e
number_read mode schema R negative size h (closed.bits n) q s outs after e =
    number_complete h (row (closed.bits n)) (row_fits (closed.bits n)) negative size s outs after e
number_read mode schema R negative size h (closed.below n) q s outs after e =
    number_complete h (row (closed.below n)) (row_fits (closed.below n)) negative size s outs after e
number_read mode schema R negative size h (closed.up_to n) q s outs after e =
    number_complete h (row (closed.up_to n)) (row_fits (closed.up_to n)) negative size s outs after e
number_read mode schema R negative size h (closed.uint n) q s outs after e =
    number_complete h (row (closed.uint n)) (row_fits (closed.uint n)) negative size s outs after e
number_read mode schema R negative size h (closed.int n) q s outs after e =
    number_complete h (row (closed.int n)) (row_fits (closed.int n)) negative size s outs after e
number_read mode schema R negative size h (closed.bit_str n) q s outs after e =
    number_complete h (row (closed.bit_str n)) (row_fits (closed.bit_str n)) negative size s outs after e
number_read mode schema R negative size h closed.whole q s outs after e = absurd e
number_read mode schema R negative size h (closed.ref t) q s outs after e = absurd e
number_read mode schema R negative size h (closed.repeat n t) q s outs after e = absurd e
number_read mode schema R negative size h (closed.dict n t) q s outs after e = absurd e
number_read mode schema R negative size h (closed.dict_e n t) q s outs after e = absurd e
number_read mode schema R negative size h (closed.named x args) q s outs after e = absurd e

string_read : (mode : Mode) (schema : CoreSchema) (R : Reader) (bits : List ℕ) (h : Spot) (t : Closed) (q : ℕ) (s : Slice)
    (outs : List ℕ) (after : Slice) → SpellsString bits (row t) s outs after
    → read_type mode schema R h t q s ≡ Ok (bit_string bits, outs, after)
string_read mode schema R bits h closed.nat32 q s outs after e = string_complete h (row closed.nat32) bits s outs after e
string_read mode schema R bits h (closed.bits n) q s outs after e = string_complete h (row (closed.bits n)) bits s outs after e
string_read mode schema R bits h (closed.below n) q s outs after e = string_complete h (row (closed.below n)) bits s outs after e
string_read mode schema R bits h (closed.up_to n) q s outs after e = string_complete h (row (closed.up_to n)) bits s outs after e
string_read mode schema R bits h (closed.uint n) q s outs after e = string_complete h (row (closed.uint n)) bits s outs after e
string_read mode schema R bits h (closed.int n) q s outs after e = string_complete h (row (closed.int n)) bits s outs after e
string_read mode schema R bits h (closed.bit_str n) q s outs after e = string_complete h (row (closed.bit_str n)) bits s outs after e
string_read mode schema R bits h closed.whole q s outs after e = absurd e
string_read mode schema R bits h (closed.ref t) q s outs after e = absurd e
string_read mode schema R bits h (closed.repeat n t) q s outs after e = absurd e
string_read mode schema R bits h (closed.dict n t) q s outs after e = absurd e
string_read mode schema R bits h (closed.dict_e n t) q s outs after e = absurd e
string_read mode schema R bits h (closed.named x args) q s outs after e = absurd e

number_at : (mode : Mode) (schema : CoreSchema) (R : Reader) (negative : Bool) (size : ℕ) (h : Spot) (c : Shape) (q : ℕ)
    (s : Slice) (outs : List ℕ) (after : Slice) → AtRow (SpellsNumber negative size) c s outs after
    → read_shape mode schema R h c q s ≡ Ok (number negative size, outs, after)
number_at mode schema R negative size h (typed t) q s outs after e =
    number_read mode schema R negative size h t q s outs after e
number_at mode schema R negative size h _ q s outs after e = absurd e

string_at : (mode : Mode) (schema : CoreSchema) (R : Reader) (bits : List ℕ) (h : Spot) (c : Shape) (q : ℕ) (s : Slice)
    (outs : List ℕ) (after : Slice) → AtRow (SpellsString bits) c s outs after
    → read_shape mode schema R h c q s ≡ Ok (bit_string bits, outs, after)
string_at mode schema R bits h (typed t) q s outs after e = string_read mode schema R bits h t q s outs after e
string_at mode schema R bits h _ q s outs after e = absurd e

ref_at : (most : ℕ) (mode : Mode) (schema : CoreSchema) (R : Reader) (v : Plain) → Done most mode schema R v
    → (h : Spot)
    (c : Shape) (q : ℕ) (s : Slice) (outs : List ℕ) (after : Slice) → ProperShape c → q + parts v ≤ most
    → SpellsRef (free tt) mode (Spells mode schema v) c s outs after
    → read_shape mode schema R h c q s ≡ Ok (ref_to tt v, outs, after)
ref_at most mode schema R v done h (typed (closed.ref t)) q s outs after proper le e =
    child_complete most mode schema R v done h (under_ref t) q s outs after (proper_under t) le e
ref_at most mode schema R v done h (fields_under is scope) q s outs after proper le e =
    child_complete most mode schema R v done h (at_fields is scope) q s outs after proper le e
ref_at most mode schema R v done h _ q s outs after proper le e = absurd e

list_at : (most : ℕ) (mode : Mode) (schema : CoreSchema) (R : Reader) (vs : Plains) → AllDone most mode schema R vs
    → (h : Spot) (c : Shape) (q : ℕ) (s : Slice) (outs : List ℕ) (after : Slice) → q + parts_in vs ≤ most
    → SpellsList (Each mode schema vs) c s outs after → read_shape mode schema R h c q s ≡ Ok (list_of vs, outs, after)
list_at most mode schema R vs done h (typed (closed.repeat n t)) q s outs after le e =
    bind_on (repeat R h n t q s) _ (vs, after) (Ok (list_of vs, outs, after)) (repeat_complete most mode schema R vs done h n t q s after le e.1) (ap (λ o. Ok (let z : Found = (list_of vs, o, after) in z)) (sym e.0))
list_at most mode schema R vs done h _ q s outs after le e = absurd e

record_at : (most : ℕ) (mode : Mode) (schema : CoreSchema) → IsAcceptable schema → (R : Reader) (name : Word)
    (names : List Word) (vs : Plains) → AllDone most mode schema R vs → (h : Spot) (c : Shape) (q : ℕ) (s : Slice)
    (outs : List ℕ) (after : Slice) → q + parts_in vs ≤ most
    → SpellsDeclared schema name names (Each mode schema vs) c s outs after
    → read_shape mode schema R h c q s ≡ Ok (record_of (Some name) names vs, outs, after)
record_at most mode schema ok R name names vs done h (typed (closed.named x args)) q s outs after le e =
    declared_complete most mode schema ok R name names vs done h x args q s outs after le e
record_at most mode schema ok R name names vs done h _ q s outs after le e = absurd e

inner_at : (most : ℕ) (mode : Mode) (schema : CoreSchema) (R : Reader) (names : List Word) (vs : Plains)
    → AllDone most mode schema R vs → (h : Spot) (c : Shape) (q : ℕ) (s : Slice) (outs : List ℕ) (after : Slice)
    → ProperShape c → q + parts_in vs ≤ most → SpellsInner names (Each mode schema vs) c s outs after
    → read_shape mode schema R h c q s ≡ Ok (record_of None names vs, outs, after)
inner_at most mode schema R names vs done h (fields_here is scope) q s outs after proper le e =
    bind_on (read_fields R h is scope q s) _ (vs, e.2, after) (Ok (record_of None names vs, outs, after)) (fields_complete most mode schema R h is proper vs done scope q s e.2 after le e.3) (λ i. Ok (let z : Found = (record_of None ((sym e.1) i) vs, (sym e.0) i, after) in z))
inner_at most mode schema R names vs done h _ q s outs after proper le e = absurd e

absent_at : (mode : Mode) (schema : CoreSchema) (R : Reader) (h : Spot) (c : Shape) (q : ℕ) (s : Slice) (outs : List ℕ)
    (after : Slice) → SpellsAbsent c s outs after → read_shape mode schema R h c q s ≡ Ok (absent, outs, after)
absent_at mode schema R h left_out q s outs after e = λ i. Ok (absent, (sym e.0) i, (sym e.1) i)
absent_at mode schema R h _ q s outs after e = absurd e

unknown_at : (mode : Mode) (schema : CoreSchema) (R : Reader) (x : Hidden) (h : Spot) (c : Shape) (q : ℕ) (s : Slice)
    (outs : List ℕ) (after : Slice) → SpellsUnknown mode x c s outs after
    → read_shape mode schema R h c q s ≡ Ok (unknown x, outs, after)
unknown_at mode schema R x h (typed (closed.ref t)) q s outs after e = pruned_complete mode R x h (under_ref t) q s outs after e
unknown_at mode schema R x h (fields_under is scope) q s outs after e =
    pruned_complete mode R x h (at_fields is scope) q s outs after e
unknown_at mode schema R x h _ q s outs after e = absurd e

map_at : (most : ℕ) (mode : Mode) (schema : CoreSchema) (R : Reader) (ps : PlainPairs) (us : Unknowns)
    → ByDone most mode schema R ps → (h : Spot) (c : Shape) (q : ℕ) (s : Slice) (outs : List ℕ) (after : Slice)
    → q + parts_by ps ≤ most → SpellsMap (free tt) mode (EachPair mode schema ps) us c s outs after
    → read_shape mode schema R h c q s ≡ Ok (map_of tt ps us, outs, after)
map_at most mode schema R ps us done h (typed (closed.dict n t)) q s outs after le e =
    dict_complete most mode schema R ps us done h n t q s after le e.1 ∙ ap (λ o. Ok (let z : Found = (map_of tt ps us, o, after) in z)) (sym e.0)
map_at most mode schema R ps us done h (typed (closed.dict_e n t)) q s outs after le e =
    dict_e_complete most mode schema R ps us done h n t q s after le e.1 ∙ ap (λ o. Ok (let z : Found = (map_of tt ps us, o, after) in z)) (sym e.0)
map_at most mode schema R ps us done h _ q s outs after le e = absurd e

raw_at : (mode : Mode) (schema : CoreSchema) (R : Reader) (d : Tree) (h : Spot) (c : Shape) (q : ℕ) (s : Slice)
    (outs : List ℕ) (after : Slice) → SpellsRaw d c s outs after
    → read_shape mode schema R h c q s ≡ Ok (raw d, outs, after)
raw_at mode schema R d h as_cell q s outs after e =
    ap (read_cell h s.bits) e.1.refs ∙ (λ i. Ok (let z : Found = (raw d, (sym e.0) i, record { bits = e.1.bits i; refs = after.refs }) in z))
raw_at mode schema R d h _ q s outs after e = absurd e

rest_at : (mode : Mode) (schema : CoreSchema) (R : Reader) (r : values.Slice) (h : Spot) (c : Shape) (q : ℕ) (s : Slice)
    (outs : List ℕ) (after : Slice) → SpellsRest r c s outs after
    → read_shape mode schema R h c q s ≡ Ok (rest r, outs, after)
rest_at mode schema R r h (typed closed.whole) q s outs after e =
    λ i. Ok (let z : Found = (rest ((sym e.1) i), (sym e.0) i, (sym e.2) i) in z)
rest_at mode schema R r h _ q s outs after e = absurd e

-- a goal is closed, and then its shape is read
closed_on : (mode : Mode) (schema : CoreSchema) (R : Reader) (h : Spot) (g : Goal) (q : ℕ) (s : Slice) (c : Shape)
    (x : Found) → shape_of g ≡ Ok c → read_shape mode schema R h c q s ≡ Ok x → read_goal mode schema R h g q s ≡ Ok x
closed_on mode schema R h g q s c x e f = bind_on (reported h (shape_of g)) _ c (Ok x) (reported_on h (shape_of g) c e) f

begin_on : (n most : ℕ) (mode : Mode) (schema : CoreSchema) (h : Spot) (g : Goal) (q : ℕ) (s : Slice) (c : Shape)
    (x : Found) → q < most → shape_of g ≡ Ok c → read_shape mode schema (reading n most mode schema) h c (q + 1) s ≡ Ok x
    → reading (suc n) most mode schema h g q s ≡ Ok x
unfolding reading
begin_on n most mode schema h g q s c x lt e f =
    when_true (nat_lt q most) _ _ (lt-ltb q most lt) ∙ closed_on mode schema (reading n most mode schema) h g (q + 1) s c x e f

mutual
  pub complete : (mode : Mode) (schema : CoreSchema) → IsAcceptable schema → (v : Plain) (n most : ℕ) → levels v ≤ n
      → Done most mode schema (reading n most mode schema) v
  complete mode schema ok (number negative size) zero most le h g q s outs after proper few e = absurd (omega (arith, le))
  complete mode schema ok (number negative size) (suc n) most le h g q s outs after proper few e =
      begin_on n most mode schema h g q s e.0 _ (omega (arith, few)) e.1
      (number_at mode schema (reading n most mode schema) negative size h e.0 (q + 1) s outs after e.2)
  complete mode schema ok (bit_string bits) zero most le h g q s outs after proper few e = absurd (omega (arith, le))
  complete mode schema ok (bit_string bits) (suc n) most le h g q s outs after proper few e =
      begin_on n most mode schema h g q s e.0 _ (omega (arith, few)) e.1
      (string_at mode schema (reading n most mode schema) bits h e.0 (q + 1) s outs after e.2)
  complete mode schema ok (record_of (Some name) names vs) zero most le h g q s outs after proper few e = absurd (omega (arith, le))
  complete mode schema ok (record_of (Some name) names vs) (suc n) most le h g q s outs after proper few e =
      begin_on n most mode schema h g q s e.0 _ (omega (arith, few)) e.1
      (record_at most mode schema ok (reading n most mode schema) name names vs (complete_all mode schema ok vs n most (omega (arith, le))) h e.0 (q + 1) s outs after (omega (arith, few)) e.2)
  complete mode schema ok (record_of None names vs) zero most le h g q s outs after proper few e = absurd (omega (arith, le))
  complete mode schema ok (record_of None names vs) (suc n) most le h g q s outs after proper few e =
      begin_on n most mode schema h g q s e.0 _ (omega (arith, few)) e.1
      (inner_at most mode schema (reading n most mode schema) names vs (complete_all mode schema ok vs n most (omega (arith, le))) h e.0 (q + 1) s outs after (proper_shape g e.0 proper e.1) (omega (arith, few)) e.2)
  complete mode schema ok absent zero most le h g q s outs after proper few e = absurd (omega (arith, le))
  complete mode schema ok absent (suc n) most le h g q s outs after proper few e =
      begin_on n most mode schema h g q s e.0 _ (omega (arith, few)) e.1
      (absent_at mode schema (reading n most mode schema) h e.0 (q + 1) s outs after e.2)
  complete mode schema ok (list_of vs) zero most le h g q s outs after proper few e = absurd (omega (arith, le))
  complete mode schema ok (list_of vs) (suc n) most le h g q s outs after proper few e =
      begin_on n most mode schema h g q s e.0 _ (omega (arith, few)) e.1
      (list_at most mode schema (reading n most mode schema) vs (complete_all mode schema ok vs n most (omega (arith, le))) h e.0 (q + 1) s outs after (omega (arith, few)) e.2)
  complete mode schema ok (ref_to _ v) zero most le h g q s outs after proper few e = absurd (omega (arith, le))
  complete mode schema ok (ref_to _ v) (suc n) most le h g q s outs after proper few e =
      begin_on n most mode schema h g q s e.0 _ (omega (arith, few)) e.1
      (ref_at most mode schema (reading n most mode schema) v (complete mode schema ok v n most (omega (arith, le))) h e.0 (q + 1) s outs after (proper_shape g e.0 proper e.1) (omega (arith, few)) e.2)
  complete mode schema ok (unknown x) zero most le h g q s outs after proper few e = absurd (omega (arith, le))
  complete mode schema ok (unknown x) (suc n) most le h g q s outs after proper few e =
      begin_on n most mode schema h g q s e.0 _ (omega (arith, few)) e.1
      (unknown_at mode schema (reading n most mode schema) x h e.0 (q + 1) s outs after e.2)
  complete mode schema ok (map_of _ ps us) zero most le h g q s outs after proper few e = absurd (omega (arith, le))
  complete mode schema ok (map_of _ ps us) (suc n) most le h g q s outs after proper few e =
      begin_on n most mode schema h g q s e.0 _ (omega (arith, few)) e.1
      (map_at most mode schema (reading n most mode schema) ps us (complete_by mode schema ok ps n most (omega (arith, le))) h e.0 (q + 1) s outs after (omega (arith, few)) e.2)
  complete mode schema ok (raw d) zero most le h g q s outs after proper few e = absurd (omega (arith, le))
  complete mode schema ok (raw d) (suc n) most le h g q s outs after proper few e =
      begin_on n most mode schema h g q s e.0 _ (omega (arith, few)) e.1
      (raw_at mode schema (reading n most mode schema) d h e.0 (q + 1) s outs after e.2)
  complete mode schema ok (rest r) zero most le h g q s outs after proper few e = absurd (omega (arith, le))
  complete mode schema ok (rest r) (suc n) most le h g q s outs after proper few e =
      begin_on n most mode schema h g q s e.0 _ (omega (arith, few)) e.1
      (rest_at mode schema (reading n most mode schema) r h e.0 (q + 1) s outs after e.2)

  pub complete_all : (mode : Mode) (schema : CoreSchema) → IsAcceptable schema → (vs : Plains) (n most : ℕ)
      → levels_in vs ≤ n → AllDone most mode schema (reading n most mode schema) vs
  complete_all mode schema ok no_vals n most le = tt
  complete_all mode schema ok (a_val v vs) n most le =
      (complete mode schema ok v n most (omega (arith, le, le-max_left (levels v) (levels_in vs))), complete_all mode schema ok vs n most (omega (arith, le, le-max_right (levels v) (levels_in vs))))

  pub complete_by : (mode : Mode) (schema : CoreSchema) → IsAcceptable schema → (ps : PlainPairs) (n most : ℕ)
      → levels_by ps ≤ n → ByDone most mode schema (reading n most mode schema) ps
  complete_by mode schema ok no_pairs n most le = tt
  complete_by mode schema ok (a_pair k v ps) n most le =
      (complete mode schema ok v n most (omega (arith, le, le-max_left (levels v) (levels_by ps))), complete_by mode schema ok ps n most (omega (arith, le, le-max_right (levels v) (levels_by ps))))

-- ---- the root

pub root_complete : (mode : Mode) (schema : CoreSchema) → IsAcceptable schema → (v : Plain) (n most : ℕ) → levels v ≤ n
    → parts v ≤ most → (t : Closed) (c : Tree) → IsRootOf mode schema t c v → read_within n most mode schema t c ≡ Ok v
root_complete mode schema ok v n most le few t c (inl k) =
    let R = reading n most mode schema in
    let none : 0 + parts v ≤ most = omega (arith, few) in
    ap (λ o. root_of R t o c) (cell_value_seen mode schema v (under_ref t) c k)
    ∙ cell_value_complete most mode schema R v (complete mode schema ok v n most le) at_root (under_ref t) 0 c (proper_under t) none k
root_complete mode schema ok (unknown x) n most le few t c (inr k) =
    ap (λ o. root_of (reading n most mode schema) t o c) k.0 ∙ when_false (is_ref t) _ _ k.1
root_complete mode schema ok (number negative size) n most le few t c (inr k) = absurd k
root_complete mode schema ok (bit_string bits) n most le few t c (inr k) = absurd k
root_complete mode schema ok (record_of name names vs) n most le few t c (inr k) = absurd k
root_complete mode schema ok absent n most le few t c (inr k) = absurd k
root_complete mode schema ok (list_of vs) n most le few t c (inr k) = absurd k
root_complete mode schema ok (ref_to _ v) n most le few t c (inr k) = absurd k
root_complete mode schema ok (map_of _ ps us) n most le few t c (inr k) = absurd k
root_complete mode schema ok (raw d) n most le few t c (inr k) = absurd k
root_complete mode schema ok (rest r) n most le few t c (inr k) = absurd k
