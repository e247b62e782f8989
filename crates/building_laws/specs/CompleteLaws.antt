-- What is spelled so within the limits of cells is built, to the same content.
use Rattle.std.proofs.Common.{◌≡◌, ◌<◌, ◌≤◌, ℕ, zero, suc, ◌+◌, Bool, true, false, ◌&&◌, ◌||◌, cond, List, [], ◌∷◌, ◌++◌, length, Option, Some, None, Ok, slice_get, refl, sym, ap, ◌∙◌, subst, arith, nat_lt, nat_eq}
use Rattle.std.specs.Prelude.{bytes_eq}
use Rattle.std.proofs.lemmas.Bool.{lt-ltb, le-ltb, eq-eqb}
use Rattle.std.proofs.lemmas.Slice.Eq.{bytes_eq-Decides}
use Rattle.bit_slice.specs.Bits.{spelled, signed_spelled}
use Rattle.cell_nodes.specs.Constructed.{pruned_of}
use Rattle.cell_nodes.specs.Good.{IsGood}
use Rattle.cell_nodes.specs.HeldLaws.{AreBelow}
use Rattle.cell_nodes.specs.declared.tree.Tree.{Tree}
use Rattle.cell_nodes.specs.declared.tree.Hidden.{Hidden}
use Rattle.cell_nodes.specs.declared.tree.Mode.{Mode}
use Rattle.cell_nodes.specs.declared.tree.Mode.TheVariants.{Whole, Partial, Lax}
use Rattle.hashmap_labels.specs.declared.forms.Forms.TheVariants.{Required}
use Rattle.hashmap_tree.specs.Dict.{forms_of, unseen}
use Rattle.hashmap_tree.specs.Entries.{Slice, cell_of, Then}
use Rattle.typed_value.specs.Values as values
use Rattle.typed_value.specs.Values.{Plain, Plains, PlainPairs, number, bit_string, record_of, absent, list_of, ref_to, unknown, map_of, raw, rest, no_vals, a_val, no_pairs, a_pair, levels, levels_in, levels_by, parts, parts_in, parts_by}
use Rattle.core_form.specs.Core.{Word, Items, no_items, an_item, check, solve, field, sets, field_names, Declaration, CoreSchema}
use Rattle.core_form.specs.Closed.{Closed, ClosedArgs}
use Rattle.core_form.specs.Closed as closed
use Rattle.core_form.specs.Fit.{fit}
use Rattle.core_form.specs.Scope.{Scope, value_in, values_in, with_number, bind}
use Rattle.nat_solver.specs.Number.{comparison}
use Rattle.spelling.specs.Acceptable.{Seeks}
use Rattle.spelling.specs.Slices.{nothing, only_bits, only_ref}
use Rattle.spelling.specs.Goals.{Row, natural, integer, string, no_row, row, Goal, at_type, at_field, at_cell, Shape, typed, fields_here, fields_under, left_out, as_cell, at_fields, under_ref, shape_of}
use Rattle.spelling.specs.Places.{Spot, start, item_of, field_of, result_of, tag_of}
use Rattle.spelling.specs.PlainReader.{known, reported, sought_number, Choice, first}
use Rattle.spelling.specs.Spells.{own, Spells, SpellsShape, Each, Repeats, Fields, SpellsNumber, SpellsString, AtRow, Meets, SpellsDeclared, SpellsInner, SpellsAbsent, Holds, SpellsChild, SpellsRef, SpellsPruned, SpellsUnknown, SpellsRaw, SpellsRest, free}
use Rattle.spelling_laws.specs.CompleteLaws.{compares_on}
use Rattle.spelling_laws.specs.FitLaws.{fit_complete}
use Rattle.spelling_laws.specs.ProperLaws.{Proper, ProperShape, proper_under}
use Rattle.spelling_laws.specs.SolvingLaws.{sought_complete}
use Rattle.spelling_laws.specs.StepLaws.{bind_on, known_on, reported_on, when_true, both_on}
use Rattle.building.specs.Buildable.{IsBuildable, IsHash, AreHashes}
use Rattle.building.specs.Growing.{Grown, empty, join, is_deep, some_deep}
use Rattle.building.specs.Laid.{AreSeen, ends, ends_shape, ends_fields, ends_items}
use Rattle.building.specs.PlainBuilder.{Made, Maker, put, make_natural, is_in_range, make_integer, make_number, make_string, first_of, finished, put_ref, make_child, make_hidden, make_cell, number_at, string_at, record_at, absent_at, list_at, ref_at, unknown_at, map_at, raw_at, rest_at, turn, make_items, count, Step, step, make_fields, same_words, has_fields, candidate, choose, make_inside, make_declared, make_inner, make_shape, making, grew}
use Rattle.building_laws.specs.MoveLaws.{then_all, then_whole, join_then, IsHeld, good_held, Stands, Reaches, made, or_assoc, or_false, not_deep, none_deep, put_on, alone_on, no_end, bits_on, ref_below, took_same}
use Rattle.building_laws.specs.RangeLaws.{in_range_on, hidden_is}
use Rattle.building_laws.specs.DictLaws.{Done, AllDone, ByDone, dict_complete, dict_e_complete}
use Rattle.building_laws.specs.ShapeLaws.{Holding}

-- ---- numbers and bit strings

natural_complete : (h : Spot) (width bound : ℕ) (named : Bool) (negative : Bool) (size : ℕ) (b : Grown) (w s : Slice)
    (outs : List ℕ) (r : Slice) → IsHeld w → Stands w b s → SpellsNumber negative size (natural width bound named) s outs r
    → Reaches w r false b (λ g. Ok (made outs g)) (make_natural h width bound named negative size b)
natural_complete h width bound named true size b w s outs r held st e = let f = e.0 in cc
natural_complete h width bound named false size b w s outs r held st e =
    let p = bits_on h (spelled width size) (own named size) outs b w s r held st e.2 e.3 in
    (p.0, when_true (nat_lt size bound) _ _ (lt-ltb size bound e.1) ∙ p.1, p.2, p.3)

number_complete : (h : Spot) (x : Row) (negative : Bool) (size : ℕ) (b : Grown) (w s : Slice) (outs : List ℕ) (r : Slice)
    → IsHeld w → Stands w b s → SpellsNumber negative size x s outs r
    → Reaches w r false b (λ g. Ok (made outs g)) (make_number h x negative size b)
number_complete h (natural width bound named) negative size b w s outs r held st e =
    natural_complete h width bound named negative size b w s outs r held st e
number_complete h (integer width) negative size b w s outs r held st e =
    let p = bits_on h (signed_spelled width e.0) [] outs b w s r held st e.3 e.4 in
    (p.0, ap (λ o. make_integer h width o b) e.1 ∙ when_true (is_in_range width e.0) _ _ (in_range_on width e.0 e.2) ∙ p.1, p.2, p.3)
number_complete h (string width) negative size b w s outs r held st e = absurd e
number_complete h no_row negative size b w s outs r held st e = absurd e

string_complete : (h : Spot) (x : Row) (bits : List ℕ) (b : Grown) (w s : Slice) (outs : List ℕ) (r : Slice)
    → IsHeld w → Stands w b s → SpellsString bits x s outs r
    → Reaches w r false b (λ g. Ok (made outs g)) (make_string h x bits b)
string_complete h (string width) bits b w s outs r held st e =
    let p = bits_on h bits [] outs b w s r held st e.1 e.2 in
    (p.0, when_true (nat_eq (length bits) width) _ _ (eq-eqb (length bits) width e.0) ∙ p.1, p.2, p.3)
string_complete h (natural width bound named) bits b w s outs r held st e = absurd e
string_complete h (integer width) bits b w s outs r held st e = absurd e
string_complete h no_row bits b w s outs r held st e = absurd e

-- ---- references

-- the cell of a value that it holds is built
pub cell_complete : (most : ℕ) (mode : Mode) (schema : CoreSchema) (R : Maker) (v : Plain) → Done most mode schema R v
    → (h : Spot) (g : Goal) (q : ℕ) (c : Tree) → Proper g → q + parts v ≤ most → IsGood c
    → Holds mode (Spells mode schema v) g c
    → (x : Made) × (R h g q v empty ≡ Ok x) × (finished g x.1.held ≡ c)
cell_complete most mode schema R v done h at_cell q c proper le fine k =
    let p = done h at_cell q empty (only_ref c) (only_ref c) k.0 nothing proper le (k.1, tt) (record { at = record { bits = refl; refs = refl }; free = λ z. (cc) }) k.2 in
    (made k.0 p.0, p.1, ap (λ (z : Slice). first_of z.refs z) (then_all (only_ref c) p.0.held p.2.at))
cell_complete most mode schema R v done h (at_type t) q c proper le fine k =
    let G : Tree → Type 0 = IsGood in
    let held = good_held k.0 (subst G k.2 fine) in
    let p = done h (at_type t) q empty k.0 k.0 k.1 nothing proper le held (record { at = record { bits = refl; refs = refl }; free = λ z. (cc) }) k.3 in
    (made k.1 p.0, p.1, ap cell_of (then_all k.0 p.0.held p.2.at) ∙ sym k.2)
cell_complete most mode schema R v done h (at_field e t scope) q c proper le fine k =
    let G : Tree → Type 0 = IsGood in
    let held = good_held k.0 (subst G k.2 fine) in
    let p = done h (at_field e t scope) q empty k.0 k.0 k.1 nothing proper le held (record { at = record { bits = refl; refs = refl }; free = λ z. (cc) }) k.3 in
    (made k.1 p.0, p.1, ap cell_of (then_all k.0 p.0.held p.2.at) ∙ sym k.2)

child_complete : (most : ℕ) (mode : Mode) (schema : CoreSchema) (R : Maker) (v : Plain) → Done most mode schema R v
    → (h : Spot) (g : Goal) (q : ℕ) (b : Grown) (w s : Slice) (outs : List ℕ) (r : Slice) → Proper g → q + parts v ≤ most
    → IsHeld w → Stands w b s → SpellsChild (free tt) mode (Spells mode schema v) g s outs r
    → Reaches w r false b (λ x. Ok (made outs x)) (make_child R h g q v b)
child_complete most mode schema R v done h g q b w s outs r proper le held st e =
    let below = ref_below b w s r e.0 held st e.2.refs in
    let k = cell_complete most mode schema R v done h g q e.0 proper le below.0 e.3 in
    let p = alone_on h (only_ref e.0) (is_deep e.0) false b w s r outs held st e.1 e.2 (not_deep e.0 below.1) (no_end r) in (
      p.0,
      bind_on (R h g q v empty) _ k.0 (Ok (made outs p.0)) k.1 (ap (λ c. put_ref h c b) k.2 ∙ p.1),
      p.2,
      p.3,
    )

hidden_complete : (mode : Mode) (h : Spot) (x : Hidden) → IsHash x → (b : Grown) (w s : Slice) (outs : List ℕ) (r : Slice)
    → IsHeld w → Stands w b s → SpellsPruned mode x s outs r
    → Reaches w r false b (λ g. Ok (made outs g)) (make_hidden mode h x b)
hidden_complete Whole h x hash b w s outs r held st e = let f = e.3 in cc
hidden_complete Lax h x hash b w s outs r held st e = let f = e.3 in cc
hidden_complete Partial h x hash b w s outs r held st e =
    let below = ref_below b w s r e.0 held st e.2.refs in
    let k = hidden_is e.0 x hash below.0 e.3 in
    let T : Tree → Type 0 = λ c. Then s (only_ref c) r in
    let low = below.1 in
    let low_depth : x.depth < 1024 = let d = k.1 in omega (arith, d, low) in
    alone_on h (only_ref (pruned_of x.hash x.depth)) (nat_lt 1023 x.depth) false b w s r outs held st e.1 (subst T k.0 e.2) (le-ltb 1023 x.depth (omega (arith, low_depth))) (no_end r)

-- ---- lists and records

items_complete : (most : ℕ) (mode : Mode) (schema : CoreSchema) (R : Maker) (vs : Plains) → AllDone most mode schema R vs
    → (h : Spot) (n : ℕ) (t : Closed) (q : ℕ) (b : Grown) (w s r : Slice) → q + parts_in vs ≤ most → IsHeld w
    → Stands w b s → (e : Repeats (Each mode schema vs) n t s r)
    → (count vs ≡ n) × Reaches w r (ends_items mode schema vs n t s r e) b Ok (make_items R h t q vs b)
items_complete most mode schema R no_vals done h n t q b w s r le held st e =
    let S : Slice → Type 0 = λ z. Stands w b z in
    (sym e.0, (b, refl, subst S (sym e.1) st, or_false b.shut))
items_complete most mode schema R (a_val v vs) done h n t q b w s r le held st e =
    let one = done.0 h (at_type t) q b w s e.1 e.2 tt (omega (arith, le)) held st e.4 in
    let x = made e.1 one.0 in
    let moved : turn R h t q v b ≡ Ok x =
    bind_on (R h (at_type t) q v b) _ x (Ok x) one.1 (when_true (grew b one.0) _ _ (sym (took_same w s e.2 b one.0 st.at one.2.at) ∙ e.5)) in
    let more = items_complete most mode schema R vs done.1 h e.0 t (q + parts v) one.0 w e.2 r (omega (arith, le)) held one.2 e.6 in
    let n_is : suc e.0 ≡ n = let k = e.3 in omega (arith, k) in (
      ap suc more.0 ∙ n_is,
      (
        more.1.0,
        bind_on (turn R h t q v b) _ x (Ok more.1.0) moved more.1.1,
        more.1.2,
        more.1.3 ∙ ap (λ z. z || ends_items mode schema vs e.0 t e.2 r e.6) one.3 ∙ or_assoc b.shut (ends mode schema v (at_type t) s e.1 e.2 e.4) (ends_items mode schema vs e.0 t e.2 r e.6),
      ),
    )

-- as many values as fields
fields_count : (mode : Mode) (schema : CoreSchema) (is : Items) (vs : Plains) (scope : Scope) (s : Slice) (end : Scope)
    (r : Slice) → Fields is (Each mode schema vs) scope s end r → count vs ≡ length (field_names is)
fields_count mode schema no_items no_vals scope s end r f = refl
fields_count mode schema no_items (a_val v vs) scope s end r f = absurd f
fields_count mode schema (an_item (check a op c i) is) vs scope s end r f =
    fields_count mode schema is vs scope s end r f.5
fields_count mode schema (an_item (solve v a c i) is) vs scope s end r f =
    fields_count mode schema is vs (with_number v f.0 scope) s end r f.2
fields_count mode schema (an_item (field x slot c t) is) no_vals scope s end r f = absurd f
fields_count mode schema (an_item (field x slot c t) is) (a_val v vs) scope s end r f =
    ap suc (fields_count mode schema is vs (bind (sets slot t) f.0 scope) f.1 end r f.3)

pub check_ends : (mode : Mode) (schema : CoreSchema) (vs : Plains) (is : Items) (a b : _) (op : _) (i : ℕ) (scope : Scope)
    (s : Slice) (end : Scope) (r : Slice) (f : Fields (an_item (check a op b i) is) (Each mode schema vs) scope s end r)
    → ends_fields mode schema vs (an_item (check a op b i) is) scope s end r f
    ≡ ends_fields mode schema vs is scope s end r f.5
check_ends mode schema no_vals is a b op i scope s end r f = refl
check_ends mode schema (a_val v vs) is a b op i scope s end r f = refl

pub solve_ends : (mode : Mode) (schema : CoreSchema) (vs : Plains) (is : Items) (a b : _) (v i : ℕ) (scope : Scope)
    (s : Slice) (end : Scope) (r : Slice) (f : Fields (an_item (solve v a b i) is) (Each mode schema vs) scope s end r)
    → ends_fields mode schema vs (an_item (solve v a b i) is) scope s end r f
    ≡ ends_fields mode schema vs is (with_number v f.0 scope) s end r f.2
solve_ends mode schema no_vals is a b v i scope s end r f = refl
solve_ends mode schema (a_val x vs) is a b v i scope s end r f = refl

reached_as : {A : Type 0} (w r : Slice) (d e : Bool) (b : Grown) (answer : Grown → A) (got : A) → d ≡ e
    → Reaches w r e b answer got → Reaches w r d b answer got
reached_as w r d e b answer got same p = (p.0, p.1, p.2, p.3 ∙ ap (λ z. b.shut || z) (sym same))

abbrev pub ended : Scope → Grown → Scope × Grown
ended end g = (end, g)

fields_complete : (most : ℕ) (mode : Mode) (schema : CoreSchema) (R : Maker) (h : Spot) (is : Items) → Seeks is
    → (vs : Plains) → AllDone most mode schema R vs → (scope : Scope) (q : ℕ) (b : Grown) (w s : Slice) (end : Scope)
    (r : Slice) → q + parts_in vs ≤ most → IsHeld w → Stands w b s → (f : Fields is (Each mode schema vs) scope s end r)
    → Reaches w r (ends_fields mode schema vs is scope s end r f) b (λ g. Ok (ended end g)) (make_fields R h is scope q vs b)
fields_complete most mode schema R h no_items seeks no_vals done scope q b w s end r le held st f =
    let S : Slice → Type 0 = λ z. Stands w b z in
    (b, ap (λ z. Ok (ended z b)) (sym f.0), subst S (sym f.1) st, or_false b.shut)
fields_complete most mode schema R h no_items seeks (a_val v vs) done scope q b w s end r le held st f = absurd f
fields_complete most mode schema R h (an_item (check a op c i) is) seeks vs done scope q b w s end r le held st f =
    let x : Step = record { scope = scope; begun = q; due = vs; grown = b } in
    let one : step R h (check a op c i) scope q vs b ≡ Ok x =
    bind_on (known (item_of h i) (value_in a scope)) _ f.0 (Ok x) (known_on (item_of h i) (value_in a scope) f.0 f.2)
    (bind_on (known (item_of h i) (value_in c scope)) _ f.1 (Ok x) (known_on (item_of h i) (value_in c scope) f.1 f.3) (when_true (comparison op f.0 f.1) _ _ (compares_on op f.0 f.1 f.4))) in
    let k = fields_complete most mode schema R h is seeks vs done scope q b w s end r le held st f.5 in
    reached_as w r _ _ b (λ g. Ok (ended end g)) _ (check_ends mode schema vs is a c op i scope s end r f) (
      k.0,
      bind_on (step R h (check a op c i) scope q vs b) _ x (Ok (ended end k.0)) one k.1,
      k.2,
      k.3,
    )
fields_complete most mode schema R h (an_item (solve v a c i) is) seeks vs done scope q b w s end r le held st f =
    let x : Step = record { scope = with_number v f.0 scope; begun = q; due = vs; grown = b } in
    let one : step R h (solve v a c i) scope q vs b ≡ Ok x =
    bind_on (reported (item_of h i) (sought_number a c scope.numbers)) _ f.0 (Ok x) (reported_on (item_of h i) (sought_number a c scope.numbers) f.0 (sought_complete a c scope.numbers v f.0 seeks.0 f.1)) refl in
    let k = fields_complete most mode schema R h is seeks.1 vs done x.scope q b w s end r le held st f.2 in
    reached_as w r _ _ b (λ g. Ok (ended end g)) _ (solve_ends mode schema vs is a c v i scope s end r f) (
      k.0,
      bind_on (step R h (solve v a c i) scope q vs b) _ x (Ok (ended end k.0)) one k.1,
      k.2,
      k.3,
    )
fields_complete most mode schema R h (an_item (field y slot c t) is) seeks no_vals done scope q b w s end r le held st f = absurd f
fields_complete most mode schema R h (an_item (field y slot c t) is) seeks (a_val v vs) done scope q b w s end r le held st f =
    let g = at_field c t scope in
    let first_one = done.0 (field_of h y) g q b w s f.0 f.1 seeks.0 (omega (arith, le)) held st f.2 in
    let x : Step = record { scope = bind (sets slot t) f.0 scope; begun = q + parts v; due = vs; grown = first_one.0 } in
    let one : step R h (field y slot c t) scope q (a_val v vs) b ≡ Ok x =
    bind_on (R (field_of h y) g q v b) _ (made f.0 first_one.0) (Ok x) first_one.1 refl in
    let k = fields_complete most mode schema R h is seeks.1 vs done.1 x.scope (q + parts v) first_one.0 w f.1 end r (omega (arith, le)) held first_one.2 f.3 in (
      k.0,
      bind_on (step R h (field y slot c t) scope q (a_val v vs) b) _ x (Ok (ended end k.0)) one k.1,
      k.2,
      k.3 ∙ ap (λ z. z || ends_fields mode schema vs is x.scope f.1 end r f.3) first_one.3 ∙ or_assoc b.shut (ends mode schema v g s f.0 f.1 f.2) (ends_fields mode schema vs is x.scope f.1 end r f.3),
    )

-- the words of a record are those of the items
pub same_on : (xs : List Word) → same_words xs xs ≡ true
same_on [] = refl
same_on (x ∷ xs) = both_on (bytes_eq x x) (same_words xs xs) ((bytes_eq-Decides x x).1 refl) (same_on xs)

fields_on : (mode : Mode) (schema : CoreSchema) (is : Items) (names : List Word) (vs : Plains) (scope : Scope) (s : Slice)
    (end : Scope) (r : Slice) → names ≡ field_names is → Fields is (Each mode schema vs) scope s end r
    → has_fields names vs is ≡ true
fields_on mode schema is names vs scope s end r e f =
    both_on (same_words names (field_names is)) _ (ap (same_words names) (sym e) ∙ same_on names)
    (eq-eqb (count vs) (length names) (fields_count mode schema is vs scope s end r f ∙ ap length (sym e)))

-- ---- the constructor of a name

first_later : (c : Declaration) (o : Option Scope) (later : Option Choice) → o ≡ None → first c o later ≡ later
first_later c o later e = ap (λ z. first c z later) e

candidate_on : (type name : Word) (args : ClosedArgs) (c : Declaration) (scope : Scope) → c.of_type ≡ type
    → c.shown ≡ name → fit c.core args ≡ Some scope → candidate type name args c ≡ Some scope
candidate_on type name args c scope e f k =
    when_true (bytes_eq c.of_type type && bytes_eq c.shown name) _ _
    (both_on (bytes_eq c.of_type type) (bytes_eq c.shown name) ((bytes_eq-Decides c.of_type type).1 e) ((bytes_eq-Decides c.shown name).1 f)) ∙ k

-- a candidate is of the type and of the name
pub candidate_is : (type name : Word) (args : ClosedArgs) (c : Declaration) (scope : Scope)
    → candidate type name args c ≡ Some scope → (c.of_type ≡ type) × (c.shown ≡ name)
candidate_is type name args c scope e = go (bytes_eq c.of_type type) refl (bytes_eq c.shown name) refl e
  where
    go : (x : Bool) → bytes_eq c.of_type type ≡ x → (y : Bool) → bytes_eq c.shown name ≡ y
        → cond (x && y) (fit c.core args) None ≡ Some scope → (c.of_type ≡ type) × (c.shown ≡ name)
    go true f true k e = ((bytes_eq-Decides c.of_type type).0 f, (bytes_eq-Decides c.shown name).0 k)
    go true f false k e = cc
    go false f y k e = cc

-- the first one that is found is the one that stands there, since no other has its name
pub choose_on : (type name : Word) (args : ClosedArgs) (schema : CoreSchema)
    → ((i j : ℕ) (c e : Declaration) → slice_get schema i ≡ Some c → slice_get schema j ≡ Some e
    → c.of_type ≡ e.of_type → c.shown ≡ e.shown → i ≡ j)
    → (at : ℕ) (c : Declaration) (scope : Scope) → Meets schema type name args at c scope
    → choose schema type name args ≡ Some (c, scope)
choose_on type name args [] names at c scope m = let t = m.there in cc
choose_on type name args (d ∷ ds) names zero c scope m =
    let same : d ≡ c = let t = m.there in cc in
    ap (λ o. first d o (choose ds type name args)) (ap (candidate type name args) same ∙ candidate_on type name args c scope m.of_type m.shown (fit_complete c.core args scope m.fitting))
    ∙ ap (λ z. Some (z, scope)) same
choose_on type name args (d ∷ ds) names (suc at) c scope m =
    first_later d (candidate type name args d) (choose ds type name args) (none (candidate type name args d) refl)
    ∙ choose_on type name args ds (λ i j a b e f k l. suc_one i j (names (suc i) (suc j) a b e f k l)) at c scope (record { there = m.there; of_type = m.of_type; shown = m.shown; fitting = m.fitting })
  where
    suc_one : (i j : ℕ) → suc i ≡ suc j → i ≡ j
    suc_one i j e = omega (arith, e)

    none : (o : Option Scope) → candidate type name args d ≡ o → o ≡ None
    none None e = refl
    none (Some z) e =
        let k = candidate_is type name args d z e in
        let clash : zero ≡ suc at = names zero (suc at) d c refl m.there (k.0 ∙ sym m.of_type) (k.1 ∙ sym m.shown) in
        absurd (omega (arith, clash))

declared_complete : (most : ℕ) (mode : Mode) (schema : CoreSchema) → IsBuildable schema → (R : Maker) (name : Word)
    (names : List Word) (vs : Plains) → AllDone most mode schema R vs → (h : Spot) (type : Word) (args : ClosedArgs) (q : ℕ)
    (b : Grown) (w s : Slice) (outs : List ℕ) (r : Slice) → q + parts_in vs ≤ most → IsHeld w → Stands w b s
    → (e : SpellsDeclared schema name names (Each mode schema vs) (typed (closed.named type args)) s outs r)
    → Reaches w r (ends_fields mode schema vs e.1.core.items e.2 e.3 e.4 r e.8) b (λ g. Ok (made outs g)) (make_declared R h (choose schema type name args) q names vs b)
declared_complete most mode schema ok R name names vs done h type args q b w s outs r le held st e =
    let c = e.1 in
    let chosen = choose_on type name args schema ok.names e.0 c e.2 e.5 in
    let tag = put_on (tag_of (start c)) (only_bits c.core.tag) false false b w s e.3 held st e.7 refl (no_end e.3) in
    let k = fields_complete most mode schema R (start c) c.core.items (ok.acceptable.seeks e.0 c e.5.there) vs done e.2 q tag.0 w e.3 e.4 r le held tag.2 e.8 in
    let inside : make_inside R c e.2 q vs b ≡ Ok (made outs k.0) =
    bind_on (put (tag_of (start c)) (only_bits c.core.tag) false false b) _ tag.0 (Ok (made outs k.0)) tag.1
    (bind_on (make_fields R (start c) c.core.items e.2 q vs tag.0) _ (ended e.4 k.0) (Ok (made outs k.0)) k.1
    (bind_on (known (result_of (start c)) (values_in c.core.outputs e.4)) _ outs (Ok (made outs k.0)) (known_on (result_of (start c)) (values_in c.core.outputs e.4) outs e.9) refl)) in (
      k.0,
      ap (λ o. make_declared R h o q names vs b) chosen ∙ when_true (has_fields names vs c.core.items) _ _ (fields_on mode schema c.core.items names vs e.2 e.3 e.4 r e.6 e.8) ∙ inside,
      k.2,
      k.3 ∙ ap (λ z. z || ends_fields mode schema vs c.core.items e.2 e.3 e.4 r e.8) (tag.3 ∙ sym (or_false b.shut)),
    )

inner_complete : (most : ℕ) (mode : Mode) (schema : CoreSchema) (R : Maker) (names : List Word) (vs : Plains)
    → AllDone most mode schema R vs → (h : Spot) (is : Items) → Seeks is → (scope : Scope) (q : ℕ) (b : Grown) (w s : Slice)
    (outs : List ℕ) (r : Slice) → q + parts_in vs ≤ most → IsHeld w → Stands w b s
    → (e : SpellsInner names (Each mode schema vs) (fields_here is scope) s outs r)
    → Reaches w r (ends_fields mode schema vs is scope s e.2 r e.3) b (λ g. Ok (made outs g)) (make_inner R h is scope q names vs b)
inner_complete most mode schema R names vs done h is seeks scope q b w s outs r le held st e =
    let k = fields_complete most mode schema R h is seeks vs done scope q b w s e.2 r le held st e.3 in (
      k.0,
      when_true (has_fields names vs is) _ _ (fields_on mode schema is names vs scope s e.2 r e.1 e.3) ∙ bind_on (make_fields R h is scope q vs b) _ (ended e.2 k.0) (Ok (made outs k.0)) k.1 (ap (λ o. Ok (made o k.0)) (sym e.0)),
      k.2,
      k.3,
    )

-- ---- values at a shape

pub ref_complete : (most : ℕ) (mode : Mode) (schema : CoreSchema) (R : Maker) (v : Plain) → Done most mode schema R v
    → (h : Spot) (c : Shape) (q : ℕ) (b : Grown) (w s : Slice) (outs : List ℕ) (r : Slice) → ProperShape c
    → q + parts v ≤ most → Holding mode c w → Stands w b s → SpellsRef (free tt) mode (Spells mode schema v) c s outs r
    → Reaches w r false b (λ g. Ok (made outs g)) (ref_at R h c q v b)
ref_complete most mode schema R v done h (typed (closed.ref t)) q b w s outs r proper le held st e =
    child_complete most mode schema R v done h (under_ref t) q b w s outs r (proper_under t) le held st e
ref_complete most mode schema R v done h (fields_under is scope) q b w s outs r proper le held st e =
    child_complete most mode schema R v done h (at_fields is scope) q b w s outs r proper le held st e
ref_complete most mode schema R v done h _ q b w s outs r proper le held st e = absurd e

pub unknown_complete : (mode : Mode) (h : Spot) (c : Shape) (x : Hidden) → IsHash x → (b : Grown) (w s : Slice)
    (outs : List ℕ) (r : Slice) → Holding mode c w → Stands w b s → SpellsUnknown mode x c s outs r
    → Reaches w r false b (λ g. Ok (made outs g)) (unknown_at mode h c x b)
unknown_complete mode h (typed (closed.ref t)) x hash b w s outs r held st e =
    hidden_complete mode h x hash b w s outs r held st e
unknown_complete mode h (fields_under is scope) x hash b w s outs r held st e =
    hidden_complete mode h x hash b w s outs r held st e
unknown_complete mode h _ x hash b w s outs r held st e = absurd e

pub number_at_on : (mode : Mode) (h : Spot) (c : Shape) (negative : Bool) (size : ℕ) (b : Grown) (w s : Slice) (outs : List ℕ) (r : Slice)
    → Holding mode c w → Stands w b s → AtRow (SpellsNumber negative size) c s outs r
    → Reaches w r false b (λ g. Ok (made outs g)) (number_at h c negative size b)
number_at_on mode h (typed t) negative size b w s outs r held st e = number_complete h (row t) negative size b w s outs r held st e
number_at_on mode h _ negative size b w s outs r held st e = absurd e

pub string_at_on : (mode : Mode) (h : Spot) (c : Shape) (bits : List ℕ) (b : Grown) (w s : Slice) (outs : List ℕ) (r : Slice) → Holding mode c w
    → Stands w b s → AtRow (SpellsString bits) c s outs r
    → Reaches w r false b (λ g. Ok (made outs g)) (string_at h c bits b)
string_at_on mode h (typed t) bits b w s outs r held st e = string_complete h (row t) bits b w s outs r held st e
string_at_on mode h _ bits b w s outs r held st e = absurd e

pub absent_at_on : (h : Spot) (c : Shape) (b : Grown) (w s : Slice) (outs : List ℕ) (r : Slice) → Stands w b s
    → SpellsAbsent c s outs r → Reaches w r false b (λ g. Ok (made outs g)) (absent_at h c b)
absent_at_on h left_out b w s outs r st e =
    let S : Slice → Type 0 = λ z. Stands w b z in
    (b, ap (λ z. Ok (made z b)) (sym e.0), subst S (sym e.1) st, or_false b.shut)
absent_at_on h _ b w s outs r st e = absurd e

none_at : (mode : Mode) (xs : List Tree) (d : Tree) (zs : List Tree) → AreSeen mode (xs ++ d ∷ zs) → unseen mode d ≡ None
none_at mode [] d zs n = n.0
none_at mode (x ∷ xs) d zs n = none_at mode xs d zs n.1

pub raw_at_on : (mode : Mode) (h : Spot) (c : Shape) (d : Tree) (b : Grown) (w s : Slice) (outs : List ℕ) (r : Slice)
    → Holding mode c w → Stands w b s → SpellsRaw d c s outs r
    → Reaches w r false b (λ g. Ok (made outs g)) (raw_at mode h c d b)
raw_at_on mode h as_cell d b w s outs r held st e =
    let g : Grown = record { held = join b.held (only_ref d); shut = b.shut } in
    let N : List Tree → Type 0 = AreSeen mode in
    let seen : unseen mode d ≡ None = none_at mode b.held.refs d r.refs (subst N (st.at.refs ∙ ap (λ z. b.held.refs ++ z) e.1.refs) held) in (
      g,
      ap (λ o. make_cell h o d b) seen ∙ ap (λ z. Ok (made z g)) (sym e.0),
      record { at = join_then w b.held s (only_ref d) r st.at e.1; free = λ z. absurd (filled s.refs e.1.refs (ap (λ (y : Slice). y.refs) (st.free z))) },
      or_false b.shut,
    )
  where
    filled : (ts : List Tree) → ts ≡ d ∷ r.refs → ts ≡ [] → ⊥
    filled ts e f = let k : d ∷ r.refs ≡ [] = sym e ∙ f in cc
raw_at_on mode h _ d b w s outs r held st e = absurd e

pub rest_at_on : (mode : Mode) (h : Spot) (c : Shape) (x : values.Slice) (b : Grown) (w s : Slice) (outs : List ℕ) (r : Slice)
    → Holding mode c w → Stands w b s → SpellsRest x c s outs r
    → Reaches w r true b (λ g. Ok (made outs g)) (rest_at h c x b)
rest_at_on mode h (typed closed.whole) x b w s outs r held st e =
    let y : Slice = record { bits = x.bits; refs = x.refs } in
    let same : y ≡ s = λ i. record { bits = (e.1 i).bits; refs = (e.1 i).refs } in
    let T : Slice → Type 0 = λ z. Then s z r in
    let N : Slice → Type 0 = λ z. Then s s z in
    let there : Then s y r = subst T (sym same) (subst N (sym e.2) (then_whole s)) in
    let B : List Tree → Type 0 = AreBelow in
    let refs : w.refs ≡ b.held.refs ++ (y.refs ++ r.refs) = st.at.refs ∙ ap (λ z. b.held.refs ++ z) there.refs in
    alone_on h y (some_deep x.refs) true b w s r outs held st e.0 there (none_deep b.held.refs y.refs r.refs (subst B refs held.within.below)) (λ _. e.2)
rest_at_on mode h _ x b w s outs r held st e = absurd e

pub record_at_on : (most : ℕ) (mode : Mode) (schema : CoreSchema) → IsBuildable schema → (R : Maker) (name : Word)
    (names : List Word) (vs : Plains) → AllDone most mode schema R vs → (h : Spot) (c : Shape) (q : ℕ) (b : Grown) (w s : Slice)
    (outs : List ℕ) (r : Slice) → q + parts_in vs ≤ most → Holding mode c w → Stands w b s
    → (e : SpellsShape mode schema (record_of (Some name) names vs) c s outs r)
    → Reaches w r (ends_shape mode schema (record_of (Some name) names vs) c s outs r e) b (λ g. Ok (made outs g)) (record_at schema R h c q (Some name) names vs b)
record_at_on most mode schema ok R name names vs done h (typed (closed.named type args)) q b w s outs r le held st e =
    declared_complete most mode schema ok R name names vs done h type args q b w s outs r le held st e
record_at_on most mode schema ok R name names vs done h _ q b w s outs r le held st e = absurd e

pub inner_at_on : (most : ℕ) (mode : Mode) (schema : CoreSchema) (R : Maker) (names : List Word) (vs : Plains)
    → AllDone most mode schema R vs → (h : Spot) (c : Shape) (q : ℕ) (b : Grown) (w s : Slice) (outs : List ℕ) (r : Slice)
    → ProperShape c → q + parts_in vs ≤ most → Holding mode c w → Stands w b s
    → (e : SpellsShape mode schema (record_of None names vs) c s outs r)
    → Reaches w r (ends_shape mode schema (record_of None names vs) c s outs r e) b (λ g. Ok (made outs g)) (record_at schema R h c q None names vs b)
inner_at_on most mode schema R names vs done h (fields_here is scope) q b w s outs r proper le held st e =
    inner_complete most mode schema R names vs done h is proper scope q b w s outs r le held st e
inner_at_on most mode schema R names vs done h _ q b w s outs r proper le held st e = absurd e

pub list_at_on : (most : ℕ) (mode : Mode) (schema : CoreSchema) (R : Maker) (vs : Plains) → AllDone most mode schema R vs
    → (h : Spot) (c : Shape) (q : ℕ) (b : Grown) (w s : Slice) (outs : List ℕ) (r : Slice) → q + parts_in vs ≤ most
    → Holding mode c w → Stands w b s → (e : SpellsShape mode schema (list_of vs) c s outs r)
    → Reaches w r (ends_shape mode schema (list_of vs) c s outs r e) b (λ g. Ok (made outs g)) (list_at R h c q vs b)
list_at_on most mode schema R vs done h (typed (closed.repeat n t)) q b w s outs r le held st e =
    let k = items_complete most mode schema R vs done h n t q b w s r le held st e.1 in (
      k.1.0,
      when_true (nat_eq (count vs) n) _ _ (eq-eqb (count vs) n k.0) ∙ bind_on (make_items R h t q vs b) _ k.1.0 (Ok (made outs k.1.0)) k.1.1 (ap (λ o. Ok (made o k.1.0)) (sym e.0)),
      k.1.2,
      k.1.3,
    )
list_at_on most mode schema R vs done h _ q b w s outs r le held st e = absurd e

as_outs : {A : Type 0} (w r : Slice) (e : Bool) (b : Grown) (outs : List ℕ) (got : A) (answer : List ℕ → Grown → A)
    → outs ≡ [] → Reaches w r e b (answer []) got → Reaches w r e b (answer outs) got
as_outs w r e b outs got answer same p = (p.0, p.1 ∙ ap (λ o. answer o p.0) (sym same), p.2, p.3)

pub map_at_on : (most : ℕ) (mode : Mode) → forms_of mode ≡ Required → (schema : CoreSchema) (R : Maker) (ps : PlainPairs)
    (us : List (List ℕ × Hidden)) → AreHashes us → ByDone most mode schema R ps → (h : Spot) (c : Shape) (q : ℕ) (b : Grown)
    (w s : Slice) (outs : List ℕ) (r : Slice) → q + parts_by ps ≤ most → Holding mode c w → Stands w b s
    → (e : SpellsShape mode schema (map_of tt ps us) c s outs r)
    → Reaches w r (ends_shape mode schema (map_of tt ps us) c s outs r e) b (λ g. Ok (made outs g)) (map_at mode R h c q ps us b)
map_at_on most mode req schema R ps us hashes done h (typed (closed.dict n t)) q b w s outs r le held st (o, d, u) =
    as_outs w r _ b outs _ (λ z g. Ok (made z g)) o (dict_complete most mode req schema R ps us hashes done h n t q b w s r outs le held st o d)
map_at_on most mode req schema R ps us hashes done h (typed (closed.dict_e n t)) q b w s outs r le held st e =
    as_outs w r _ b outs _ (λ z g. Ok (made z g)) e.0 (reached_as w r _ false b (λ g. Ok (made [] g)) _ (root_ends ps us e) (dict_e_complete most mode req schema R ps us hashes done h n t q b w s r le held st e.1))
  where
    root_ends : (ps : PlainPairs) (us : List (List ℕ × Hidden)) → (e : SpellsShape mode schema (map_of tt ps us) (typed (closed.dict_e n t)) s outs r)
        → ends_shape mode schema (map_of tt ps us) (typed (closed.dict_e n t)) s outs r e ≡ false
    root_ends no_pairs us e = refl
    root_ends (a_pair k v no_pairs) [] e = refl
    root_ends (a_pair k v no_pairs) (u ∷ us) e = refl
    root_ends (a_pair k v (a_pair k2 v2 ps)) us e = refl
map_at_on most mode req schema R ps us hashes done h _ q b w s outs r le held st e = absurd e

-- a goal is closed, and then built at its shape
pub begin_on : (n most : ℕ) (mode : Mode) (schema : CoreSchema) (h : Spot) (g : Goal) (q : ℕ) (v : Plain) (b : Grown)
    (w r : Slice) (e : Bool) (outs : List ℕ) (c : Shape) → q < most → shape_of g ≡ Ok c
    → Reaches w r e b (λ x. Ok (made outs x)) (make_shape mode schema (making n most mode schema) h c (q + 1) v b)
    → Reaches w r e b (λ x. Ok (made outs x)) (making (suc n) most mode schema h g q v b)
unfolding making
begin_on n most mode schema h g q v b w r e outs c lt same p = (
  p.0,
  when_true (nat_lt q most) _ _ (lt-ltb q most lt) ∙ bind_on (reported h (shape_of g)) _ c (Ok (made outs p.0)) (reported_on h (shape_of g) c same) p.1,
  p.2,
  p.3,
)
