-- What is built has no more levels than are left, and no more parts than may begin.
use Rattle.std.proofs.Common.{◌≡◌, ◌≤◌, ℕ, zero, suc, ◌+◌, false, nat_lt, nat_eq, List, Option, Some, None, Result, Ok, sym, subst, arith}
use Rattle.std.proofs.lemmas.Bool.{ltb-true}
use Rattle.cell_nodes.specs.declared.tree.Mode.{Mode}
use Rattle.typed_value.specs.Values.{Plain, Plains, PlainPairs, number, bit_string, record_of, absent, list_of, ref_to, unknown, map_of, raw, rest, no_vals, a_val, no_pairs, a_pair, levels, levels_in, levels_by, parts, parts_in, parts_by}
use Rattle.core_form.specs.Core.{Word, Items, no_items, an_item, check, solve, field, sets, CoreSchema}
use Rattle.core_form.specs.Closed.{Closed}
use Rattle.core_form.specs.Closed as closed
use Rattle.core_form.specs.Scope.{Scope, value_in, with_number, bind}
use Rattle.nat_solver.specs.Number.{comparison}
use Rattle.spelling.specs.Goals.{Goal, at_type, at_field, Shape, typed, fields_here, fields_under, at_fields, under_ref, shape_of}
use Rattle.spelling.specs.Places.{Spot, Place, start, item_of, field_of, tag_of}
use Rattle.spelling.specs.PlainReader.{known, reported, sought_number, Choice}
use Rattle.spelling.specs.Slices.{only_bits}
use Rattle.spelling_laws.specs.StepLaws.{bind_ok, only_ok}
use Rattle.building.specs.Growing.{Grown, empty}
use Rattle.building.specs.MapTests.{outline, fits_edge, fits_root}
use Rattle.building.specs.PlainBuilder.{Made, Maker, put, Leaves, make_leaves, turn, make_items, count, Step, step, make_fields, has_fields, choose, make_inside, make_declared, record_at, list_at, ref_at, map_at, make_shape, make_goal, making}

abbrev pub Fits : ℕ → ℕ → ℕ → Plain → Type 0
Fits n most q v = (levels v ≤ n) × (q + parts v ≤ most)

abbrev pub Counts : ℕ → ℕ → Maker → Plain → Type 0
Counts n most R v = (h : Spot) (g : Goal) (q : ℕ) (b : Grown) (x : Made) → R h g q v b ≡ Ok x → Fits n most q v

abbrev pub AllCount : ℕ → ℕ → Maker → Plains → Type 0
AllCount n most R no_vals = Unit {0}
AllCount n most R (a_val v vs) = Counts n most R v × AllCount n most R vs

abbrev pub ByCount : ℕ → ℕ → Maker → PlainPairs → Type 0
ByCount n most R no_pairs = Unit {0}
ByCount n most R (a_pair k v ps) = Counts n most R v × ByCount n most R ps

abbrev AllFit : ℕ → ℕ → ℕ → Plains → Type 0
AllFit n most q vs = (levels_in vs ≤ n) × (q + parts_in vs ≤ most)

one_more : (n most q : ℕ) (v : Plain) (vs : Plains) → Fits n most q v → AllFit n most (q + parts v) vs
    → AllFit n most q (a_val v vs)
one_more n most q v vs f k =
    let a = f.0 in let b = k.0 in let c = k.1 in (omega (arith, a, b), omega (arith, c))

items_fit : (n most : ℕ) (R : Maker) (vs : Plains) → AllCount n most R vs → (h : Spot) (t : Closed) (q : ℕ) (b x : Grown)
    → q ≤ most → make_items R h t q vs b ≡ Ok x → AllFit n most q vs
items_fit n most R no_vals counts h t q b x le e = (omega arith, omega arith)
items_fit n most R (a_val v vs) counts h t q b x le e =
    let k = bind_ok (turn R h t q v b) _ x e in
    let m = bind_ok (R h (at_type t) q v b) _ k.0 k.1 in
    let one = counts.0 h (at_type t) q b m.0 m.1 in
    one_more n most q v vs one (items_fit n most R vs counts.1 h t (q + parts v) k.0.1 x one.1 k.2)

step_one : (a c : Step) → (◌≡◌ {A = Result Step Place} (Ok a) (Ok c)) → a ≡ c
step_one a c e = cc

fields_fit : (n most : ℕ) (R : Maker) (h : Spot) (is : Items) (vs : Plains) → AllCount n most R vs → (scope : Scope)
    (q : ℕ) (b : Grown) (x : Scope × Grown) → q ≤ most → make_fields R h is scope q vs b ≡ Ok x → AllFit n most q vs
fields_fit n most R h no_items no_vals counts scope q b x le e = (omega arith, omega arith)
fields_fit n most R h no_items (a_val v vs) counts scope q b x le e = cc
fields_fit n most R h (an_item (check a op c i) is) vs counts scope q b x le e =
    let k = bind_ok (step R h (check a op c i) scope q vs b) _ x e in
    let m = bind_ok (known (item_of h i) (value_in a scope)) _ k.0 k.1 in
    let l = bind_ok (known (item_of h i) (value_in c scope)) _ k.0 m.2 in
    let same = step_one _ k.0 (only_ok (comparison op m.0 l.0) _ _ k.0 l.2).1 in
    let M : Step → Type 0 = λ z. make_fields R h is z.scope z.begun z.due z.grown ≡ Ok x in
    fields_fit n most R h is vs counts scope q b x le (subst M (sym same) k.2)
fields_fit n most R h (an_item (solve v a c i) is) vs counts scope q b x le e =
    let k = bind_ok (step R h (solve v a c i) scope q vs b) _ x e in
    let m = bind_ok (reported (item_of h i) (sought_number a c scope.numbers)) _ k.0 k.1 in
    let same = step_one _ k.0 m.2 in
    let M : Step → Type 0 = λ z. make_fields R h is z.scope z.begun z.due z.grown ≡ Ok x in
    fields_fit n most R h is vs counts (with_number v m.0 scope) q b x le (subst M (sym same) k.2)
fields_fit n most R h (an_item (field y slot c t) is) no_vals counts scope q b x le e = cc
fields_fit n most R h (an_item (field y slot c t) is) (a_val v vs) counts scope q b x le e =
    let g = at_field c t scope in
    let k = bind_ok (step R h (field y slot c t) scope q (a_val v vs) b) _ x e in
    let m = bind_ok (R (field_of h y) g q v b) _ k.0 k.1 in
    let same = step_one _ k.0 m.2 in
    let M : Step → Type 0 = λ z. make_fields R h is z.scope z.begun z.due z.grown ≡ Ok x in
    let one = counts.0 (field_of h y) g q b m.0 m.1 in
    one_more n most q v vs one (fields_fit n most R h is vs counts.1 (bind (sets slot t) m.0.0 scope) (q + parts v) m.0.1 x one.1 (subst M (sym same) k.2))

leaves_fit : (n most : ℕ) (R : Maker) (ps : PlainPairs) → ByCount n most R ps → (h : Spot) (t : Closed) (q : ℕ)
    (xs : Leaves) → q ≤ most → make_leaves R h t q ps ≡ Ok xs → (levels_by ps ≤ n) × (q + parts_by ps ≤ most)
leaves_fit n most R no_pairs counts h t q xs le e = (omega arith, omega arith)
leaves_fit n most R (a_pair k v ps) counts h t q xs le e =
    let m = bind_ok (R h (at_type t) q v empty) _ xs e in
    let l = bind_ok (make_leaves R h t (q + parts v) ps) _ xs m.2 in
    let one = counts.0 h (at_type t) q empty m.0 m.1 in
    let rest_fit = leaves_fit n most R ps counts.1 h t (q + parts v) l.0 one.1 l.1 in
    let a = one.0 in let b = rest_fit.0 in let c = rest_fit.1 in (omega (arith, a, b), omega (arith, c))

-- ---- by shape

declared_fit : (n most : ℕ) (R : Maker) (vs : Plains) → AllCount n most R vs → (h : Spot) (o : Option Choice) (q : ℕ)
    (names : List Word) (b : Grown) (x : Made) → q ≤ most → make_declared R h o q names vs b ≡ Ok x → AllFit n most q vs
declared_fit n most R vs counts h None q names b x le e = cc
declared_fit n most R vs counts h (Some (c, scope)) q names b x le e =
    let k = only_ok (has_fields names vs c.core.items) _ (make_inside R c scope q vs b) x e in
    let g = bind_ok (put (tag_of (start c)) (only_bits c.core.tag) false false b) _ x k.1 in
    let m = bind_ok (make_fields R (start c) c.core.items scope q vs g.0) _ x g.2 in
    fields_fit n most R (start c) c.core.items vs counts scope q g.0 m.0 le m.1

named_fit : (n most : ℕ) (schema : CoreSchema) (R : Maker) (vs : Plains) → AllCount n most R vs → (h : Spot) (c : Shape)
    (q : ℕ) (name : Word) (names : List Word) (b : Grown) (x : Made) → q ≤ most
    → record_at schema R h c q (Some name) names vs b ≡ Ok x → AllFit n most q vs
named_fit n most schema R vs counts h (typed (closed.named type args)) q name names b x le e =
    declared_fit n most R vs counts h (choose schema type name args) q names b x le e
named_fit n most schema R vs counts h _ q name names b x le e = cc

inner_fit : (n most : ℕ) (schema : CoreSchema) (R : Maker) (vs : Plains) → AllCount n most R vs → (h : Spot) (c : Shape)
    (q : ℕ) (names : List Word) (b : Grown) (x : Made) → q ≤ most → record_at schema R h c q None names vs b ≡ Ok x
    → AllFit n most q vs
inner_fit n most schema R vs counts h (fields_here is scope) q names b x le e =
    let k = only_ok (has_fields names vs is) _ _ x e in
    let m = bind_ok (make_fields R h is scope q vs b) _ x k.1 in
    fields_fit n most R h is vs counts scope q b m.0 le m.1
inner_fit n most schema R vs counts h (typed (closed.named type args)) q names b x le e = cc
inner_fit n most schema R vs counts h _ q names b x le e = cc

list_fit : (n most : ℕ) (R : Maker) (vs : Plains) → AllCount n most R vs → (h : Spot) (c : Shape) (q : ℕ) (b : Grown)
    (x : Made) → q ≤ most → list_at R h c q vs b ≡ Ok x → AllFit n most q vs
list_fit n most R vs counts h (typed (closed.repeat k t)) q b x le e =
    let l = only_ok (nat_eq (count vs) k) _ _ x e in
    let m = bind_ok (make_items R h t q vs b) _ x l.1 in
    items_fit n most R vs counts h t q b m.0 le m.1
list_fit n most R vs counts h _ q b x le e = cc

ref_fit : (n most : ℕ) (R : Maker) (v : Plain) → Counts n most R v → (h : Spot) (c : Shape) (q : ℕ) (b : Grown)
    (x : Made) → ref_at R h c q v b ≡ Ok x → Fits n most q v
ref_fit n most R v counts h (typed (closed.ref t)) q b x e =
    let m = bind_ok (R h (under_ref t) q v empty) _ x e in counts h (under_ref t) q empty m.0 m.1
ref_fit n most R v counts h (fields_under is scope) q b x e =
    let m = bind_ok (R h (at_fields is scope) q v empty) _ x e in counts h (at_fields is scope) q empty m.0 m.1
ref_fit n most R v counts h _ q b x e = cc

map_fit : (n most : ℕ) (mode : Mode) (R : Maker) (ps : PlainPairs) (us : _) → ByCount n most R ps → (h : Spot) (c : Shape)
    (q : ℕ) (b : Grown) (x : Made) → q ≤ most → map_at mode R h c q ps us b ≡ Ok x
    → (levels_by ps ≤ n) × (q + parts_by ps ≤ most)
map_fit n most mode R ps us counts h (typed (closed.dict k t)) q b x le e =
    let g = only_ok (fits_edge mode k (outline ps us)) _ _ x e in
    let m = bind_ok (make_leaves R h t q ps) _ x g.1 in leaves_fit n most R ps counts h t q m.0 le m.1
map_fit n most mode R ps us counts h (typed (closed.dict_e k t)) q b x le e =
    let g = only_ok (fits_root mode k (outline ps us)) _ _ x e in
    let m = bind_ok (make_leaves R h t q ps) _ x g.1 in leaves_fit n most R ps counts h t q m.0 le m.1
map_fit n most mode R ps us counts h _ q b x le e = cc

-- a value begins where a part may begin
begins_fit : (n most : ℕ) (mode : Mode) (schema : CoreSchema) (v : Plain)
    → ((h : Spot) (c : Shape) (q : ℕ) (b : Grown) (x : Made) → q + 1 ≤ most
    → make_shape mode schema (making n most mode schema) h c (q + 1) v b ≡ Ok x → Fits (suc n) most q v)
    → Counts (suc n) most (making (suc n) most mode schema) v
unfolding making
begins_fit n most mode schema v at h g q b x e =
    let k = only_ok (nat_lt q most) _ (make_goal mode schema (making n most mode schema) h g (q + 1) v b) x e in
    let m = bind_ok (reported h (shape_of g)) _ x k.1 in
    let lt = ltb-true q most k.0 in
    at h m.0 q b x (omega (arith, lt)) m.2

never_fit : (most : ℕ) (mode : Mode) (schema : CoreSchema) (v : Plain) → Counts 0 most (making 0 most mode schema) v
unfolding making
never_fit most mode schema v h g q b x e = cc

within : (n most q l p : ℕ) → (l ≤ n) × (q + 1 + p ≤ most) → (1 + l ≤ suc n) × (q + (1 + p) ≤ most)
within n most q l p f = let a = f.0 in let b = f.1 in (omega (arith, a), omega (arith, b))

mutual
  pub counted : (mode : Mode) (schema : CoreSchema) (v : Plain) (n most : ℕ)
      → Counts n most (making n most mode schema) v
  counted mode schema (number negative size) zero most = never_fit most mode schema (number negative size)
  counted mode schema (number negative size) (suc n) most = begins_fit n most mode schema (number negative size) (λ h c q b x le e. (omega arith, omega (arith, le)))
  counted mode schema (bit_string bits) zero most = never_fit most mode schema (bit_string bits)
  counted mode schema (bit_string bits) (suc n) most = begins_fit n most mode schema (bit_string bits) (λ h c q b x le e. (omega arith, omega (arith, le)))
  counted mode schema (record_of (Some name) names vs) zero most = never_fit most mode schema (record_of (Some name) names vs)
  counted mode schema (record_of (Some name) names vs) (suc n) most = begins_fit n most mode schema (record_of (Some name) names vs) (λ h c q b x le e. within n most q (levels_in vs) (parts_in vs) (named_fit n most schema (making n most mode schema) vs (counted_all mode schema vs n most) h c (q + 1) name names b x le e))
  counted mode schema (record_of None names vs) zero most = never_fit most mode schema (record_of None names vs)
  counted mode schema (record_of None names vs) (suc n) most = begins_fit n most mode schema (record_of None names vs) (λ h c q b x le e. within n most q (levels_in vs) (parts_in vs) (inner_fit n most schema (making n most mode schema) vs (counted_all mode schema vs n most) h c (q + 1) names b x le e))
  counted mode schema (absent) zero most = never_fit most mode schema (absent)
  counted mode schema (absent) (suc n) most = begins_fit n most mode schema (absent) (λ h c q b x le e. (omega arith, omega (arith, le)))
  counted mode schema (list_of vs) zero most = never_fit most mode schema (list_of vs)
  counted mode schema (list_of vs) (suc n) most = begins_fit n most mode schema (list_of vs) (λ h c q b x le e. within n most q (levels_in vs) (parts_in vs) (list_fit n most (making n most mode schema) vs (counted_all mode schema vs n most) h c (q + 1) b x le e))
  counted mode schema (ref_to a v) zero most = never_fit most mode schema (ref_to a v)
  counted mode schema (ref_to a v) (suc n) most = begins_fit n most mode schema (ref_to a v) (λ h c q b x le e. within n most q (levels v) (parts v) (ref_fit n most (making n most mode schema) v (counted mode schema v n most) h c (q + 1) b x e))
  counted mode schema (unknown y) zero most = never_fit most mode schema (unknown y)
  counted mode schema (unknown y) (suc n) most = begins_fit n most mode schema (unknown y) (λ h c q b x le e. (omega arith, omega (arith, le)))
  counted mode schema (map_of a ps us) zero most = never_fit most mode schema (map_of a ps us)
  counted mode schema (map_of a ps us) (suc n) most = begins_fit n most mode schema (map_of a ps us) (λ h c q b x le e. within n most q (levels_by ps) (parts_by ps) (map_fit n most mode (making n most mode schema) ps us (counted_by mode schema ps n most) h c (q + 1) b x le e))
  counted mode schema (raw d) zero most = never_fit most mode schema (raw d)
  counted mode schema (raw d) (suc n) most = begins_fit n most mode schema (raw d) (λ h c q b x le e. (omega arith, omega (arith, le)))
  counted mode schema (rest y) zero most = never_fit most mode schema (rest y)
  counted mode schema (rest y) (suc n) most = begins_fit n most mode schema (rest y) (λ h c q b x le e. (omega arith, omega (arith, le)))

  pub counted_all : (mode : Mode) (schema : CoreSchema) (vs : Plains) (n most : ℕ)
      → AllCount n most (making n most mode schema) vs
  counted_all mode schema no_vals n most = tt
  counted_all mode schema (a_val v vs) n most = (counted mode schema v n most, counted_all mode schema vs n most)

  pub counted_by : (mode : Mode) (schema : CoreSchema) (ps : PlainPairs) (n most : ℕ)
      → ByCount n most (making n most mode schema) ps
  counted_by mode schema no_pairs n most = tt
  counted_by mode schema (a_pair k v ps) n most = (counted mode schema v n most, counted_by mode schema ps n most)
