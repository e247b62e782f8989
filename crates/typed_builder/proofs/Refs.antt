-- A reference, and the cell that it leads to.
use Rattle.std.proofs.Common.{◌≡◌, ℕ, Bool, true, false, [], Result, Ok, Err, refl, ap, sym, ◌∙◌}
use Rattle.cell_nodes.specs.declared.tree.Mode.{Mode}
use Rattle.cell_nodes.specs.declared.tree.Tree.{Tree}
use Rattle.core_form.specs.Closed.{Closed}
use Rattle.core_form.specs.Closed as closed
use Rattle.core_form.specs.Core.{CoreSchema, Items}
use Rattle.core_form.specs.Scope.{Scope}
use Rattle.hashmap_tree.specs.Entries.{cell_of}
use Rattle.plan_reading.specs.StopLaws.{stops_then}
use Rattle.plan_reading.specs.Stops.{Gives, Stops}
use Rattle.plan_reading.specs.declared.stop.StopError.{StopError}
use Rattle.spelling.specs.Goals.{Goal, as_cell, at_cell, at_fields, at_type, fields_here, fields_under, under_ref}
use Rattle.spelling.specs.Places.{Place, Spot}
use Rattle.spelling.specs.PlainReader.{◌>>=◌}
use Rattle.spelling.specs.Slices.{only_ref}
use Rattle.typed_value.specs.Values.{Plain, most_parts, ref_to}
use Rattle.building.specs.Growing.{Grown, empty, is_deep}
use Rattle.building.specs.PlainBuilder.{Made, Maker, finished, make_child, make_shape, making, put}
use Rattle.plan_building.specs.Begun.{starting}
use Rattle.typed_builder.specs.View.{built_cell, cell_of_shape, is_whole}
use Rattle.typed_builder.proofs.Levels.{begin_stops, making_begins, making_shaped, within}
use Rattle.typed_builder.proofs.Steps.{bind_twice, gives_same, goes_on, stops_same}

-- ---- the cell

under_typed : (t : Closed) → is_whole t ≡ false → under_ref t ≡ at_type t
under_typed closed.nat32 e = refl
under_typed (closed.bits n) e = refl
under_typed (closed.below n) e = refl
under_typed (closed.up_to n) e = refl
under_typed (closed.uint n) e = refl
under_typed (closed.int n) e = refl
under_typed (closed.bit_str n) e = refl
under_typed closed.whole e = cc
under_typed (closed.ref t) e = refl
under_typed (closed.repeat n t) e = refl
under_typed (closed.dict n t) e = refl
under_typed (closed.dict_e n t) e = refl
under_typed (closed.named x args) e = refl

under_whole : (t : Closed) → is_whole t ≡ true → under_ref t ≡ at_cell
under_whole closed.nat32 e = cc
under_whole (closed.bits n) e = cc
under_whole (closed.below n) e = cc
under_whole (closed.up_to n) e = cc
under_whole (closed.uint n) e = cc
under_whole (closed.int n) e = cc
under_whole (closed.bit_str n) e = cc
under_whole closed.whole e = refl
under_whole (closed.ref t) e = cc
under_whole (closed.repeat n t) e = cc
under_whole (closed.dict n t) e = cc
under_whole (closed.dict_e n t) e = cc
under_whole (closed.named x args) e = cc

-- of Any and Cell
whole_is : (n : ℕ) (mode : Mode) (schema : CoreSchema) (h : Spot) (t : Closed) (q : ℕ) (v : Plain) → is_whole t ≡ true
    → built_cell (making n most_parts mode schema) h (under_ref t) q v
    ≡ (starting n q h >>= (λ k. cell_of_shape mode schema (within n mode schema) h k v))
whole_is n mode schema h t q v e =
    ap (λ g. built_cell (making n most_parts mode schema) h g q v) (under_whole t e)
    ∙ ap (λ z. z >>= (λ (x : Made). Ok (finished at_cell x.1.held))) (making_begins n mode schema h at_cell q v empty)
    ∙ bind_twice (starting n q h) (λ k. make_shape mode schema (within n mode schema) h as_cell k v empty)
    (λ (x : Made). Ok (finished at_cell x.1.held))

pub whole_stops : (n : ℕ) (mode : Mode) (schema : CoreSchema) (h : Spot) (t : Closed) (q : ℕ) (v : Plain)
    (e : StopError)
    → is_whole t ≡ true → Stops h e (starting n q h)
    → Stops h e (built_cell (making n most_parts mode schema) h (under_ref t) q v)
whole_stops n mode schema h t q v e whole stop =
    stops_same h e _ _ (whole_is n mode schema h t q v whole)
    (stops_then h e (starting n q h) (λ k. cell_of_shape mode schema (within n mode schema) h k v) stop)

pub whole_on : (n : ℕ) (mode : Mode) (schema : CoreSchema) (h : Spot) (t : Closed) (q k : ℕ) (v : Plain)
    → is_whole t ≡ true → starting n q h ≡ Ok k
    → built_cell (making n most_parts mode schema) h (under_ref t) q v
    ≡ cell_of_shape mode schema (within n mode schema) h k v
whole_on n mode schema h t q k v whole begun =
    whole_is n mode schema h t q v whole
    ∙ goes_on (starting n q h) (λ k. cell_of_shape mode schema (within n mode schema) h k v) k begun

-- of other types
typed_is : (R : Maker) (h : Spot) (t : Closed) (q : ℕ) (v : Plain) → is_whole t ≡ false
    → built_cell R h (under_ref t) q v ≡ (R h (at_type t) q v empty >>= (λ (x : Made). Ok (cell_of x.1.held)))
typed_is R h t q v e = ap (λ g. built_cell R h g q v) (under_typed t e)

pub typed_stops : (R : Maker) (h : Spot) (t : Closed) (q : ℕ) (v : Plain) (b : Grown) (e : StopError)
    → is_whole t ≡ false → b ≡ empty → Stops h e (R h (at_type t) q v b)
    → Stops h e (built_cell R h (under_ref t) q v)
typed_stops R h t q v b e typed none stop =
    stops_same h e _ _ (typed_is R h t q v typed)
    (stops_then h e (R h (at_type t) q v empty) (λ (x : Made). Ok (cell_of x.1.held))
    (stops_same h e _ _ (ap (R h (at_type t) q v) (sym none)) stop))

pub typed_on : (R : Maker) (h : Spot) (t : Closed) (q : ℕ) (v : Plain) (b : Grown) (x : Made) (c : Tree)
    → is_whole t ≡ false → b ≡ empty → R h (at_type t) q v b ≡ Ok x → c ≡ cell_of x.1.held
    → built_cell R h (under_ref t) q v ≡ Ok c
typed_on R h t q v b x c typed none made is =
    typed_is R h t q v typed
    ∙ goes_on (R h (at_type t) q v empty) (λ (x : Made). Ok (cell_of x.1.held)) x
    (ap (R h (at_type t) q v) (sym none) ∙ made)
    ∙ ap (λ (z : Tree). Ok z) (sym is)

-- ---- its reference

child_is : (R : Maker) (h : Spot) (g : Goal) (q : ℕ) (v : Plain) (b : Grown)
    → make_child R h g q v b
    ≡ (built_cell R h g q v >>= (λ (c : Tree). put h (only_ref c) (is_deep c) false b >>= (λ (y : Grown). Ok ([], y))))
child_is R h g q v b =
    sym (bind_twice (R h g q v empty) (λ (x : Made). Ok (finished g x.1.held))
    (λ (c : Tree). put h (only_ref c) (is_deep c) false b >>= (λ (y : Grown). Ok ([], y))))

pub child_stops : (R : Maker) (h : Spot) (g : Goal) (q : ℕ) (v : Plain) (b : Grown) (e : StopError)
    → Stops h e (built_cell R h g q v) → Stops h e (make_child R h g q v b)
child_stops R h g q v b e stop =
    stops_same h e _ _ (child_is R h g q v b)
    (stops_then h e (built_cell R h g q v)
    (λ (c : Tree). put h (only_ref c) (is_deep c) false b >>= (λ (y : Grown). Ok ([], y))) stop)

child_put : (R : Maker) (h : Spot) (g : Goal) (q : ℕ) (v : Plain) (b : Grown) (c : Tree) → built_cell R h g q v ≡ Ok c
    → make_child R h g q v b ≡ (put h (only_ref c) (is_deep c) false b >>= (λ (y : Grown). Ok ([], y)))
child_put R h g q v b c built =
    child_is R h g q v b
    ∙ goes_on (built_cell R h g q v)
    (λ (c : Tree). put h (only_ref c) (is_deep c) false b >>= (λ (y : Grown). Ok ([], y))) c built

pub child_crowded : (R : Maker) (h : Spot) (g : Goal) (q : ℕ) (v : Plain) (b : Grown) (c : Tree) (e : StopError)
    → built_cell R h g q v ≡ Ok c → Stops h e (put h (only_ref c) (is_deep c) false b)
    → Stops h e (make_child R h g q v b)
child_crowded R h g q v b c e built stop =
    stops_same h e _ _ (child_put R h g q v b c built)
    (stops_then h e (put h (only_ref c) (is_deep c) false b) (λ (y : Grown). Ok ([], y)) stop)

pub child_on : (R : Maker) (h : Spot) (g : Goal) (q : ℕ) (v : Plain) (b : Grown) (c : Tree) (y : Grown)
    → built_cell R h g q v ≡ Ok c → put h (only_ref c) (is_deep c) false b ≡ Ok y
    → make_child R h g q v b ≡ Ok ([], y)
child_on R h g q v b c y built puts =
    child_put R h g q v b c built
    ∙ goes_on (put h (only_ref c) (is_deep c) false b) (λ (y : Grown). Ok ([], y)) y puts

-- ---- a record in a record under `^`, which is a value of its own

inner_is : (n : ℕ) (mode : Mode) (schema : CoreSchema) (h : Spot) (is : Items) (scope : Scope) (q k : ℕ) (v : Plain)
    → starting n q h ≡ Ok k
    → built_cell (making n most_parts mode schema) h (at_fields is scope) q v
    ≡ (make_shape mode schema (within n mode schema) h (fields_here is scope) k v empty
    >>= (λ (x : Made). Ok (cell_of x.1.held)))
inner_is n mode schema h is scope q k v begun =
    ap (λ z. z >>= (λ (x : Made). Ok (cell_of x.1.held)))
    (making_shaped n mode schema h (at_fields is scope) q k v empty (fields_here is scope) begun refl)

pub inner_begins : (n : ℕ) (mode : Mode) (schema : CoreSchema) (h : Spot) (is : Items) (scope : Scope) (q : ℕ)
    (v : Plain)
    (e : StopError) → Stops h e (starting n q h)
    → Stops h e (built_cell (making n most_parts mode schema) h (at_fields is scope) q v)
inner_begins n mode schema h is scope q v e stop =
    stops_then h e (making n most_parts mode schema h (at_fields is scope) q v empty)
    (λ (x : Made). Ok (cell_of x.1.held))
    (begin_stops n mode schema h (at_fields is scope) q v empty e stop)

pub inner_stops : (n : ℕ) (mode : Mode) (schema : CoreSchema) (h : Spot) (is : Items) (scope : Scope) (q k : ℕ)
    (v : Plain)
    (b : Grown) (e : StopError) → starting n q h ≡ Ok k → b ≡ empty
    → Stops h e (make_shape mode schema (within n mode schema) h (fields_here is scope) k v b)
    → Stops h e (built_cell (making n most_parts mode schema) h (at_fields is scope) q v)
inner_stops n mode schema h is scope q k v b e begun none stop =
    stops_same h e _ _ (inner_is n mode schema h is scope q k v begun)
    (stops_then h e (make_shape mode schema (within n mode schema) h (fields_here is scope) k v empty)
    (λ (x : Made). Ok (cell_of x.1.held))
    (stops_same h e _ _
    (ap (make_shape mode schema (within n mode schema) h (fields_here is scope) k v) (sym none)) stop))

pub inner_on : (n : ℕ) (mode : Mode) (schema : CoreSchema) (h : Spot) (is : Items) (scope : Scope) (q k : ℕ) (v : Plain)
    (b : Grown) (x : Made) (c : Tree) → starting n q h ≡ Ok k → b ≡ empty
    → make_shape mode schema (within n mode schema) h (fields_here is scope) k v b ≡ Ok x → c ≡ cell_of x.1.held
    → built_cell (making n most_parts mode schema) h (at_fields is scope) q v ≡ Ok c
inner_on n mode schema h is scope q k v b x c begun none made is_cell =
    inner_is n mode schema h is scope q k v begun
    ∙ goes_on (make_shape mode schema (within n mode schema) h (fields_here is scope) k v empty)
    (λ (x : Made). Ok (cell_of x.1.held)) x
    (ap (make_shape mode schema (within n mode schema) h (fields_here is scope) k v) (sym none) ∙ made)
    ∙ ap (λ (z : Tree). Ok z) (sym is_cell)
