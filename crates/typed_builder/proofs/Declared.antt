-- A constructor that is entered, a record in a record, and the declared type of a record.
use Rattle.std.proofs.Common.{◌≡◌, ℕ, Bool, true, false, List, [], Option, Some, None, Result, Ok, Err, ap, sym, ◌∙◌}
use Rattle.cell_nodes.specs.declared.tree.Mode.{Mode}
use Rattle.core_form.specs.Closed.{ClosedArgs}
use Rattle.core_form.specs.Closed as closed
use Rattle.core_form.specs.Core.{CoreSchema, Declaration, Items, Word}
use Rattle.core_form.specs.Scope.{Scope, values_in}
use Rattle.plan_reading.specs.StopLaws.{stops_at, stops_then}
use Rattle.plan_reading.specs.Stops.{Stops, StopsAt}
use Rattle.plan_reading.specs.declared.stop.StopError.{StopError}
use Rattle.spelling.specs.Goals.{fields_here, typed}
use Rattle.spelling.specs.Places.{Place, Spot, result_of, start, stuck, tag_of}
use Rattle.spelling.specs.PlainReader.{◌>>=◌, Choice, known}
use Rattle.spelling.specs.Slices.{only_bits}
use Rattle.spelling.specs.declared.Cause.TheVariants.{NoConstructor, Overflow, Shape}
use Rattle.spelling_laws.specs.StepLaws.{when_true, when_false}
use Rattle.typed_value.specs.Values.{Plain, Plains, record_of}
use Rattle.building.specs.Growing.{Grown}
use Rattle.building.specs.PlainBuilder.{Made, Maker, choose, has_fields, make_declared, make_fields, make_inner}
use Rattle.building.specs.PlainBuilder.{make_inside, make_shape, put, record_at}
use Rattle.typed_builder.proofs.Steps.{goes_on, stops_same}

-- ---- a record in a record

abbrev inner_gives : Result (Scope × Grown) Place → Result Made Place
inner_gives r = r >>= λ x. Ok ([], x.1)

inner_is : (mode : Mode) (schema : CoreSchema) (R : Maker) (h : Spot) (is : Items) (scope : Scope) (q : ℕ)
    (names : List Word) (vs : Plains) (v : Plain) (b : Grown) → v ≡ record_of None names vs
    → has_fields names vs is ≡ true
    → make_shape mode schema R h (fields_here is scope) q v b ≡ inner_gives (make_fields R h is scope q vs b)
inner_is mode schema R h is scope q names vs v b e has =
    ap (λ z. make_shape mode schema R h (fields_here is scope) q z b) e
    ∙ when_true {A = Result Made Place} (has_fields names vs is) _ _ has

pub inner_misnamed : (mode : Mode) (schema : CoreSchema) (R : Maker) (h : Spot) (is : Items) (scope : Scope) (q : ℕ)
    (names : List Word) (vs : Plains) (v : Plain) (b : Grown) → v ≡ record_of None names vs
    → has_fields names vs is ≡ false
    → make_shape mode schema R h (fields_here is scope) q v b ≡ Err (stuck h Shape)
inner_misnamed mode schema R h is scope q names vs v b e has =
    ap (λ z. make_shape mode schema R h (fields_here is scope) q z b) e
    ∙ when_false {A = Result Made Place} (has_fields names vs is) _ _ has

pub inner_stops : (mode : Mode) (schema : CoreSchema) (R : Maker) (h : Spot) (is : Items) (scope : Scope) (q : ℕ)
    (names : List Word) (vs : Plains) (v : Plain) (b : Grown) (e : StopError) → v ≡ record_of None names vs
    → has_fields names vs is ≡ true → Stops h e (make_fields R h is scope q vs b)
    → Stops h e (make_shape mode schema R h (fields_here is scope) q v b)
inner_stops mode schema R h is scope q names vs v b e same has stop =
    stops_same h e _ _ (inner_is mode schema R h is scope q names vs v b same has)
    (stops_then h e (make_fields R h is scope q vs b) (λ x. Ok (let y : Made = ([], x.1) in y)) stop)

pub inner_on : (mode : Mode) (schema : CoreSchema) (R : Maker) (h : Spot) (is : Items) (scope : Scope) (q : ℕ)
    (names : List Word) (vs : Plains) (v : Plain) (b : Grown) (x : Scope × Grown) → v ≡ record_of None names vs
    → has_fields names vs is ≡ true → make_fields R h is scope q vs b ≡ Ok x
    → make_shape mode schema R h (fields_here is scope) q v b ≡ Ok ([], x.1)
inner_on mode schema R h is scope q names vs v b x same has made =
    inner_is mode schema R h is scope q names vs v b same has
    ∙ goes_on (make_fields R h is scope q vs b) (λ x. Ok (let y : Made = ([], x.1) in y)) x made

-- ---- a constructor

abbrev outputs_then : Declaration → Scope × Grown → Result Made Place
outputs_then d x = known (result_of (start d)) (values_in d.core.outputs x.0) >>= λ outs. Ok (outs, x.1)

abbrev fields_then : Maker → Declaration → Scope → ℕ → Plains → Grown → Result Made Place
fields_then R d scope q vs g = make_fields R (start d) d.core.items scope q vs g >>= outputs_then d

pub tag_stops : (R : Maker) (d : Declaration) (scope : Scope) (q : ℕ) (vs : Plains) (b : Grown) (e : StopError)
    → Stops (start d) e (put (tag_of (start d)) (only_bits d.core.tag) false false b)
    → Stops (start d) e (make_inside R d scope q vs b)
tag_stops R d scope q vs b e stop =
    stops_then (start d) e (put (tag_of (start d)) (only_bits d.core.tag) false false b) (fields_then R d scope q vs)
    stop

inside_is : (R : Maker) (d : Declaration) (items : Items) (scope : Scope) (q : ℕ) (vs : Plains) (b g : Grown)
    → items ≡ d.core.items → put (tag_of (start d)) (only_bits d.core.tag) false false b ≡ Ok g
    → make_inside R d scope q vs b ≡ (make_fields R (start d) items scope q vs g >>= outputs_then d)
inside_is R d items scope q vs b g same puts =
    goes_on (put (tag_of (start d)) (only_bits d.core.tag) false false b) (fields_then R d scope q vs) g puts
    ∙ ap (λ is. make_fields R (start d) is scope q vs g >>= outputs_then d) (sym same)

pub inside_stops : (R : Maker) (d : Declaration) (items : Items) (scope : Scope) (q : ℕ) (vs : Plains) (b g : Grown)
    (e : StopError) → items ≡ d.core.items → put (tag_of (start d)) (only_bits d.core.tag) false false b ≡ Ok g
    → Stops (start d) e (make_fields R (start d) items scope q vs g)
    → Stops (start d) e (make_inside R d scope q vs b)
inside_stops R d items scope q vs b g e same puts stop =
    stops_same (start d) e _ _ (inside_is R d items scope q vs b g same puts)
    (stops_then (start d) e (make_fields R (start d) items scope q vs g) (outputs_then d) stop)

ended : (R : Maker) (d : Declaration) (items : Items) (scope : Scope) (q : ℕ) (vs : Plains) (b g : Grown)
    (x : Scope × Grown) → items ≡ d.core.items → put (tag_of (start d)) (only_bits d.core.tag) false false b ≡ Ok g
    → make_fields R (start d) items scope q vs g ≡ Ok x
    → make_inside R d scope q vs b ≡ outputs_then d x
ended R d items scope q vs b g x same puts made =
    inside_is R d items scope q vs b g same puts
    ∙ goes_on (make_fields R (start d) items scope q vs g) (outputs_then d) x made

pub inside_overflows : (R : Maker) (d : Declaration) (items : Items) (scope : Scope) (q : ℕ) (vs : Plains) (b g : Grown)
    (x : Scope × Grown) (e : StopError) → items ≡ d.core.items
    → put (tag_of (start d)) (only_bits d.core.tag) false false b ≡ Ok g
    → make_fields R (start d) items scope q vs g ≡ Ok x → None ≡ values_in d.core.outputs x.0
    → StopsAt (start d) e (stuck (result_of (start d)) Overflow)
    → Stops (start d) e (make_inside R d scope q vs b)
inside_overflows R d items scope q vs b g x e same puts made none at =
    stops_at (start d) e (stuck (result_of (start d)) Overflow) (make_inside R d scope q vs b) at
    (ended R d items scope q vs b g x same puts made
    ∙ ap (λ o. known (result_of (start d)) o >>= λ outs. Ok (let y : Made = (outs, x.1) in y)) (sym none))

pub inside_on : (R : Maker) (d : Declaration) (items : Items) (scope : Scope) (q : ℕ) (vs : Plains) (b g : Grown)
    (x : Scope × Grown) (outs : List ℕ) → items ≡ d.core.items
    → put (tag_of (start d)) (only_bits d.core.tag) false false b ≡ Ok g
    → make_fields R (start d) items scope q vs g ≡ Ok x → Some outs ≡ values_in d.core.outputs x.0
    → make_inside R d scope q vs b ≡ Ok (outs, x.1)
inside_on R d items scope q vs b g x outs same puts made some =
    ended R d items scope q vs b g x same puts made
    ∙ ap (λ o. known (result_of (start d)) o >>= λ outs. Ok (let y : Made = (outs, x.1) in y)) (sym some)

-- ---- a declared type, by the choice

pub none_enters : (schema : CoreSchema) (R : Maker) (h : Spot) (type : Word) (args : ClosedArgs) (q : ℕ)
    (shown : Option Word) (name : Word) (names : List Word) (vs : Plains) (b : Grown) (e : StopError)
    → shown ≡ Some name → choose schema type name args ≡ None → StopsAt h e (stuck h NoConstructor)
    → Stops h e (record_at schema R h (typed (closed.named type args)) q shown names vs b)
none_enters schema R h type args q shown name names vs b e is none at =
    stops_at h e (stuck h NoConstructor) (record_at schema R h (typed (closed.named type args)) q shown names vs b) at
    (ap (λ z. record_at schema R h (typed (closed.named type args)) q z names vs b) is
    ∙ ap (λ o. make_declared R h o q names vs b) none)

pub one_misnamed : (schema : CoreSchema) (R : Maker) (h : Spot) (type : Word) (args : ClosedArgs) (q : ℕ)
    (shown : Option Word) (name : Word) (names : List Word) (vs : Plains) (b : Grown) (d : Declaration) (scope : Scope)
    (items : Items) (e : StopError) → shown ≡ Some name → choose schema type name args ≡ Some (d, scope)
    → items ≡ d.core.items → has_fields names vs items ≡ false → StopsAt h e (stuck h Shape)
    → Stops h e (record_at schema R h (typed (closed.named type args)) q shown names vs b)
one_misnamed schema R h type args q shown name names vs b d scope items e is one same has at =
    stops_at h e (stuck h Shape) (record_at schema R h (typed (closed.named type args)) q shown names vs b) at
    (ap (λ z. record_at schema R h (typed (closed.named type args)) q z names vs b) is
    ∙ ap (λ o. make_declared R h o q names vs b) one
    ∙ when_false {A = Result Made Place} (has_fields names vs d.core.items) _ _
    (ap (has_fields names vs) (sym same) ∙ has))

pub one_enters : (schema : CoreSchema) (R : Maker) (h : Spot) (type : Word) (args : ClosedArgs) (q : ℕ)
    (shown : Option Word) (name : Word) (names : List Word) (vs : Plains) (b : Grown) (d : Declaration) (scope : Scope)
    (items : Items) → shown ≡ Some name → choose schema type name args ≡ Some (d, scope)
    → items ≡ d.core.items → has_fields names vs items ≡ true
    → record_at schema R h (typed (closed.named type args)) q shown names vs b ≡ make_inside R d scope q vs b
one_enters schema R h type args q shown name names vs b d scope items is one same has =
    ap (λ z. record_at schema R h (typed (closed.named type args)) q z names vs b) is
    ∙ ap (λ o. make_declared R h o q names vs b) one
    ∙ when_true {A = Result Made Place} (has_fields names vs d.core.items) _ _
    (ap (has_fields names vs) (sym same) ∙ has)

pub no_name : (schema : CoreSchema) (R : Maker) (h : Spot) (type : Word) (args : ClosedArgs) (q : ℕ)
    (shown : Option Word) (names : List Word) (vs : Plains) (b : Grown) (e : StopError)
    → shown ≡ None → StopsAt h e (stuck h Shape)
    → Stops h e (record_at schema R h (typed (closed.named type args)) q shown names vs b)
no_name schema R h type args q shown names vs b e is at =
    stops_at h e (stuck h Shape) (record_at schema R h (typed (closed.named type args)) q shown names vs b) at
    (ap (λ z. record_at schema R h (typed (closed.named type args)) q z names vs b) is)
