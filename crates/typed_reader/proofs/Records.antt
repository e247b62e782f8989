-- The shape of a field's type, and a record in a record.
use Rattle.std.proofs.Common.{◌≡◌, ℕ, true, false, cond, List, [], ◌∷◌, Option, None, Result, Ok, Err, ap, sym, ◌∙◌, subst}
use Rattle.std.proofs.Common.{arith, ◌<◌, length}
use Rattle.cell_nodes.specs.declared.tree.Kind.TheVariants as kinds
use Rattle.cell_nodes.specs.declared.tree.Mode.{Mode}
use Rattle.cell_nodes.specs.declared.tree.Tree.{Tree, out-Tree}
use Rattle.closed_type.specs.declared.tree.ClosedType.{ClosedType}
use Rattle.core_form.specs.Core.{CoreSchema, Items, Word, field_names}
use Rattle.core_form.specs.Scope.{Scope}
use Rattle.flat_form.specs.GrowthLaws.{ops_higher}
use Rattle.flat_form.specs.Sound.{OpsAreSound}
use Rattle.flat_form.specs.Stands.{items_in, range, record_at, type_at}
use Rattle.flat_form.specs.declared.lists.Flat.{Flat}
use Rattle.flat_form.specs.declared.lists.PlanOp.{PlanOp}
use Rattle.hashmap_tree.specs.Dict.{unseen}
use Rattle.hashmap_tree.specs.Entries.{Slice, content}
use Rattle.nat_solver.specs.Number.{Numbers}
use Rattle.plan_closing.specs.Counted.{scope_of}
use Rattle.plan_reading.specs.Shaped.{IsRecord, Refuses, ShapeIsSound, governed, shape_view}
use Rattle.plan_reading.specs.StopLaws.{stops_at, stops_then}
use Rattle.plan_reading.specs.Stops.{Stops, StopsAt}
use Rattle.plan_reading.specs.declared.shapes.FlatShape.{FlatShape}
use Rattle.plan_reading.specs.declared.shapes.FlatShape.TheVariants.{Here, Under}
use Rattle.plan_reading.specs.declared.shapes.ShapeError.{ShapeError}
use Rattle.plan_reading.specs.declared.shapes.ShapeError.TheVariants as errors
use Rattle.plan_reading.specs.declared.stop.StopError.{StopError}
use Rattle.spelling.specs.Goals.{at_field, at_fields, shape_of}
use Rattle.spelling.specs.Places.{Place, Spot, stuck}
use Rattle.spelling.specs.PlainReader.{◌>>=◌, Found, Reader, cell_value, read_fields, read_ref, read_shape, reading}
use Rattle.spelling.specs.PlainReader.{whole_of}
use Rattle.spelling.specs.Slices.{is_nothing}
use Rattle.spelling.specs.declared.Cause.{Cause}
use Rattle.spelling.specs.declared.Cause.TheVariants.{Exotic, Leftover}
use Rattle.typed_value.specs.Values.{Plain, Plains, most_parts, record_of, ref_to}
use Rattle.typed_reader.specs.Begun.{starting}
use Rattle.typed_reader.proofs.Levels.{begin_stops, reading_refused, reading_shaped, within}
use Rattle.typed_reader.proofs.Refs.{as_record, fields_begin, ref_read, ref_stops, under_exotic, under_held, whole_left}
use Rattle.typed_reader.proofs.Refs.{whole_read}
use Rattle.typed_reader.proofs.Steps.{stops_same}

-- ---- the shape of a field

pub field_shaped : (n : ℕ) (mode : Mode) (schema : CoreSchema) (h : Spot) (f p : Flat) (c : Option (ℕ × ℕ)) (ty : ℕ)
    (scope : Scope) (q k : ℕ) (s : Slice) (x y : FlatShape) → f ≡ p → starting n q h ≡ Ok k
    → shape_of (at_field (governed f c) (type_at f ty) scope) ≡ Ok (shape_view f scope x) → x ≡ y
    → reading n most_parts mode schema h (at_field (governed p c) (type_at p ty) scope) q s
    ≡ read_shape mode schema (within n mode schema) h (shape_view p scope y) k s
field_shaped n mode schema h f p c ty scope q k s x y same begun shape is =
    let P : Flat → Type 0 = λ z. shape_of (at_field (governed z c) (type_at z ty) scope) ≡ Ok (shape_view z scope x) in
    reading_shaped n mode schema h (at_field (governed p c) (type_at p ty) scope) q k s (shape_view p scope x) begun
    (subst P same shape)
    ∙ ap (λ z. read_shape mode schema (within n mode schema) h (shape_view p scope z) k s) is

pub field_refused : (n : ℕ) (mode : Mode) (schema : CoreSchema) (h : Spot) (f p : Flat) (c : Option (ℕ × ℕ)) (ty : ℕ)
    (scope : Scope) (q k : ℕ) (s : Slice) (e : ShapeError) (why : Cause) → f ≡ p → starting n q h ≡ Ok k
    → Refuses e (shape_of (at_field (governed f c) (type_at f ty) scope)) → e ≡ errors.Refused why
    → reading n most_parts mode schema h (at_field (governed p c) (type_at p ty) scope) q s ≡ Err (stuck h why)
field_refused n mode schema h f p c ty scope q k s e why same begun refused is =
    let P : ShapeError → Type 0 = λ z. Refuses z (shape_of (at_field (governed f c) (type_at f ty) scope)) in
    let Q : Flat → Type 0 = λ z. shape_of (at_field (governed z c) (type_at z ty) scope) ≡ Err why in
    reading_refused n mode schema h (at_field (governed p c) (type_at p ty) scope) q k s why begun (subst Q same
    (subst P is refused))

pub stopped_for : (h : Spot) (e : StopError) (a b : Cause) → a ≡ b → StopsAt h e (stuck h a) → StopsAt h e (stuck h b)
stopped_for h e a b same stop = let P : Cause → Type 0 = λ z. StopsAt h e (stuck h z) in subst P same stop

-- ---- the operations of a record

record_within : (f p : Flat) (ty first count : ℕ) → f ≡ p → ty < length p.types → IsRecord f ty first count
    → IsRecord p (length p.types) first count
record_within f p ty first count same low is =
    let P : Flat → Type 0 = λ z. IsRecord z ty first count in
    let r : IsRecord p ty first count = subst P same is in
    record {
      there = r.there;
      sound = ops_higher p ty (length p.types) (range p.ops first count) (omega arith) r.sound;
    }

pub here_within : (f p : Flat) (ty first count : ℕ) (x : FlatShape) → f ≡ p → ty < length p.types → ShapeIsSound f ty x
    → x ≡ Here first count → IsRecord p (length p.types) first count
here_within f p ty first count x same low sound is =
    let P : FlatShape → Type 0 = λ z. ShapeIsSound f ty z in
    record_within f p ty first count same low (subst P is sound)

pub under_within : (f p : Flat) (ty first count : ℕ) (x : FlatShape) → f ≡ p → ty < length p.types → ShapeIsSound f ty x
    → x ≡ Under first count → IsRecord p (length p.types) first count
under_within f p ty first count x same low sound is =
    let P : FlatShape → Type 0 = λ z. ShapeIsSound f ty z in
    record_within f p ty first count same low (subst P is sound)

pub ops_within : (f p : Flat) (first count : ℕ) (ops : List PlanOp) → f ≡ p → ops ≡ range f.ops first count
    → IsRecord p (length p.types) first count → OpsAreSound p (length p.types) ops
ops_within f p first count ops same there is =
    let P : List PlanOp → Type 0 = OpsAreSound p (length p.types) in
    let at : ops ≡ range p.ops first count = there ∙ ap (λ (z : Flat). range z.ops first count) same in
    subst P (sym at) is.sound

-- the operations of a record, under no condition
pub items_there : (f p : Flat) (first count : ℕ) (ops : List PlanOp) → f ≡ p → ops ≡ range f.ops first count
    → items_in p (type_at p) None ops ≡ record_at p first count
items_there f p first count ops same there =
    ap (λ z. items_in p (type_at p) None z) (there ∙ ap (λ (z : Flat). range z.ops first count) same)

pub fields_stop : (R : Reader) (h : Spot) (is js : Items) (types : List (Option ClosedType)) (a b : Numbers) (q : ℕ)
    (s : Slice) (e : StopError)
    → is ≡ js → a ≡ b → Stops h e (read_fields R h is (scope_of a types) q s)
    → Stops h e (read_fields R h js (scope_of b types) q s >>= as_record js)
fields_stop R h is js types a b q s e same copied stop =
    stops_then h e (read_fields R h js (scope_of b types) q s) (as_record js)
    (stops_same h e _ _
    (ap (λ z. read_fields R h js (scope_of z types) q s) (sym copied) ∙ ap (λ z. read_fields R h z (scope_of a types) q s)
    (sym same)) stop)

pub fields_found : (R : Reader) (h : Spot) (is js : Items) (types : List (Option ClosedType)) (a b : Numbers) (q : ℕ)
    (s rest : Slice)
    (names : List Word) (vs : Plains) (scope : Scope) (v : Plain) (found : Found)
    → is ≡ js → a ≡ b → read_fields R h is (scope_of a types) q s ≡ Ok (vs, scope, rest)
    → names ≡ field_names is → v ≡ record_of None names vs → found ≡ (v, [], rest)
    → (read_fields R h js (scope_of b types) q s >>= as_record js) ≡ Ok found
fields_found R h is js types a b q s rest names vs scope v found same copied read named made out =
    ap (λ z. read_fields R h js (scope_of z types) q s >>= as_record js) (sym copied)
    ∙ ap (λ z. read_fields R h z (scope_of a types) q s >>= as_record z) (sym same)
    ∙ ap (λ z. z >>= as_record is) read
    ∙ ap (λ z. Ok (let x : Found = (record_of None z vs, [], rest) in x)) (sym named)
    ∙ ap (λ z. Ok (let x : Found = (z, [], rest) in x)) (sym made)
    ∙ ap Ok (sym out)

-- ---- a record under `^`

under_at : (R : Reader) (h : Spot) (is : Items) (scope : Scope) (q : ℕ) (c : Tree) (s : Slice) →
    (out-Tree c).kind ≡ kinds.Ordinary
    → s ≡ content c → cell_value R h (at_fields is scope) q c ≡ whole_of R h (at_fields is scope) q s
under_at R h is scope q c s ordinary same =
    under_held R h is scope q c ordinary ∙ ap (λ z. whole_of R h (at_fields is scope) q z) (sym same)

under_stops : (R : Reader) (h : Spot) (is : Items) (scope : Scope) (q : ℕ) (c : Tree) (s : Slice) (e : StopError)
    → (out-Tree c).kind ≡ kinds.Ordinary → s ≡ content c → Stops h e (R h (at_fields is scope) q s)
    → Stops h e (cell_value R h (at_fields is scope) q c)
under_stops R h is scope q c s e ordinary same stop =
    stops_same h e _ _ (under_at R h is scope q c s ordinary same)
    (stops_then h e (R h (at_fields is scope) q s)
    (λ y. cond {A = Result Plain Place} (is_nothing y.2) (Ok y.0) (Err (stuck h Leftover))) stop)

module _ (n : ℕ) (mode : Mode) (schema : CoreSchema) (h : Spot) (q : ℕ) (bits : List ℕ) (refs more : List Tree) (c : Tree)
    (there : refs ≡ c ∷ more) (seen : unseen mode c ≡ None) where
  pub under_not_ordinary : (is : Items) (scope : Scope) (e : StopError) → ((out-Tree c).kind ≡ kinds.Ordinary → ⊥)
      → StopsAt h e (stuck h Exotic) → Stops h e (read_ref mode (reading n most_parts mode schema) h
      (at_fields is scope) q bits refs)
  under_not_ordinary is scope e other stop =
      ref_stops mode (reading n most_parts mode schema) h (at_fields is scope) q bits refs more c e there seen
      (stops_at h e (stuck h Exotic) _ stop (under_exotic (reading n most_parts mode schema) h is scope q c other))

  pub under_none_begins : (is : Items) (scope : Scope) (s : Slice) (e : StopError)
      → (out-Tree c).kind ≡ kinds.Ordinary → s ≡ content c
      → Stops h e (starting n q h) → Stops h e (read_ref mode (reading n most_parts mode schema) h
      (at_fields is scope) q bits refs)
  under_none_begins is scope s e ordinary same stop =
      ref_stops mode (reading n most_parts mode schema) h (at_fields is scope) q bits refs more c e there seen
      (under_stops (reading n most_parts mode schema) h is scope q c s e ordinary same
      (begin_stops n mode schema h (at_fields is scope) q s e stop))

  pub under_fields_stop : (is : Items) (scope : Scope) (k : ℕ) (s : Slice) (e : StopError) → (out-Tree c).kind ≡ kinds.Ordinary
      → s ≡ content c → starting n q h ≡ Ok k → Stops h e (read_fields (within n mode schema) h is scope k s >>= as_record is)
      → Stops h e (read_ref mode (reading n most_parts mode schema) h (at_fields is scope) q bits refs)
  under_fields_stop is scope k s e ordinary same begun stop =
      ref_stops mode (reading n most_parts mode schema) h (at_fields is scope) q bits refs more c e there seen
      (under_stops (reading n most_parts mode schema) h is scope q c s e ordinary same
      (stops_same h e _ _ (fields_begin n mode schema h is scope q k s begun) stop))

  pub under_left_over : (is : Items) (scope : Scope) (k : ℕ) (s : Slice) (x : Found) (e : StopError)
      → (out-Tree c).kind ≡ kinds.Ordinary
      → s ≡ content c → starting n q h ≡ Ok k → (read_fields (within n mode schema) h is scope k s >>= as_record is) ≡ Ok x
      → is_nothing x.2 ≡ false → StopsAt h e (stuck h Leftover)
      → Stops h e (read_ref mode (reading n most_parts mode schema) h (at_fields is scope) q bits refs)
  under_left_over is scope k s x e ordinary same begun read left stop =
      ref_stops mode (reading n most_parts mode schema) h (at_fields is scope) q bits refs more c e there seen
      (stops_at h e (stuck h Leftover) _ stop
      (under_at (reading n most_parts mode schema) h is scope q c s ordinary same
      ∙ whole_left (reading n most_parts mode schema) h (at_fields is scope) q s x
      (fields_begin n mode schema h is scope q k s begun ∙ read) left))

  pub under_found : (is : Items) (scope : Scope) (k : ℕ) (s : Slice) (x : Found) → (out-Tree c).kind ≡ kinds.Ordinary
      → s ≡ content c → starting n q h ≡ Ok k → (read_fields (within n mode schema) h is scope k s >>= as_record is) ≡ Ok x
      → is_nothing x.2 ≡ true
      → read_ref mode (reading n most_parts mode schema) h (at_fields is scope) q bits refs
      ≡ Ok (ref_to tt x.0, [], record { bits = bits; refs = more })
  under_found is scope k s x ordinary same begun read all =
      ref_read mode (reading n most_parts mode schema) h (at_fields is scope) q bits refs more c x.0 there seen
      (under_at (reading n most_parts mode schema) h is scope q c s ordinary same
      ∙ whole_read (reading n most_parts mode schema) h (at_fields is scope) q s x
      (fields_begin n mode schema h is scope q k s begun ∙ read) all)
