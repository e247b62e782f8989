-- A record of a known constructor, and its fields.
use Rattle.std.proofs.Common.{◌≡◌, ℕ, ◌≤◌, ◌<◌, ◌^◌, Bool, true, false, cond, List, Some, None, Result, Ok, Err, refl, sym, ◌∙◌, subst, arith, nat_lt, lit<}
use Rattle.std.proofs.lemmas.Bool.{le-ltb, lt-ltb}
use Rattle.cell_nodes.specs.declared.tree.Mode.TheVariants.{Whole}
use Rattle.nat_solver.specs.Number.{within}
use Rattle.hashmap_tree.specs.Entries.{Slice, Then}
use Rattle.typed_value.specs.Values.{Plain, Plains, record_of}
use Rattle.core_form.specs.Core.{Word, Declaration, CoreSchema, field_names}
use Rattle.core_form.specs.Closed.{Closed, ClosedArgs, nodes}
use Rattle.core_form.specs.Closed as closed
use Rattle.core_form.specs.Closing.{bounded, big_type}
use Rattle.core_form.specs.Scope.{Scope, values_in}
use Rattle.core_form.specs.Fit.{Fits}
use Rattle.schema_leads.specs.Leads.{of_type_named}
use Rattle.spelling.specs.Slices.{only_bits}
use Rattle.spelling.specs.Goals.{Goal, at_type, Shape, typed, typed_or, judged, shape_of}
use Rattle.spelling.specs.Spells.{Meanings, Fields, Spells, SpellsShape, SpellsDeclared, Each}
use Rattle.spelling.specs.declared.Cause.{Cause}
use Rattle.declared_maps.proofs.Found.{In, one_of, place_of}

-- ---- goals of one shape

ok_same : (a b : Shape) → (◌≡◌ {A = Result Shape Cause} (Ok a) (Ok b)) → a ≡ b
ok_same a b e = cc

-- a value at a goal whose shape is this closed type
pub at_shape : (schema : CoreSchema) (v : Plain) (g : Goal) (t : Closed) (s : Slice) (outs : List ℕ) (after : Slice)
    → shape_of g ≡ Ok (typed t) → Spells Whole schema v g s outs after
    → SpellsShape Whole schema v (typed t) s outs after
at_shape schema v g t s outs after e m =
    let P : Shape → Type 0 = λ z. SpellsShape Whole schema v z s outs after in
    subst P (ok_same m.0 (typed t) (sym m.1 ∙ e)) m.2

pub from_shape : (schema : CoreSchema) (v : Plain) (g : Goal) (t : Closed) (s : Slice) (outs : List ℕ) (after : Slice)
    → shape_of g ≡ Ok (typed t) → SpellsShape Whole schema v (typed t) s outs after
    → Spells Whole schema v g s outs after
from_shape schema v g t s outs after e m = (typed t, e, m)

-- a value at another goal of the same shape
pub at_same : (schema : CoreSchema) (v : Plain) (g h : Goal) (s : Slice) (outs : List ℕ) (after : Slice)
    → shape_of g ≡ shape_of h → Spells Whole schema v g s outs after → Spells Whole schema v h s outs after
at_same schema v g h s outs after e m = (m.0, sym e ∙ m.1, m.2)

-- a closed type that is not too large
pub bounded_shape : (t : Closed) → nodes t ≤ 4096 → judged (typed_or (bounded (Some t))) ≡ shape_of (at_type t)
bounded_shape t le = go (nat_lt 4096 (nodes t)) (le-ltb 4096 (nodes t) le)
  where
    go : (b : Bool) → b ≡ false → judged (typed_or (cond b (Err big_type) (Ok t))) ≡ shape_of (at_type t)
    go true e = cc
    go false e = refl

-- ---- numbers of 32 bits

pub within_small : (n : ℕ) → n ≤ 1024 → within n ≡ Some n
within_small n le = go (nat_lt n (2 ^ 32)) (lt-ltb n (2 ^ 32) (let big : 1024 < 2 ^ 32 = lit< tt in omega (arith, le, big)))
  where
    go : (b : Bool) → b ≡ true → cond b (Some n) None ≡ Some n
    go true e = refl
    go false e = cc

pub within_same : (n m : ℕ) → within n ≡ Some m → n ≡ m
within_same n m e = go (nat_lt n (2 ^ 32)) e
  where
    go : (b : Bool) → cond b (Some n) None ≡ Some m → n ≡ m
    go true e = cc
    go false e = cc

-- ---- records

-- a record whose constructor is this one
pub record Opened (d : Declaration) (name : Word) (names : List Word) (args : ClosedArgs) (Ms : Meanings)
    (before : Slice) (outs : List ℕ) (after : Slice) : Type 0 where
  pub called : d.shown ≡ name
  pub with_names : names ≡ field_names d.core.items
  pub bound : Scope
  pub middle : Slice
  pub end : Scope
  pub fitting : Fits d.core args bound
  pub tag : Then before (only_bits d.core.tag) middle
  pub items : Fields d.core.items Ms bound middle end after
  pub outputs : values_in d.core.outputs end ≡ Some outs

pub opened : (schema : CoreSchema) (x name : Word) (names : List Word) (args : ClosedArgs) (Ms : Meanings)
    (before : Slice) (outs : List ℕ) (after : Slice)
    (e : SpellsDeclared schema name names Ms (typed (closed.named x args)) before outs after) (d : Declaration)
    → e.1 ≡ d → Opened d name names args Ms before outs after
opened schema x name names args Ms before outs after e d same =
    let P : Declaration → Type 0 = λ z. Opened z name names args Ms before outs after in
    subst P same (record {
      called = e.5.shown;
      with_names = e.6;
      bound = e.2;
      middle = e.3;
      end = e.4;
      fitting = e.5.fitting;
      tag = e.7;
      items = e.8;
      outputs = e.9;
    })

-- which of the constructors of its type it is, where the schema has these
pub chosen : (schema : CoreSchema) (x name : Word) (names : List Word) (args : ClosedArgs) (Ms : Meanings)
    (before : Slice) (outs : List ℕ) (after : Slice)
    (e : SpellsDeclared schema name names Ms (typed (closed.named x args)) before outs after) (ds : CoreSchema)
    → of_type_named schema x ≡ ds → In e.1 ds
chosen schema x name names args Ms before outs after e ds has =
    one_of schema x ds has e.0 e.1 e.5.there e.5.of_type

-- a record of a constructor that the schema has
pub built : (schema : CoreSchema) (x : Word) (args : ClosedArgs) (ds : CoreSchema) (d : Declaration) (vs : Plains)
    (before : Slice) (outs : List ℕ) (after : Slice)
    → of_type_named schema x ≡ ds → In d ds → d.of_type ≡ x
    → Opened d d.shown (field_names d.core.items) args (Each Whole schema vs) before outs after
    → Spells Whole schema (record_of (Some d.shown) (field_names d.core.items) vs) (at_type (closed.named x args)) before outs after
built schema x args ds d vs before outs after has in_ds of o =
    let p = place_of schema x ds has d in_ds in
    (typed (closed.named x args), refl, (p.0, d, o.bound, o.middle, o.end, record { there = p.1; of_type = of; shown = refl; fitting = o.fitting }, refl, o.tag, o.items, o.outputs))
