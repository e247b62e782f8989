-- Shapes and records by the lists of a plan, as they were looked up.
use Rattle.std.proofs.Common.{◌≡◌, ℕ, ◌<◌, ◌≤◌, List, [], ◌∷◌, Option, None, Result, Ok, Err, length, refl, ap, sym}
use Rattle.std.proofs.Common.{◌∙◌, subst, arith}
use Rattle.core_form.specs.Scope.{Scope}
use Rattle.flat_form.specs.Sound.{IsRange, OpIsSound, OpsAreSound}
use Rattle.flat_form.specs.Stands.{items_in, range, record_at, type_at}
use Rattle.flat_form.specs.declared.lists.Flat.{Flat}
use Rattle.flat_form.specs.declared.lists.PlanOp.{PlanOp}
use Rattle.flat_form.specs.declared.lists.PlanOp.TheVariants.{Check, Solve, When, Field}
use Rattle.plan_reading.specs.Shaped.{IsRecord, Refuses, ShapeIsSound, governed, shape_view}
use Rattle.plan_reading.specs.declared.shapes.FlatShape.{FlatShape}
use Rattle.plan_reading.specs.declared.shapes.FlatShape.TheVariants.{Here, Under}
use Rattle.plan_reading.specs.declared.shapes.ShapeError.{ShapeError}
use Rattle.plan_reading.specs.declared.shapes.ShapeError.TheVariants.{Refused}
use Rattle.spelling.specs.Goals.{Shape, at_field, shape_of}
use Rattle.spelling.specs.declared.Cause.{Cause}

-- ---- a field's shape

pub shape_on : (f g : Flat) (c : Option (ℕ × ℕ)) (t : ℕ) (scope : Scope) (x y : FlatShape) → f ≡ g → x ≡ y
    → shape_of (at_field (governed f c) (type_at f t) scope) ≡ Ok (shape_view f scope x)
    → shape_of (at_field (governed g c) (type_at g t) scope) ≡ Ok (shape_view g scope y)
shape_on f g c t scope x y e i s =
    let P : Flat → Type 0 = λ z. shape_of (at_field (governed z c) (type_at z t) scope) ≡ Ok (shape_view z scope y) in
    let Q : FlatShape → Type 0 = λ z. shape_of (at_field (governed f c) (type_at f t) scope) ≡ Ok
    (shape_view f scope z) in
    subst P e (subst Q i s)

pub shape_not : (f g : Flat) (c : Option (ℕ × ℕ)) (t : ℕ) (scope : Scope) (r : ShapeError) (why : Cause) → f ≡ g
    → r ≡ Refused why → Refuses r (shape_of (at_field (governed f c) (type_at f t) scope))
    → shape_of (at_field (governed g c) (type_at g t) scope) ≡ Err why
shape_not f g c t scope r why e i s =
    let P : Flat → Type 0 = λ z. shape_of (at_field (governed z c) (type_at z t) scope) ≡ Err why in
    let Q : ShapeError → Type 0 = λ z. Refuses z (shape_of (at_field (governed f c) (type_at f t) scope)) in
    subst P e (subst Q i s)

-- ---- soundness below a greater number

op_above : (f : Flat) (low top : ℕ) (op : PlanOp) → low ≤ top → OpIsSound f low op → OpIsSound f top op
op_above f low top (Check a o b i) le s = s
op_above f low top (Solve v a b i) le s = s
op_above f low top (When e k) le s = s
op_above f low top (Field x t v) le s = let below = s.1 in (s.0, omega (arith, below, le))

ops_above : (f : Flat) (low top : ℕ) (ops : List PlanOp) → low ≤ top → OpsAreSound f low ops → OpsAreSound f top ops
ops_above f low top [] le s = tt
ops_above f low top (op ∷ ops) le s = (op_above f low top op le s.0, ops_above f low top ops le s.1)

pub record_above : (f : Flat) (low top first count : ℕ) → low ≤ top → IsRecord f low first count
    → IsRecord f top first count
record_above f low top first count le r =
    record { there = r.there; sound = ops_above f low top (range f.ops first count) le r.sound }

pub here_sound : (f g : Flat) (t first count : ℕ) (x : FlatShape) → f ≡ g → x ≡ Here first count → t < length g.types
    → ShapeIsSound f t x → IsRecord g (length g.types) first count
here_sound f g t first count x e i below s =
    let P : Flat → Type 0 = λ z. IsRecord z t first count in
    record_above g t (length g.types) first count (omega (arith, below)) (subst P e (subst (ShapeIsSound f t) i s))

pub under_sound : (f g : Flat) (t first count : ℕ) (x : FlatShape) → f ≡ g → x ≡ Under first count → t < length g.types
    → ShapeIsSound f t x → IsRecord g (length g.types) first count
under_sound f g t first count x e i below s =
    let P : Flat → Type 0 = λ z. IsRecord z t first count in
    record_above g t (length g.types) first count (omega (arith, below)) (subst P e (subst (ShapeIsSound f t) i s))

-- ---- the operations of a record

module _ (f g : Flat) (first count : ℕ) (same : f ≡ g) where
  pub range_there : (top : ℕ) → IsRecord g top first count → IsRange f.ops first count
  range_there top r =
      let P : Flat → Type 0 = λ z. IsRange z.ops first count in
      subst P (sym same) r.there

  module _ (ops : List PlanOp) (are : ops ≡ range f.ops first count) where
    pub ops_are : ops ≡ range g.ops first count
    ops_are = are ∙ ap (λ (z : Flat). range z.ops first count) same

    pub items_are : items_in g (type_at g) None ops ≡ record_at g first count
    items_are = ap (items_in g (type_at g) None) ops_are

    pub looked_up : items_in f (type_at f) None ops ≡ record_at g first count
    looked_up = ap (λ (z : Flat). items_in z (type_at z) None ops) same ∙ items_are

    pub ops_sound : IsRecord g (length g.types) first count → OpsAreSound g (length g.types) ops
    ops_sound r = subst (OpsAreSound g (length g.types)) (sym ops_are) r.sound

    pub ops_sound_in : IsRecord g (length g.types) first count → OpsAreSound f (length f.types) ops
    ops_sound_in r =
        let P : Flat → Type 0 = λ z. OpsAreSound z (length z.types) ops in
        subst P (sym same) (ops_sound r)
