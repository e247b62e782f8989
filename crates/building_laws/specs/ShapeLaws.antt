-- Only the goal of a cell of any kind has the shape of one.
use Rattle.std.proofs.Common.{◌≡◌, ℕ, Bool, true, false, cond, Option, Some, None, Result, Ok, Err, refl, subst}
use Rattle.cell_nodes.specs.declared.tree.Mode.{Mode}
use Rattle.core_form.specs.Closed.{Closed}
use Rattle.core_form.specs.Closing.{Refusal, close}
use Rattle.core_form.specs.Core.{Condition, Ty}
use Rattle.core_form.specs.Core as core
use Rattle.core_form.specs.Scope.{Scope, value_in}
use Rattle.hashmap_tree.specs.Entries.{Slice}
use Rattle.spelling.specs.Goals.{Goal, at_type, at_field, at_cell, Shape, typed, fields_here, fields_under, left_out, as_cell, typed_or, laid, in_table, in_width, judged, passes, tested, shape_of}
use Rattle.spelling.specs.declared.Cause.{Cause}
use Rattle.spelling.specs.declared.Cause.TheVariants.{Width}
use Rattle.building.specs.Laid.{AreSeen}
use Rattle.building_laws.specs.DictLaws.{HeldAt}
use Rattle.building_laws.specs.MoveLaws.{IsHeld}

-- the limits of the whole, by the shape at which a value is built
abbrev pub Holding : Mode → Shape → Slice → Type 0
Holding mode (typed t) w = IsHeld w
Holding mode (fields_here is scope) w = IsHeld w
Holding mode (fields_under is scope) w = IsHeld w
Holding mode left_out w = IsHeld w
Holding mode as_cell w = AreSeen mode w.refs

abbrev pub NotCell : Shape → Type 0
NotCell (typed t) = Unit {0}
NotCell (fields_here is scope) = Unit {0}
NotCell (fields_under is scope) = Unit {0}
NotCell left_out = Unit {0}
NotCell as_cell = ⊥

pub ok_same : (c d : Shape) → (◌≡◌ {A = Result Shape Cause} (Ok c) (Ok d)) → c ≡ d
ok_same c d e = cc

as_same : (c d : Shape) → NotCell c → (◌≡◌ {A = Result Shape Cause} (Ok c) (Ok d)) → NotCell d
as_same c d n e = let P : Shape → Type 0 = NotCell in subst P (ok_same c d e) n

of_typed : (r : Result Closed Refusal) (c : Shape) → typed_or r ≡ Ok c → NotCell c
of_typed (Ok t) c e = as_same (typed t) c tt e
of_typed (Err w) c e = cc

of_laid : (t : Ty) (scope : Scope) (c : Shape) → laid t scope ≡ Ok c → NotCell c
of_laid (core.group is) scope c e = as_same (fields_here is scope) c tt e
of_laid (core.ref (core.group is)) scope c e = as_same (fields_under is scope) c tt e
of_laid t scope c e = of_typed (close t scope) c e

of_width : (c d : Shape) → NotCell c → in_width c ≡ Ok d → NotCell d
of_width (typed t) d n e = go (in_table t) e
  where
    go : (b : Bool) → cond b (Ok (typed t)) (Err Width) ≡ Ok d → NotCell d
    go true e = as_same (typed t) d tt e
    go false e = cc
of_width (fields_here is scope) d n e = as_same (fields_here is scope) d tt e
of_width (fields_under is scope) d n e = as_same (fields_under is scope) d tt e
of_width left_out d n e = as_same left_out d tt e
of_width as_cell d n e = absurd n

of_judged : (r : Result Shape Cause) (d : Shape) → ((c : Shape) → r ≡ Ok c → NotCell c) → judged r ≡ Ok d → NotCell d
of_judged (Ok c) d n e = of_width c d (n c refl) e
of_judged (Err w) d n e = cc

of_tested : (k o : Option ℕ) (r : Result Shape Cause) (d : Shape) → ((c : Shape) → r ≡ Ok c → NotCell c)
    → tested k o r ≡ Ok d → NotCell d
of_tested k None r d n e = cc
of_tested k (Some m) (Err w) d n e = cc
of_tested k (Some m) (Ok c) d n e = go (passes k m) e
  where
    go : (b : Bool) → cond b (in_width c) (Ok left_out) ≡ Ok d → NotCell d
    go true e = of_width c d (n c refl) e
    go false e = as_same left_out d tt e

held_not : (mode : Mode) (c : Shape) (w : Slice) → NotCell c → IsHeld w → Holding mode c w
held_not mode (typed t) w n h = h
held_not mode (fields_here is scope) w n h = h
held_not mode (fields_under is scope) w n h = h
held_not mode left_out w n h = h
held_not mode as_cell w n h = absurd n

-- the shape of a goal that is no cell of any kind
pub not_type : (t : Closed) (c : Shape) → shape_of (at_type t) ≡ Ok c → NotCell c
not_type t c e = of_width (typed t) c tt e

pub not_field : (x : Option Condition) (t : Ty) (scope : Scope) (c : Shape) → shape_of (at_field x t scope) ≡ Ok c → NotCell c
not_field None t scope c e = of_judged (laid t scope) c (λ d k. of_laid t scope d k) e
not_field (Some x) t scope c e =
    of_tested x.bit (value_in x.number scope) (laid t scope) c (λ d k. of_laid t scope d k) e

pub holding : (mode : Mode) (g : Goal) (c : Shape) (w : Slice) → shape_of g ≡ Ok c → HeldAt mode g w → Holding mode c w
holding mode (at_type t) c w e h = held_not mode c w (not_type t c e) h
holding mode (at_field x t scope) c w e h = held_not mode c w (not_field x t scope c e) h
holding mode at_cell c w e h =
    let P : Shape → Type 0 = λ z. Holding mode z w in subst P (ok_same as_cell c e) h
