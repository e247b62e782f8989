-- Goals whose equations, and those of the records in them, seek their one unknown.
use Rattle.std.proofs.Common.{◌≡◌, ℕ, Bool, true, false, cond, Option, Some, None, Result, Ok, Err, refl, subst}
use Rattle.core_form.specs.Core.{Ty, Items, Condition}
use Rattle.core_form.specs.Core as core
use Rattle.core_form.specs.Closed.{Closed}
use Rattle.core_form.specs.Closed as closed
use Rattle.core_form.specs.Closing.{Refusal, close}
use Rattle.core_form.specs.Scope.{Scope, value_in}
use Rattle.spelling.specs.Goals.{Goal, at_type, at_field, at_cell, Shape, typed, fields_here, fields_under, left_out, as_cell, under_ref, typed_or, laid, in_table, in_width, judged, passes, tested, shape_of}
use Rattle.spelling.specs.Acceptable.{Seeks, SeeksIn}
use Rattle.spelling.specs.declared.Cause.{Cause}
use Rattle.spelling.specs.declared.Cause.TheVariants.{Width}

abbrev pub Proper : Goal → Type 0
Proper (at_type t) = Unit {0}
Proper (at_field e t scope) = SeeksIn t
Proper at_cell = Unit {0}

abbrev pub ProperShape : Shape → Type 0
ProperShape (typed t) = Unit {0}
ProperShape (fields_here is scope) = Seeks is
ProperShape (fields_under is scope) = Seeks is
ProperShape left_out = Unit {0}
ProperShape as_cell = Unit {0}

pub proper_under : (t : Closed) → Proper (under_ref t)
proper_under closed.whole = tt
proper_under _ = tt

ok_same : (c d : Shape) → (◌≡◌ {A = Result Shape Cause} (Ok c) (Ok d)) → c ≡ d
ok_same c d e = cc

proper_typed : (r : Result Closed Refusal) (c : Shape) → typed_or r ≡ Ok c → ProperShape c
proper_typed (Ok t) c e = let P : Shape → Type 0 = ProperShape in subst P (ok_same _ c e) tt
proper_typed (Err w) c e = cc

proper_laid : (t : Ty) (scope : Scope) (c : Shape) → SeeksIn t → laid t scope ≡ Ok c → ProperShape c
proper_laid (core.group is) scope c p e = let P : Shape → Type 0 = ProperShape in subst P (ok_same _ c e) p
proper_laid (core.ref (core.group is)) scope c p e = let P : Shape → Type 0 = ProperShape in subst P (ok_same _ c e) p
proper_laid t scope c p e = proper_typed (close t scope) c e

proper_in_width : (c d : Shape) → ProperShape c → in_width c ≡ Ok d → ProperShape d
proper_in_width (typed t) d p e = go (in_table t) e
  where
    go : (b : Bool) → cond b (Ok (typed t)) (Err Width) ≡ Ok d → ProperShape d
    go true e = let P : Shape → Type 0 = ProperShape in subst P (ok_same _ d e) tt
    go false e = cc
proper_in_width (fields_here is scope) d p e = let P : Shape → Type 0 = ProperShape in subst P (ok_same _ d e) p
proper_in_width (fields_under is scope) d p e = let P : Shape → Type 0 = ProperShape in subst P (ok_same _ d e) p
proper_in_width left_out d p e = let P : Shape → Type 0 = ProperShape in subst P (ok_same _ d e) tt
proper_in_width as_cell d p e = let P : Shape → Type 0 = ProperShape in subst P (ok_same _ d e) tt

proper_judged : (r : Result Shape Cause) (d : Shape) → ((c : Shape) → r ≡ Ok c → ProperShape c) → judged r ≡ Ok d
    → ProperShape d
proper_judged (Ok c) d p e = proper_in_width c d (p c refl) e
proper_judged (Err w) d p e = cc

proper_tested : (k o : Option ℕ) (r : Result Shape Cause) (d : Shape) → ((c : Shape) → r ≡ Ok c → ProperShape c)
    → tested k o r ≡ Ok d → ProperShape d
proper_tested k None r d p e = cc
proper_tested k (Some n) (Err w) d p e = cc
proper_tested k (Some n) (Ok c) d p e = go (passes k n) e
  where
    go : (b : Bool) → cond b (in_width c) (Ok left_out) ≡ Ok d → ProperShape d
    go true e = proper_in_width c d (p c refl) e
    go false e = let P : Shape → Type 0 = ProperShape in subst P (ok_same _ d e) tt

-- the shape of a proper goal
pub proper_shape : (g : Goal) (c : Shape) → Proper g → shape_of g ≡ Ok c → ProperShape c
proper_shape (at_type t) c p e = proper_in_width (typed t) c tt e
proper_shape (at_field None t scope) c p e = proper_judged (laid t scope) c (λ d k. proper_laid t scope d p k) e
proper_shape (at_field (Some x) t scope) c p e =
    proper_tested x.bit (value_in x.number scope) (laid t scope) c (λ d k. proper_laid t scope d p k) e
proper_shape at_cell c p e = let P : Shape → Type 0 = ProperShape in subst P (ok_same _ c e) tt
