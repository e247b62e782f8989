-- Tests and results, taken apart.
use Rattle.std.proofs.Common.{◌≡◌, Bool, true, false, cond, Result, Ok, Option, Some, refl}

pub when_true : {A : Type 0} (b : Bool) (x y : A) → b ≡ true → cond b x y ≡ x
when_true true x y e = refl
when_true false x y e = cc

pub when_false : {A : Type 0} (b : Bool) (x y : A) → b ≡ false → cond b x y ≡ y
when_false true x y e = cc
when_false false x y e = refl

-- the same value in two results
pub same_ok : {A E : Type 0} (x y : A) → (◌≡◌ {A = Result A E} (Ok x) (Ok y)) → x ≡ y
same_ok x y e = cc

pub same_some : {A : Type 0} (x y : A) → (◌≡◌ {A = Option A} (Some x) (Some y)) → x ≡ y
same_some x y e = cc
