-- Steps of the plain reader, taken apart.
use Rattle.std.proofs.Common.{◌≡◌, Bool, true, false, cond, Result, Ok, Err, refl, ◌⊎◌, inl, inr}
use Rattle.hashmap_tree.specs.Walk.{Fault}
use Rattle.hashmap_tree.specs.Walk.{◌>>=◌}

pub bind_ok : {A B : Type 0} (r : Result A Fault) (f : A → Result B Fault) (y : B) → (r >>= f) ≡ Ok y
    → (x : A) × (r ≡ Ok x) × (f x ≡ Ok y)
bind_ok (Ok a) f y e = (a, refl, e)
bind_ok (Err p) f y e = cc

pub bind_err : {A B : Type 0} (r : Result A Fault) (f : A → Result B Fault) (p : Fault) → (r >>= f) ≡ Err p
    → (r ≡ Err p) ⊎ ((x : A) × (r ≡ Ok x) × (f x ≡ Err p))
bind_err (Ok a) f p e = inr (a, refl, e)
bind_err (Err q) f p e = inl (cc)

pub bind_on : {A B : Type 0} (r : Result A Fault) (f : A → Result B Fault) (a : A) (y : Result B Fault) → r ≡ Ok a
    → f a ≡ y → (r >>= f) ≡ y
bind_on r f a y e h = rw e h

pub guard_ok : {A : Type 0} (b : Bool) (p : Fault) (r : Result A Fault) (y : A) → cond b (Err p) r ≡ Ok y
    → (b ≡ false) × (r ≡ Ok y)
guard_ok true p r y e = cc
guard_ok false p r y e = (refl, e)

pub only_ok : {A : Type 0} (b : Bool) (p : Fault) (r : Result A Fault) (y : A) → cond b r (Err p) ≡ Ok y
    → (b ≡ true) × (r ≡ Ok y)
only_ok true p r y e = (refl, e)
only_ok false p r y e = cc

pub ok_one : {A : Type 0} (x y : A) → (let X : Type 0 = Result A Fault in X)
    → (◌≡◌ {A = Result A Fault} (Ok x) (Ok y)) → x ≡ y
ok_one x y r e = cc

pub when_true : {A : Type 0} (b : Bool) (x y : A) → b ≡ true → cond b x y ≡ x
when_true true x y e = refl
when_true false x y e = cc

pub when_false : {A : Type 0} (b : Bool) (x y : A) → b ≡ false → cond b x y ≡ y
when_false true x y e = cc
when_false false x y e = refl
