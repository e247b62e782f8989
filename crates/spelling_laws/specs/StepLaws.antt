-- Steps of the plain reader, taken apart and put together.
use Rattle.std.proofs.Common.{◌≡◌, Bool, ◌&&◌, true, false, cond, Option, Some, None, Result, Ok, Err, refl, ap, ◌⊎◌, inl, inr}
use Rattle.hashmap_tree.specs.Walk.{Fault}
use Rattle.spelling.specs.Places.{Spot, Place, stuck}
use Rattle.spelling.specs.PlainReader.{◌>>=◌, known, reported, walked, why_of}
use Rattle.spelling.specs.declared.Cause.{Cause}
use Rattle.spelling.specs.declared.Cause.TheVariants.{Overflow}

pub bind_ok : {A B : Type 0} (r : Result A Place) (f : A → Result B Place) (y : B) → (r >>= f) ≡ Ok y
    → (x : A) × (r ≡ Ok x) × (f x ≡ Ok y)
bind_ok (Ok a) f y e = (a, refl, e)
bind_ok (Err p) f y e = cc

pub bind_err : {A B : Type 0} (r : Result A Place) (f : A → Result B Place) (p : Place) → (r >>= f) ≡ Err p
    → (r ≡ Err p) ⊎ ((x : A) × (r ≡ Ok x) × (f x ≡ Err p))
bind_err (Ok a) f p e = inr (a, refl, e)
bind_err (Err q) f p e = inl (cc)

pub bind_on : {A B : Type 0} (r : Result A Place) (f : A → Result B Place) (a : A) (y : Result B Place) → r ≡ Ok a
    → f a ≡ y → (r >>= f) ≡ y
bind_on r f a y e h = rw e h

pub bind_fault : {A B : Type 0} (r : Result A Place) (f : A → Result B Place) (p : Place) → r ≡ Err p
    → (r >>= f) ≡ Err p
bind_fault r f p e = ap (λ z. z >>= f) e

pub guard_ok : {A : Type 0} (b : Bool) (p : Place) (r : Result A Place) (y : A) → cond b (Err p) r ≡ Ok y
    → (b ≡ false) × (r ≡ Ok y)
guard_ok true p r y e = cc
guard_ok false p r y e = (refl, e)

pub only_ok : {A : Type 0} (b : Bool) (p : Place) (r : Result A Place) (y : A) → cond b r (Err p) ≡ Ok y
    → (b ≡ true) × (r ≡ Ok y)
only_ok true p r y e = (refl, e)
only_ok false p r y e = cc

pub ok_one : {A : Type 0} (x y : A) → (let X : Type 0 = Result A Place in X)
    → (◌≡◌ {A = Result A Place} (Ok x) (Ok y)) → x ≡ y
ok_one x y r e = cc

pub err_one : {A : Type 0} (p q : Place) → (◌≡◌ {A = Result A Place} (Err p) (Err q)) → q ≡ p
err_one p q e = cc

pub only_err : {A : Type 0} (b : Bool) (x : A) (q p : Place) → cond b (Ok x) (Err q) ≡ Err p → (b ≡ false) × (p ≡ q)
only_err true x q p e = cc
only_err false x q p e = (refl, err_one q p e)

-- a test before a reading
pub test_err : {A : Type 0} (b : Bool) (r : Result A Place) (q p : Place) → cond b r (Err q) ≡ Err p
    → ((b ≡ true) × (r ≡ Err p)) ⊎ ((b ≡ false) × (p ≡ q))
test_err true r q p e = inl (refl, e)
test_err false r q p e = inr (refl, err_one q p e)

pub guard_err : {A : Type 0} (b : Bool) (r : Result A Place) (q p : Place) → cond b (Err q) r ≡ Err p
    → ((b ≡ true) × (p ≡ q)) ⊎ ((b ≡ false) × (r ≡ Err p))
guard_err true r q p e = inl (refl, err_one q p e)
guard_err false r q p e = inr (refl, e)

pub when_true : {A : Type 0} (b : Bool) (x y : A) → b ≡ true → cond b x y ≡ x
when_true true x y e = refl
when_true false x y e = cc

pub when_false : {A : Type 0} (b : Bool) (x y : A) → b ≡ false → cond b x y ≡ y
when_false true x y e = cc
when_false false x y e = refl

pub both : (a b : Bool) → (a && b) ≡ true → (a ≡ true) × (b ≡ true)
both true b e = (refl, e)
both false b e = cc

pub both_on : (a b : Bool) → a ≡ true → b ≡ true → (a && b) ≡ true
both_on true b e f = f
both_on false b e f = e

pub known_ok : {A : Type 0} (h : Spot) (o : Option A) (y : A) → known h o ≡ Ok y → o ≡ Some y
known_ok h (Some a) y e = cc
known_ok h None y e = cc

pub known_on : {A : Type 0} (h : Spot) (o : Option A) (a : A) → o ≡ Some a → known h o ≡ Ok a
known_on h o a e = ap (known h) e

pub known_err : {A : Type 0} (h : Spot) (o : Option A) (p : Place) → known h o ≡ Err p
    → (o ≡ None) × (p ≡ stuck h Overflow)
known_err h (Some a) p e = cc
known_err h None p e = (refl, err_one _ _ e)

pub reported_ok : {A : Type 0} (h : Spot) (o : Result A Cause) (y : A) → reported h o ≡ Ok y → o ≡ Ok y
reported_ok h (Ok a) y e = cc
reported_ok h (Err w) y e = cc

pub reported_on : {A : Type 0} (h : Spot) (o : Result A Cause) (a : A) → o ≡ Ok a → reported h o ≡ Ok a
reported_on h o a e = ap (reported h) e

pub reported_err : {A : Type 0} (h : Spot) (o : Result A Cause) (p : Place) → reported h o ≡ Err p
    → (w : Cause) × (o ≡ Err w) × (p ≡ stuck h w)
reported_err h (Ok a) p e = cc
reported_err h (Err w) p e = (w, refl, err_one _ _ e)

pub walked_ok : {A : Type 0} (h : Spot) (r : Result A Fault) (y : A) → walked h r ≡ Ok y → r ≡ Ok y
walked_ok h (Ok a) y e = ap Ok (ok_one _ _ (Ok y) e)
walked_ok h (Err f) y e = cc

pub walked_on : {A : Type 0} (h : Spot) (r : Result A Fault) (y : A) → r ≡ Ok y → walked h r ≡ Ok y
walked_on h r y e = ap (walked h) e

pub walked_err : {A : Type 0} (h : Spot) (r : Result A Fault) (p : Place) → walked h r ≡ Err p
    → (f : Fault) × (r ≡ Err f) × (p ≡ stuck h (why_of f.cause))
walked_err h (Ok a) p e = cc
walked_err h (Err f) p e = (f, refl, err_one _ _ e)

pub ok_err : {A B : Type 0} (r : Result A Place) (f : A → B) (p : Place) → (r >>= λ y. Ok (f y)) ≡ Err p → r ≡ Err p
ok_err (Ok a) f p e = cc
ok_err (Err q) f p e = cc

-- what follows a step and the rest of a list, taken into the rest
pub step_then : {A B C D : Type 0} (r : Result A Place) (f : A → Result B Place) (g : A → B → C)
    (k : C → Result D Place)
    → ((r >>= λ x. f x >>= λ y. Ok (g x y)) >>= k) ≡ (r >>= λ x. f x >>= λ y. k (g x y))
step_then {B = B} {C = C} {D = D} (Ok a) f g k = inner (f a)
  where
    inner : (q : Result B Place) → ((q >>= λ y. Ok (g a y)) >>= k) ≡ (q >>= λ y. k (g a y))
    inner (Ok b) = refl
    inner (Err p) = refl
step_then (Err p) f g k = refl
