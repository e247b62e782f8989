-- Where a part stops, the whole stops; and what a part gives, the whole goes on with.
use Rattle.std.proofs.Common.{◌≡◌, ℕ, Result, Ok, Err, refl, ap, sym, ◌∙◌, subst}
use Rattle.spelling.specs.Places.{Place, Spot}
use Rattle.spelling.specs.PlainReader.{◌>>=◌}
use Rattle.plan_reading.specs.Stops.{Gives, Stops}
use Rattle.plan_reading.specs.declared.stop.StopError.{StopError}
use Rattle.plan_reading.specs.declared.stop.StopError.TheVariants.{Stuck, NoMemory}

pub stops_same : {A : Type 0} (h : Spot) (e : StopError) (a b : Result A Place) → a ≡ b → Stops h e b → Stops h e a
stops_same h (Stuck s) a b same stop = same ∙ stop
stops_same h NoMemory a b same stop = tt

pub gives_same : {X Y : Type 0} (h : Spot) (view : X → Y) (result : Result X StopError) (a b : Result Y Place)
    → a ≡ b → Gives h view result b → Gives h view result a
gives_same h view (Ok x) a b same gives = same ∙ gives
gives_same h view (Err e) a b same gives = stops_same h e a b same gives

-- what is done with the value of a part
pub goes_on : {A B : Type 0} (r : Result A Place) (f : A → Result B Place) (x : A) → r ≡ Ok x → (r >>= f) ≡ f x
goes_on r f x e = ap (λ z. z >>= f) e

-- the error of a part, at the exit of a `?`
pub gives_err : {X Y : Type 0} (h : Spot) (view : X → Y) (result : Result X StopError) (e : StopError)
    (wanted : Result Y Place)
    → result ≡ Err e → Stops h e wanted → Gives h view result wanted
gives_err h view result e wanted is stop = subst (λ r. Gives h view r wanted) (sym is) stop

-- one part after the other
pub bind_twice : {A B C : Type 0} (r : Result A Place) (f : A → Result B Place) (g : B → Result C Place)
    → ((r >>= f) >>= g) ≡ (r >>= (λ x. f x >>= g))
bind_twice (Ok x) f g = refl
bind_twice (Err p) f g = refl
