-- Where a part stops, the whole stops; and what a part gives, the whole goes on with.
use Rattle.std.proofs.Common.{◌≡◌, Result, Ok, Err, ap, sym, ◌∙◌}
use Rattle.spelling.specs.Places.{Place, Spot}
use Rattle.spelling.specs.PlainReader.{◌>>=◌}
use Rattle.plan_reading.specs.Stops.{Gives, Stops, StopsAt}
use Rattle.plan_reading.specs.declared.stop.StopError.{StopError}
use Rattle.plan_reading.specs.declared.stop.StopError.TheVariants.{Stuck, NoMemory}

pub stops_on : {A B : Type 0} (h : Spot) (e : StopError) (r : Result A Place) (f : A → Result B Place)
    → Stops h e r → Stops h e (r >>= f)
stops_on h (Stuck s) r f stop = ap (λ z. z >>= f) stop
stops_on h NoMemory r f stop = tt

pub stops_same : {A : Type 0} (h : Spot) (e : StopError) (a b : Result A Place) → a ≡ b → Stops h e b → Stops h e a
stops_same h (Stuck s) a b same stop = same ∙ stop
stops_same h NoMemory a b same stop = tt

-- a stop at a place, and a result that is stuck there
pub stops_where : {A : Type 0} (h : Spot) (e : StopError) (p : Place) (a : Result A Place) → a ≡ Err p
    → StopsAt h e p → Stops h e a
stops_where h (Stuck s) p a same stop = same ∙ ap (λ (q : Place). Err q) stop
stops_where h NoMemory p a same stop = tt

-- the place of a stop
pub stops_at : {A : Type 0} (h : Spot) (e : StopError) (p : Place) (a : Result A Place) → a ≡ Err p → Stops h e a
    → StopsAt h e p
stops_at h (Stuck s) p a same stop = one (sym same ∙ stop)
  where
    one : {A : Type 0} {p q : Place} → (◌≡◌ {A = Result A Place} (Err p) (Err q)) → p ≡ q
    one e = cc
stops_at h NoMemory p a same stop = tt

pub gives_same : {X Y : Type 0} (h : Spot) (view : X → Y) (result : Result X StopError) (a b : Result Y Place)
    → a ≡ b → Gives h view result b → Gives h view result a
gives_same h view (Ok x) a b same gives = same ∙ gives
gives_same h view (Err e) a b same gives = stops_same h e a b same gives

-- what is done with the value of a part
pub goes_on : {A B : Type 0} (r : Result A Place) (f : A → Result B Place) (x : A) → r ≡ Ok x → (r >>= f) ≡ f x
goes_on r f x e = ap (λ z. z >>= f) e
