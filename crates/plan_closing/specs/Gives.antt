-- What a call returned, beside what it should.
use Rattle.std.specs.Prelude.{◌≡◌, Option, Some, None, Result, Ok, Err}
use Rattle.core_form.specs.Closing.{Refusal, overflow, big_type}
use Rattle.plan_closing.specs.declared.error.CloseError.{CloseError}
use Rattle.plan_closing.specs.declared.error.CloseError.TheVariants.{Overflow, BigType, NoMemory}

abbrev pub Lacks : {Y : Type 0} → CloseError → Option Y → Type 0
Lacks Overflow wanted = wanted ≡ None
Lacks BigType wanted = ⊥
Lacks NoMemory wanted = Unit {0}

-- what was built, as it is seen, is what is wanted, or there is none, or memory ran out
abbrev pub Builds : {X Y : Type 0} → (X → Y) → Result X CloseError → Option Y → Type 0
Builds view (Ok x) wanted = wanted ≡ Some (view x)
Builds view (Err e) wanted = Lacks e wanted

abbrev pub Refuses : {Y : Type 0} → CloseError → Result Y Refusal → Type 0
Refuses Overflow wanted = wanted ≡ Err overflow
Refuses BigType wanted = wanted ≡ Err big_type
Refuses NoMemory wanted = Unit {0}

-- the result, as it is seen, is what is wanted: the same value, or the same refusal; or memory ran out
abbrev pub Closes : {X Y : Type 0} → (X → Y) → Result X CloseError → Result Y Refusal → Type 0
Closes view (Ok x) wanted = wanted ≡ Ok (view x)
Closes view (Err e) wanted = Refuses e wanted
