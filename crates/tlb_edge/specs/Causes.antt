-- When a call may answer that it failed.
use Rattle.std.specs.Prelude.{◌≡◌, ℕ, ◌+◌, ◌-◌, ◌^◌, ◌≤◌, min, Option, None, Some, OnOk, OnErr}
use Rattle.std.specs.declared.result.Result.{Result}
use Rattle.std.specs.declared.result.Result.TheVariants.{Ok, Err}

-- the greatest number that a count keeps
abbrev pub last : ℕ
last = 2 ^ 64 - 1

-- a count after n more, which stays at its last value
abbrev pub counted : ℕ → ℕ → ℕ
counted count n = min (count + n) last

-- a count that may be reported, after one more
abbrev pub counted_once : Option ℕ → Option ℕ
counted_once None = None
counted_once (Some count) = Some (counted count 1)

-- the count has risen, or stands at its last value
abbrev pub Rose : ℕ → ℕ → Type 0
Rose before now = counted before 1 ≤ now

-- A count of faults never falls: a call fails only where it rose or stands at its last value, and a call
-- that doesn't fail leaves it.
pub record HasCause {T E : Type 0} (before now : ℕ) (result : Result T E) : Type 0 where
  pub later : before ≤ now
  pub failed : OnErr result (Rose before now)
  pub kept : OnOk result (now ≡ before)

-- the count of faults after a call: one more where it failed, and else as before
abbrev pub faults_after : {T E : Type 0} → ℕ → Result T E → ℕ
faults_after before (Ok value) = before
faults_after before (Err error) = counted before 1
