-- What the laws say: facts about the definitions alone.
use Rattle.std.specs.Prelude.{ℕ, ◌≡◌, ◌≢◌, ◌^◌, ◌<◌, ◌↔◌, List, [], ◌∷◌, Option, Some, Ok, Err, length, slice_set}
use Rattle.nat_solver.specs.Number.{Expr, Numbers, OneUnknown, Solves, value, number, number_at, parts, sum_of, exact_sum, within_any}
use Rattle.nat_solver.specs.Number.{solution}
use Rattle.nat_solver.specs.declared.evaluate.NatError.{NatError}
use Rattle.nat_solver.specs.Pattern.{Fits}
use Rattle.nat_solver.specs.declared.pattern.Pattern.{Pattern}

-- two numbers that solve an equation are one
abbrev pub OneSolution : Type 0
OneSolution = (left right : Expr) (env : Numbers) (v x y : ℕ) → OneUnknown left right v → Solves left right env x → Solves left right env y → x ≡ y

-- the solution of an equation with one unknown is what solves it
abbrev pub SolutionSolves : Type 0
SolutionSolves =
    (left right : Expr) (env : Numbers) (v x : ℕ) → OneUnknown left right v
    → (solution left right env ≡ Ok x) ↔ Solves left right env x

-- and where it is refused, nothing does
abbrev pub RefusedUnsolved : Type 0
RefusedUnsolved =
    (left right : Expr) (env : Numbers) (v x : ℕ) (f : NatError) → OneUnknown left right v
    → solution left right env ≡ Err f → Solves left right env x → ⊥

-- a pattern gives at most one number
abbrev pub OneFit : Type 0
OneFit = (p : Pattern) (x y z : ℕ) → Fits p x y → Fits p x z → y ≡ z

-- every one of some parts has a number of at most 2^32 - 1
abbrev pub AllSmall : List Expr → Numbers → Type 0
AllSmall [] env = Unit {0}
AllSmall (e ∷ es) env = ((n : ℕ) × (number e env ≡ Some n) × (n < 2 ^ 32)) × AllSmall es env

-- the value is the number where every part is small enough, and else there is none
abbrev pub ValueIsNumber : Type 0
ValueIsNumber = (e : Expr) (env : Numbers) (n : ℕ) → (value e env ≡ Some n) ↔ ((number e env ≡ Some n) × AllSmall (parts e) env)

-- the values of some terms added up, however large
abbrev pub total : List Expr → Numbers → Option ℕ
total [] env = Some 0
total (t ∷ ts) env = exact_sum (value t env) (total ts env)

-- a sum's value doesn't depend on how its terms are grouped
abbrev pub SumIsTotal : Type 0
SumIsTotal = (ts : List Expr) (env : Numbers) → value (sum_of ts) env ≡ within_any (total ts env)

-- a variable that is set is read again
abbrev pub SetIsRead : Type 0
SetIsRead = (env : Numbers) (v x : ℕ) → v < length env → number_at (slice_set env v (Some x)) v ≡ Some x

-- and no other changes
abbrev pub OthersStay : Type 0
OthersStay = (env : Numbers) (v x w : ℕ) → v ≢ w → number_at (slice_set env v (Some x)) w ≡ number_at env w
