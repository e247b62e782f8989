-- Number expressions of a schema: what value they have, and which number solves an equation.
-- Source: the TON documentation on the TL-B language (naturals in types, `{a = b}` and `~`).
use Rattle.std.specs.Prelude.{ℕ, ◌≡◌, ◌+◌, ◌-◌, ◌*◌, ◌/◌, ◌^◌, ◌≤◌, ◌<◌, List, [], ◌∷◌, ◌++◌, Option, Some, None, Bool, true, false, ◌&&◌, if◌then◌else◌, nat_lt, nat_eq, nat_le, ◌↔◌, Result, Ok, Err, slice_get}
use Rattle.nat_solver.specs.declared.evaluate.NatError.{NatError}
use Rattle.nat_solver.specs.declared.evaluate.NatError.TheVariants.{Overflow, Unknown, NoSolution}
use Rattle.nat_solver.specs.declared.compare.Op.{Op}
use Rattle.nat_solver.specs.declared.compare.Op.TheVariants.{Eq, Lt, Le, Gt, Ge}

-- a literal, a variable by its number, the unknown of an equation by its number, a sum of two, a multiple
pub data Expr : Type 0 where
  lit : ℕ → Expr
  var : ℕ → Expr
  sought : ℕ → Expr
  plus : Expr → Expr → Expr
  times : ℕ → Expr → Expr

-- the sum of a term and of further terms, nested to the left: ((t + u) + v) + ..
abbrev pub nested : Expr → List Expr → Expr
nested t [] = t
nested t (u ∷ us) = nested (plus t u) us

-- the sum of a list of terms; of no terms it is 0
abbrev pub sum_of : List Expr → Expr
sum_of [] = lit 0
sum_of (t ∷ ts) = nested t ts

-- the numbers of the variables that are set, each at its place
abbrev pub Numbers : Type 0
Numbers = List (Option ℕ)

abbrev pub set_or_none : Option (Option ℕ) → Option ℕ
set_or_none (Some x) = x
set_or_none None = None

-- the number of variable v, if it is set
abbrev pub number_at : Numbers → ℕ → Option ℕ
number_at env v = set_or_none (slice_get env v)

-- a number, if it is at most 2^32 - 1
abbrev pub within : ℕ → Option ℕ
within n = if nat_lt n (2 ^ 32) then Some n else None

abbrev pub within_any : Option ℕ → Option ℕ
within_any (Some n) = within n
within_any None = None

abbrev pub sum_within : Option ℕ → Option ℕ → Option ℕ
sum_within (Some m) (Some n) = within (m + n)
sum_within (Some m) None = None
sum_within None n = None

abbrev pub times_within : ℕ → Option ℕ → Option ℕ
times_within k (Some n) = within (k * n)
times_within k None = None

-- the number of an expression, if it and every part of it is at most 2^32 - 1, and none otherwise
abbrev pub value : Expr → Numbers → Option ℕ
value (lit n) env = within n
value (var v) env = within_any (number_at env v)
value (sought v) env = None
value (plus a b) env = sum_within (value a env) (value b env)
value (times k a) env = times_within k (value a env)

abbrev pub exact_sum : Option ℕ → Option ℕ → Option ℕ
exact_sum (Some m) (Some n) = Some (m + n)
exact_sum (Some m) None = None
exact_sum None n = None

abbrev pub exact_times : ℕ → Option ℕ → Option ℕ
exact_times k (Some n) = Some (k * n)
exact_times k None = None

-- the number of an expression, however large
abbrev pub number : Expr → Numbers → Option ℕ
number (lit n) env = Some n
number (var v) env = number_at env v
number (sought v) env = None
number (plus a b) env = exact_sum (number a env) (number b env)
number (times k a) env = exact_times k (number a env)

-- the parts of an expression from left to right, the operands of a part before the part itself
abbrev pub parts : Expr → List Expr
parts (lit n) = lit n ∷ []
parts (var v) = var v ∷ []
parts (sought v) = sought v ∷ []
parts (plus a b) = parts a ++ (parts b ++ (plus a b ∷ []))
parts (times k a) = parts a ++ (times k a ∷ [])

-- the unknowns of an expression, each as often as it occurs
abbrev pub unknowns : Expr → List ℕ
unknowns (lit n) = []
unknowns (var v) = []
unknowns (sought v) = v ∷ []
unknowns (plus a b) = unknowns a ++ unknowns b
unknowns (times k a) = unknowns a

-- those of them that stand under a factor 0
abbrev pub cancelled : Expr → List ℕ
cancelled (lit n) = []
cancelled (var v) = []
cancelled (sought v) = []
cancelled (plus a b) = cancelled a ++ cancelled b
cancelled (times k a) = if nat_eq k 0 then unknowns a else cancelled a

-- v is the only unknown of the two sides, occurs once, and not under a factor 0
pub record OneUnknown (left right : Expr) (v : ℕ) : Type 0 where
  pub only : unknowns left ++ unknowns right ≡ v ∷ []
  pub counts : cancelled left ++ cancelled right ≡ []

abbrev pub is_empty : List ℕ → Bool
is_empty [] = true
is_empty (v ∷ vs) = false

abbrev pub is_none : Option ℕ → Bool
is_none (Some n) = false
is_none None = true

-- whether a part without an unknown has no value
abbrev pub lacks : Numbers → Expr → Bool
lacks env e = is_empty (unknowns e) && is_none (value e env)

abbrev pub first_that : (Expr → Bool) → List Expr → Option Expr
first_that test [] = None
first_that test (e ∷ es) = if test e then Some e else first_that test es

-- the first of some parts that has no unknown and no value
abbrev pub first_lacking : List Expr → Numbers → Option Expr
first_lacking es env = first_that (lacks env) es

-- there is such a part, and its number exceeds 2^32 - 1
abbrev pub Exceeds : Option Expr → Numbers → Type 0
Exceeds None env = ⊥
Exceeds (Some e) env = (n : ℕ) × (number e env ≡ Some n) × (2 ^ 32 ≤ n)

-- there is such a part, and it is the variable v, which is not set
abbrev pub Unset : Option Expr → Numbers → ℕ → Type 0
Unset first env v = (first ≡ Some (var v)) × (number_at env v ≡ None)

-- what is told of a variable that has no value
abbrev pub refused_variable : ℕ → Option ℕ → NatError
refused_variable v None = Unknown v
refused_variable v (Some n) = Overflow

-- what is told of the first part without a value
abbrev pub refusal : Option Expr → Numbers → NatError
refusal (Some (var v)) env = refused_variable v (number_at env v)
refusal _ env = Overflow

abbrev pub number_or : Option ℕ → NatError → Result ℕ NatError
number_or (Some n) refused = Ok n
number_or None refused = Err refused

-- the value of an expression, or what is told of its first part without one
abbrev pub answer : Expr → Numbers → Result ℕ NatError
answer e env = number_or (value e env) (refusal (first_lacking (parts e) env) env)

-- how an operator compares two numbers
abbrev pub Compares : Op → ℕ → ℕ → Type 0
Compares Eq m n = m ≡ n
Compares Lt m n = m < n
Compares Le m n = m ≤ n
Compares Gt m n = n < m
Compares Ge m n = n ≤ m

abbrev pub comparison : Op → ℕ → ℕ → Bool
comparison Eq m n = nat_eq m n
comparison Lt m n = nat_lt m n
comparison Le m n = nat_le m n
comparison Gt m n = nat_lt n m
comparison Ge m n = nat_le n m

-- what is told of a comparison of two sides; what is told of the left one comes first
abbrev pub holding : Op → Result ℕ NatError → Result ℕ NatError → Result Bool NatError
holding op (Err refused) n = Err refused
holding op (Ok m) (Err refused) = Err refused
holding op (Ok m) (Ok n) = Ok (comparison op m n)

-- both sides have values, and what is told of them is whether they compare so
abbrev pub Compared : Op → Expr → Expr → Numbers → Bool → Type 0
Compared op left right env told = (m : ℕ) × (n : ℕ) × (value left env ≡ Some m) × (value right env ≡ Some n) × ((told ≡ true) ↔ Compares op m n)

-- an expression with x for each unknown
abbrev pub put : ℕ → Expr → Expr
put x (lit n) = lit n
put x (var v) = var v
put x (sought v) = lit x
put x (plus a b) = plus (put x a) (put x b)
put x (times k a) = times k (put x a)

-- with x for the unknown both sides have values, and these are equal
abbrev pub Solves : Expr → Expr → Numbers → ℕ → Type 0
Solves left right env x = (n : ℕ) × (value (put x left) env ≡ Some n) × (value (put x right) env ≡ Some n)

-- ---- the number that solves an equation

abbrev pub number_or_0 : Option ℕ → ℕ
number_or_0 (Some n) = n
number_or_0 None = 0

-- how often the unknown counts in an expression, and what its other parts add up to, however large
abbrev pub factor : Expr → ℕ
factor (lit n) = 0
factor (var v) = 0
factor (sought v) = 1
factor (plus a b) = factor a + factor b
factor (times k a) = k * factor a

abbrev pub others : Expr → Numbers → ℕ
others (lit n) env = n
others (var v) env = number_or_0 (number_at env v)
others (sought v) env = 0
others (plus a b) env = others a env + others b env
others (times k a) env = k * others a env

-- the one number that may solve the equation, whose unknown stands on one side
abbrev pub proposed : Expr → Expr → Numbers → ℕ
proposed left right env =
    if nat_eq (factor left) 0 then (others left env - others right env) / factor right
    else (others right env - others left env) / factor left

abbrev pub is_same_value : Option ℕ → Option ℕ → Bool
is_same_value (Some m) (Some n) = nat_eq m n
is_same_value (Some m) None = false
is_same_value None n = false

-- whether a number solves the equation
abbrev pub is_solved_by : Expr → Expr → Numbers → ℕ → Bool
is_solved_by left right env x = is_same_value (value (put x left) env) (value (put x right) env)

abbrev pub solved_by : Expr → Expr → Numbers → ℕ → Result ℕ NatError
solved_by left right env x = if is_solved_by left right env x then Ok x else Err NoSolution

abbrev pub solved_unless : Option Expr → Expr → Expr → Numbers → Result ℕ NatError
solved_unless None left right env = solved_by left right env (proposed left right env)
solved_unless (Some e) left right env = Err (refusal (Some e) env)

-- The number that solves an equation, or what is reported of its first part that has neither the unknown nor a value, or
-- that no number solves it.
abbrev pub solution : Expr → Expr → Numbers → Result ℕ NatError
solution left right env = solved_unless (first_lacking (parts left ++ parts right) env) left right env
