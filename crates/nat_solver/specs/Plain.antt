-- What the program computes, part by part; proofs/ ties it to the definitions of Number.
use Rattle.std.specs.Prelude.{ℕ, ◌≡◌, ◌+◌, ◌*◌, ◌^◌, List, [], ◌∷◌, ◌++◌, Option, Some, None, Bool, true, false, if◌then◌else◌, nat_lt, nat_eq, Result, Ok, Err}
use Rattle.nat_solver.specs.Number.{Expr, lit, var, sought, plus, times, Numbers, number_at, value, unknowns, cancelled, first_lacking, parts, is_empty, number_or_0}
use Rattle.nat_solver.specs.declared.evaluate.NatError.{NatError}
use Rattle.nat_solver.specs.declared.evaluate.NatError.TheVariants.{Overflow, Unknown}
use Rattle.nat_solver.specs.declared.unknown.Occurrence.{Occurrence}
use Rattle.nat_solver.specs.declared.unknown.Occurrence.TheVariants.{Never, Once, Unfit}

-- the number of an expression, none where an unknown stands in it, or a refusal
abbrev pub Known : Type 0
Known = Result (Option ℕ) NatError

abbrev pub bounded : ℕ → Known
bounded n = if nat_lt n (2 ^ 32) then Ok (Some n) else Err Overflow

abbrev pub of_variable : ℕ → Option ℕ → Known
of_variable v (Some n) = bounded n
of_variable v None = Err (Unknown v)

abbrev pub added : Option ℕ → Option ℕ → Known
added (Some m) (Some n) = bounded (m + n)
added (Some m) None = Ok None
added None n = Ok None

abbrev pub multiplied : ℕ → Option ℕ → Known
multiplied k (Some n) = bounded (k * n)
multiplied k None = Ok None

abbrev pub both : Known → Known → Known
both (Err f) y = Err f
both (Ok m) (Err f) = Err f
both (Ok m) (Ok n) = added m n

abbrev pub scaled : ℕ → Known → Known
scaled k (Err f) = Err f
scaled k (Ok n) = multiplied k n

abbrev pub known_number : Expr → Numbers → Known
known_number (lit n) env = bounded n
known_number (var v) env = of_variable v (number_at env v)
known_number (sought v) env = Ok None
known_number (plus a b) env = both (known_number a env) (known_number b env)
known_number (times k a) env = scaled k (known_number a env)

-- the same of what is summed so far and further terms
abbrev pub known_rest : Known → List Expr → Numbers → Known
known_rest sum [] env = sum
known_rest sum (t ∷ ts) env = known_rest (both sum (known_number t env)) ts env

-- how unknowns occur in two expressions together
abbrev pub joined : Occurrence → Occurrence → Occurrence
joined Never o = o
joined (Once v) Never = Once v
joined (Once v) (Once w) = Unfit
joined (Once v) Unfit = Unfit
joined Unfit o = Unfit

-- how unknowns occur under a factor
abbrev pub under : ℕ → Occurrence → Occurrence
under k Never = Never
under k (Once v) = if nat_eq k 0 then Unfit else Once v
under k Unfit = Unfit

abbrev pub occurrence : Expr → Occurrence
occurrence (lit n) = Never
occurrence (var v) = Never
occurrence (sought v) = Once v
occurrence (plus a b) = joined (occurrence a) (occurrence b)
occurrence (times k a) = under k (occurrence a)

abbrev pub occurrence_rest : Occurrence → List Expr → Occurrence
occurrence_rest o [] = o
occurrence_rest o (t ∷ ts) = occurrence_rest (joined o (occurrence t)) ts

abbrev pub occurs : Occurrence → Bool
occurs Never = false
occurs (Once v) = true
occurs Unfit = true

abbrev pub unknown_of : Occurrence → Option ℕ
unknown_of Never = None
unknown_of (Once v) = Some v
unknown_of Unfit = None

-- the unknowns of some terms, and those of them under a factor 0
abbrev pub unknowns_in : List Expr → List ℕ
unknowns_in [] = []
unknowns_in (t ∷ ts) = unknowns t ++ unknowns_in ts

abbrev pub cancelled_in : List Expr → List ℕ
cancelled_in [] = []
cancelled_in (t ∷ ts) = cancelled t ++ cancelled_in ts

-- in each term the parts without an unknown have values
abbrev pub AllValued : List Expr → Numbers → Type 0
AllValued [] env = Unit {0}
AllValued (t ∷ ts) env = (first_lacking (parts t) env ≡ None) × AllValued ts env

-- the numbers of the terms without an unknown, added up
abbrev pub known_total : List Expr → Numbers → ℕ
known_total [] env = 0
known_total (t ∷ ts) env = number_or_0 (value t env) + known_total ts env

-- the first term with an unknown
abbrev pub holder : List Expr → Expr
holder [] = lit 0
holder (t ∷ ts) = if is_empty (unknowns t) then holder ts else t
