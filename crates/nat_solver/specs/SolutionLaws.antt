-- Laws of `solution`: it gives the number that solves an equation with one unknown, if there is one.
use Rattle.std.proofs.Common.{◌≡◌, ℕ, ◌+◌, ◌-◌, ◌*◌, ◌/◌, ◌<◌, List, [], ◌∷◌, ◌++◌, Option, Some, None, Result, Ok, Err}
use Rattle.std.proofs.Common.{Bool, true, false, refl, sym, ap, ◌∙◌, subst, arith, nat_eq, cond}
use Rattle.std.proofs.lemmas.Bool.{cond-true, cond-false, eq-eqb, eqb-true, ne_eqb}
use Rattle.std.proofs.Math.Nat.{mul-div_cancel_left, mul_assoc, add-mul, mul-add, zero-mul, mul-zero}
use Rattle.std.proofs.Math.Nat.{le-mul_of_pos_right}
use Rattle.nat_solver.specs.Number.{Expr, lit, var, sought, plus, times, Numbers, number_at, exact_sum, exact_times}
use Rattle.nat_solver.specs.Number.{value}
use Rattle.nat_solver.specs.Number.{number, parts, unknowns, cancelled, is_empty, lacks, first_lacking, put, Solves}
use Rattle.nat_solver.specs.Number.{OneUnknown}
use Rattle.nat_solver.specs.Number.{factor, others, proposed, is_same_value, is_solved_by, solved_by, solved_unless}
use Rattle.nat_solver.specs.Number.{solution}
use Rattle.nat_solver.specs.Number.{refusal, number_or_0}
use Rattle.nat_solver.specs.declared.evaluate.NatError.{NatError}
use Rattle.nat_solver.specs.declared.evaluate.NatError.TheVariants.{NoSolution}
use Rattle.nat_solver.specs.ValueLaws.{sum_parts, times_parts, none_append, alone_has, valued_has, unknown_has}
use Rattle.nat_solver.specs.ValueLaws.{number_from_value}

-- ---- lists of one

pub nil_left : (xs ys : List ℕ) → xs ++ ys ≡ [] → xs ≡ []
nil_left [] ys e = refl
nil_left (x ∷ xs) ys e = cc

pub nil_right : (xs ys : List ℕ) → xs ++ ys ≡ [] → ys ≡ []
nil_right [] ys e = e
nil_right (x ∷ xs) ys e = cc

pub append_nil : (xs : List ℕ) → xs ++ [] ≡ xs
append_nil [] = refl
append_nil (x ∷ xs) = ap (λ ys. x ∷ ys) (append_nil xs)

-- a list of one is the first or the second part
pub one_left : (xs ys : List ℕ) (v : ℕ) → xs ++ ys ≡ v ∷ [] → is_empty xs ≡ false → (xs ≡ v ∷ []) × (ys ≡ [])
one_left [] ys v e f = cc
one_left (x ∷ xs) ys v e f =
    let t : xs ++ ys ≡ [] = cc in
    let h : x ≡ v = cc in
    (λ i. h i ∷ nil_left xs ys t i, nil_right xs ys t)

pub one_right : (xs ys : List ℕ) (v : ℕ) → xs ++ ys ≡ v ∷ [] → xs ≡ [] → ys ≡ v ∷ []
one_right xs ys v e n = sym (ap (λ zs. zs ++ ys) n) ∙ e

pub empty_is : (xs : List ℕ) → is_empty xs ≡ true → xs ≡ []
empty_is [] e = refl
empty_is (x ∷ xs) e = cc

-- without an unknown there is nothing to put
pub put_known : (x : ℕ) (e : Expr) → unknowns e ≡ [] → put x e ≡ e
put_known x (lit n) u = refl
put_known x (var v) u = refl
put_known x (sought v) u = cc
put_known x (plus a b) u = λ i. plus (put_known x a (nil_left (unknowns a) (unknowns b) u) i)
    (put_known x b (nil_right (unknowns a) (unknowns b) u) i)
put_known x (times k a) u = ap (times k) (put_known x a u)

-- the unknown of a multiple
pub counted : (b : Bool) (us cs : List ℕ) (v : ℕ) → us ≡ v ∷ [] → cond b us cs ≡ [] → (b ≡ false) × (cs ≡ [])
counted true us cs v u c = cc
counted false us cs v u c = (refl, c)

-- where some number for the unknown gives a value, no part without the unknown lacks one
part_has : (x : ℕ) (e : Expr) (env : Numbers) (n : ℕ) → value (put x e) env ≡ Some n → lacks env e ≡ false
part_has x e env n v = cases (is_empty (unknowns e)) refl
  where
    cases : (b : Bool) → is_empty (unknowns e) ≡ b → lacks env e ≡ false
    cases true is = valued_has e env n (sym (ap (λ f. value f env) (put_known x e (empty_is (unknowns e) is))) ∙ v)
    cases false is = unknown_has e env is

pub none_from_put : (x : ℕ) (e : Expr) (env : Numbers) (n : ℕ) → value (put x e) env ≡ Some n
    → first_lacking (parts e) env ≡ None
none_from_put x (lit m) env n v = alone_has (lit m) env (part_has x (lit m) env n v)
none_from_put x (var w) env n v = alone_has (var w) env (part_has x (var w) env n v)
none_from_put x (sought w) env n v = alone_has (sought w) env (part_has x (sought w) env n v)
none_from_put x (plus a b) env n v =
    let p = sum_parts (value (put x a) env) (value (put x b) env) n v in
    none_append (parts a) (parts b ++ (plus a b ∷ [])) env (none_from_put x a env p.left p.left_is)
    ∙ none_append (parts b) (plus a b ∷ []) env (none_from_put x b env p.right p.right_is)
    ∙ alone_has (plus a b) env (part_has x (plus a b) env n v)
none_from_put x (times k a) env n v =
    let p = times_parts k (value (put x a) env) n v in
    none_append (parts a) (times k a ∷ []) env (none_from_put x a env p.factor p.factor_is)
    ∙ alone_has (times k a) env (part_has x (times k a) env n v)

pub none_from_solved : (left right : Expr) (env : Numbers) (x : ℕ) → Solves left right env x
    → first_lacking (parts left ++ parts right) env ≡ None
none_from_solved left right env x s =
    none_append (parts left) (parts right) env (none_from_put x left env s.0 s.1) ∙ none_from_put x right env s.0 s.2

-- ---- the number that is proposed

-- the parts of an exact sum, and of an exact multiple
record ExactSum (x y : Option ℕ) (n : ℕ) : Type 0 where
  left : ℕ
  right : ℕ
  left_is : x ≡ Some left
  right_is : y ≡ Some right
  is : n ≡ left + right

exact_parts : (x y : Option ℕ) (n : ℕ) → exact_sum x y ≡ Some n → ExactSum x y n
exact_parts None y n e = cc
exact_parts (Some l) None n e = cc
exact_parts (Some l) (Some r) n e =
    let s : l + r ≡ n = cc in record { left = l; right = r; left_is = refl; right_is = refl; is = sym s }

exact_factor : (k : ℕ) (x : Option ℕ) (n : ℕ) → exact_times k x ≡ Some n → (m : ℕ) × (x ≡ Some m) × (n ≡ k * m)
exact_factor k None n e = cc
exact_factor k (Some m) n e = let s : k * m ≡ n = cc in (m, refl, sym s)

number_is : (o : Option ℕ) (n : ℕ) → o ≡ Some n → n ≡ number_or_0 o
number_is o n e = sym (ap number_or_0 e)

-- an expression with one unknown is linear in it
pub linear : (x : ℕ) (e : Expr) (env : Numbers) (n : ℕ) → number (put x e) env ≡ Some n
    → n ≡ others e env + factor e * x
linear x (lit m) env n is = let s : m ≡ n = cc in omega (arith, s)
linear x (var v) env n is = let s = number_is (number_at env v) n is in omega (arith, s)
linear x (sought v) env n is = let s : x ≡ n = cc in omega (arith, s)
linear x (plus a b) env n is =
    let p = exact_parts (number (put x a) env) (number (put x b) env) n is in
    let l = linear x a env p.left p.left_is in
    let r = linear x b env p.right p.right_is in
    spread (others a env) (factor a) (others b env) (factor b) x n p.left p.right p.is l r
  where
    spread : (a f b g x n l r : ℕ) → n ≡ l + r → l ≡ a + f * x → r ≡ b + g * x → n ≡ (a + b) + (f + g) * x
    spread a f b g x n l r s l_is r_is =
        let e = add-mul f g x in omega (arith, s, l_is, r_is, e)
linear x (times k a) env n is =
    let p = exact_factor k (number (put x a) env) n is in
    let l = linear x a env p.0 p.1 in
    spread k (others a env) (factor a) x n p.0 p.2 l
  where
    spread : (k a f x n m : ℕ) → n ≡ k * m → m ≡ a + f * x → n ≡ k * a + (k * f) * x
    spread k a f x n m s m_is =
        s ∙ ap (λ z. k * z) m_is ∙ mul-add k a (f * x) ∙ ap (λ z. k * a + z) (sym (mul_assoc k f x))

-- the unknown of an expression without one counts 0 times, and of one that has it once at least 1
factor_none : (e : Expr) → unknowns e ≡ [] → factor e ≡ 0
factor_none (lit n) u = refl
factor_none (var v) u = refl
factor_none (sought v) u = cc
factor_none (plus a b) u =
    let l = factor_none a (nil_left (unknowns a) (unknowns b) u) in
    let r = factor_none b (nil_right (unknowns a) (unknowns b) u) in omega (arith, l, r)
factor_none (times k a) u = ap (λ z. k * z) (factor_none a u) ∙ mul-zero k

factor_some : (e : Expr) (v : ℕ) → unknowns e ≡ v ∷ [] → cancelled e ≡ [] → 0 < factor e
factor_some (lit n) v u c = cc
factor_some (var w) v u c = cc
factor_some (sought w) v u c = omega arith
factor_some (plus a b) v u c =
    cases (is_empty (unknowns a)) refl (λ w. factor_some a v w (nil_left (cancelled a) (cancelled b) c))
    (λ w. factor_some b v w (nil_right (cancelled a) (cancelled b) c))
  where
    cases : (z : Bool) → is_empty (unknowns a) ≡ z → (unknowns a ≡ v ∷ [] → 0 < factor a)
        → (unknowns b ≡ v ∷ [] → 0 < factor b) → 0 < factor a + factor b
    cases true is on_left on_right =
        let h = on_right (one_right (unknowns a) (unknowns b) v u (empty_is (unknowns a) is)) in omega (arith, h)
    cases false is on_left on_right =
        let h = on_left (one_left (unknowns a) (unknowns b) v u is).0 in omega (arith, h)
factor_some (times k a) v u c =
    let b = counted (nat_eq k 0) (unknowns a) (cancelled a) v u c in
    let h = factor_some a v u b.1 in
    let low : k ≡ 0 → ⊥ = λ z. let f : nat_eq k 0 ≡ true = eq-eqb k 0 z in let g : nat_eq k 0 ≡ false = b.0 in cc in
    let big = le-mul_of_pos_right k h in omega (arith, low, big)

-- what solves the equation is what is proposed
pub solved_is_proposed : (left right : Expr) (env : Numbers) (v x : ℕ) → OneUnknown left right v
    → Solves left right env x
    → proposed left right env ≡ x
solved_is_proposed left right env v x one s = cases (is_empty (unknowns left)) refl
  where
    of_left : s.0 ≡ others left env + factor left * x
    of_left = linear x left env s.0 (number_from_value (put x left) env s.0 s.1)

    of_right : s.0 ≡ others right env + factor right * x
    of_right = linear x right env s.0 (number_from_value (put x right) env s.0 s.2)

    quotient : (f a b x : ℕ) → 0 < f → a ≡ b + f * x → (a - b) / f ≡ x
    quotient f a b x low is =
        let e : a - b ≡ f * x = omega (arith, is) in ap (λ n. n / f) e ∙ mul-div_cancel_left x low

    at_right : (f g a b n x : ℕ) → f ≡ 0 → 0 < g → n ≡ a + f * x → n ≡ b + g * x
        → cond (nat_eq f 0) ((a - b) / g) ((b - a) / f) ≡ x
    at_right f g a b n x none low l r =
        let z : f * x ≡ 0 = ap (λ w. w * x) none ∙ zero-mul x in
        let e : a ≡ b + g * x = omega (arith, l, r, z) in cond-true (nat_eq f 0) _ _ (eq-eqb f 0 none)
        ∙ quotient g a b x low e

    at_left : (f g a b n x : ℕ) → g ≡ 0 → 0 < f → n ≡ a + f * x → n ≡ b + g * x
        → cond (nat_eq f 0) ((a - b) / g) ((b - a) / f) ≡ x
    at_left f g a b n x none low l r =
        let z : g * x ≡ 0 = ap (λ w. w * x) none ∙ zero-mul x in
        let e : b ≡ a + f * x = omega (arith, l, r, z) in
        let p : nat_eq f 0 ≡ false = ne_eqb f 0 (λ h. omega (arith, h, low)) in cond-false (nat_eq f 0) _ _ p
        ∙ quotient f b a x low e

    cases : (z : Bool) → is_empty (unknowns left) ≡ z → proposed left right env ≡ x
    cases true is =
        let none = empty_is (unknowns left) is in
        at_right (factor left) (factor right) (others left env) (others right env) s.0 x (factor_none left none)
        (factor_some right v (one_right (unknowns left) (unknowns right) v one.only none)
        (nil_right (cancelled left) (cancelled right) one.counts)) of_left of_right
    cases false is =
        let w = one_left (unknowns left) (unknowns right) v one.only is in
        at_left (factor left) (factor right) (others left env) (others right env) s.0 x (factor_none right w.1)
        (factor_some left v w.0 (nil_left (cancelled left) (cancelled right) one.counts)) of_left of_right

-- ---- the test of a number

same_is : (o p : Option ℕ) → is_same_value o p ≡ true → (n : ℕ) × (o ≡ Some n) × (p ≡ Some n)
same_is None p e = cc
same_is (Some m) None e = cc
same_is (Some m) (Some n) e = let s = eqb-true m n e in (m, refl, ap Some (sym s))

is_same : (o p : Option ℕ) (n : ℕ) → o ≡ Some n → p ≡ Some n → is_same_value o p ≡ true
is_same o p n a b = (λ i. is_same_value (a i) (b i)) ∙ eq-eqb n n refl

pub solves_tested : (left right : Expr) (env : Numbers) (x : ℕ) → is_solved_by left right env x ≡ true
    → Solves left right env x
solves_tested left right env x e = same_is (value (put x left) env) (value (put x right) env) e

pub tested_solves : (left right : Expr) (env : Numbers) (x : ℕ) → Solves left right env x
    → is_solved_by left right env x ≡ true
tested_solves left right env x s = is_same (value (put x left) env) (value (put x right) env) s.0 s.1 s.2

-- ---- the solution

-- where a part has neither the unknown nor a value, that is reported
pub solution_first : (left right : Expr) (env : Numbers) (e : Expr)
    → first_lacking (parts left ++ parts right) env ≡ Some e
    → solution left right env ≡ Err (refusal (Some e) env)
solution_first left right env e is = ap (λ o. solved_unless o left right env) is

solution_tested : (left right : Expr) (env : Numbers) → first_lacking (parts left ++ parts right) env ≡ None
    → solution left right env ≡ solved_by left right env (proposed left right env)
solution_tested left right env none = ap (λ o. solved_unless o left right env) none

-- what solves an equation with one unknown is its solution
pub solution_complete : (left right : Expr) (env : Numbers) (v x : ℕ) → OneUnknown left right v
    → Solves left right env x
    → solution left right env ≡ Ok x
solution_complete left right env v x one s =
    solution_tested left right env (none_from_solved left right env x s)
    ∙ ap (solved_by left right env) (solved_is_proposed left right env v x one s)
    ∙ cond-true (is_solved_by left right env x) _ _ (tested_solves left right env x s)

-- a solution solves
pub solution_solves : (left right : Expr) (env : Numbers) (x : ℕ) → solution left right env ≡ Ok x
    → Solves left right env x
solution_solves left right env x e = by_first (first_lacking (parts left ++ parts right) env) e
  where
    by_test : (b : Bool) (y : ℕ) → is_solved_by left right env y ≡ b → cond b (Ok y) (Err NoSolution) ≡ Ok x
        → Solves left right env x
    by_test false y t h = cc
    by_test true y t h =
        let s : y ≡ x = cc in
        let P : ℕ → Type 0 = Solves left right env in subst P s (solves_tested left right env y t)

    by_first : (o : Option Expr) → solved_unless o left right env ≡ Ok x → Solves left right env x
    by_first None h = by_test (is_solved_by left right env (proposed left right env)) (proposed left right env) refl h
    by_first (Some f) h = cc

-- where there is none, and each part without the unknown has a value, there is no solution
pub solution_none : (left right : Expr) (env : Numbers) → first_lacking (parts left ++ parts right) env ≡ None
    → ((x : ℕ) → Solves left right env x → ⊥) → solution left right env ≡ Err NoSolution
solution_none left right env none not_solved = solution_tested left right env none
    ∙ by_test (is_solved_by left right env p) refl
  where
    p : ℕ
    p = proposed left right env

    by_test : (b : Bool) → is_solved_by left right env (proposed left right env) ≡ b
        → cond b (Ok (proposed left right env)) (Err NoSolution) ≡ Err NoSolution
    by_test false t = refl
    by_test true t = absurd (not_solved (proposed left right env)
        (solves_tested left right env (proposed left right env) t))

-- where it is refused, nothing solves an equation with one unknown
pub refused_unsolved : (left right : Expr) (env : Numbers) (v x : ℕ) (f : NatError) → OneUnknown left right v
    → solution left right env ≡ Err f → Solves left right env x → ⊥
refused_unsolved left right env v x f one e s =
    let h : ◌≡◌ {A = Result ℕ NatError} (Ok x) (Err f) = sym (solution_complete left right env v x one s) ∙ e in cc
