-- The laws.
use Rattle.std.proofs.Common.{◌≡◌, ℕ, zero, suc, ◌+◌, ◌*◌, List, [], ◌∷◌, ◌++◌, Some, None, Bool, true, false, refl, sym, ap, ◌∙◌, arith, nat_eq}
use Rattle.std.proofs.lemmas.Bool.{eq-eqb}
use Rattle.nat_solver.specs.Number.{Expr, lit, var, sought, plus, times, Numbers, within_any, sum_within, times_within, value, exact_sum, exact_times, number, parts, unknowns, cancelled, is_empty, put}
use Rattle.nat_solver.specs.declared.pattern.Pattern.TheVariants.{Lit, Var, Plus}
use Rattle.nat_solver.specs.Laws.{OneSolution, OneFit, AllSmall, ValueIsNumber, SetIsRead, OthersStay}
use Rattle.nat_solver.proofs.Values.{within_fits, within_some, sum_parts, times_parts, number_from_value}
use Rattle.nat_solver.proofs.Solving.{put_known, value_small, one_left, one_right, nil_left, nil_right, empty_is, same_factor, counted}

pub one_fit : OneFit
one_fit (Lit n) x y z a b = a.1 ∙ sym b.1
one_fit (Var v) x y z a b = sym a ∙ b
one_fit (Plus v k) x y z a b = omega (arith, a, b)

-- two numbers with which an expression with one unknown has one value are one
put_same : (e : Expr) (env : Numbers) (v x y n : ℕ) → unknowns e ≡ v ∷ [] → cancelled e ≡ [] → value (put x e) env ≡ Some n → value (put y e) env ≡ Some n → x ≡ y
put_same (lit m) env v x y n u c a b = cc
put_same (var w) env v x y n u c a b = cc
put_same (sought w) env v x y n u c a b = (within_some x n a).0 ∙ sym (within_some y n b).0
put_same (plus a b) env v x y n u c p q =
    let s = sum_parts (value (put x a) env) (value (put x b) env) n p in
    let t = sum_parts (value (put y a) env) (value (put y b) env) n q in
    side (is_empty (unknowns a)) refl (λ w k l. put_same a env v x y s.left w (nil_left (cancelled a) (cancelled b) c) k l) (λ w k l. put_same b env v x y s.right w (nil_right (cancelled a) (cancelled b) c) k l)
  where
    -- the other side has one value
    alike : (f : Expr) (l m : ℕ) → unknowns f ≡ [] → value (put x f) env ≡ Some l → value (put y f) env ≡ Some m → l ≡ m
    alike f l m none g h =
        let same : value (put x f) env ≡ value (put y f) env = ap (λ z. value z env) (put_known x f none ∙ sym (put_known y f none)) in cc

    side : (z : Bool) → is_empty (unknowns a) ≡ z → (unknowns a ≡ v ∷ [] → (value (put x a) env ≡ Some (sum_parts (value (put x a) env) (value (put x b) env) n p).left) → (value (put y a) env ≡ Some (sum_parts (value (put x a) env) (value (put x b) env) n p).left) → x ≡ y)
        → (unknowns b ≡ v ∷ [] → (value (put x b) env ≡ Some (sum_parts (value (put x a) env) (value (put x b) env) n p).right) → (value (put y b) env ≡ Some (sum_parts (value (put x a) env) (value (put x b) env) n p).right) → x ≡ y) → x ≡ y
    side true is on_left on_right =
        let s = sum_parts (value (put x a) env) (value (put x b) env) n p in
        let t = sum_parts (value (put y a) env) (value (put y b) env) n q in
        let none = empty_is (unknowns a) is in
        let e : s.left ≡ t.left = alike a s.left t.left none s.left_is t.left_is in
        let r : t.right ≡ s.right = omega (arith, s.is, t.is, e) in
        on_right (one_right (unknowns a) (unknowns b) v u none) s.right_is (t.right_is ∙ ap Some r)
    side false is on_left on_right =
        let s = sum_parts (value (put x a) env) (value (put x b) env) n p in
        let t = sum_parts (value (put y a) env) (value (put y b) env) n q in
        let w = one_left (unknowns a) (unknowns b) v u is in
        let e : s.right ≡ t.right = alike b s.right t.right w.1 s.right_is t.right_is in
        let r : t.left ≡ s.left = omega (arith, s.is, t.is, e) in
        on_left w.0 s.left_is (t.left_is ∙ ap Some r)
put_same (times k a) env v x y n u c p q =
    let s = times_parts k (value (put x a) env) n p in
    let t = times_parts k (value (put y a) env) n q in
    let b = counted (nat_eq k 0) (unknowns a) (cancelled a) v u c in
    let low : k ≡ 0 → ⊥ = λ z. let f : nat_eq k 0 ≡ true = eq-eqb k 0 z in let g : nat_eq k 0 ≡ false = b.0 in cc in
    let r : t.factor ≡ s.factor = same_factor k t.factor s.factor low (sym t.is ∙ s.is) in
    put_same a env v x y s.factor u b.1 s.factor_is (t.factor_is ∙ ap Some r)

pub one_solution : OneSolution
one_solution left right env v x y one a b = side (is_empty (unknowns left)) refl
  where
    alike : (f : Expr) (l m : ℕ) → unknowns f ≡ [] → value (put x f) env ≡ Some l → value (put y f) env ≡ Some m → l ≡ m
    alike f l m none g h =
        let same : value (put x f) env ≡ value (put y f) env = ap (λ z. value z env) (put_known x f none ∙ sym (put_known y f none)) in cc

    side : (z : Bool) → is_empty (unknowns left) ≡ z → x ≡ y
    side true is =
        let none = empty_is (unknowns left) is in
        let e : b.0 ≡ a.0 = sym (alike left a.0 b.0 none a.1 b.1) in
        put_same right env v x y a.0 (one_right (unknowns left) (unknowns right) v one.only none) (nil_right (cancelled left) (cancelled right) one.counts) a.2 (b.2 ∙ ap Some e)
    side false is =
        let w = one_left (unknowns left) (unknowns right) v one.only is in
        let e : b.0 ≡ a.0 = sym (alike right a.0 b.0 w.1 a.2 b.2) in
        put_same left env v x y a.0 w.0 (nil_left (cancelled left) (cancelled right) one.counts) a.1 (b.1 ∙ ap Some e)

small_append : (xs ys : List Expr) (env : Numbers) → AllSmall xs env → AllSmall ys env → AllSmall (xs ++ ys) env
small_append [] ys env a b = b
small_append (x ∷ xs) ys env a b = (a.0, small_append xs ys env a.1 b)

small_left : (xs ys : List Expr) (env : Numbers) → AllSmall (xs ++ ys) env → AllSmall xs env
small_left [] ys env a = tt
small_left (x ∷ xs) ys env a = (a.0, small_left xs ys env a.1)

small_right : (xs ys : List Expr) (env : Numbers) → AllSmall (xs ++ ys) env → AllSmall ys env
small_right [] ys env a = a
small_right (x ∷ xs) ys env a = small_right xs ys env a.1

parts_small : (e : Expr) (env : Numbers) (n : ℕ) → value e env ≡ Some n → AllSmall (parts e) env
parts_small (lit m) env n v = ((n, number_from_value (lit m) env n v, value_small (lit m) env n v), tt)
parts_small (var w) env n v = ((n, number_from_value (var w) env n v, value_small (var w) env n v), tt)
parts_small (sought w) env n v = cc
parts_small (plus a b) env n v =
    let p = sum_parts (value a env) (value b env) n v in
    small_append (parts a) _ env (parts_small a env p.left p.left_is)
    (small_append (parts b) _ env (parts_small b env p.right p.right_is) ((n, number_from_value (plus a b) env n v, value_small (plus a b) env n v), tt))
parts_small (times k a) env n v =
    let p = times_parts k (value a env) n v in
    small_append (parts a) _ env (parts_small a env p.factor p.factor_is) ((n, number_from_value (times k a) env n v, value_small (times k a) env n v), tt)

-- an expression whose parts are small has its number as its value
value_from_small : (e : Expr) (env : Numbers) → AllSmall (parts e) env → (n : ℕ) × (value e env ≡ Some n)
value_from_small (lit m) env s = let h = s.0 in (m, let e : Some m ≡ Some h.0 = h.1 in let t : m ≡ h.0 = cc in within_fits m (omega (arith, t, h.2)))
value_from_small (var w) env s = let h = s.0 in (h.0, ap within_any h.1 ∙ within_fits h.0 h.2)
value_from_small (sought w) env s = let e : None ≡ Some s.0.0 = s.0.1 in cc
value_from_small (plus a b) env s =
    let l = value_from_small a env (small_left (parts a) _ env s) in
    let r = value_from_small b env (small_left (parts b) _ env (small_right (parts a) _ env s)) in
    let h = (small_right (parts b) (plus a b ∷ []) env (small_right (parts a) _ env s)).0 in
    let e : Some (l.0 + r.0) ≡ Some h.0 = sym (λ i. exact_sum (number_from_value a env l.0 l.1 i) (number_from_value b env r.0 r.1 i)) ∙ h.1 in
    let t : l.0 + r.0 ≡ h.0 = cc in
    (l.0 + r.0, (λ i. sum_within (l.1 i) (r.1 i)) ∙ within_fits (l.0 + r.0) (omega (arith, t, h.2)))
value_from_small (times k a) env s =
    let l = value_from_small a env (small_left (parts a) _ env s) in
    let h = (small_right (parts a) (times k a ∷ []) env s).0 in
    let e : Some (k * l.0) ≡ Some h.0 = sym (ap (exact_times k) (number_from_value a env l.0 l.1)) ∙ h.1 in
    let t : k * l.0 ≡ h.0 = cc in
    (k * l.0, ap (times_within k) l.1 ∙ within_fits (k * l.0) (omega (arith, t, h.2)))

pub value_is_number : ValueIsNumber
value_is_number e env n = (
  λ v. (number_from_value e env n v, parts_small e env n v),
  λ h. let w = value_from_small e env h.1 in let m : number e env ≡ Some w.0 = number_from_value e env w.0 w.1 in let k : number e env ≡ Some n = h.0 in let t : w.0 ≡ n = cc in w.1 ∙ ap Some t,
)

pub set_is_read : SetIsRead
set_is_read [] v x h = absurd (omega arith)
set_is_read (s ∷ env) zero x h = refl
set_is_read (s ∷ env) (suc v) x h = set_is_read env v x (omega arith)

pub others_stay : OthersStay
others_stay [] v x w h = refl
others_stay (s ∷ env) zero x zero h = absurd (h refl)
others_stay (s ∷ env) zero x (suc w) h = refl
others_stay (s ∷ env) (suc v) x zero h = refl
others_stay (s ∷ env) (suc v) x (suc w) h = others_stay env v x w (λ e. h (ap suc e))
