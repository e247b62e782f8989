-- Numbers that are capped at a greatest one.
use Rattle.std.proofs.Common.{add-one, ◌≡◌, ◌<◌, ◌≤◌, ◌+◌, ◌*◌, ◌-◌, ◌^◌, ℕ, zero, suc, min, arith, refl, ap, sym, ◌∙◌, inl, inr, ◌⊎◌, List, [], ◌∷◌, map, drop, length, get_or}
use Rattle.std.specs.Prelude.{Option, Some, None, option_map}
use Rattle.std.specs.List.{fold}
use Rattle.std.proofs.Math.Seq.{drop-cons}
use Rattle.std.proofs.lemmas.Bool.{cases_lt}
use Rattle.std.proofs.lemmas.Bool.Decides.{nat_tests}
use Rattle.nat_solver.specs.Number.{exact_sum}
use Rattle.tlb_syntax.specs.declared.tree.Expr.{Expr}
use Rattle.tlb_syntax.specs.Tree.{ExprView, plus, nested, sum_of}
use Rattle.tlb_syntax.specs.View.{expr}
use Rattle.tlb_syntax.specs.declared.tree.Expr.TheVariants.{Star, Sum}
use Rattle.kind_terms.specs.SumLaws.{expr_of_star, expr_of_sum}
use Rattle.kind_terms.specs.Closed.{closed_total}
use Rattle.kind_terms.specs.Closed.{closed, exact_product, is_zero}

pub capped_sum : (k a b : ℕ) → min k (min k a + min k b) ≡ min k (a + b)
capped_sum k a b = omega arith

at_least_one : (x y k : ℕ) → 1 ≤ x → k ≤ y → k ≤ x * y
at_least_one zero y k h g = absurd (omega arith)
at_least_one (suc x) y k h g = grind arith

-- where one factor is greater than the cap, and the other is not 0
past_product : (k a b : ℕ) → 0 < a → 0 < b → (k < a) ⊎ (k < b) → k ≤ min k a * min k b
past_product zero a b x y h = omega arith
past_product (suc k) a b x y (inl h) =
    let more : suc k ≤ min (suc k) b * min (suc k) a = at_least_one (min (suc k) b) (min (suc k) a) (suc k) (omega arith) (omega arith) in
    omega arith
past_product (suc k) a b x y (inr h) = at_least_one (min (suc k) a) (min (suc k) b) (suc k) (omega arith) (omega arith)

whole_product : (k a b : ℕ) → 0 < a → 0 < b → (k < a) ⊎ (k < b) → k ≤ a * b
whole_product k a b x y (inl h) = let more : k ≤ b * a = at_least_one b a k (omega arith) (omega arith) in omega arith
whole_product k a b x y (inr h) = at_least_one a b k (omega arith) (omega arith)

both_past : (k a b : ℕ) → 0 < a → 0 < b → (k < a) ⊎ (k < b) → min k (min k a * min k b) ≡ min k (a * b)
both_past k a b x y h = omega (arith, past_product k a b x y h, whole_product k a b x y h)

none_past : (k a b : ℕ) → a ≤ k → b ≤ k → min k (min k a * min k b) ≡ min k (a * b)
none_past k a b x y =
    let left : min k a ≡ a = omega arith in
    let right : min k b ≡ b = omega arith in
    ap (λ (n : ℕ). min k (n * min k b)) left ∙ ap (λ (n : ℕ). min k (a * n)) right

by_cases : (k a b : ℕ) → 0 < a → 0 < b → (k < a) ⊎ (a ≤ k) → (k < b) ⊎ (b ≤ k) → min k (min k a * min k b) ≡ min k (a * b)
by_cases k a b x y (inl h) g = both_past k a b x y (inl h)
by_cases k a b x y (inr h) (inl g) = both_past k a b x y (inr g)
by_cases k a b x y (inr h) (inr g) = none_past k a b h g

with_zero : (k a b : ℕ) → (a ≡ 0) ⊎ (b ≡ 0) → min k (min k a * min k b) ≡ min k (a * b)
with_zero k a b (inl h) = let z : min k a ≡ 0 = omega arith in rw (z, h) (omega arith)
with_zero k a b (inr h) = let z : min k b ≡ 0 = omega arith in rw (z, h) (omega arith)

pub capped_product : (k a b : ℕ) → min k (min k a * min k b) ≡ min k (a * b)
capped_product k zero b = with_zero k zero b (inl refl)
capped_product k (suc a) zero = with_zero k (suc a) zero (inr refl)
capped_product k (suc a) (suc b) = by_cases k (suc a) (suc b) (omega arith) (omega arith) (cases_lt k (suc a)) (cases_lt k (suc b))

pub is_zero_of_capped : (o : Option ℕ) → is_zero (option_map (min (2 ^ 64 - 1)) o) ≡ is_zero o
is_zero_of_capped None = refl
is_zero_of_capped (Some n) = grind (arith, nat_tests)

abbrev pub with_closed : Option ℕ → ExprView → Option ℕ
with_closed o u = exact_sum o (closed u)

closed_nested : (t : ExprView) (us : List ExprView) → closed (nested t us) ≡ fold with_closed (closed t) us
closed_nested t [] = refl
closed_nested t (u ∷ us) = closed_nested (plus t u) us

sum_assoc : (o p q : Option ℕ) → exact_sum (exact_sum o p) q ≡ exact_sum o (exact_sum p q)
sum_assoc None p q = refl
sum_assoc (Some a) None q = refl
sum_assoc (Some a) (Some b) None = refl
sum_assoc (Some a) (Some b) (Some c) = ap Some (omega arith)

sum_zero : (o : Option ℕ) → o ≡ exact_sum o (Some 0)
sum_zero None = refl
sum_zero (Some a) = ap Some (omega arith)

zero_sum : (o : Option ℕ) → exact_sum (Some 0) o ≡ o
zero_sum None = refl
zero_sum (Some a) = ap Some (omega arith)

fold_total : (o : Option ℕ) (us : List ExprView) → fold with_closed o us ≡ exact_sum o (closed_total us)
fold_total o [] = sum_zero o
fold_total o (u ∷ us) = fold_total (exact_sum o (closed u)) us ∙ sum_assoc o (closed u) (closed_total us)

-- a total from 0 on
pub total_from_zero : (us : List ExprView) → fold with_closed (Some 0) us ≡ closed_total us
total_from_zero us = fold_total (Some 0) us ∙ zero_sum (closed_total us)

pub closed_of_sum : (a b : ExprView) (us : List ExprView)
    → closed (sum_of a b us) ≡ exact_sum (exact_sum (closed a) (closed b)) (closed_total us)
closed_of_sum a b us = closed_nested (plus a b) us ∙ fold_total (exact_sum (closed a) (closed b)) us

pub none_stays : (us : List ExprView) → fold with_closed None us ≡ None
none_stays [] = refl
none_stays (u ∷ us) = none_stays us

abbrev pub capped : Option ℕ → Option ℕ
capped o = option_map (min (2 ^ 64 - 1)) o

with_one_more : (us : List ExprView) (o : Option ℕ) (m n : ℕ) → min (2 ^ 64 - 1) m ≡ min (2 ^ 64 - 1) n
    → ((x y : ℕ) → min (2 ^ 64 - 1) x ≡ min (2 ^ 64 - 1) y → capped (fold with_closed (Some x) us) ≡ capped (fold with_closed (Some y) us))
    → capped (fold with_closed (exact_sum (Some m) o) us) ≡ capped (fold with_closed (exact_sum (Some n) o) us)
with_one_more us None m n same rest = refl
with_one_more us (Some w) m n same rest = rest (m + w) (n + w) (omega arith)

-- a total counts only as capped
pub same_capped : (us : List ExprView) (m n : ℕ) → min (2 ^ 64 - 1) m ≡ min (2 ^ 64 - 1) n
    → capped (fold with_closed (Some m) us) ≡ capped (fold with_closed (Some n) us)
same_capped [] m n same = ap Some same
same_capped (u ∷ us) m n same = with_one_more us (closed u) m n same (λ x y. same_capped us x y)

-- the value of a product, from capped values
pub product_of_capped : (o p : Option ℕ) (a b r : ℕ) → Some a ≡ capped o → Some b ≡ capped p → r ≡ min (a * b) (2 ^ 64 - 1)
    → Some r ≡ capped (exact_product o p)
product_of_capped None p a b r h g e = cc
product_of_capped (Some m) None a b r h g e = cc
product_of_capped (Some m) (Some n) a b r h g e =
    let left : a ≡ min (2 ^ 64 - 1) m = cc in
    let right : b ≡ min (2 ^ 64 - 1) n = cc in
    let whole = capped_product (2 ^ 64 - 1) m n in
    let same : a * b ≡ min (2 ^ 64 - 1) m * min (2 ^ 64 - 1) n = ap (λ (x : ℕ). x * b) left ∙ ap (λ (x : ℕ). min (2 ^ 64 - 1) m * x) right in
    ap Some (omega (arith, whole, same, e))

-- one more term
next_closed : (ts : List Expr) (i : ℕ) (t : Expr) (n : ℕ) → i < length ts → t ≡ get_or ts i t
    → fold with_closed (Some n) (map expr (drop i ts)) ≡ fold with_closed (exact_sum (Some n) (closed (expr t))) (map expr (drop (i + 1) ts))
next_closed ts i t n h is =
    ap (λ (us : List Expr). fold with_closed (Some n) (map expr us)) (drop-cons ts i t h)
    ∙ ap (λ (u : Expr). fold with_closed (exact_sum (Some n) (closed (expr u))) (map expr (drop (suc i) ts))) (sym is)
    ∙ ap (λ (j : ℕ). fold with_closed (exact_sum (Some n) (closed (expr t))) (map expr (drop j ts))) (sym (add-one i))

at_value : (us : List ExprView) (o : Option ℕ) (n v r : ℕ) → Some v ≡ capped o → r ≡ min (n + v) (2 ^ 64 - 1)
    → capped (fold with_closed (exact_sum (Some n) o) us) ≡ capped (fold with_closed (Some r) us)
at_value us None n v r h e = cc
at_value us (Some w) n v r h e =
    let is : v ≡ min (2 ^ 64 - 1) w = cc in
    same_capped us (n + w) r (omega (arith, is, e))

pub one_more_closed : (ts : List Expr) (i : ℕ) (t : Expr) (n v r : ℕ) → i < length ts → t ≡ get_or ts i t
    → Some v ≡ capped (closed (expr t)) → r ≡ min (n + v) (2 ^ 64 - 1)
    → capped (fold with_closed (Some n) (map expr (drop i ts))) ≡ capped (fold with_closed (Some r) (map expr (drop (i + 1) ts)))
one_more_closed ts i t n v r h is value e =
    ap capped (next_closed ts i t n h is) ∙ at_value (map expr (drop (i + 1) ts)) (closed (expr t)) n v r value e

at_none : (us : List ExprView) (o : Option ℕ) (n : ℕ) → None ≡ capped o → None ≡ fold with_closed (exact_sum (Some n) o) us
at_none us None n h = sym (none_stays us)
at_none us (Some w) n h = cc

-- a term without a value
pub no_value : (ts : List Expr) (i : ℕ) (t : Expr) (n : ℕ) → i < length ts → t ≡ get_or ts i t → None ≡ capped (closed (expr t))
    → None ≡ capped (fold with_closed (Some n) (map expr (drop i ts)))
no_value ts i t n h is none =
    ap capped (at_none (map expr (drop (i + 1) ts)) (closed (expr t)) n none ∙ sym (next_closed ts i t n h is))

pub closed_star : (e a b x y : Expr) (v w r : ℕ) → e ≡ Star a b → x ≡ a → y ≡ b → Some v ≡ capped (closed (expr x)) → Some w ≡ capped (closed (expr y))
    → r ≡ min (v * w) (2 ^ 64 - 1) → Some r ≡ capped (closed (expr e))
closed_star e a b x y v w r is left right h g product =
    product_of_capped (closed (expr a)) (closed (expr b)) v w r (h ∙ ap (λ (z : Expr). capped (closed (expr z))) left)
    (g ∙ ap (λ (z : Expr). capped (closed (expr z))) right) product
    ∙ sym (ap (λ (z : ExprView). capped (closed z)) (ap expr is ∙ expr_of_star a b))

-- ---- sums

-- the value of a sum, from capped values
sum_of_capped : (o p q : Option ℕ) (u v w s r : ℕ) → Some u ≡ capped o → Some v ≡ capped p → Some w ≡ capped q
    → s ≡ min (u + v) (2 ^ 64 - 1) → r ≡ min (s + w) (2 ^ 64 - 1) → Some r ≡ capped (exact_sum (exact_sum o p) q)
sum_of_capped None p q u v w s r h g k two whole = cc
sum_of_capped (Some a) None q u v w s r h g k two whole = cc
sum_of_capped (Some a) (Some b) None u v w s r h g k two whole = cc
sum_of_capped (Some a) (Some b) (Some c) u v w s r h g k two whole =
    let first : u ≡ min (2 ^ 64 - 1) a = cc in
    let second : v ≡ min (2 ^ 64 - 1) b = cc in
    let third : w ≡ min (2 ^ 64 - 1) c = cc in
    ap Some (omega (arith, first, second, third, two, whole))

pub closed_sum : (e a b x y : Expr) (es us : List Expr) (u v w s r : ℕ) → e ≡ Sum a b es → x ≡ a → y ≡ b → us ≡ es
    → Some u ≡ capped (closed (expr x)) → Some v ≡ capped (closed (expr y)) → Some w ≡ capped (closed_total (map expr us))
    → s ≡ min (u + v) (2 ^ 64 - 1) → r ≡ min (s + w) (2 ^ 64 - 1) → Some r ≡ capped (closed (expr e))
closed_sum e a b x y es us u v w s r is left right rest h g k two whole =
    sum_of_capped (closed (expr a)) (closed (expr b)) (closed_total (map expr es)) u v w s r
    (h ∙ ap (λ (z : Expr). capped (closed (expr z))) left) (g ∙ ap (λ (z : Expr). capped (closed (expr z))) right)
    (k ∙ ap (λ (zs : List Expr). capped (closed_total (map expr zs))) rest) two whole
    ∙ sym (ap (λ (z : ExprView). capped (closed z)) (ap expr is ∙ expr_of_sum a b es) ∙ ap capped (closed_of_sum (expr a) (expr b) (map expr es)))

none_first : (o p q : Option ℕ) → None ≡ capped o → None ≡ capped (exact_sum (exact_sum o p) q)
none_first None p q h = refl
none_first (Some a) p q h = cc

none_second : (o p q : Option ℕ) → None ≡ capped p → None ≡ capped (exact_sum (exact_sum o p) q)
none_second None p q h = refl
none_second (Some a) None q h = refl
none_second (Some a) (Some b) q h = cc

none_rest : (o p q : Option ℕ) → None ≡ capped q → None ≡ capped (exact_sum (exact_sum o p) q)
none_rest None p q h = refl
none_rest (Some a) None q h = refl
none_rest (Some a) (Some b) None h = refl
none_rest (Some a) (Some b) (Some c) h = cc

closed_seen : (e a b : Expr) (es : List Expr) → e ≡ Sum a b es
    → capped (exact_sum (exact_sum (closed (expr a)) (closed (expr b))) (closed_total (map expr es))) ≡ capped (closed (expr e))
closed_seen e a b es is =
    sym (ap (λ (z : ExprView). capped (closed z)) (ap expr is ∙ expr_of_sum a b es) ∙ ap capped (closed_of_sum (expr a) (expr b) (map expr es)))

-- a term without a value
pub no_first : (e a b x : Expr) (es : List Expr) → e ≡ Sum a b es → x ≡ a → None ≡ capped (closed (expr x)) → None ≡ capped (closed (expr e))
no_first e a b x es is same h =
    none_first (closed (expr a)) (closed (expr b)) (closed_total (map expr es)) (h ∙ ap (λ (z : Expr). capped (closed (expr z))) same)
    ∙ closed_seen e a b es is

pub no_second : (e a b x : Expr) (es : List Expr) → e ≡ Sum a b es → x ≡ b → None ≡ capped (closed (expr x)) → None ≡ capped (closed (expr e))
no_second e a b x es is same h =
    none_second (closed (expr a)) (closed (expr b)) (closed_total (map expr es)) (h ∙ ap (λ (z : Expr). capped (closed (expr z))) same)
    ∙ closed_seen e a b es is

pub no_rest : (e a b : Expr) (es us : List Expr) → e ≡ Sum a b es → us ≡ es → None ≡ capped (closed_total (map expr us)) → None ≡ capped (closed (expr e))
no_rest e a b es us is same h =
    none_rest (closed (expr a)) (closed (expr b)) (closed_total (map expr es)) (h ∙ ap (λ (zs : List Expr). capped (closed_total (map expr zs))) same)
    ∙ closed_seen e a b es is
