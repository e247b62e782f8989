-- Which patterns no number meets together.
use Rattle.std.proofs.Common.{◌≡◌, ◌↔◌, ℕ, ◌-◌, ◌^◌, ◌<◌, ◌≤◌, ◌⊎◌, inl, inr, max, Option, Some, None, Bool, true, false, not, ◌||◌, refl, ap, ◌∙◌, sym, arith}
use Rattle.std.specs.Option.{is_none}
use Rattle.nat_solver.specs.Pattern.{Fits, Exclude, least}
use Rattle.nat_solver.specs.declared.pattern.Pattern.{Pattern}
use Rattle.nat_solver.specs.declared.pattern.Pattern.TheVariants.{Lit, Var, Plus}

least_fits : (p : Pattern) (x y : ℕ) → Fits p x y → least p ≤ x
least_fits (Lit n) x y h = omega (arith, h.0)
least_fits (Var v) x y h = omega arith
least_fits (Plus v k) x y h = omega (arith, h)

-- what meets a pattern at x meets it at each number from its least one to x
met_between : (p : Pattern) (x y m : ℕ) → Fits p x y → least p ≤ m → m ≤ x → (z : ℕ) × Fits p m z
met_between (Lit n) x y m h low high = (n, (omega (arith, h.0), refl))
met_between (Var v) x y m h low high = (m, refl)
met_between (Plus v k) x y m h low high = (m - k, omega arith)

pub excluded_left : (p q : Pattern) (m : ℕ) → least p ≤ m → m ≡ max (least p) (least q) → ((y : ℕ) → Fits p m y → ⊥) → Exclude p q
excluded_left p q m low is never x y z small fit_p fit_q =
    let a = least_fits p x y fit_p in
    let b = least_fits q x z fit_q in
    let high : m ≤ x = omega (arith, a, b) in
    let w = met_between p x y m fit_p low high in never w.0 w.1

pub exclude_swap : (p q : Pattern) → Exclude p q → Exclude q p
exclude_swap p q h x y z small a b = h x z y small b a

-- the answer, by what the two patterns give for the larger of their least numbers
pub excluded_by : (p q : Pattern) (m : ℕ) → m ≡ max (least p) (least q) → m < 2 ^ 32 → (r s : Option ℕ) → ((y : ℕ) → (r ≡ Some y) ↔ Fits p m y) → ((y : ℕ) → (s ≡ Some y) ↔ Fits q m y)
    → ((r ≡ None) ⊎ (s ≡ None)) ↔ Exclude p q
excluded_by p q m is small (Some y) (Some z) fit_p fit_q =
    (λ h. absurd (elim h [ inl e ↦ cc | inr e ↦ cc ]), λ h. absurd (h m y z small ((fit_p y).0 refl) ((fit_q z).0 refl)))
excluded_by p q m is small None s fit_p fit_q =
    (λ h. excluded_left p q m (omega arith) is (λ y f. let e = (fit_p y).1 f in cc), λ h. inl refl)
excluded_by p q m is small (Some y) None fit_p fit_q =
    (λ h. exclude_swap q p (excluded_left q p m (omega arith) (omega arith) (λ z f. let e = (fit_q z).1 f in cc)), λ h. inr refl)

either_none : (r s : Option ℕ) → ((is_none r || is_none s) ≡ true) ↔ ((r ≡ None) ⊎ (s ≡ None))
either_none None s = (λ e. inl refl, λ h. refl)
either_none (Some y) None = (λ e. inr refl, λ h. refl)
either_none (Some y) (Some z) = (λ e. cc, λ h. absurd (elim h [ inl e ↦ cc | inr e ↦ cc ]))

pub excluded_when : (p q : Pattern) (m : ℕ) → m ≡ max (least p) (least q) → m < 2 ^ 32 → (r s : Option ℕ) → ((y : ℕ) → (r ≡ Some y) ↔ Fits p m y) → ((y : ℕ) → (s ≡ Some y) ↔ Fits q m y)
    → (b : Bool) → b ≡ (is_none r || is_none s) → (b ≡ true) ↔ Exclude p q
excluded_when p q m is small r s fit_p fit_q b tells =
    let w = excluded_by p q m is small r s fit_p fit_q in
    let n = either_none r s in
    (λ e. w.0 (n.0 (sym tells ∙ e)), λ h. tells ∙ n.1 (w.1 h))

pub none_then : (x y b : Bool) → x ≡ not b → b ≡ true → b ≡ (not x || not y)
none_then x y true e t = sym (ap (λ z. not z || not y) e)
none_then x y false e t = cc

pub none_else : (x y b c : Bool) → x ≡ not b → b ≡ false → y ≡ not c → c ≡ (not x || not y)
none_else x y true c e t f = cc
none_else x y false true e t f = sym (λ i. not (e i) || not (f i))
none_else x y false false e t f = sym (λ i. not (e i) || not (f i))
