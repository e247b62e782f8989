-- Texts written part by part.
use Rattle.std.proofs.Common.{◌≡◌, ◌≢◌, ◌+◌, ◌∙◌, ℕ, suc, List, [], ◌∷◌, ◌++◌, length, map, append_assoc, refl, ap, sym, arith, Result, Ok, Err}
use Rattle.std.specs.Prelude.{codes, replicate, OnOk, if◌then◌else◌}
use Rattle.std.specs.Result.{is_ok}
use Rattle.std.proofs.lemmas.Grind.{replicate_next}
use Rattle.std.proofs.lemmas.List.{append-nil, length-map}
use Rattle.tlb_syntax.specs.declared.tree.Expr.{Expr}
use Rattle.tlb_syntax.specs.Tree.{ExprView, named, plus, nested, sum_of}
use Rattle.tlb_syntax.specs.View.{expr, exprs}
use Rattle.tlb_syntax.specs.Text.{expr_text, addend_text, addends_text, spaced}

pub along : {a b c : List ℕ} → a ≡ b → b ≡ c → a ≡ c
along p q = p ∙ q

-- a part in prefix, and one that is written if it is
pub joined : {E : Type 0} (r : Result (Unit {0}) E) (old mid new prefix back rest : List ℕ) → mid ≡ old ++ prefix
    → back ≡ rest
    → OnOk r (new ≡ mid ++ back) → OnOk r (new ≡ old ++ (prefix ++ rest))
joined (Ok u) old mid new prefix back rest f b h = h ∙ ap (λ x. x ++ back) f ∙ ap (λ x. old ++ prefix ++ x) b ∙ append_assoc old prefix rest
joined (Err e) old mid new prefix back rest f b h = tt

pub two : (t u v o a : List ℕ) → u ≡ t ++ o → v ≡ u ++ a → v ≡ t ++ (o ++ a)
two t u v o a p q = rw (q, p) (append_assoc t o a)

pub four : (t u v w x o a m b : List ℕ) → u ≡ t ++ o → v ≡ u ++ a → w ≡ v ++ m → x ≡ w ++ b
    → x ≡ t ++ (o ++ a ++ m ++ b)
four t u v w x o a m b p q r s = rw (s, r, q, p) (simp append_assoc refl)

pub same-on_ok : {E : Type 0} (r : Result (Unit {0}) E) (new old back rest : List ℕ) → back ≡ rest
    → OnOk r (new ≡ old ++ back) → OnOk r (new ≡ old ++ rest)
same-on_ok (Ok u) new old back rest e h = h ∙ ap (λ x. old ++ x) e
same-on_ok (Err e) new old back rest s h = tt

-- a name with arguments
pub named-text : (x : List ℕ) (es : List Expr) → es ≢ []
    → codes "(" ++ x ++ spaced (exprs es) ++ codes ")" ≡ expr_text (named x (exprs es))
named-text x [] n = absurd (n refl)
named-text x (e ∷ es) n = refl

-- ---- sums

appended : (a b c d : List ℕ) → a ++ b ++ c ++ d ≡ a ++ (b ++ c ++ d)
appended a b c d = simp append_assoc refl

shifted : (opened t u later : List ℕ) → opened ++ (codes "(" ++ t ++ codes " + " ++ u ++ codes ")") ++ later ≡ opened ++ codes "(" ++ t ++ (codes " + " ++ u ++ codes ")" ++ later)
shifted opened t u later = simp append_assoc refl

one-more : (n : ℕ) → replicate n 40 ++ codes "(" ≡ replicate (suc n) 40
one-more n = let e : n + 1 ≡ suc n = omega arith in sym (replicate_next n 40) ∙ ap (λ k. replicate k 40) e

pub nested-text : (t : ExprView) (ts : List ExprView)
    → expr_text (nested t ts) ≡ replicate (length ts) 40 ++ expr_text t ++ addends_text ts
nested-text t [] = sym (append-nil (expr_text t))
nested-text t (u ∷ us) =
    nested-text (plus t u) us
    ∙ shifted (replicate (length us) 40) (expr_text t) (expr_text u) (addends_text us)
    ∙ ap (λ x. x ++ expr_text t ++ addends_text (u ∷ us)) (one-more (length us))

-- what `extend_from_slice` writes
pub written : {E : Type 0} (r : Result (Unit {0}) E) (new old part : List ℕ)
    → new ≡ (if is_ok r then old ++ part else old) → OnOk r (new ≡ old ++ part)
written (Ok u) new old part h = h
written (Err e) new old part h = tt

regrouped : (old opened t addend later : List ℕ)
    → old ++ opened ++ codes "(" ++ t ++ addend ++ later ≡ old ++ (opened ++ (codes "(" ++ t ++ addend) ++ later)
regrouped old opened t addend later = simp append_assoc refl

plus-text : (t u : ExprView) → codes "(" ++ expr_text t ++ addend_text u ≡ expr_text (plus t u)
plus-text t u = simp append_assoc refl

-- the first term after the parentheses, and then each further one
pub sum-written : {E : Type 0} (r : Result (Unit {0}) E) (old opened paren first second whole : List ℕ) (t u : Expr)
    (ts : List Expr)
    → opened ≡ old ++ replicate (length ts) 40 → paren ≡ opened ++ codes "(" → first ≡ paren ++ expr_text (expr t)
    → second ≡ first ++ addend_text (expr u) → OnOk r (whole ≡ second ++ addends_text (map expr ts))
    → OnOk r (whole ≡ old ++ expr_text (sum_of (expr t) (expr u) (map expr ts)))
sum-written (Ok v) old opened paren first second whole t u ts o p f s w =
    let count : replicate (length (map expr ts)) 40 ≡ replicate (length ts) 40 = ap (λ n. replicate n 40) (length-map ts expr) in
    let later = addends_text (map expr ts) in
    let text : expr_text (sum_of (expr t) (expr u) (map expr ts)) ≡ replicate (length ts) 40 ++ (codes "(" ++ expr_text (expr t) ++ addend_text (expr u)) ++ later =
    nested-text (plus (expr t) (expr u)) (map expr ts) ∙ ap (λ x. x ++ expr_text (plus (expr t) (expr u)) ++ later) count
    ∙ ap (λ x. replicate (length ts) 40 ++ x ++ later) (sym (plus-text (expr t) (expr u))) in
    w ∙ ap (λ x. x ++ later) (s ∙ ap (λ x. x ++ addend_text (expr u)) (f ∙ ap (λ x. x ++ expr_text (expr t)) (p ∙ ap (λ x. x ++ codes "(") o)))
    ∙ regrouped old (replicate (length ts) 40) (expr_text (expr t)) (addend_text (expr u)) later ∙ ap (λ x. old ++ x) (sym text)
sum-written (Err e) old opened paren first second whole t u ts o p f s w = tt
