-- Where bytes lead to, one after another, from a point that one byte leads on from, if it leads anywhere.
use Rattle.std.specs.Prelude.{◌≡◌, ℕ, List, [], ◌∷◌, ◌++◌, Option, Some, None}
use Rattle.std.proofs.Common.{refl, ap, ◌∙◌}

abbrev pub onward : {S : Type 0} → Option S → (S → Option S) → Option S
onward (Some p) further = further p
onward None further = None

abbrev pub walk : {S : Type 0} → (S → ℕ → Option S) → S → List ℕ → Option S
walk next p [] = Some p
walk next p (c ∷ cs) = onward (next p c) (λ q. walk next q cs)

pub walk-append : {S : Type 0} (next : S → ℕ → Option S) (p : S) (xs ys : List ℕ)
    → walk next p (xs ++ ys) ≡ onward (walk next p xs) (λ q. walk next q ys)
walk-append next p [] ys = refl
walk-append next p (x ∷ xs) ys =
    elim (next p x) as (λ o. onward o (λ q. walk next q (xs ++ ys)) ≡ onward (onward o (λ q. walk next q xs)) (λ q. walk next q ys)) [
      | Some q ↦ walk-append next q xs ys
      | None ↦ refl
    ]

pub walk-then : {S : Type 0} (next : S → ℕ → Option S) (p q : S) (xs ys : List ℕ) → walk next p xs ≡ Some q
    → walk next p (xs ++ ys) ≡ walk next q ys
walk-then next p q xs ys e = walk-append next p xs ys ∙ ap (λ o. onward o (λ r. walk next r ys)) e

pub walk-one : {S : Type 0} (next : S → ℕ → Option S) (p q : S) (c : ℕ) → next p c ≡ Some q → walk next p (c ∷ []) ≡ Some q
walk-one next p q c e = ap (λ o. onward o (λ r. walk next r [])) e

pub walk-more : {S : Type 0} (next : S → ℕ → Option S) (p q : S) (c : ℕ) (cs : List ℕ) → next p c ≡ Some q
    → walk next p (c ∷ cs) ≡ walk next q cs
walk-more next p q c cs e = ap (λ o. onward o (λ r. walk next r cs)) e
