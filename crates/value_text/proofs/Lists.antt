-- Lists that are written item by item.
use Rattle.std.proofs.Common.{◌≡◌, ℕ, suc, ◌+◌, ◌<◌, List, [], ◌∷◌, ◌++◌, length, drop, get_or, arith, ap, ◌∙◌, sym}
use Rattle.std.proofs.Math.Seq.{drop-cons}
use Rattle.value_text.specs.Tokens.{Token, mark, written}
use Rattle.value_text.specs.TextLaws.{put-then}

pub next-item : {A : Type 0} (l : List A) (i : ℕ) (d : A) → i < length l → d ≡ get_or l i d → drop i l ≡ d ∷ drop (i + 1) l
next-item l i d h e =
    let s : suc i ≡ i + 1 = omega arith in
    drop-cons l i d h ∙ ap (λ x. x ∷ drop (suc i) l) (sym e) ∙ ap (λ k. d ∷ drop k l) s

-- tokens between two brackets
pub put-between : (t u v w : List ℕ) (a z : ℕ) (es : List Token) → u ≡ t ++ a ∷ [] → v ≡ u ++ written es → w ≡ v ++ z ∷ []
    → w ≡ t ++ written (mark a ∷ es ++ mark z ∷ [])
put-between t u v w a z es f g h = put-then t v w (mark a ∷ es) (mark z ∷ []) (put-then t u v (mark a ∷ []) es f g) h
