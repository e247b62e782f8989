-- Lists that are reversed, or written over.
use Rattle.std.proofs.Common.{ℕ, ◌≡◌, ◌+◌, ◌<◌, ◌∙◌, List, [], ◌∷◌, ◌++◌, map, take, drop, length, get_or, refl, sym, ap}
use Rattle.std.specs.Prelude.{reverse}
use Rattle.std.proofs.Math.ListN.{set}
use Rattle.std.proofs.lemmas.List.{reverse-append, map-append, get_or_default}
use Rattle.std.proofs.lemmas.List.Edits.{map_over_more}

pub reverse_map : {X Y : Type 0} (f : X → Y) (xs : List X) → reverse (map f xs) ≡ map f (reverse xs)
reverse_map f [] = refl
reverse_map f (x ∷ xs) =
    reverse-append (f x ∷ []) (map f xs) ∙ ap (λ l. l ++ f x ∷ []) (reverse_map f xs)
    ∙ sym (map-append f (reverse xs) (x ∷ [])) ∙ ap (map f) (sym (reverse-append (x ∷ []) xs))

-- one more element is written over by its image
pub over_more : {X : Type 0} (f : X → X) (xs ys : List X) (i : ℕ) (y d : X) → i < length xs → length ys ≡ length xs
    → ys ≡ map f (take i xs) ++ drop i xs → y ≡ f (get_or ys i d) →
    set ys i y ≡ map f (take (i + 1) xs) ++ drop (i + 1) xs
over_more f xs ys i y d h same e g =
    let within : i < length ys = rw same h in
    ap (set ys i) g ∙ map_over_more f xs ys i (get_or ys i d) h e (get_or_default ys i d (get_or ys i d) within)
