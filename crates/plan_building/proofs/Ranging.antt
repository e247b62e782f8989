-- What holds of the rest of a list and so of all of it, at one element more.
use Rattle.std.proofs.Common.{◌≡◌, ℕ, ◌+◌, ◌<◌, ◌≤◌, List, [], ◌∷◌, drop, get_or, length, sym, ap, ◌∙◌, subst}
use Rattle.std.proofs.lemmas.List.{drop_all, drop_more}

pub one_more : {X : Type 0} (P : List X → Type 0) (xs : List X) (i : ℕ) (x : X) → i < length xs → x ≡ get_or xs i x
    → (P (drop (i + 1) xs) → P (x ∷ drop (i + 1) xs)) → (P (drop i xs) → P xs) → P (drop (i + 1) xs) → P xs
one_more P xs i x less is f so_far rest =
    let e = drop_more xs i x less ∙ ap (λ z. z ∷ drop (i + 1) xs) (sym is) in
    so_far (subst P (sym e) (f rest))

pub none_left : {X : Type 0} (P : List X → Type 0) (xs : List X) (i : ℕ) → length xs ≤ i → P [] → (P (drop i xs) → P xs)
    → P xs
none_left P xs i le none so_far = so_far (subst P (sym (drop_all i xs le)) none)
