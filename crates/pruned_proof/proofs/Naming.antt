-- The first path that names nothing, one path after the other.
use Rattle.std.proofs.Common.{◌≡◌, ℕ, zero, suc, ◌+◌, ◌<◌, ◌≤◌, ◌⊎◌, inl, inr, List, [], ◌∷◌, Some, refl, sym, ap, ◌∙◌, subst, arith}
use Rattle.std.proofs.Common.{get_or, length, slice_get}
use Rattle.std.proofs.lemmas.Option.{same_Some, slice_get_within}
use Rattle.pruning.specs.Knowing.{NamesSomething}
use Rattle.typed_value.specs.Paths.{Stride}
use Rattle.typed_value.specs.Values.{Plain}
use Rattle.typed_value.specs.declared.path.Path.{Path}
use Rattle.pruned_proof.specs.Proved.{path_view, path_views}

path-there : (paths : List Path) (i : ℕ) (d : Path) → i < length paths
    → slice_get (path_views paths) i ≡ Some (path_view (get_or paths i d))
path-there [] i d lt = absurd (omega (arith, lt))
path-there (p ∷ paths) zero d lt = refl
path-there (p ∷ paths) (suc i) d lt = path-there paths i d (omega (arith, lt))

count-paths : (paths : List Path) → length (path_views paths) ≡ length paths
count-paths [] = refl
count-paths (p ∷ paths) = ap suc (count-paths paths)

split : (i n : ℕ) → i < n + 1 → (i < n) ⊎ (i ≡ n)
split zero zero lt = inr refl
split (suc i) zero lt = absurd (omega (arith, lt))
split zero (suc n) lt = inl (omega arith)
split (suc i) (suc n) lt = go (split i n (omega (arith, lt)))
  where
    go : (i < n) ⊎ (i ≡ n) → (suc i < suc n) ⊎ (suc i ≡ suc n)
    go (inl h) = inl (omega (arith, h))
    go (inr e) = inr (ap suc e)

module _ (v : Plain) (paths : List Path) (n : ℕ)
    (named : (j : ℕ) (path : List Stride) → j < n → slice_get (path_views paths) j ≡ Some path → NamesSomething v path) where
  pub one_named : (p : Path) → n < length paths → p ≡ get_or paths n p → NamesSomething v (path_view p)
      → (j : ℕ) (path : List Stride) → j < n + 1 → slice_get (path_views paths) j ≡ Some path → NamesSomething v path
  one_named p within is names j path lt at = go (split j n lt)
    where
      go : (j < n) ⊎ (j ≡ n) → NamesSomething v path
      go (inl less) = named j path less at
      go (inr same) =
          let here : slice_get (path_views paths) n ≡ Some path = ap (slice_get (path_views paths)) (sym same) ∙ at in
          let there = path-there paths n p within ∙ ap (λ (z : Path). Some (path_view z)) (sym is) in
          let P : List Stride → Type 0 = NamesSomething v in
          subst P (same_Some (path_view p) path (sym there ∙ here)) names

  pub all_named : length paths ≤ n → (i : ℕ) (path : List Stride) → slice_get (path_views paths) i ≡ Some path
      → NamesSomething v path
  all_named whole i path at =
      let within = slice_get_within (path_views paths) i path at in
      let count = count-paths paths in
      named i path (omega (arith, within, count, whole)) at
