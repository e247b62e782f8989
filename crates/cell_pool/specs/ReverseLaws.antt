-- Places in the reverse of a list of distinct trees.
use Rattle.std.proofs.Common.{◌≡◌, ◌∙◌, ◌+◌, ◌-◌, ◌<◌, Bool, true, false, List, [], ◌∷◌, ◌++◌, length, map, reverse}
use Rattle.std.proofs.Common.{refl, ap, sym, ⊎_elim, arith}
use Rattle.std.specs.Prelude.{◌||◌}
use Rattle.std.specs.List.{All}
use Rattle.std.proofs.lemmas.Bool.{cases_Bool}
use Rattle.std.proofs.lemmas.List.{length-reverse, reverse-append}
use Rattle.std.proofs.lemmas.List.Elements.{All-nil, All-cons}
use Rattle.cell_nodes.specs.declared.tree.Tree.{Tree}
use Rattle.cell_pool.specs.Post.{same, stands, place}
use Rattle.cell_pool.specs.Listing.{AllStand, IsDistinct}
use Rattle.cell_pool.specs.SameLaws.{same-equal}
use Rattle.cell_pool.specs.PlaceLaws.{stands-append, place-within, place-append_left, place-append_right}

pub stands-reverse : (ts : List Tree) (t : Tree) → stands (reverse ts) t ≡ stands ts t
stands-reverse [] t = refl
stands-reverse (u ∷ us) t =
    ap (λ (l : List Tree). stands l t) (reverse-append (u ∷ []) us)
    ∙ stands-append (reverse us) (u ∷ []) t
    ∙ ap (λ (b : Bool). b || (same u t || false)) (stands-reverse us t)
    ∙ swapped (stands us t) (same u t)
  where
    swapped : (a b : Bool) → (a || (b || false)) ≡ (b || a)
    swapped true true = refl
    swapped true false = refl
    swapped false true = refl
    swapped false false = refl

-- counted from the other end
pub place-reverse : (ts : List Tree) (t : Tree) → IsDistinct ts → stands ts t ≡ true
    → place (reverse ts) t ≡ length ts - 1 - place ts t
place-reverse [] t d h = cc
place-reverse (u ∷ us) t d h = ⊎_elim
    (λ (e : same u t ≡ true).
    let f : stands (reverse us) t ≡ false =
    stands-reverse us t ∙ ap (λ (v : Tree). stands us v) (sym (same-equal u t e)) ∙ d.0 in
    let g : place (reverse us ++ u ∷ []) t ≡ length (reverse us) + place (u ∷ []) t =
    place-append_right (reverse us) (u ∷ []) t f in
    let k : place (u ∷ []) t ≡ 0 = rw e refl in
    let l : place (u ∷ us) t ≡ 0 = rw e refl in
    ap (λ (x : List Tree). place x t) (reverse-append (u ∷ []) us) ∙ omega (arith, length-reverse us))
    (λ (e : same u t ≡ false).
    let m : stands us t ≡ true = rw e at h in
    let f : stands (reverse us) t ≡ true = stands-reverse us t ∙ m in
    let g : place (reverse us ++ u ∷ []) t ≡ place (reverse us) t = place-append_left (reverse us) (u ∷ []) t f in
    let l : place (u ∷ us) t ≡ 1 + place us t = rw e refl in
    let i = place-reverse us t d.1 m in
    ap (λ (x : List Tree). place x t) (reverse-append (u ∷ []) us) ∙ omega (arith, place-within us t m))
    (cases_Bool (same u t))

pub places-reverse : (seen ts : List Tree) → IsDistinct seen → AllStand seen ts
    → map (λ n. length seen - 1 - n) (map (place seen) ts) ≡ map (place (reverse seen)) ts
places-reverse seen [] d h = refl
places-reverse seen (t ∷ ts) d h = rw (place-reverse seen t d h.0, places-reverse seen ts d h.1) refl

pub places-within : (seen ts : List Tree) → AllStand seen ts → All (λ n. n < length seen) (map (place seen) ts)
places-within seen [] h = All-nil (λ n. n < length seen)
places-within seen (t ∷ ts) h =
    All-cons (λ n. n < length seen) (place seen t) (map (place seen) ts) (place-within seen t h.0)
    (places-within seen ts h.1)
