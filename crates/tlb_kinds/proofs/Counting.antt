-- Declarations of one type among the first of a schema.
use Rattle.std.proofs.Common.{◌≡◌, ◌≤◌, ◌<◌, ◌+◌, ◌∙◌, ap, sym, refl, ℕ, Bool, true, false, List, [], ◌∷◌, ◌++◌, length, map, take, get_or, arith, length-append}
use Rattle.std.specs.Prelude.{bytes_eq, cond}
use Rattle.std.proofs.lemmas.List.{take_more, map-append, length-map, length-take}
use Rattle.std.proofs.lemmas.List.Elements.{filter-append}
use Rattle.std.proofs.lemmas.List.Sums.{length-filter, count_by-le-length}
use Rattle.tlb_syntax.specs.declared.tree.Constructor.{Constructor}
use Rattle.tlb_syntax.specs.Tree.{ConstructorView, SchemaView}
use Rattle.tlb_syntax.specs.View.{constructor}
use Rattle.kind_terms.specs.Dictionaries.{of_type}
use Rattle.kind_terms.specs.Words.{Word}

-- the declarations up to and with one of them
pub one_more : (xs : List Constructor) (i : ℕ) (c : Constructor) → i < length xs → c ≡ get_or xs i c
    → map constructor (take (i + 1) xs) ≡ map constructor (take i xs) ++ constructor c ∷ []
one_more xs i c lt is =
    ap (map constructor) (take_more xs i c lt ∙ ap (λ z. take i xs ++ z ∷ []) (sym is)) ∙ map-append constructor (take i xs) (c ∷ [])

alone : (b : Bool) (c : ConstructorView) → length (cond b (c ∷ []) []) ≡ cond b 1 0
alone true c = refl
alone false c = refl

pub number_more : (xs : List Constructor) (i : ℕ) (c : Constructor) (x : Word) → i < length xs → c ≡ get_or xs i c
    → length (of_type (map constructor (take (i + 1) xs)) x) ≡ length (of_type (map constructor (take i xs)) x) + cond (bytes_eq c.result x) 1 0
number_more xs i c x lt is =
    ap (λ z. length (of_type z x)) (one_more xs i c lt is)
    ∙ ap length (filter-append (λ (d : ConstructorView). bytes_eq d.result x) (map constructor (take i xs)) (constructor c ∷ []))
    ∙ length-append (of_type (map constructor (take i xs)) x) (of_type (constructor c ∷ []) x)
    ∙ ap (λ n. length (of_type (map constructor (take i xs)) x) + n) (alone (bytes_eq c.result x) (constructor c))

pub few_of_type : (s : SchemaView) (x : Word) → length (of_type s x) ≤ length s
few_of_type s x =
    let p : ConstructorView → Bool = λ (d : ConstructorView). bytes_eq d.result x in
    let a = length-filter p s in
    let b = count_by-le-length p s in
    omega (arith, a, b)

pub number_few : (xs : List Constructor) (i : ℕ) (x : Word) → length (of_type (map constructor (take i xs)) x) ≤ i
number_few xs i x =
    let a = few_of_type (map constructor (take i xs)) x in
    let b = length-map (take i xs) constructor in
    let c = length-take i xs in
    omega (arith, a, b, c)
