-- The words of paths, one after the other.
use Rattle.std.proofs.Common.{◌≡◌, ◌<◌, ◌≤◌, ◌+◌, ◌∷◌, ◌++◌, ◌∙◌, ap, sym, subst, refl, arith, suc, zero, ℕ, List, [], Option, None, Some}
use Rattle.std.proofs.Common.{drop, get_or, length, map, string_bytes}
use Rattle.std.specs.Prelude.{String}
use Rattle.std.specs.declared.alloc.Global.{Global}
use Rattle.tlb_edge.specs.Files.{Name}
use Rattle.pruned_proof.specs.Proved.{path_view, path_views}
use Rattle.typed_value.specs.Paths.{Stride}
use Rattle.typed_value.specs.declared.path.Path.{Path}
use Rattle.value_text.specs.PathText.{PathWrites}
use Rattle.cli_stages.specs.PathWords.{AreBegun}

next-word : (words : List (String Global)) (i : ℕ) (x : String Global) → i < length words → x ≡ get_or words i x
    → drop i (map string_bytes words) ≡ string_bytes x ∷ drop (suc i) (map string_bytes words)
next-word [] i x less is = absurd (omega (arith, less))
next-word (w ∷ words) zero x less is = ap (λ z. string_bytes z ∷ map string_bytes words) (sym is)
next-word (w ∷ words) (suc i) x less is = next-word words i x (omega (arith, less)) is

no-word : (words : List (String Global)) (i : ℕ) → length words ≤ i → drop i (map string_bytes words) ≡ []
no-word [] zero few = refl
no-word [] (suc i) few = refl
no-word (w ∷ words) zero few = absurd (omega (arith, few))
no-word (w ∷ words) (suc i) few = no-word words i (omega (arith, few))

append-none : (paths : List (List Stride)) → paths ++ [] ≡ paths
append-none [] = refl
append-none (p ∷ paths) = ap (λ l. p ∷ l) (append-none paths)

append-one : (paths others : List (List Stride)) (p : List Stride) → (paths ++ p ∷ []) ++ others ≡ paths ++ p ∷ others
append-one [] others p = refl
append-one (q ∷ paths) others p = ap (λ l. q ∷ l) (append-one paths others p)

-- what the others write comes after the paths so far
abbrev pub Before : ℕ → List Name → List Name → List (List Stride) → Type 0
Before number words left paths =
    (others : List (List Stride)) (bad : Option ℕ) → AreBegun number left others bad → AreBegun 1 words (paths ++ others) bad

pub turned : (number : ℕ) (words : List (String Global)) (i : ℕ) (x : String Global) (word : Name) (steps : List Stride)
    (paths : List (List Stride)) → i < length words → x ≡ get_or words i x → word ≡ string_bytes x → PathWrites word steps
    → Before number (map string_bytes words) (drop i (map string_bytes words)) paths
    → Before (number + 1) (map string_bytes words) (drop (i + 1) (map string_bytes words)) (paths ++ steps ∷ [])
turned number words i x word steps paths less is same writes before others bad begun =
    let W : Name → Type 0 = λ w. PathWrites w steps in
    let D : List Name → Type 0 = λ l. AreBegun number l (steps ∷ others) bad in
    let R : List (List Stride) → Type 0 = λ l. AreBegun 1 (map string_bytes words) l bad in
    let C : ℕ → Type 0 = λ k. AreBegun (number + 1) (drop k (map string_bytes words)) others bad in
    let one : i + 1 ≡ suc i = omega arith in
    subst R (sym (append-one paths others steps))
    (before (steps ∷ others) bad (subst D (sym (next-word words i x less is)) (subst W same writes, subst C one begun)))

pub ended : (number : ℕ) (words : List (String Global)) (i : ℕ) (paths : List (List Stride)) → length words ≤ i
    → Before number (map string_bytes words) (drop i (map string_bytes words)) paths
    → AreBegun 1 (map string_bytes words) paths None
ended number words i paths few before =
    let D : List Name → Type 0 = λ l. AreBegun number l [] None in
    let R : List (List Stride) → Type 0 = λ l. AreBegun 1 (map string_bytes words) l None in
    subst R (append-none paths) (before [] None (subst D (sym (no-word words i few)) refl))

pub bad-word : (number : ℕ) (words : List (String Global)) (i : ℕ) (x : String Global) (word : Name)
    (paths : List (List Stride)) → i < length words → x ≡ get_or words i x → word ≡ string_bytes x
    → ((steps : List Stride) → PathWrites word steps → ⊥)
    → Before number (map string_bytes words) (drop i (map string_bytes words)) paths
    → AreBegun 1 (map string_bytes words) paths (Some number)
bad-word number words i x word paths less is same never before =
    let D : List Name → Type 0 = λ l. AreBegun number l [] (Some number) in
    let R : List (List Stride) → Type 0 = λ l. AreBegun 1 (map string_bytes words) l (Some number) in
    subst R (append-none paths)
    (before [] (Some number)
    (subst D (sym (next-word words i x less is))
    (refl, λ steps writes. never steps (subst (λ (w : Name). PathWrites w steps) (sym same) writes))))

views-append : (paths more : List Path) → path_views (paths ++ more) ≡ path_views paths ++ path_views more
views-append [] more = refl
views-append (p ∷ paths) more = ap (λ l. path_view p ∷ l) (views-append paths more)

count-append : (paths : List Path) (p : Path) → length (paths ++ p ∷ []) ≡ length paths + 1
count-append [] p = refl
count-append (q ∷ paths) p = let rest = count-append paths p in omega (arith, rest)

-- one path more
pub pushed-as : (paths now : List Path) (p : Path) → now ≡ paths ++ p ∷ []
    → (length now ≡ length paths + 1) × (path_views now ≡ path_views paths ++ path_view p ∷ [])
pushed-as paths now p is = (ap length is ∙ count-append paths p, ap path_views is ∙ views-append paths (p ∷ []))

pub before-as : (words : List Name) (others : List (List Stride)) (bad : Option ℕ) (now paths one : List (List Stride))
    → now ≡ paths ++ one → AreBegun 1 words ((paths ++ one) ++ others) bad → AreBegun 1 words (now ++ others) bad
before-as words others bad now paths one is h =
    let R : List (List Stride) → Type 0 = λ l. AreBegun 1 words (l ++ others) bad in subst R (sym is) h
