-- The loops over the declarations of a schema.
use Rattle.std.proofs.Common.{◌≡◌, ◌≤◌, ◌<◌, ◌+◌, ◌∙◌, ap, sym, refl, subst, ℕ, zero, suc, Bool, true, false, List, [], ◌∷◌, ◌++◌, length, map, take, drop, get_or, arith, append_assoc, add-one, length-append, length-drop}
use Rattle.std.specs.Prelude.{cond, filter, not, remove}
use Rattle.std.proofs.lemmas.List.{at_drop_more, length-take-le, map-append, take_at, take-append-drop}
use Rattle.std.proofs.lemmas.List.Elements.{filter-append}
use Rattle.std.proofs.lemmas.List.Sums.{length-filter, count_by-le-length}
use Rattle.tlb_syntax.specs.declared.tree.Constructor.{Constructor}
use Rattle.tlb_syntax.specs.declared.tree.Item.{Item}
use Rattle.tlb_syntax.specs.Limits.{AreConstructors, IsConstructor, item_count}
use Rattle.tlb_syntax.specs.Tree.{ConstructorView, SchemaView}
use Rattle.tlb_syntax.specs.View.{constructor, item, items}
use Rattle.kind_terms.specs.Classes.{is_dictionary}
use Rattle.kind_terms.specs.Dictionaries.{without_dictionaries}
use Rattle.kind_declarations.specs.Faults.{first}
use Rattle.kind_declarations.specs.Nodes.{heading_nodes, constructor_nodes}
use Rattle.tlb_kinds.specs.declared.error.KindError.{KindError}
use Rattle.tlb_kinds.specs.declared.error.KindError.TheVariants.{Unguarded}
use Rattle.tlb_kinds.specs.Answers.{IsFirst}
use Rattle.tlb_kinds.specs.Refusals.{kept_of, of_headings, of_contents, ordinary, unguarded_at}
use Rattle.tlb_kinds.specs.Spots.{heading, refusals_at, item_spot}
use Rattle.tlb_kinds.proofs.Counting.{one_more}
use Rattle.tlb_kinds.proofs.Firsts.{is_first_more}

-- what is left from a place on
left : (xs : List Constructor) (i : ℕ) (c : Constructor) → i < length xs → c ≡ get_or xs i c
    → map constructor (drop i xs) ≡ constructor c ∷ map constructor (drop (i + 1) xs)
left xs i c lt is = at_drop_more (map constructor) xs i c lt ∙ ap (λ z. constructor z ∷ map constructor (drop (i + 1) xs)) (sym is)

pub headings_here : (xs : List Constructor) (i : ℕ) (c : Constructor) → i < length xs → c ≡ get_or xs i c
    → of_headings (map constructor (take i xs)) (map constructor (drop i xs))
    ≡ refusals_at (heading (map constructor (take i xs)) (constructor c)) (heading_nodes (heading (map constructor (take i xs)) (constructor c)))
    ++ of_headings (map constructor (take (i + 1) xs)) (map constructor (drop (i + 1) xs))
headings_here xs i c lt is =
    let before = map constructor (take i xs) in
    ap (of_headings before) (left xs i c lt is)
    ∙ ap (λ z. refusals_at (heading before (constructor c)) (heading_nodes (heading before (constructor c))) ++ of_headings z (map constructor (drop (i + 1) xs)))
    (sym (one_more xs i c lt is))

pub contents_here : (types : SchemaView) (xs : List Constructor) (i : ℕ) (c : Constructor) → i < length xs → c ≡ get_or xs i c
    → of_contents types (map constructor (take i xs)) (map constructor (drop i xs))
    ≡ refusals_at (heading (map constructor (take i xs)) (constructor c)) (constructor_nodes types (constructor c))
    ++ of_contents types (map constructor (take (i + 1) xs)) (map constructor (drop (i + 1) xs))
contents_here types xs i c lt is =
    let before = map constructor (take i xs) in
    ap (of_contents types before) (left xs i c lt is)
    ∙ ap (λ z. refusals_at (heading before (constructor c)) (constructor_nodes types (constructor c)) ++ of_contents types z (map constructor (drop (i + 1) xs)))
    (sym (one_more xs i c lt is))

-- nothing is refused here, so what is refused later is what is refused
pub later : (all here rest : List KindError) → all ≡ here ++ rest → here ≡ [] → all ≡ rest
later all here rest is none = is ∙ ap (λ z. z ++ rest) none

-- the first refusal here is the first of all
pub first_here : (whole all here rest : List KindError) (e : KindError) → whole ≡ all → all ≡ here ++ rest → IsFirst here e → IsFirst whole e
first_here whole all here rest e same is found = λ no_room. ap first (same ∙ is) ∙ is_first_more here rest e found no_room

-- ---- the guard

append_nil : {X : Type 0} (xs : List X) → xs ++ [] ≡ xs
append_nil [] = refl
append_nil (x ∷ xs) = ap (λ z. x ∷ z) (append_nil xs)

pub unguarded_there : (s before b : SchemaView) (n item : ℕ) (c : ConstructorView) → n < length s → c ≡ get_or s n c → b ≡ before ++ take n s
    → unguarded_at before s n item ≡ Unguarded (item_spot (heading b c) item) ∷ []
unguarded_there [] before b n item c lt is there = absurd (omega arith)
unguarded_there (d ∷ s) before b zero item c lt is there =
    ap (λ z. Unguarded (item_spot (heading before z) item) ∷ []) (sym is)
    ∙ ap (λ z. Unguarded (item_spot (heading z c) item) ∷ []) (sym (there ∙ append_nil before))
unguarded_there (d ∷ s) before b (suc n) item c lt is there =
    unguarded_there s (before ++ d ∷ []) b n item c (omega (arith, lt)) is (there ∙ sym (append_assoc before (d ∷ []) (take n s)))

pub unguarded_nowhere : (s before : SchemaView) (n item : ℕ) → length s ≤ n → unguarded_at before s n item ≡ []
unguarded_nowhere [] before n item le = refl
unguarded_nowhere (d ∷ s) before zero item le = absurd (omega arith)
unguarded_nowhere (d ∷ s) before (suc n) item le = unguarded_nowhere s (before ++ d ∷ []) n item (omega (arith, le))

-- ---- limits

pub constructor_within : (xs : List Constructor) (i : ℕ) (c : Constructor) → i < length xs → c ≡ get_or xs i c
    → AreConstructors (map constructor xs) → IsConstructor (constructor c)
constructor_within [] i c lt is are = absurd (omega arith)
constructor_within (x ∷ xs) zero c lt is are = let P : Constructor → Type 0 = λ z. IsConstructor (constructor z) in subst P (sym is) are.0
constructor_within (x ∷ xs) (suc i) c lt is are = constructor_within xs i c (omega (arith, lt)) is are.1

pub item_count-items : (is : List Item) → item_count (items is) ≡ length is
item_count-items [] = refl
item_count-items (i ∷ is) = let rest = item_count-items is in omega (arith, rest)

module _ (out : ConstructorView → Bool) where
  abbrev keep : SchemaView → SchemaView
  keep s = filter (λ (c : ConstructorView). not (out c)) s

  one_within : (b : Bool) (c : ConstructorView) (cs : SchemaView) → IsConstructor c → AreConstructors (keep cs)
      → AreConstructors (cond (not b) (c ∷ keep cs) (keep cs))
  one_within true c cs is are = are
  one_within false c cs is are = (is, are)

  are_within : (s : SchemaView) → AreConstructors s → AreConstructors (keep s)
  are_within [] are = tt
  are_within (c ∷ cs) are = one_within (out c) c cs are.0 (are_within cs are.1)

  at_most : (s : SchemaView) → length (keep s) ≤ length s
  at_most s =
      let p : ConstructorView → Bool = λ (c : ConstructorView). not (out c) in
      let a = length-filter p s in
      let b = count_by-le-length p s in
      omega (arith, a, b)

pub kept_within : (s : SchemaView) → AreConstructors s → AreConstructors (kept_of s)
kept_within s are =
    are_within (λ c. is_dictionary c.result) (ordinary s) (are_within (λ c. c.exotic) s are)

pub ordinary_few : (s : SchemaView) → length (ordinary s) ≤ length s
ordinary_few s = at_most (λ c. c.exotic) s

pub kept_few : (s : SchemaView) → length (kept_of s) ≤ length s
kept_few s =
    let a = at_most (λ c. is_dictionary c.result) (ordinary s) in
    let b = ordinary_few s in
    omega (arith, a, b)

-- ---- passing over

parted : (xs : List Constructor) (i : ℕ) (c : Constructor) → i < length xs → c ≡ get_or xs i c
    → map constructor xs ≡ map constructor (take i xs) ++ (constructor c ∷ map constructor (drop (i + 1) xs))
parted xs i c lt is =
    ap (map constructor) (sym (take-append-drop i xs)) ∙ map-append constructor (take i xs) (drop i xs)
    ∙ ap (λ z. map constructor (take i xs) ++ z) (left xs i c lt is)

module _ (out : ConstructorView → Bool) where
  keep_append : (xs ys : SchemaView) → keep out (xs ++ ys) ≡ keep out xs ++ keep out ys
  keep_append xs ys = filter-append (λ (c : ConstructorView). not (out c)) xs ys

  one_removed : (xs : List Constructor) (i : ℕ) (c : Constructor) → i < length xs → c ≡ get_or xs i c → out (constructor c) ≡ true
      → keep out (map constructor (remove xs i)) ≡ keep out (map constructor xs)
  one_removed xs i c lt is passed =
      let rest = map constructor (drop (i + 1) xs) in
      let gone : keep out (constructor c ∷ rest) ≡ keep out rest =
      ap (λ b. cond (not b) (constructor c ∷ keep out rest) (keep out rest)) passed in
      let after : map constructor (remove xs i) ≡ map constructor (take i xs) ++ rest =
      map-append constructor (take i xs) (drop (suc i) xs) ∙ ap (λ n. map constructor (take i xs) ++ map constructor (drop n xs)) (sym (add-one i)) in
      ap (keep out) after ∙ keep_append (map constructor (take i xs)) rest
      ∙ ap (λ z. keep out (map constructor (take i xs)) ++ z) (sym gone)
      ∙ sym (keep_append (map constructor (take i xs)) (constructor c ∷ rest)) ∙ ap (keep out) (sym (parted xs i c lt is))

  one_stays : (xs : List Constructor) (i : ℕ) (c : Constructor) → i < length xs → c ≡ get_or xs i c → out (constructor c) ≡ false
      → keep out (map constructor (take i xs)) ≡ map constructor (take i xs)
      → keep out (map constructor (take (i + 1) xs)) ≡ map constructor (take (i + 1) xs)
  one_stays xs i c lt is other prefix =
      let more = one_more xs i c lt is in
      let alone : keep out (constructor c ∷ []) ≡ constructor c ∷ [] = ap (λ b. cond (not b) (constructor c ∷ []) []) other in
      ap (keep out) more ∙ keep_append (map constructor (take i xs)) (constructor c ∷ [])
      ∙ ap (λ z. z ++ keep out (constructor c ∷ [])) prefix ∙ ap (λ z. map constructor (take i xs) ++ z) alone ∙ sym more

pub removed : (xs : List Constructor) (i : ℕ) (c : Constructor) → i < length xs → c ≡ get_or xs i c → is_dictionary c.result ≡ true
    → without_dictionaries (map constructor (remove xs i)) ≡ without_dictionaries (map constructor xs)
removed = one_removed (λ c. is_dictionary c.result)

pub one_kept : (xs : List Constructor) (i : ℕ) (c : Constructor) → i < length xs → c ≡ get_or xs i c → is_dictionary c.result ≡ false
    → without_dictionaries (map constructor (take i xs)) ≡ map constructor (take i xs)
    → without_dictionaries (map constructor (take (i + 1) xs)) ≡ map constructor (take (i + 1) xs)
one_kept = one_stays (λ c. is_dictionary c.result)

pub exotic_removed : (xs : List Constructor) (i : ℕ) (c : Constructor) → i < length xs → c ≡ get_or xs i c → c.exotic ≡ true
    → ordinary (map constructor (remove xs i)) ≡ ordinary (map constructor xs)
exotic_removed = one_removed (λ c. c.exotic)

pub ordinary_stays : (xs : List Constructor) (i : ℕ) (c : Constructor) → i < length xs → c ≡ get_or xs i c → c.exotic ≡ false
    → ordinary (map constructor (take i xs)) ≡ map constructor (take i xs)
    → ordinary (map constructor (take (i + 1) xs)) ≡ map constructor (take (i + 1) xs)
ordinary_stays = one_stays (λ c. c.exotic)

pub prefix_kept : (xs : List Constructor) (i : ℕ) → i ≤ length xs → take i (remove xs i) ≡ take i xs
prefix_kept xs i le = take_at (take i xs) (drop (suc i) xs) i (length-take-le i xs le)

pub length-removed : (xs : List Constructor) (i : ℕ) → i < length xs → length (remove xs i) + 1 ≡ length xs
length-removed xs i lt =
    let a = length-append (take i xs) (drop (suc i) xs) in
    let b = length-take-le i xs (omega (arith, lt)) in
    let c = length-drop (suc i) xs in
    omega (arith, a, b, c, lt)
