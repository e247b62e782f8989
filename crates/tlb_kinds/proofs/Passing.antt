-- A schema without the declarations that are passed over.
use Rattle.std.proofs.Common.{◌≡◌, ◌∙◌, ap, sym, refl, Bool, true, false, List, [], ◌∷◌, ◌++◌}
use Rattle.std.specs.Prelude.{not, bytes_eq, cond}
use Rattle.std.proofs.lemmas.Bool.{false≢true}
use Rattle.std.proofs.lemmas.Slice.Eq.{bytes_eq-Decides}
use Rattle.tlb_syntax.specs.Tree.{ConstructorView, SchemaView}
use Rattle.kind_terms.specs.Classes.{is_dictionary}
use Rattle.kind_terms.specs.Dictionaries.{of_type, without_dictionaries}
use Rattle.kind_terms.specs.Words.{Word}
use Rattle.kind_declarations.specs.Headings.{Heading}
use Rattle.kind_declarations.specs.Nodes.{heading_nodes}
use Rattle.tlb_kinds.specs.Laws.{KindedStays, PassedOver}
use Rattle.tlb_kinds.specs.Refusals.{kept_of, of_headings, ordinary, refusals_within, refusals}
use Rattle.tlb_kinds.specs.Spots.{heading, refusals_at}

abbrev heading_of : SchemaView → ConstructorView → Heading
heading_of earlier c = record { earlier = earlier; this = c }

over_again : (c : ConstructorView) (cs : SchemaView) → without_dictionaries (without_dictionaries cs) ≡ without_dictionaries cs
    → (b : Bool) → is_dictionary c.result ≡ b
    → without_dictionaries (cond (not b) (c ∷ without_dictionaries cs) (without_dictionaries cs)) ≡ cond (not b) (c ∷ without_dictionaries cs) (without_dictionaries cs)
over_again c cs rest true is = rest
over_again c cs rest false is =
    ap (λ b. cond (not b) (c ∷ without_dictionaries (without_dictionaries cs)) (without_dictionaries (without_dictionaries cs))) is
    ∙ ap (λ z. c ∷ z) rest

dictionaries_once : (s : SchemaView) → without_dictionaries (without_dictionaries s) ≡ without_dictionaries s
dictionaries_once [] = refl
dictionaries_once (c ∷ cs) = over_again c cs (dictionaries_once cs) (is_dictionary c.result) refl

one_more_kept : (x : Word) → is_dictionary x ≡ false → (c : ConstructorView) (cs : SchemaView) → of_type (without_dictionaries cs) x ≡ of_type cs x
    → (b : Bool) → is_dictionary c.result ≡ b → (d : Bool) → bytes_eq c.result x ≡ d
    → of_type (cond (not b) (c ∷ without_dictionaries cs) (without_dictionaries cs)) x ≡ cond d (c ∷ of_type cs x) (of_type cs x)
one_more_kept x other c cs rest true is true same =
    absurd (false≢true (sym other ∙ sym (ap is_dictionary ((bytes_eq-Decides c.result x).0 same)) ∙ is))
one_more_kept x other c cs rest true is false same = rest
one_more_kept x other c cs rest false is d same =
    ap (λ e. cond e (c ∷ of_type (without_dictionaries cs) x) (of_type (without_dictionaries cs) x)) same ∙ ap (λ z. cond d (c ∷ z) z) rest

-- the declarations of a type that is no dictionary
of_type_kept : (x : Word) → is_dictionary x ≡ false → (s : SchemaView) → of_type (without_dictionaries s) x ≡ of_type s x
of_type_kept x other [] = refl
of_type_kept x other (c ∷ cs) = one_more_kept x other c cs (of_type_kept x other cs) (is_dictionary c.result) refl (bytes_eq c.result x) refl

first_none : {X : Type 0} (xs ys : List X) → xs ++ ys ≡ [] → xs ≡ []
first_none [] ys e = refl
first_none (x ∷ xs) ys e = cc

rest_none : {X : Type 0} (xs ys : List X) → xs ++ ys ≡ [] → ys ≡ []
rest_none [] ys e = e
rest_none (x ∷ xs) ys e = cc

append_nil : {X : Type 0} (xs : List X) → xs ++ [] ≡ xs
append_nil [] = refl
append_nil (x ∷ xs) = ap (λ z. x ∷ z) (append_nil xs)

with_one : (c : ConstructorView) (cs ys : SchemaView) → without_dictionaries (cs ++ ys) ≡ without_dictionaries cs ++ without_dictionaries ys
    → (b : Bool) → cond (not b) (c ∷ without_dictionaries (cs ++ ys)) (without_dictionaries (cs ++ ys))
    ≡ cond (not b) (c ∷ without_dictionaries cs) (without_dictionaries cs) ++ without_dictionaries ys
with_one c cs ys rest true = rest
with_one c cs ys rest false = ap (λ z. c ∷ z) rest

without_append : (xs ys : SchemaView) → without_dictionaries (xs ++ ys) ≡ without_dictionaries xs ++ without_dictionaries ys
without_append [] ys = refl
without_append (c ∷ cs) ys = with_one c cs ys (without_append cs ys) (is_dictionary c.result)

heading_kept : (c : ConstructorView) (cs before : SchemaView) → refusals_at (heading before c) (heading_nodes (heading before c)) ≡ []
    → of_headings (without_dictionaries (before ++ c ∷ [])) (without_dictionaries cs) ≡ [] → (b : Bool) → is_dictionary c.result ≡ b
    → of_headings (without_dictionaries before) (cond (not b) (c ∷ without_dictionaries cs) (without_dictionaries cs)) ≡ []
heading_kept c cs before here later true is =
    let gone : without_dictionaries (c ∷ []) ≡ [] = ap (λ b. cond (not b) (c ∷ []) []) is in
    let same : without_dictionaries (before ++ c ∷ []) ≡ without_dictionaries before =
    without_append before (c ∷ []) ∙ ap (λ z. without_dictionaries before ++ z) gone ∙ append_nil (without_dictionaries before) in
    ap (λ z. of_headings z (without_dictionaries cs)) (sym same) ∙ later
heading_kept c cs before here later false is =
    let kept : without_dictionaries (c ∷ []) ≡ c ∷ [] = ap (λ b. cond (not b) (c ∷ []) []) is in
    let same : without_dictionaries (before ++ c ∷ []) ≡ without_dictionaries before ++ c ∷ [] =
    without_append before (c ∷ []) ∙ ap (λ z. without_dictionaries before ++ z) kept in
    let alike : heading (without_dictionaries before) c ≡ heading before c =
    ap (λ (z : SchemaView). heading_of z c) (of_type_kept c.result is before) in
    ap (λ (h : Heading). refusals_at h (heading_nodes h) ++ of_headings (without_dictionaries before ++ c ∷ []) (without_dictionaries cs)) alike
    ∙ ap (λ z. z ++ of_headings (without_dictionaries before ++ c ∷ []) (without_dictionaries cs)) here
    ∙ ap (λ z. of_headings z (without_dictionaries cs)) (sym same) ∙ later

headings_kept : (cs before : SchemaView) → of_headings before cs ≡ [] → of_headings (without_dictionaries before) (without_dictionaries cs) ≡ []
headings_kept [] before none = refl
headings_kept (c ∷ cs) before none =
    heading_kept c cs before (first_none _ (of_headings (before ++ c ∷ []) cs) none)
    (headings_kept cs (before ++ c ∷ []) (rest_none (refusals_at (heading before c) (heading_nodes (heading before c))) _ none))
    (is_dictionary c.result) refl

without_their_dictionaries : (s : SchemaView) → of_headings [] s ++ refusals_within (without_dictionaries s) ≡ []
    → of_headings [] (without_dictionaries s) ++ refusals_within (without_dictionaries (without_dictionaries s)) ≡ []
without_their_dictionaries s none =
    let within : refusals_within (without_dictionaries s) ≡ [] = rest_none (of_headings [] s) _ none in
    ap (λ z. z ++ refusals_within (without_dictionaries (without_dictionaries s))) (headings_kept s [] (first_none _ (refusals_within (without_dictionaries s)) none))
    ∙ ap refusals_within (dictionaries_once s) ∙ within

-- ---- declarations of exotic cells

one_ordinary : (c : ConstructorView) (rest : SchemaView) → ordinary rest ≡ rest → c.exotic ≡ false
    → (b : Bool) → ordinary (cond (not b) (c ∷ rest) rest) ≡ cond (not b) (c ∷ rest) rest
one_ordinary c rest same is true = same
one_ordinary c rest same is false =
    ap (λ b. cond (not b) (c ∷ ordinary rest) (ordinary rest)) is ∙ ap (λ z. c ∷ z) same

kept_ordinary : (c : ConstructorView) (cs : SchemaView) → ordinary (kept_of cs) ≡ kept_of cs → (b : Bool) → c.exotic ≡ b
    → ordinary (without_dictionaries (cond (not b) (c ∷ ordinary cs) (ordinary cs)))
    ≡ without_dictionaries (cond (not b) (c ∷ ordinary cs) (ordinary cs))
kept_ordinary c cs rest true is = rest
kept_ordinary c cs rest false is = one_ordinary c (kept_of cs) rest is (is_dictionary c.result)

-- what is kept is of ordinary cells
pub kept_are_ordinary : (s : SchemaView) → ordinary (kept_of s) ≡ kept_of s
kept_are_ordinary [] = refl
kept_are_ordinary (c ∷ cs) = kept_ordinary c cs (kept_are_ordinary cs) c.exotic refl

pub passed_over : PassedOver
passed_over s = ap without_dictionaries (kept_are_ordinary s) ∙ dictionaries_once (ordinary s)

pub kinded_stays : KindedStays
unfolding refusals
kinded_stays s none =
    ap (λ z. of_headings [] z ++ refusals_within (without_dictionaries z)) (kept_are_ordinary s)
    ∙ without_their_dictionaries (ordinary s) none
