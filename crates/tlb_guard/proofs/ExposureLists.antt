-- What is gathered of what is exposed.
use Rattle.std.proofs.Common.{◌≡◌, ℕ, suc, ◌+◌, ◌*◌, ◌<◌, ◌≤◌, Bool, true, false, List, [], ◌∷◌, ◌++◌, length, map, drop, refl, sym, ap, ◌∙◌, subst, arith, append_assoc, mul-le-mul_right}
use Rattle.std.specs.Prelude.{◌&&◌, cond, Option, Some, None, All, nat_lt, slice_index_or}
use Rattle.std.specs.Borrow.{Bor}
use Rattle.std.specs.List.{list_all}
use Rattle.std.proofs.lemmas.List.{at_drop_more, length-map, map-append, append-nil}
use Rattle.std.proofs.lemmas.List.Folds.{list_all-append}
use Rattle.std.proofs.lemmas.Grind.{common_steps}
use Rattle.std.proofs.lemmas.Bool.{ltb-true}
use Rattle.bit_slice.specs.declared.name.Name.{Name}
use Rattle.tlb_syntax.specs.declared.tree.Constructor.{Constructor}
use Rattle.tlb_syntax.specs.declared.tree.Expr.{Expr}
use Rattle.tlb_syntax.specs.declared.tree.Item.{Item}
use Rattle.tlb_syntax.specs.Tree.{SchemaView, ExprList, ItemList, named}
use Rattle.tlb_syntax.specs.View.{constructor, expr, exprs, item, items}
use Rattle.kind_terms.specs.Words.{Word}
use Rattle.kind_terms.specs.Scopes.{field_names}
use Rattle.tlb_guard.specs.declared.exposures.Exposure.{Exposure}
use Rattle.tlb_guard.specs.declared.exposures.Exposures.{Exposures}
use Rattle.tlb_guard.specs.Rounds.{Test}
use Rattle.tlb_guard.specs.DeclaredTypes.{is_declared_type}
use Rattle.kind_terms.specs.Classes.{of_scope, of_word, word_class}
use Rattle.tlb_guard.specs.NameLaws.{class_seen, is_variable}
use Rattle.tlb_guard.specs.Exposed.{terms_of_name}
use Rattle.tlb_guard.specs.Empty.{may_be_empty_item, may_be_empty_items}
use Rattle.tlb_guard.specs.Exposed.{Known, ExposedTerm, Exposed, a_type, a_variable, type_and, through as by_item, terms_of, terms_of_arguments, terms_of_item, terms_of_items, exposed_from, exposed_by}
use Rattle.tlb_guard.specs.Facts.{holds}
use Rattle.tlb_guard.specs.Numbering.{number_of, parameter_at, passes, place_of, types_in, views, width, word_at}
use Rattle.tlb_guard.specs.Scoping.{names}
use Rattle.tlb_guard.specs.Views.{AreParameters, Exposes, ExposesThrough, IsEmpty, IsWithin, KeepsExposures, exposed_in, knowing, terms_through}
use Rattle.tlb_guard.proofs.Numberings.{number_declared, number_none, number_place, place_word}

-- ---- what is left

-- of the items of a record
abbrev pub ExposuresOfRest : Exposures → Exposures → ItemList → ItemList → Type 0
ExposuresOfRest first now all rest =
    (t : Test ℕ)
    → exposed_in (views first.types.now) t first.exposures ++ terms_through t first.through first.item (terms_of_items (knowing (views first.types.now) first.empty.now t) (names first.scope) all)
    ≡ exposed_in (views first.types.now) t now.exposures ++ terms_through t first.through first.item (terms_of_items (knowing (views first.types.now) first.empty.now t) (names now.scope) rest)

abbrev pub EmptyRest : Exposures → Exposures → ItemList → ItemList → Type 0
EmptyRest first now all rest =
    may_be_empty_items (types_in (views first.types.now) (holds first.empty.now)) (names first.scope) all
    ≡ may_be_empty_items (types_in (views first.types.now) (holds first.empty.now)) (names now.scope) rest

-- of the arguments of a type, from a place on
abbrev pub ExposuresOfArguments : Exposures → Exposures → Word → ExprList → ℕ → ExprList → Type 0
ExposuresOfArguments first now x all n rest =
    (t : Test ℕ)
    → exposed_in (views first.types.now) t first.exposures ++ terms_through t first.through first.item (terms_of_arguments (knowing (views first.types.now) first.empty.now t) (names first.scope) x 0 all)
    ≡ exposed_in (views first.types.now) t now.exposures ++ terms_through t first.through first.item (terms_of_arguments (knowing (views first.types.now) first.empty.now t) (names first.scope) x n rest)

-- ---- what stays

pub keeps_twice : (a b c : Exposures) → KeepsExposures a b → KeepsExposures b c → KeepsExposures a c
keeps_twice a b c f g = record {
  types = g.types ∙ f.types;
  empty = g.empty ∙ f.empty;
  item = g.item ∙ f.item;
  through = g.through ∙ f.through;
  within = λ parameters exposures.
      let P : Bor (List Constructor) → Type 0 = λ z. AreParameters (views z.now) a.through → All (IsWithin (views z.now)) b.exposures → All (IsWithin (views z.now)) c.exposures in
      let R : List ℕ → Type 0 = λ z. AreParameters (views b.types.now) z → All (IsWithin (views b.types.now)) b.exposures → All (IsWithin (views b.types.now)) c.exposures in
      subst P f.types (subst R f.through g.within) parameters (f.within parameters exposures);
}

pub exposes_as : (first old new : Exposures) (terms_of : Known → List Word → List ExposedTerm) → KeepsExposures first old → Exposes terms_of old new
    → ExposesThrough first.types.now first.empty.now first.through first.item terms_of old new
exposes_as first old new terms_of kept e =
    let P : Bor (List Constructor) → Type 0 = λ z. ExposesThrough z.now old.empty.now old.through old.item terms_of old new in
    let Q : Bor (List Bool) → Type 0 = λ z. ExposesThrough first.types.now z.now old.through old.item terms_of old new in
    let R : List ℕ → Type 0 = λ z. ExposesThrough first.types.now first.empty.now z old.item terms_of old new in
    let S : ℕ → Type 0 = λ z. ExposesThrough first.types.now first.empty.now first.through z terms_of old new in
    subst S kept.item (subst R kept.through (subst Q kept.empty (subst P kept.types e)))

-- ---- what is led to

pub terms_through_append : (t : Test ℕ) (parameters : List ℕ) (i : ℕ) (xs ys : List ExposedTerm) → terms_through t parameters i (xs ++ ys) ≡ terms_through t parameters i xs ++ terms_through t parameters i ys
terms_through_append t parameters i xs ys = at (list_all t parameters)
  where
    at : (b : Bool) → cond b (map (by_item i) (xs ++ ys)) [] ≡ cond b (map (by_item i) xs) [] ++ cond b (map (by_item i) ys) []
    at true = map-append (by_item i) xs ys
    at false = refl

pub terms_through_none : (t : Test ℕ) (parameters : List ℕ) (i : ℕ) → terms_through t parameters i [] ≡ []
terms_through_none t parameters i = at (list_all t parameters)
  where
    at : (b : Bool) → cond b [] [] ≡ let none : List Exposed = [] in none
    at true = refl
    at false = refl

-- through one more parameter
pub terms_through_more : (t : Test ℕ) (parameters : List ℕ) (p i : ℕ) (xs : List ExposedTerm)
    → terms_through t (parameters ++ p ∷ []) i xs ≡ terms_through t parameters i (cond (t p) xs [])
terms_through_more t parameters p i xs =
    ap (λ b. cond b (map (by_item i) xs) []) (list_all-append t parameters (p ∷ [])) ∙ at (list_all t parameters) (t p)
  where
    at : (a b : Bool) → cond (a && (b && true)) (map (by_item i) xs) [] ≡ cond a (map (by_item i) (cond b xs [])) []
    at true true = refl
    at true false = refl
    at false b = refl

-- one part is gathered, and the others are left
gathered : (w old new here rest : List Exposed) → w ≡ old ++ (here ++ rest) → new ≡ old ++ here → w ≡ new ++ rest
gathered w old new here rest before now = before ∙ sym (append_assoc old here rest) ∙ ap (λ z. z ++ rest) (sym now)

-- ---- named types

pub no_terms : (old : Exposures) (terms_of : Known → List Word → List ExposedTerm) → ((k : Known) (scope : List Word) → [] ≡ terms_of k scope) → Exposes terms_of old old
no_terms old terms_of none t =
    let k = knowing (views old.types.now) old.empty.now t in
    let before = exposed_in (views old.types.now) t old.exposures in
    sym (append-nil before) ∙ ap (λ z. before ++ z) (sym (terms_through_none t old.through old.item) ∙ ap (terms_through t old.through old.item) (none k (names old.scope)))

terms_by : (b : Bool) (types : SchemaView) (x : Word) (args : List ExposedTerm) (d : Bool) → is_declared_type types x ≡ d
    → terms_of_name types x args (cond b (of_scope tt) (of_word (word_class x))) ≡ cond b (a_variable x ∷ []) (type_and d x args)
terms_by true types x args d f = refl
terms_by false types x args d f = ap (λ z. type_and z x args) f

named_terms : (k : Known) (scope : List Word) (x : Word) (es : ExprList) (b d : Bool) → is_variable scope x es ≡ b → is_declared_type k.types x ≡ d
    → terms_of k scope (named x es) ≡ cond b (a_variable x ∷ []) (type_and d x (terms_of_arguments k scope x 0 es))
named_terms k scope x es b d e f =
    let args = terms_of_arguments k scope x 0 es in
    ap (terms_of_name k.types x args) (class_seen scope x es b e) ∙ terms_by b k.types x args d f

pub named_no_type : (old : Exposures) (x : Word) (es : ExprList) → is_variable (names old.scope) x es ≡ false → None ≡ number_of (views old.types.now) x
    → Exposes (λ k scope. terms_of k scope (named x es)) old old
named_no_type old x es apart none t =
    let s = views old.types.now in
    let k = knowing s old.empty.now t in
    let before = exposed_in s t old.exposures in
    sym (append-nil before)
    ∙ ap (λ z. before ++ z) (sym (terms_through_none t old.through old.item) ∙ ap (terms_through t old.through old.item) (sym (named_terms k (names old.scope) x es false false apart (number_none s x none))))

pub named_type : (old mid new : Exposures) (x : Word) (es : ExprList) (n : ℕ) → KeepsExposures old mid → mid.scope ≡ old.scope
    → Exposes (λ k scope. a_type (word_at (views old.types.now) n) ∷ []) old mid
    → Exposes (λ k scope. terms_of_arguments k scope (word_at (views mid.types.now) n) 0 es) mid new
    → is_variable (names old.scope) x es ≡ false → Some n ≡ number_of (views old.types.now) x
    → Exposes (λ k scope. terms_of k scope (named x es)) old new
named_type old mid new x es n kept scope first second apart number t =
    let s = views old.types.now in
    let k = knowing s old.empty.now t in
    let before = exposed_in s t old.exposures in
    let same : word_at s n ≡ x = (place_word s x n (number_place s x n number)).1 in
    let moved : word_at (views mid.types.now) n ≡ x = ap (λ (z : Bor (List Constructor)). word_at (views z.now) n) kept.types ∙ same in
    let args = terms_of_arguments k (names old.scope) x 0 es in
    let after = exposes_as old mid new (λ k scope. terms_of_arguments k scope (word_at (views mid.types.now) n) 0 es) kept second t in
    let all : a_type x ∷ args ≡ terms_of k (names old.scope) (named x es) =
    sym (named_terms k (names old.scope) x es false true apart (number_declared s x n number)) in
    after
    ∙ ap (λ w. exposed_in s t mid.exposures ++ terms_through t old.through old.item (terms_of_arguments k (names mid.scope) w 0 es)) moved
    ∙ ap (λ (z : List (Bor Name)). exposed_in s t mid.exposures ++ terms_through t old.through old.item (terms_of_arguments k (names z) x 0 es)) scope
    ∙ ap (λ z. z ++ terms_through t old.through old.item args) (first t ∙ ap (λ w. before ++ terms_through t old.through old.item (a_type w ∷ [])) same)
    ∙ append_assoc before (terms_through t old.through old.item (a_type x ∷ [])) (terms_through t old.through old.item args)
    ∙ ap (λ z. before ++ z) (sym (terms_through_append t old.through old.item (a_type x ∷ []) args) ∙ ap (terms_through t old.through old.item) all)

-- a type's parameter is one of the schema's
parameter_below : (of place most count p : ℕ) → of < count → Some p ≡ parameter_at most place (Some of) → p < count * most
parameter_below of place most count p lt e = at (nat_lt place most) refl e
  where
    product : place < most → of * most + place < count * most
    product below =
        let le : suc of ≤ count = omega (arith, lt) in
        let h = mul-le-mul_right most le in omega (arith, h, below)

    at : (b : Bool) → nat_lt place most ≡ b → Some p ≡ cond b (Some (of * most + place)) None → p < count * most
    at true is here =
        let same : p ≡ of * most + place = cc in
        let below : place < most = ltb-true place most is in
        let all : of * most + place < count * most = product below in omega (arith, same, all)
    at false is here = absurd (cc)

pub argument_below : (types first : Bor (List Constructor)) (of place p : ℕ) → types ≡ first → place_of (views first.now) (word_at (views first.now) of) ≡ Some of
    → Some p ≡ parameter_at (width (views types.now)) place (Some of) → p < length types.now * width (views types.now)
argument_below types first of place p same own e =
    let inside = (place_word (views first.now) (word_at (views first.now) of) of own).0 in
    let size : length (views first.now) ≡ length first.now = length-map first.now constructor in
    let count : length types.now ≡ length first.now = ap (λ (z : Bor (List Constructor)). length z.now) same in
    parameter_below of place (width (views types.now)) (length types.now) p (omega (arith, inside, size, count)) e

-- ---- arguments

args_at : (k : Known) (scope : List Word) (x : Word) (list : List Expr) (n : ℕ) (e : Expr) → n < length list → e ≡ slice_index_or list n e
    → terms_of_arguments k scope x n (exprs (drop n list))
    ≡ cond (k.exposed (record { of = x; place = n })) (terms_of k scope (expr e)) [] ++ terms_of_arguments k scope x (n + 1) (exprs (drop (n + 1) list))
args_at k scope x list n e lt is =
    at_drop_more (λ es. terms_of_arguments k scope x n (exprs es)) list n e lt
    ∙ ap (λ d. cond (k.exposed (record { of = x; place = n })) (terms_of k scope (expr d)) [] ++ terms_of_arguments k scope x (n + 1) (exprs (drop (n + 1) list))) (sym is)

arg_as : (first old new : Exposures) (more : List ℕ) (terms_of : Known → List Word → List ExposedTerm) → KeepsExposures first old
    → ExposesThrough old.types.now old.empty.now (old.through ++ more) old.item terms_of old new
    → ExposesThrough first.types.now first.empty.now (first.through ++ more) first.item terms_of old new
arg_as first old new more terms_of kept e =
    let P : Bor (List Constructor) → Type 0 = λ z. ExposesThrough z.now old.empty.now (old.through ++ more) old.item terms_of old new in
    let Q : Bor (List Bool) → Type 0 = λ z. ExposesThrough first.types.now z.now (old.through ++ more) old.item terms_of old new in
    let R : List ℕ → Type 0 = λ z. ExposesThrough first.types.now first.empty.now (z ++ more) old.item terms_of old new in
    let S : ℕ → Type 0 = λ z. ExposesThrough first.types.now first.empty.now (first.through ++ more) z terms_of old new in
    subst S kept.item (subst R kept.through (subst Q kept.empty (subst P kept.types e)))

passes_number : (t : Test ℕ) (most n of : ℕ) (o q : Option ℕ) → o ≡ Some of → q ≡ parameter_at most n (Some of) → passes t (parameter_at most n o) ≡ passes t q
passes_number t most n of o q own number = ap (λ z. passes t (parameter_at most n z)) own ∙ ap (passes t) (sym number)

number_as : (first old : Exposures) (n of : ℕ) (q : Option ℕ) → KeepsExposures first old → q ≡ parameter_at (width (views old.types.now)) n (Some of)
    → q ≡ parameter_at (width (views first.types.now)) n (Some of)
number_as first old n of q kept e =
    e ∙ ap (λ (z : Bor (List Constructor)). parameter_at (width (views z.now)) n (Some of)) kept.types

pub args_more : (first old new : Exposures) (all : ExprList) (list : List Expr) (of n p : ℕ) (e : Expr) → n < length list → e ≡ slice_index_or list n e
    → place_of (views first.types.now) (word_at (views first.types.now) of) ≡ Some of
    → KeepsExposures first old → old.scope ≡ first.scope
    → Some p ≡ parameter_at (width (views old.types.now)) n (Some of)
    → ExposesThrough old.types.now old.empty.now (old.through ++ p ∷ []) old.item (λ k scope. terms_of k scope (expr e)) old new
    → ExposuresOfArguments first old (word_at (views first.types.now) of) all n (exprs (drop n list))
    → ExposuresOfArguments first new (word_at (views first.types.now) of) all (n + 1) (exprs (drop (n + 1) list))
args_more first old new all list of n p e lt is own kept scope number exposes before t =
    let s = views first.types.now in
    let k = knowing s first.empty.now t in
    let x = word_at s of in
    let own_terms = terms_of k (names first.scope) (expr e) in
    let rest = terms_of_arguments k (names first.scope) x (n + 1) (exprs (drop (n + 1) list)) in
    let tested : k.exposed (record { of = x; place = n }) ≡ t p =
    passes_number t (width s) n of (place_of s x) (Some p) own (number_as first old n of (Some p) kept number) in
    let here : terms_of_arguments k (names first.scope) x n (exprs (drop n list)) ≡ cond (t p) own_terms [] ++ rest =
    args_at k (names first.scope) x list n e lt is ∙ ap (λ b. cond b own_terms [] ++ rest) tested in
    gathered _ (exposed_in s t old.exposures) (exposed_in s t new.exposures) (terms_through t first.through first.item (cond (t p) own_terms [])) (terms_through t first.through first.item rest)
    (before t ∙ ap (λ z. exposed_in s t old.exposures ++ z) (ap (terms_through t first.through first.item) here ∙ terms_through_append t first.through first.item (cond (t p) own_terms []) rest))
    (arg_as first old new (p ∷ []) (λ k scope. terms_of k scope (expr e)) kept exposes t
    ∙ ap (λ (z : List (Bor Name)). exposed_in s t old.exposures ++ terms_through t (first.through ++ p ∷ []) first.item (terms_of k (names z) (expr e))) scope
    ∙ ap (λ z. exposed_in s t old.exposures ++ z) (terms_through_more t first.through p first.item own_terms))

-- no type has a parameter at the place
pub args_less : (first old : Exposures) (all : ExprList) (list : List Expr) (of n : ℕ) (e : Expr) → n < length list → e ≡ slice_index_or list n e
    → place_of (views first.types.now) (word_at (views first.types.now) of) ≡ Some of
    → KeepsExposures first old
    → None ≡ parameter_at (width (views old.types.now)) n (Some of)
    → ExposuresOfArguments first old (word_at (views first.types.now) of) all n (exprs (drop n list))
    → ExposuresOfArguments first old (word_at (views first.types.now) of) all (n + 1) (exprs (drop (n + 1) list))
args_less first old all list of n e lt is own kept number before t =
    let s = views first.types.now in
    let k = knowing s first.empty.now t in
    let x = word_at s of in
    let own_terms = terms_of k (names first.scope) (expr e) in
    let rest = terms_of_arguments k (names first.scope) x (n + 1) (exprs (drop (n + 1) list)) in
    let tested : k.exposed (record { of = x; place = n }) ≡ false =
    passes_number t (width s) n of (place_of s x) None own (number_as first old n of None kept number) in
    before t
    ∙ ap (λ z. exposed_in s t old.exposures ++ terms_through t first.through first.item z)
    (args_at k (names first.scope) x list n e lt is ∙ ap (λ b. cond b own_terms [] ++ rest) tested)

-- ---- items of a constructor

-- The exposures so far and those of the items that are left are the exposures of all items.
pub record Gathered (first now : Exposures) (list : List Item) (n : ℕ) : Type 0 where
  pub types : now.types ≡ first.types
  pub empty : now.empty ≡ first.empty
  pub through : now.through ≡ []
  pub within : All (IsWithin (views first.types.now)) now.exposures
  pub exposures : (t : Test ℕ) → exposed_from (knowing (views first.types.now) first.empty.now t) (names first.scope) 0 (items list)
      ≡ exposed_in (views first.types.now) t now.exposures ++ exposed_from (knowing (views first.types.now) first.empty.now t) (names now.scope) n (items (drop n list))

pub gathered_none : (first : Exposures) (list : List Item) → first.through ≡ [] → first.exposures ≡ [] → Gathered first first list 0
gathered_none first list through none = record {
  types = refl;
  empty = refl;
  through = through;
  within = (let P : List Exposure → Type 0 = λ z. All (IsWithin (views first.types.now)) z in subst P (sym none) (λ k d lt. absurd (omega (arith, lt))));
  exposures = λ t.
      let k = knowing (views first.types.now) first.empty.now t in
      sym (ap (λ z. exposed_in (views first.types.now) t z ++ exposed_from k (names first.scope) 0 (items (drop 0 list))) none
      ∙ ap (λ z. exposed_from k (names first.scope) 0 (items z)) (whole list));
}
  where
    whole : (xs : List Item) → drop 0 xs ≡ xs
    whole xs = grind (arith, common_steps)

from_at : (k : Known) (scope : List Word) (list : List Item) (n : ℕ) (i : Item) → n < length list → i ≡ slice_index_or list n i
    → exposed_from k scope n (items (drop n list))
    ≡ map (by_item n) (terms_of_item k scope (item i))
    ++ cond (may_be_empty_item k.empty scope (item i)) (exposed_from k (scope ++ field_names (item i)) (n + 1) (items (drop (n + 1) list))) []
from_at k scope list n i lt is =
    at_drop_more (λ is. exposed_from k scope n (items is)) list n i lt
    ∙ ap (λ d. map (by_item n) (terms_of_item k scope (item d)) ++ cond (may_be_empty_item k.empty scope (item d)) (exposed_from k (scope ++ field_names (item d)) (n + 1) (items (drop (n + 1) list))) []) (sym is)

item_as : (first old new : Exposures) (n : ℕ) (terms_of : Known → List Word → List ExposedTerm) → old.types ≡ first.types → old.empty ≡ first.empty → old.through ≡ [] → old.item ≡ n
    → Exposes terms_of old new → ExposesThrough first.types.now first.empty.now [] n terms_of old new
item_as first old new n terms_of types empty through at e =
    let P : Bor (List Constructor) → Type 0 = λ z. ExposesThrough z.now old.empty.now old.through old.item terms_of old new in
    let Q : Bor (List Bool) → Type 0 = λ z. ExposesThrough first.types.now z.now old.through old.item terms_of old new in
    let R : List ℕ → Type 0 = λ z. ExposesThrough first.types.now first.empty.now z old.item terms_of old new in
    let S : ℕ → Type 0 = λ z. ExposesThrough first.types.now first.empty.now [] z terms_of old new in
    subst S at (subst R through (subst Q empty (subst P types e)))

value_as : (first old : Exposures) (value : Test Word → List Word → Bool) (may : Bool) → old.types ≡ first.types → old.empty ≡ first.empty → IsEmpty value old may
    → value (types_in (views first.types.now) (holds first.empty.now)) (names old.scope) ≡ may
value_as first old value may types empty e =
    let P : Bor (List Constructor) → Type 0 = λ z. may ≡ value (types_in (views z.now) (holds old.empty.now)) (names old.scope) in
    let Q : Bor (List Bool) → Type 0 = λ z. may ≡ value (types_in (views first.types.now) (holds z.now)) (names old.scope) in
    sym (subst Q empty (subst P types e))

-- the exposures of one item more, and what is left where the item may take nothing or not
item_gathered : (first old mid : Exposures) (list : List Item) (n : ℕ) (i : Item) (may : Bool) → n < length list → i ≡ slice_index_or list n i → old.item ≡ n
    → Exposes (λ k scope. terms_of_item k scope (item i)) old mid → IsEmpty (λ q scope. may_be_empty_item q scope (item i)) old may
    → Gathered first old list n → (t : Test ℕ)
    → exposed_from (knowing (views first.types.now) first.empty.now t) (names first.scope) 0 (items list)
    ≡ exposed_in (views first.types.now) t mid.exposures
    ++ cond may (exposed_from (knowing (views first.types.now) first.empty.now t) (names old.scope ++ field_names (item i)) (n + 1) (items (drop (n + 1) list))) []
item_gathered first old mid list n i may lt is at exposes empty before t =
    let s = views first.types.now in
    let k = knowing s first.empty.now t in
    let here = map (by_item n) (terms_of_item k (names old.scope) (item i)) in
    let rest = exposed_from k (names old.scope ++ field_names (item i)) (n + 1) (items (drop (n + 1) list)) in
    gathered _ (exposed_in s t old.exposures) (exposed_in s t mid.exposures) here (cond may rest [])
    (before.exposures t
    ∙ ap (λ z. exposed_in s t old.exposures ++ z)
    (from_at k (names old.scope) list n i lt is
    ∙ ap (λ b. here ++ cond b rest []) (value_as first old (λ q scope. may_be_empty_item q scope (item i)) may before.types before.empty empty)))
    (item_as first old mid n (λ k scope. terms_of_item k scope (item i)) before.types before.empty before.through at exposes t)

item_within : (first old mid : Exposures) (list : List Item) (n : ℕ) → Gathered first old list n → KeepsExposures old mid → All (IsWithin (views first.types.now)) mid.exposures
item_within first old mid list n before kept =
    let P : Bor (List Constructor) → Type 0 = λ z. AreParameters (views z.now) old.through → All (IsWithin (views z.now)) old.exposures → All (IsWithin (views z.now)) mid.exposures in
    let R : List ℕ → Type 0 = λ z. AreParameters (views first.types.now) z in
    subst P before.types kept.within (subst R (sym before.through) (λ k d lt. absurd (omega (arith, lt)))) before.within

pub gathered_more : (first old mid : Exposures) (list : List Item) (n : ℕ) (i : Item) (scope : List (Bor Name)) → n < length list → i ≡ slice_index_or list n i → old.item ≡ n
    → KeepsExposures old mid → mid.scope ≡ old.scope → names scope ≡ names mid.scope ++ field_names (item i)
    → Exposes (λ k scope. terms_of_item k scope (item i)) old mid → IsEmpty (λ q scope. may_be_empty_item q scope (item i)) old true
    → Gathered first old list n → Gathered first (record mid { scope = scope }) list (n + 1)
gathered_more first old mid list n i scope lt is at kept same entered exposes empty before = record {
  types = kept.types ∙ before.types;
  empty = kept.empty ∙ before.empty;
  through = kept.through ∙ before.through;
  within = item_within first old mid list n before kept;
  exposures = λ t.
      let k = knowing (views first.types.now) first.empty.now t in
      item_gathered first old mid list n i true lt is at exposes empty before t
      ∙ ap (λ z. exposed_in (views first.types.now) t mid.exposures ++ exposed_from k z (n + 1) (items (drop (n + 1) list)))
      (ap (λ (z : List (Bor Name)). names z ++ field_names (item i)) (sym same) ∙ sym entered);
}

-- the item may not take nothing
pub gathered_last : (first old mid : Exposures) (list : List Item) (n : ℕ) (i : Item) → n < length list → i ≡ slice_index_or list n i → old.item ≡ n
    → KeepsExposures old mid
    → Exposes (λ k scope. terms_of_item k scope (item i)) old mid → IsEmpty (λ q scope. may_be_empty_item q scope (item i)) old false
    → Gathered first old list n
    → All (IsWithin (views first.types.now)) mid.exposures
    × ((t : Test ℕ) → exposed_in (views first.types.now) t mid.exposures ≡ exposed_from (knowing (views first.types.now) first.empty.now t) (names first.scope) 0 (items list))
gathered_last first old mid list n i lt is at kept exposes empty before = (
  item_within first old mid list n before kept,
  λ t. sym (item_gathered first old mid list n i false lt is at exposes empty before t ∙ append-nil (exposed_in (views first.types.now) t mid.exposures)),
)

-- at another item
pub gathered_at : (first now : Exposures) (list : List Item) (n i : ℕ) → Gathered first now list n → Gathered first (record now { item = i }) list n
gathered_at first now list n i g = record { types = g.types; empty = g.empty; through = g.through; within = g.within; exposures = g.exposures }

pub empty_is : (value : Test Word → List Word → Bool) (old : Exposures) (may b : Bool) → may ≡ b → IsEmpty value old may → IsEmpty value old b
empty_is value old may b same e = sym same ∙ e

-- ---- constructors

-- the exposures of the first constructors
pub record ExposuresOf (types : List Constructor) (empty : List Bool) (cs : List Constructor) (exposures : List (List Exposure)) : Type 0 where
  pub exposed : (t : Test ℕ) → map (exposed_in (views types) t) exposures ≡ map (exposed_by (knowing (views types) empty t)) (views cs)
  pub within : All (All (IsWithin (views types))) exposures
