-- The rounds of what is exposed.
use Rattle.std.proofs.Common.{◌≡◌, ℕ, zero, suc, ◌+◌, inl, inr, Bool, true, false, List, [], ◌∷◌, ◌++◌, length, map, refl, sym, ap, ◌∙◌, subst, arith, length-append}
use Rattle.std.specs.Prelude.{◌||◌, cond, slice_get, count_by}
use Rattle.std.specs.List.{list_any}
use Rattle.std.proofs.lemmas.Bool.{false≢true, and_parts, and_from}
use Rattle.std.proofs.lemmas.List.Folds.{list_any-append}
use Rattle.std.proofs.lemmas.List.Recursion.{is_count_by, is_sum_by}
use Rattle.tlb_syntax.specs.Tree.{ExprView, ExprList, ItemView, ItemList, TypeView, ConstructorView, SchemaView, lit, named, nat32, bits, below, up_to, plus, star, out, ref, group, no_exprs, an_expr, plain, when, when_bit, implicit, check, explicit, no_items, an_item}
use Rattle.kind_terms.specs.Words.{Word}
use Rattle.kind_terms.specs.Dictionaries.{of_type}
use Rattle.kind_terms.specs.declared.kind.TermKind.{TermKind}
use Rattle.kind_terms.specs.Params.{is_type_in}
use Rattle.kind_terms.specs.Scopes.{field_names}
use Rattle.tlb_guard.specs.Rounds.{Test, IsPart}
use Rattle.tlb_guard.specs.DeclaredTypes.{Parameter, declared_types, is_declared_class, is_type_kind, is_type_parameter, kinds_of_type, parameter_count, variable_at, has_empty_tag}
use Rattle.kind_terms.specs.Classes.{NameClass, of_scope, of_word}
use Rattle.tlb_guard.specs.Empty.{class_in, may_be_empty_item, may_take_nothing}
use Rattle.tlb_guard.specs.Exposed.{ExposedTerm, a_variable, a_type, Known, Exposed, through, type_and, is_variable_called, terms_of, terms_of_arguments, terms_of_field, terms_of_item, terms_of_items, exposed_from, exposed_by, exposes_variable, exposed_rules}
use Rattle.tlb_guard.specs.Exposed.{terms_of_name}
use Rattle.tlb_guard.specs.Laws.{ExposedStays}
use Rattle.tlb_guard.proofs.Rounds.{IsMember, IsMonotone, IsWithin, last_stays}
use Rattle.tlb_guard.proofs.Lists.{or_weaker, any_weaker, is_declared}

-- ---- more parameters expose more

abbrev pub knowing : SchemaView → Test Word → Test Parameter → Known
knowing types empty p = record { types = types; empty = empty; exposed = p }

-- what passes a test in one list does in another
abbrev pub Passes : {A : Type 0} → (A → Bool) → List A → List A → Type 0
Passes t xs ys = list_any t xs ≡ true → list_any t ys ≡ true

then_passes : {A : Type 0} (t : A → Bool) (a b : Bool) (xs ys : List A) → (a ≡ true → b ≡ true) → Passes t xs ys → Passes t (cond a xs []) (cond b ys [])
then_passes t true true xs ys f g h = g h
then_passes t true false xs ys f g h = absurd (false≢true (f refl))
then_passes t false b xs ys f g h = absurd (false≢true h)

append_passes : {A : Type 0} (t : A → Bool) (us bs cs ds : List A) → Passes t us cs → Passes t bs ds → Passes t (us ++ bs) (cs ++ ds)
append_passes t us bs cs ds f g h =
    list_any-append t cs ds ∙ or_weaker (list_any t us) (list_any t bs) (list_any t cs) (list_any t ds) f g (sym (list_any-append t us bs) ∙ h)

type_passes : (t : ExposedTerm → Bool) (b : Bool) (x : Word) (xs ys : List ExposedTerm) → Passes t xs ys → Passes t (type_and b x xs) (type_and b x ys)
type_passes t true x xs ys f h = or_weaker (t (a_type x)) (list_any t xs) (t (a_type x)) (list_any t ys) (λ e. e) f h
type_passes t false x xs ys f h = h

name_passes : (t : ExposedTerm → Bool) (types : SchemaView) (x : Word) (xs ys : List ExposedTerm) → Passes t xs ys
    → (k : NameClass (Unit {0})) → Passes t (terms_of_name types x xs k) (terms_of_name types x ys k)
name_passes t types x xs ys f (of_scope u) h = h
name_passes t types x xs ys f (of_word w) h = type_passes t (is_declared_class types x w) x xs ys f h

module _ (types : SchemaView) (empty : Test Word) (p q : Test Parameter) (part : IsPart p q) (t : ExposedTerm → Bool) where
  mutual
    terms_more : (e : ExprView) (scope : List Word) → Passes t (terms_of (knowing types empty p) scope e) (terms_of (knowing types empty q) scope e)
    terms_more (lit n) scope h = h
    terms_more (named x es) scope h =
        name_passes t types x (terms_of_arguments (knowing types empty p) scope x 0 es)
        (terms_of_arguments (knowing types empty q) scope x 0 es) (arguments_more es scope x 0) (class_in scope x es) h
    terms_more nat32 scope h = h
    terms_more (bits es) scope h = h
    terms_more (below es) scope h = h
    terms_more (up_to es) scope h = h
    terms_more (plus a b) scope h = h
    terms_more (star a b) scope h = terms_more b scope h
    terms_more (out e) scope h = h
    terms_more (ref e) scope h = h
    terms_more (group is) scope h = items_more is scope h

    arguments_more : (es : ExprList) (scope : List Word) (x : Word) (n : ℕ)
        → Passes t (terms_of_arguments (knowing types empty p) scope x n es) (terms_of_arguments (knowing types empty q) scope x n es)
    arguments_more no_exprs scope x n h = h
    arguments_more (an_expr e es) scope x n h =
        append_passes t
        (cond (p (record { of = x; place = n })) (terms_of (knowing types empty p) scope e) []) (terms_of_arguments (knowing types empty p) scope x (n + 1) es)
        (cond (q (record { of = x; place = n })) (terms_of (knowing types empty q) scope e) []) (terms_of_arguments (knowing types empty q) scope x (n + 1) es)
        (then_passes t (p (record { of = x; place = n })) (q (record { of = x; place = n })) (terms_of (knowing types empty p) scope e)
        (terms_of (knowing types empty q) scope e) (part (record { of = x; place = n })) (terms_more e scope))
        (arguments_more es scope x (n + 1)) h

    field_more : (f : TypeView) (scope : List Word) → Passes t (terms_of_field (knowing types empty p) scope f) (terms_of_field (knowing types empty q) scope f)
    field_more (plain e) scope h = terms_more e scope h
    field_more (when c e) scope h = terms_more e scope h
    field_more (when_bit c k e) scope h = terms_more e scope h

    item_more : (i : ItemView) (scope : List Word) → Passes t (terms_of_item (knowing types empty p) scope i) (terms_of_item (knowing types empty q) scope i)
    item_more (implicit x k) scope h = h
    item_more (check a op b) scope h = h
    item_more (explicit x f) scope h = field_more f scope h

    items_more : (is : ItemList) (scope : List Word) → Passes t (terms_of_items (knowing types empty p) scope is) (terms_of_items (knowing types empty q) scope is)
    items_more no_items scope h = h
    items_more (an_item i is) scope h =
        append_passes t
        (terms_of_item (knowing types empty p) scope i)
        (cond (may_be_empty_item empty scope i) (terms_of_items (knowing types empty p) (scope ++ field_names i) is) [])
        (terms_of_item (knowing types empty q) scope i)
        (cond (may_be_empty_item empty scope i) (terms_of_items (knowing types empty q) (scope ++ field_names i) is) [])
        (item_more i scope)
        (then_passes t (may_be_empty_item empty scope i) (may_be_empty_item empty scope i)
        (terms_of_items (knowing types empty p) (scope ++ field_names i) is) (terms_of_items (knowing types empty q) (scope ++ field_names i) is)
        (λ e. e) (items_more is (scope ++ field_names i))) h

-- a test of what is exposed, whatever item it is exposed through
abbrev pub of_term : (ExposedTerm → Bool) → Exposed → Bool
of_term t e = t e.term

any_through : (t : ExposedTerm → Bool) (n : ℕ) (fs : List ExposedTerm) → list_any (of_term t) (map (through n) fs) ≡ list_any t fs
any_through t n [] = refl
any_through t n (f ∷ fs) = ap (λ b. t f || b) (any_through t n fs)

module _ (types : SchemaView) (empty : Test Word) (p q : Test Parameter) (part : IsPart p q) (t : ExposedTerm → Bool) where
  from_more : (is : ItemList) (scope : List Word) (n : ℕ)
      → Passes (of_term t) (exposed_from (knowing types empty p) scope n is) (exposed_from (knowing types empty q) scope n is)
  from_more no_items scope n h = h
  from_more (an_item i is) scope n h =
      append_passes (of_term t)
      (map (through n) (terms_of_item (knowing types empty p) scope i))
      (cond (may_be_empty_item empty scope i) (exposed_from (knowing types empty p) (scope ++ field_names i) (n + 1) is) [])
      (map (through n) (terms_of_item (knowing types empty q) scope i))
      (cond (may_be_empty_item empty scope i) (exposed_from (knowing types empty q) (scope ++ field_names i) (n + 1) is) [])
      (λ e. any_through t n (terms_of_item (knowing types empty q) scope i)
      ∙ item_more types empty p q part t i scope (sym (any_through t n (terms_of_item (knowing types empty p) scope i)) ∙ e))
      (then_passes (of_term t) (may_be_empty_item empty scope i) (may_be_empty_item empty scope i)
      (exposed_from (knowing types empty p) (scope ++ field_names i) (n + 1) is) (exposed_from (knowing types empty q) (scope ++ field_names i) (n + 1) is)
      (λ e. e) (from_more is (scope ++ field_names i) (n + 1))) h

  by_more : (c : ConstructorView) → Passes (of_term t) (exposed_by (knowing types empty p) c) (exposed_by (knowing types empty q) c)
  by_more c h =
      then_passes (of_term t) (has_empty_tag c) (has_empty_tag c) (exposed_from (knowing types empty p) [] 0 c.items)
      (exposed_from (knowing types empty q) [] 0 c.items) (λ e. e) (from_more c.items [] 0) h

pub exposed_mono : (types : SchemaView) (empty : Test Word) → IsMonotone (exposed_rules types empty)
exposed_mono types empty p q part x h =
    let parts = and_parts (is_type_parameter types x) (list_any (λ (c : ConstructorView). exposes_variable (knowing types empty p) (variable_at c.params x.place) c) (of_type types x.of)) h in
    and_from (is_type_parameter types x) (list_any (λ (c : ConstructorView). exposes_variable (knowing types empty q) (variable_at c.params x.place) c) (of_type types x.of)) parts.0
    (any_weaker (λ (c : ConstructorView). exposes_variable (knowing types empty p) (variable_at c.params x.place) c)
    (λ (c : ConstructorView). exposes_variable (knowing types empty q) (variable_at c.params x.place) c)
    (λ c. by_more types empty p q part (is_variable_called (variable_at c.params x.place)) c) (of_type types x.of) parts.1)

-- ---- the type parameters

places : Word → ℕ → List TermKind → List Parameter
places x n [] = []
places x n (k ∷ ks) = cond (is_type_in k) (record { of = x; place = n } ∷ places x (suc n) ks) (places x (suc n) ks)

-- the type parameters of these types
pub all_places : SchemaView → List Word → List Parameter
unfolding places
all_places types [] = []
all_places types (x ∷ xs) = places x 0 (kinds_of_type types x) ++ all_places types xs

in_prefix : {A : Type 0} (xs ys : List A) (x : A) → IsMember xs x → IsMember (xs ++ ys) x
in_prefix [] ys x h = absurd h
in_prefix (z ∷ xs) ys x (inl e) = inl e
in_prefix (z ∷ xs) ys x (inr h) = inr (in_prefix xs ys x h)

after : {A : Type 0} (xs ys : List A) (x : A) → IsMember ys x → IsMember (xs ++ ys) x
after [] ys x h = h
after (z ∷ xs) ys x h = inr (after xs ys x h)

first_place : (x : Word) (n m : ℕ) (ps : List Parameter) (b : Bool) → m ≡ n → b ≡ true → IsMember (cond b (record { of = x; place = n } ∷ ps) ps) (record { of = x; place = m })
first_place x n m ps true is e = inl (ap (λ j. record { of = x; place = j }) (sym is))
first_place x n m ps false is e = absurd (false≢true e)

later_place : (x : Word) (n m : ℕ) (ps : List Parameter) (b : Bool) → IsMember ps (record { of = x; place = m }) → IsMember (cond b (record { of = x; place = n } ∷ ps) ps) (record { of = x; place = m })
later_place x n m ps true h = inr h
later_place x n m ps false h = h

is_place : (x : Word) (ks : List TermKind) (n i m : ℕ) → m ≡ n + i → is_type_kind (slice_get ks i) ≡ true → IsMember (places x n ks) (record { of = x; place = m })
unfolding places
is_place x [] n i m is e = absurd (false≢true e)
is_place x (k ∷ ks) n zero m is e = first_place x n m (places x (suc n) ks) (is_type_in k) (omega (arith, is)) e
is_place x (k ∷ ks) n (suc i) m is e =
    later_place x n m (places x (suc n) ks) (is_type_in k) (is_place x ks (suc n) i m (omega (arith, is)) e)

is_place_of : (types : SchemaView) (xs : List Word) (x : Word) (i : ℕ) → IsMember xs x → is_type_kind (slice_get (kinds_of_type types x) i) ≡ true
    → IsMember (all_places types xs) (record { of = x; place = i })
unfolding all_places
is_place_of types [] x i h e = absurd h
is_place_of types (y ∷ ys) x i (inl same) e =
    in_prefix (places y 0 (kinds_of_type types y)) (all_places types ys) (record { of = x; place = i })
    (let P : Word → Type 0 = λ z. IsMember (places z 0 (kinds_of_type types z)) (record { of = x; place = i }) in
    subst P (sym same) (is_place x (kinds_of_type types x) 0 i i (omega arith) e))
is_place_of types (y ∷ ys) x i (inr h) e =
    after (places y 0 (kinds_of_type types y)) (all_places types ys) (record { of = x; place = i }) (is_place_of types ys x i h e)

pub exposed_within : (types : SchemaView) (empty : Test Word) → IsWithin (all_places types (declared_types types)) (exposed_rules types empty)
exposed_within types empty p x h =
    let parts = and_parts (is_type_parameter types x) (list_any (λ (c : ConstructorView). exposes_variable (knowing types empty p) (variable_at c.params x.place) c) (of_type types x.of)) h in
    is_place_of types (declared_types types) x.of x.place
    (is_declared (λ (c : ConstructorView). exposes_variable (knowing types empty p) (variable_at c.params x.place) c) types x.of parts.1) parts.0

-- ---- their count

tally : List TermKind → ℕ
tally [] = 0
tally (k ∷ ks) = cond (is_type_in k) (1 + tally ks) (tally ks)

tallied : (b : Bool) (z : Parameter) (zs : List Parameter) (n : ℕ) → length zs ≡ n → length (cond b (z ∷ zs) zs) ≡ cond b (1 + n) n
tallied true z zs n e = omega (arith, e)
tallied false z zs n e = e

length-places : (x : Word) (n : ℕ) (ks : List TermKind) → length (places x n ks) ≡ tally ks
unfolding places tally
length-places x n [] = refl
length-places x n (k ∷ ks) = tallied (is_type_in k) (record { of = x; place = n }) (places x (suc n) ks) (tally ks) (length-places x (suc n) ks)

tally_is : (ks : List TermKind) → tally ks ≡ count_by is_type_in ks
unfolding tally
tally_is ks = is_count_by tally is_type_in refl (λ k js. refl) ks

total : SchemaView → List Word → ℕ
total types [] = 0
total types (x ∷ xs) = count_by is_type_in (kinds_of_type types x) + total types xs

length-all_places : (types : SchemaView) (xs : List Word) → length (all_places types xs) ≡ total types xs
unfolding all_places total
length-all_places types [] = refl
length-all_places types (x ∷ xs) =
    let a = length-append (places x 0 (kinds_of_type types x)) (all_places types xs) in
    let b = length-places x 0 (kinds_of_type types x) in
    let c = tally_is (kinds_of_type types x) in
    let d = length-all_places types xs in
    omega (arith, a, b, c, d)

pub count_is : (types : SchemaView) → length (all_places types (declared_types types)) ≡ parameter_count types
unfolding total
count_is types =
    length-all_places types (declared_types types)
    ∙ is_sum_by (total types) (λ x. count_by is_type_in (kinds_of_type types x)) refl (λ x xs. refl) (declared_types types)

pub exposed_stays : ExposedStays
exposed_stays types n p le =
    let empty = may_take_nothing types in
    let is = count_is types in
    last_stays (exposed_rules types empty) (exposed_mono types empty) (all_places types (declared_types types)) (exposed_within types empty) n p (omega (arith, is, le))
    ∙ sym (last_stays (exposed_rules types empty) (exposed_mono types empty) (all_places types (declared_types types)) (exposed_within types empty) (parameter_count types) p (omega (arith, is)))
