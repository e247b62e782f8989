-- Items of which no cause holds: each variable is set before it is used.
use Rattle.std.proofs.Common.{◌≡◌, ℕ, ◌+◌, List, [], ◌∷◌, ◌++◌, Option, Some, None, Bool, true, false, ◌||◌}
use Rattle.std.proofs.Common.{refl, sym, ap, ◌∙◌, subst, cond}
use Rattle.std.specs.Prelude.{bytes_eq, nat_eq}
use Rattle.std.specs.List.{list_any}
use Rattle.std.proofs.lemmas.List.Folds.{list_any-append}
use Rattle.std.proofs.lemmas.Slice.Eq.{bytes_eq-Decides}
use Rattle.nat_solver.specs.declared.compare.Op.{Op}
use Rattle.tlb_syntax.specs.Tree.{ExprView, ItemView, ItemList, TypeView, SchemaView, lit, named, nat32, bits}
use Rattle.tlb_syntax.specs.Tree.{below, up_to, plus, star, out, ref, group, plain, when, when_bit, implicit, check}
use Rattle.tlb_syntax.specs.Tree.{explicit}
use Rattle.tlb_syntax.specs.Tree.{no_items, an_item}
use Rattle.kind_rules.specs.declared.expected.TypePosition.{TypePosition}
use Rattle.kind_rules.specs.declared.expected.TypePosition.TheVariants.{Whole, Conditional, FieldRef, UnderRef, Inner}
use Rattle.kind_terms.specs.Words.{Word, is_among}
use Rattle.kind_terms.specs.Params.{greatest, option_list}
use Rattle.kind_terms.specs.Forms.{is_field_of_numbers}
use Rattle.kind_terms.specs.Positions.{shown, is_unnamed}
use Rattle.kind_terms.specs.Scopes.{Scope, Binding, after, at_end, inside, is_known, field_names, if_input}
use Rattle.kind_terms.specs.Scopes.{own_number, type_outputs}
use Rattle.kind_terms.specs.Scopes.{outputs_of, makes_known}
use Rattle.kind_terms.specs.Sought.{sought}
use Rattle.kind_rules.specs.ExpectedKinds.{a_number, a_type, under}
use Rattle.kind_declarations.specs.declared.error.Cause.TheVariants.{TwiceNamed}
use Rattle.kind_declarations.specs.Nodes.{RecordContext, ItemContext, Judged, at, first_inside, expr_nodes}
use Rattle.kind_declarations.specs.Nodes.{type_nodes, item_nodes}
use Rattle.kind_declarations.specs.Nodes.{record_nodes, name_at}
use Rattle.kind_declarations.specs.Nodes as nodes
use Rattle.core_form.specs.Core.{Item, Items, sets, type_outs, slot_list}
use Rattle.core_form.specs.Determined.{Known, is_in, is_valued, is_valued_condition, is_set_type, is_set_item}
use Rattle.core_form.specs.Determined.{are_set_items}
use Rattle.core_form.specs.Determined.{with_numbers, after_all}
use Rattle.core_form.specs.Determined as set
use Rattle.schema_core.specs.Names.{Names, Variable, a_number as numbered, a_type as typed, declares, meaning}
use Rattle.schema_core.specs.Names.{implicit_variable}
use Rattle.schema_core.specs.Names.{field_variable}
use Rattle.schema_core.specs.Same.{AreSameNames}
use Rattle.std.proofs.lemmas.Bool.{eq-eqb}
use Rattle.field_path.specs.declared.part.Part.{Part}
use Rattle.kind_rules.specs.Records.{takes_no_record}
use Rattle.schema_core.specs.Slots.{next_slot, field_slots}
use Rattle.schema_core.specs.Numbers.{side_of, unknown_by}
use Rattle.schema_core.specs.CoreOf.{items_of, field_of, body_of, under_ref, constraint_of, constraint_by, own_slot}
use Rattle.schema_core.specs.CoreOf.{names_after, unnamed_by}
use Rattle.schema_core.specs.SameLaws.{same_after}
use Rattle.kinded_core.specs.Clean.{AreClean, Agrees}
use Rattle.kinded_core.specs.CleanLaws.{clean_both}
use Rattle.kinded_core.specs.NumberLaws.{number_set, both_true, or_true}
use Rattle.kinded_core.specs.TypeLaws.{type_set, outputs_set, IsSetBy}
use Rattle.kinded_core.specs.EquationLaws.{side_set, no_unknown, unknown_found}

-- ---- names

-- what a name stands for stays when more come into scope
pub meaning_stays : (names more : Names) (x : Word) (v : Variable) → meaning names x ≡ Some v
    → meaning (names ++ more) x ≡ Some v
meaning_stays [] more x v h = cc
meaning_stays (e ∷ es) more x v h = cases (bytes_eq e.0 x) h (meaning_stays es more x v)
  where
    cases : (b : Bool) → cond b (Some e.1) (meaning es x) ≡ Some v
        → (meaning es x ≡ Some v → meaning (es ++ more) x ≡ Some v)
        → cond b (Some e.1) (meaning (es ++ more) x) ≡ Some v
    cases true h r = h
    cases false h r = r h

-- a name that is new stands for what is declared last
pub meaning_new : (names more : Names) (x : Word) → meaning names x ≡ None → meaning (names ++ more) x ≡ meaning more x
meaning_new [] more x h = refl
meaning_new (e ∷ es) more x h = cases (bytes_eq e.0 x) h (meaning_new es more x)
  where
    cases : (b : Bool) → cond b (Some e.1) (meaning es x) ≡ None
        → (meaning es x ≡ None → meaning (es ++ more) x ≡ meaning more x)
        → cond b (Some e.1) (meaning (es ++ more) x) ≡ meaning more x
    cases true h r = cc
    cases false h r = r h

pub same_word : (x : Word) → bytes_eq x x ≡ true
same_word x = (bytes_eq-Decides x x).1 refl

pub one_declared : (x : Word) (v : Variable) → meaning ((x, v) ∷ []) x ≡ Some v
one_declared x v = ap (λ b. cond b (Some v) None) (same_word x)

-- at the end of a record a name stands for what it stands for before
pub meaning_after : (is : ItemList) (names : Names) (next : ℕ) (x : Word) (v : Variable) → meaning names x ≡ Some v
    → meaning (names_after is names next) x ≡ Some v
meaning_after no_items names next x v h = h
meaning_after (an_item i is) names next x v h =
    meaning_after is (names ++ declares i next) (next_slot next i) x v (meaning_stays names (declares i next) x v h)

-- each name in scope is a field that comes before
abbrev pub AreFields : Names → List Word → Type 0
AreFields names fields = (x : Word) (v : Variable) → meaning names x ≡ Some v → is_among fields x ≡ true

pub not_among : (names : Names) (fields : List Word) → AreFields names fields → (x : Word) → is_among fields x ≡ false
    → meaning names x ≡ None
not_among names fields h x n = cases (meaning names x) refl
  where
    cases : (o : Option Variable) → meaning names x ≡ o → o ≡ None
    cases None i = refl
    cases (Some v) i = let b : true ≡ false = sym (h x v i) ∙ n in cc

pub among_left : (xs ys : List Word) (x : Word) → is_among xs x ≡ true → is_among (xs ++ ys) x ≡ true
among_left xs ys x h = list_any-append (bytes_eq x) xs ys ∙ ap (λ b. b || is_among ys x) h

pub among_right : (xs ys : List Word) (x : Word) → is_among ys x ≡ true → is_among (xs ++ ys) x ≡ true
among_right xs ys x h = list_any-append (bytes_eq x) xs ys ∙ ap (λ b. is_among xs x || b) h ∙ or_true (is_among xs x)

pub not_among_left : (xs ys : List Word) (x : Word) → is_among (xs ++ ys) x ≡ false → is_among xs x ≡ false
not_among_left xs ys x h = cases (is_among xs x) refl
  where
    cases : (b : Bool) → is_among xs x ≡ b → b ≡ false
    cases false i = refl
    cases true i = let c : true ≡ false = sym (among_left xs ys x i) ∙ h in cc

declared_is : (x y : Word) (v w : Variable) → meaning ((x, v) ∷ []) y ≡ Some w → x ≡ y
declared_is x y v w h = cases (bytes_eq x y) refl h
  where
    cases : (b : Bool) → bytes_eq x y ≡ b → cond b (Some v) None ≡ Some w → x ≡ y
    cases true i h = (bytes_eq-Decides x y).0 i
    cases false i h = cc

one_field : (x y : Word) → x ≡ y → is_among (x ∷ []) y ≡ true
one_field x y h = ap (λ b. b || false) ((bytes_eq-Decides y x).1 (sym h))

fields_of : (i : ItemView) (next : ℕ) → AreFields (declares i next) (field_names i)
fields_of (implicit x k) next y v h = one_field x y (declared_is x y _ v h)
fields_of (check a op b) next y v h = cc
fields_of (explicit None t) next y v h = cc
fields_of (explicit (Some x) t) next y v h = one_field x y (declared_is x y _ v h)

pub fields_more : (names : Names) (fields : List Word) (i : ItemView) (next : ℕ) → AreFields names fields
    → AreFields (names ++ declares i next) (fields ++ field_names i)
fields_more names fields i next h y v m = cases (meaning names y) refl
  where
    cases : (o : Option Variable) → meaning names y ≡ o → is_among (fields ++ field_names i) y ≡ true
    cases None n = among_right fields (field_names i) y
        (fields_of i next y v (sym (meaning_new names (declares i next) y n) ∙ m))
    cases (Some w) n = among_left fields (field_names i) y (h y w n)

-- ---- inputs

-- the slots of the inputs of a record are set, by what their names stand for at its end
pub record InputsSet (inputs : List Word) (end : Names) (k : Known) : Type 0 where
  pub numbers : (x : Word) (v : ℕ) → is_among inputs x ≡ true → meaning end x ≡ Some (numbered v)
      → is_in k.numbers v ≡ true
  pub types : (x : Word) (v : ℕ) → is_among inputs x ≡ true → meaning end x ≡ Some (typed v) → is_in k.types v ≡ true

pub no_inputs : (end : Names) (k : Known) → InputsSet [] end k
no_inputs end k = record { numbers = λ x v h m. cc; types = λ x v h m. cc }

-- ---- more that is set

pub in_more : (vs ws : List ℕ) (v : ℕ) → is_in ws v ≡ true → is_in (vs ++ ws) v ≡ true
in_more vs ws v h = list_any-append (nat_eq v) vs ws ∙ ap (λ b. list_any (nat_eq v) vs || b) h
    ∙ or_true (list_any (nat_eq v) vs)

pub in_these : (vs ws : List ℕ) (v : ℕ) → is_in vs v ≡ true → is_in (vs ++ ws) v ≡ true
in_these vs ws v h = list_any-append (nat_eq v) vs ws ∙ ap (λ b. b || list_any (nat_eq v) ws) h

-- at least as much is set
pub record Grows (k l : Known) : Type 0 where
  pub numbers : (v : ℕ) → is_in k.numbers v ≡ true → is_in l.numbers v ≡ true
  pub types : (v : ℕ) → is_in k.types v ≡ true → is_in l.types v ≡ true

grows_by : (vs : List ℕ) (k : Known) → Grows k (with_numbers vs k)
grows_by vs k = record { numbers = λ v h. in_more vs k.numbers v h; types = λ v h. h }

grows_not : (k : Known) → Grows k k
grows_not k = record { numbers = λ v h. h; types = λ v h. h }

inputs_grow : (inputs : List Word) (end : Names) (k l : Known) → Grows k l → InputsSet inputs end k
    → InputsSet inputs end l
inputs_grow inputs end k l g h = record {
  numbers = λ x v i m. g.numbers v (h.numbers x v i m);
  types = λ x v i m. g.types v (h.types x v i m);
}

-- ---- after an item

-- what a known name stands for is set
record Settled (names : Names) (k : Known) (x : Word) : Type 0 where
  variable : Variable
  is : meaning names x ≡ Some variable
  numbers : (v : ℕ) → variable ≡ numbered v → is_in k.numbers v ≡ true
  types : (v : ℕ) → variable ≡ typed v → is_in k.types v ≡ true

known_either : (s : Scope) (i : ItemView) (x : Word) → is_known (after s i) x ≡ true
    → (b : Bool) × (is_known s x ≡ b) × (b ≡ false → is_among (makes_known s.types s.inputs i) x ≡ true)
known_either s i x h = cases (is_known s x) refl (sym
    (list_any-append (bytes_eq x) s.known (makes_known s.types s.inputs i)) ∙ h)
  where
    cases : (b : Bool) → is_known s x ≡ b → (b || is_among (makes_known s.types s.inputs i) x) ≡ true
        → (b : Bool) × (is_known s x ≡ b) × (b ≡ false → is_among (makes_known s.types s.inputs i) x ≡ true)
    cases true is h = (true, is, λ f. cc)
    cases false is h = (false, is, λ f. h)

agrees_after : (s : Scope) (i : ItemView) (names : Names) (next : ℕ) (k l : Known) → Agrees s names k → Grows k l
    → ((x : Word) → is_among (makes_known s.types s.inputs i) x ≡ true → Settled (names ++ declares i next) l x)
    → Agrees (after s i) (names ++ declares i next) l
agrees_after s i names next k l g more new = record {
  same = same_after s i names next g.same;
  bound = λ x h. bound x (known_either s i x h);
  numbers = λ x v h m. numbers x v m (known_either s i x h);
  types = λ x v h m. types x v m (known_either s i x h);
}
  where
    ours : Names
    ours = names ++ declares i next

    bound : (x : Word) → (b : Bool) × (is_known s x ≡ b)
        × (b ≡ false → is_among (makes_known s.types s.inputs i) x ≡ true)
        → (v : Variable) × (meaning (names ++ declares i next) x ≡ Some v)
    bound x (true, is, r) = let w = g.bound x is in (w.0, meaning_stays names (declares i next) x w.0 w.1)
    bound x (false, is, r) = let w = new x (r refl) in (w.variable, w.is)

    numbers : (x : Word) (v : ℕ) → meaning (names ++ declares i next) x ≡ Some (numbered v)
        → (b : Bool) × (is_known s x ≡ b) × (b ≡ false → is_among (makes_known s.types s.inputs i) x ≡ true)
        → is_in l.numbers v ≡ true
    numbers x v m (true, is, r) =
        let w = g.bound x is in
        let e : Some w.0 ≡ Some (numbered v) = sym (meaning_stays names (declares i next) x w.0 w.1) ∙ m in
        let f : w.0 ≡ numbered v = cc in
        more.numbers v (g.numbers x v is (w.1 ∙ ap Some f))
    numbers x v m (false, is, r) =
        let w = new x (r refl) in
        let e : Some w.variable ≡ Some (numbered v) = sym w.is ∙ m in
        let f : w.variable ≡ numbered v = cc in w.numbers v f

    types : (x : Word) (v : ℕ) → meaning (names ++ declares i next) x ≡ Some (typed v)
        → (b : Bool) × (is_known s x ≡ b) × (b ≡ false → is_among (makes_known s.types s.inputs i) x ≡ true)
        → is_in l.types v ≡ true
    types x v m (true, is, r) =
        let w = g.bound x is in
        let e : Some w.0 ≡ Some (typed v) = sym (meaning_stays names (declares i next) x w.0 w.1) ∙ m in
        let f : w.0 ≡ typed v = cc in
        more.types v (g.types x v is (w.1 ∙ ap Some f))
    types x v m (false, is, r) =
        let w = new x (r refl) in
        let e : Some w.variable ≡ Some (typed v) = sym w.is ∙ m in
        let f : w.variable ≡ typed v = cc in w.types v f

-- what an item makes known is one thing
pub only_among : (x y : Word) → is_among (x ∷ []) y ≡ true → y ≡ x
only_among x y h = cases (bytes_eq y x) refl h
  where
    cases : (b : Bool) → bytes_eq y x ≡ b → (b || false) ≡ true → y ≡ x
    cases true i h = (bytes_eq-Decides y x).0 i
    cases false i h = cc

-- the name of a field is none of those before it
pub new_name : (others : List Word) (path : List Part) (x : Word) → AreClean (name_at path others (Some x))
    → is_among others x ≡ false
new_name others path x h = h.0 TwiceNamed

new_meaning : (names : Names) (fields inner : List Word) → AreFields names fields → (x : Word)
    → is_among (fields ++ inner) x ≡ false
    → (v : Variable) → meaning (names ++ (x, v) ∷ []) x ≡ Some v
new_meaning names fields inner h x n v =
    meaning_new names ((x, v) ∷ []) x (not_among names fields h x (not_among_left fields inner x n)) ∙ one_declared x v

named_new : (others : List Word) (path : List Part) (x : Option Word) (z : Word) → x ≡ Some z
    → AreClean (name_at path others x)
    → is_among others z ≡ false
named_new others path None z i h = cc
named_new others path (Some x) z i h = let s : x ≡ z = cc in ap (is_among others) (sym s) ∙ new_name others path x h

-- an implicit field is known after itself where it is an input
implicit_settled : (inputs : List Word) (x y : Word) (v : Variable) (names end : Names) (k : Known)
    → meaning (names ++ (x, v) ∷ []) x ≡ Some v → meaning end x ≡ Some v → InputsSet inputs end k
    → is_among (if_input inputs x) y ≡ true
    → Settled (names ++ (x, v) ∷ []) k y
implicit_settled inputs x y v names end k m e h i = cases (is_among inputs x) refl i
  where
    cases : (b : Bool) → is_among inputs x ≡ b → is_among (cond b (x ∷ []) []) y ≡ true
        → Settled (names ++ (x, v) ∷ []) k y
    cases false j i = cc
    cases true j i =
        let same : y ≡ x = only_among x y i in
        record {
          variable = v;
          is = ap (meaning (names ++ (x, v) ∷ [])) same ∙ m;
          numbers = λ w f. h.numbers x w j (e ∙ ap Some f);
          types = λ w f. h.types x w j (e ∙ ap Some f);
        }

-- ---- constraints

record ConstraintSet (names : Names) (k : Known) (known : List Word) (i : Item) : Type 0 where
  item : is_set_item k i ≡ true
  grows : Grows k (set.after i k)
  settled : (y : Word) → is_among known y ≡ true → Settled (names ++ []) (set.after i k) y

pub in_one : (v : ℕ) (vs : List ℕ) → is_in (v ∷ vs) v ≡ true
in_one v vs = ap (λ b. b || is_in vs v) (eq-eqb v v refl)

constraint_set : (l : ExprView) (op : Op) (r : ExprView) (a : ItemContext) (names : Names) (k : Known) (place : ℕ)
    → Agrees a.scope names k
    → AreClean (item_nodes (check l op r) a []) → ConstraintSet names k (option_list (sought l op r))
    (constraint_of names l op r place)
constraint_set l op r a names k place g h = cases (sought l op r) refl
  where
    none : sought l op r ≡ None → AreClean (expr_nodes l a (Some (a_number greatest None)))
        → AreClean (expr_nodes r a (Some (a_number greatest None)))
        → ConstraintSet names k [] (constraint_of names l op r place)
    none is p q =
        let u : unknown_by op (side_of names l) (side_of names r) ≡ None = no_unknown l op r a names p q in
        let P : Option ℕ → Type 0 = λ o. ConstraintSet names k [] (constraint_by o names l op r place) in
        subst P (sym u) (record {
          item = both_true _ _ (number_set l a names k g greatest p) (number_set r a names k g greatest q);
          grows = grows_not k;
          settled = λ y m. cc;
        })

    one : (x : Word) → sought l op r ≡ Some x → AreClean (expr_nodes l a (Some (a_number greatest (Some x))))
        → AreClean (expr_nodes r a (Some (a_number greatest (Some x)))) → ConstraintSet names k (x ∷ [])
        (constraint_of names l op r place)
    one x is p q =
        let u = unknown_found x l op r a names k g is p q in
        let P : Option ℕ → Type 0 = λ o. ConstraintSet names k (x ∷ []) (constraint_by o names l op r place) in
        subst P (sym u.2) (record {
          item = both_true _ _ (side_set l a names k g greatest (Some x) p)
              (side_set r a names k g greatest (Some x) q);
          grows = grows_by (u.0 ∷ []) k;
          settled = λ y m. record {
            variable = numbered u.0;
            is = meaning_stays names [] y (numbered u.0) (ap (meaning names) (only_among x y m) ∙ u.1);
            numbers = λ v f. let s : u.0 ≡ v = cc in ap (is_in (u.0 ∷ k.numbers)) (sym s) ∙ in_one u.0 k.numbers;
            types = λ v f. cc;
          };
        })

    cases : (q : Option Word) → sought l op r ≡ q → ConstraintSet names k (option_list (sought l op r))
        (constraint_of names l op r place)
    cases None is =
        let P : Option Word → Type 0 = λ q. AreClean (expr_nodes l a (Some (a_number greatest q)) ++ expr_nodes r a
        (Some (a_number greatest q))) in
        let p = clean_both (expr_nodes l a (Some (a_number greatest None))) _ (subst P is h) in
        let Q : Option Word → Type 0 = λ q. ConstraintSet names k (option_list q) (constraint_of names l op r place) in
        subst Q (sym is) (none is p.0 p.1)
    cases (Some x) is =
        let P : Option Word → Type 0 = λ q. AreClean (expr_nodes l a (Some (a_number greatest q)) ++ expr_nodes r a
        (Some (a_number greatest q))) in
        let p = clean_both (expr_nodes l a (Some (a_number greatest (Some x)))) _ (subst P is h) in
        let Q : Option Word → Type 0 = λ q. ConstraintSet names k (option_list q) (constraint_of names l op r place) in
        subst Q (sym is) (one x is p.0 p.1)

-- ---- fields

-- the outputs of a field's type
body_outs : (e : ExprView) (a : ItemContext) (names : Names) (k : Known) (next : ℕ) → Agrees a.scope names k
    → (w : TypePosition)
    → AreClean (expr_nodes e a (Some (a_type w))) → (y : Word) → is_among (outputs_of a.scope.types e) y ≡ true
    → IsSetBy names (type_outs (body_of a.scope.types names next e)) y
body_outs (named x es) a names k next g w h y m = outputs_set (named x es) a names k g w h y m
body_outs (lit n) a names k next g w h y m = cc
body_outs nat32 a names k next g w h y m = cc
body_outs (bits es) a names k next g w h y m = cc
body_outs (below es) a names k next g w h y m = cc
body_outs (up_to es) a names k next g w h y m = cc
body_outs (plus e f) a names k next g w h y m = cc
body_outs (star e f) a names k next g w h y m = cc
body_outs (out e) a names k next g w h y m = cc
body_outs (ref e) a names k next g w h y m = cc
body_outs (group is) a names k next g w h y m = cc

field_grows : (types : SchemaView) (names : Names) (x : Word) (own : Option ℕ) (next : ℕ) (t : TypeView) (k : Known)
    → Grows k (set.after (field_of types names x own next t) k)
field_grows types names x own next (plain e) k = grows_by (sets own (body_of types names next e)) k
field_grows types names x own next (when c e) k = grows_by (sets own (body_of types names next e)) k
field_grows types names x own next (when_bit c b e) k = grows_by (sets own (body_of types names next e)) k

-- its own slot is set after a field
own_is_set : (types : SchemaView) (names : Names) (x : Word) (v next : ℕ) (t : TypeView) (k : Known)
    → is_in (set.after (field_of types names x (Some v) next t) k).numbers v ≡ true
own_is_set types names x v next (plain e) k = in_one v (type_outs (body_of types names next e) ++ k.numbers)
own_is_set types names x v next (when c e) k = in_one v (type_outs (body_of types names next e) ++ k.numbers)
own_is_set types names x v next (when_bit c b e) k = in_one v (type_outs (body_of types names next e) ++ k.numbers)

-- what an explicit field makes known
field_settled : (t : TypeView) (a : ItemContext) (names : Names) (k : Known) (next inner : ℕ) (shown_name : Word)
    (x : Option Word)
    → Agrees a.scope names k → AreClean (type_nodes t a)
    → ((z : Word) → x ≡ Some z → (v : Variable) → meaning (names ++ (z, v) ∷ []) z ≡ Some v)
    → (y : Word) → is_among (own_number (is_field_of_numbers t) x ++ type_outputs a.scope.types t) y ≡ true
    → Settled (names ++ declares (explicit x t) next)
    (set.after (field_of a.scope.types names shown_name (own_slot x (is_field_of_numbers t) next) inner t) k) y
field_settled t a names k next inner shown_name x g h new y m =
    either (is_among (own_number (is_field_of_numbers t) x) y) refl
    (sym (list_any-append (bytes_eq y) (own_number (is_field_of_numbers t) x) (type_outputs a.scope.types t)) ∙ m)
  where
    own : (b : Bool) → is_field_of_numbers t ≡ b → (o : Option Word) → x ≡ o → is_among (own_number b o) y ≡ true
        → Settled (names ++ declares (explicit x t) next)
        (set.after (field_of a.scope.types names shown_name (own_slot x (is_field_of_numbers t) next) inner t) k) y
    own true i (Some z) j m =
        let same : y ≡ z = only_among z y m in
        let P : Bool → Type 0 = λ b. Settled (names ++ (z, field_variable b next) ∷ [])
        (set.after (field_of a.scope.types names shown_name (own_slot (Some z) b next) inner t) k) y in
        let Q : Option Word → Type 0 = λ o. Settled (names ++ declares (explicit o t) next)
        (set.after (field_of a.scope.types names shown_name (own_slot o (is_field_of_numbers t) next) inner t) k) y in
        subst Q (sym j) (subst P (sym i) (record {
          variable = numbered next;
          is = ap (meaning (names ++ (z, numbered next) ∷ [])) same ∙ new z j (numbered next);
          numbers = λ v f. let s : next ≡ v = cc in
              ap (is_in (set.after (field_of a.scope.types names shown_name (Some next) inner t) k).numbers) (sym s)
              ∙ own_is_set a.scope.types names shown_name next inner t k;
          types = λ v f. cc;
        }))
    own true i None j m = cc
    own false i o j m = cc

    outputs : (t : TypeView) → AreClean (type_nodes t a) → is_among (type_outputs a.scope.types t) y ≡ true
        → (slot : Option ℕ)
        → (v : ℕ) × (meaning names y ≡ Some (numbered v))
        × (is_in (set.after (field_of a.scope.types names shown_name slot inner t) k).numbers v ≡ true)
    outputs (plain e) h m slot =
        let w = body_outs e a names k inner g Whole h y m in (
          w.slot,
          w.is,
          in_these (sets slot (body_of a.scope.types names inner e)) k.numbers w.slot
              (in_more (slot_list slot) (type_outs (body_of a.scope.types names inner e)) w.slot w.there),
        )
    outputs (when c e) h m slot = cc
    outputs (when_bit c b e) h m slot = cc

    either : (b : Bool) → is_among (own_number (is_field_of_numbers t) x) y ≡ b
        → (b || is_among (type_outputs a.scope.types t) y) ≡ true
        → Settled (names ++ declares (explicit x t) next)
        (set.after (field_of a.scope.types names shown_name (own_slot x (is_field_of_numbers t) next) inner t) k) y
    either true i m = own (is_field_of_numbers t) refl x refl i
    either false i m =
        let w = outputs t h m (own_slot x (is_field_of_numbers t) next) in
        record {
          variable = numbered w.0;
          is = meaning_stays names (declares (explicit x t) next) y (numbered w.0) w.1;
          numbers = λ v f. let s : w.0 ≡ v = cc in
              ap (is_in (set.after (field_of a.scope.types names shown_name
              (own_slot x (is_field_of_numbers t) next) inner t) k).numbers) (sym s) ∙ w.2;
          types = λ v f. cc;
        }

-- ---- records

nothing_after : {X : Type 0} (xs : List X) → xs ++ [] ≡ xs
nothing_after [] = refl
nothing_after (x ∷ xs) = ap (λ ys. x ∷ ys) (nothing_after xs)

inside_agrees : (s : Scope) (names : Names) (k : Known) → Agrees s names k → Agrees (inside s) names k
inside_agrees s names k g =
    let P : List Binding → Type 0 = λ bs. AreSameNames bs names in
    record {
      same = subst P (sym (nothing_after (s.around ++ s.own))) g.same;
      bound = g.bound;
      numbers = g.numbers;
      types = g.types;
    }

twice_under : (w : TypePosition) → takes_no_record (under (under w)) ≡ true
twice_under Whole = refl
twice_under Conditional = refl
twice_under FieldRef = refl
twice_under UnderRef = refl
twice_under Inner = refl

pub record ItemsSet (h : RecordContext) (names : Names) (k : Known) (next : ℕ) (is : ItemList)
    (items : Items) : Type 0 where
  pub all : are_set_items k items ≡ true
  pub end : Agrees (at_end h.scope is) (names_after is names next) (after_all items k)

mutual
  pub items_set : (is : ItemList) (h : RecordContext) (names : Names) (k : Known) (next place unnamed : ℕ)
      → Agrees h.scope names k
      → AreFields names h.fields → InputsSet h.scope.inputs (names_after is names next) k → AreClean (record_nodes is h)
      → ItemsSet h names k next is (items_of h.scope.types names next place unnamed is)
  items_set no_items h names k next place unnamed g f i c = record { all = refl; end = g }
  items_set (an_item (implicit x kind) is) h names k next place unnamed g f i c =
      let p = clean_both (item_nodes (implicit x kind) (at h (implicit x kind)) (h.fields ++ h.inner)) _ c in
      let n = new_name (h.fields ++ h.inner) (at h (implicit x kind)).path x p.0 in
      let m = new_meaning names h.fields h.inner f x n (implicit_variable kind next) in
      let e = meaning_after is (names ++ declares (implicit x kind) next)
      (next_slot next (implicit x kind)) x (implicit_variable kind next) m in
      let g' = agrees_after h.scope (implicit x kind) names next k k g (grows_not k)
      (λ y j. implicit_settled h.scope.inputs x y (implicit_variable kind next) names _ k m e i j) in
      let r = items_set is (nodes.next h (implicit x kind))
      (names ++ declares (implicit x kind) next) k (next_slot next (implicit x kind))
      (place + 1) unnamed g' (fields_more names h.fields (implicit x kind) next f) i p.1 in
      record { all = r.all; end = r.end }
  items_set (an_item (check l op r) is) h names k next place unnamed g f i c =
      let p = clean_both (item_nodes (check l op r) (at h (check l op r)) (h.fields ++ h.inner)) _ c in
      let s = constraint_set l op r (at h (check l op r)) names k place g p.0 in
      let g' = agrees_after h.scope (check l op r) names next k
      (set.after (constraint_of names l op r place) k) g s.grows s.settled in
      let q = items_set is (nodes.next h (check l op r)) (names ++ declares (check l op r) next)
      (set.after (constraint_of names l op r place) k)
      (next_slot next (check l op r)) (place + 1) unnamed g' (fields_more names h.fields (check l op r) next f)
      (inputs_grow h.scope.inputs _ k _ s.grows i) p.1 in
      record { all = both_true _ _ s.item q.all; end = q.end }
  items_set (an_item (explicit x t) is) h names k next place unnamed g f i c =
      let p = clean_both (item_nodes (explicit x t) (at h (explicit x t)) (h.fields ++ h.inner)) _ c in
      let q = clean_both (name_at (at h (explicit x t)).path (h.fields ++ h.inner) x) _ p.0 in
      let inner = next + field_slots x (is_field_of_numbers t) in
      let core_item = field_of h.scope.types names (shown x unnamed)
      (own_slot x (is_field_of_numbers t) next) inner t in
      let grows = field_grows h.scope.types names (shown x unnamed)
      (own_slot x (is_field_of_numbers t) next) inner t k in
      let settled = field_settled t (at h (explicit x t)) names k next inner (shown x unnamed) x g q.1
      (λ z j v. new_meaning names h.fields h.inner f z
      (named_new (h.fields ++ h.inner) (at h (explicit x t)).path x z j q.0) v) in
      let g' = agrees_after h.scope (explicit x t) names next k (set.after core_item k) g grows settled in
      let r = items_set is (nodes.next h (explicit x t)) (names ++ declares (explicit x t) next) (set.after core_item k)
      (next_slot next (explicit x t)) (place + 1) (unnamed_by (is_unnamed (explicit x t)) unnamed) g'
      (fields_more names h.fields (explicit x t) next f) (inputs_grow h.scope.inputs _ k _ grows i) p.1 in
      record {
        all = both_true _ _ (field_set t (at h (explicit x t)) names k inner (shown x unnamed)
            (own_slot x (is_field_of_numbers t) next) g
            (λ y v m. among_left h.fields (field_names (explicit x t)) y (f y v m)) q.1) r.all;
        end = r.end;
      }

  field_set : (t : TypeView) (a : ItemContext) (names : Names) (k : Known) (inner : ℕ) (x : Word) (own : Option ℕ)
      → Agrees a.scope names k
      → AreFields names a.fields → AreClean (type_nodes t a)
      → is_set_item k (field_of a.scope.types names x own inner t) ≡ true
  field_set (plain e) a names k inner x own g f h = body_set e a names k inner g f Whole h
  field_set (when c e) a names k inner x own g f h =
      let p = clean_both (expr_nodes c a (Some (a_number greatest None))) _ h in
      both_true _ _ (number_set c a names k g greatest p.0) (body_set e a names k inner g f Conditional p.1)
  field_set (when_bit c b e) a names k inner x own g f h =
      let p = clean_both (expr_nodes c a (Some (a_number greatest None))) _ h in
      both_true _ _ (number_set c a names k g greatest p.0) (body_set e a names k inner g f Conditional p.1)

  body_set : (e : ExprView) (a : ItemContext) (names : Names) (k : Known) (inner : ℕ) → Agrees a.scope names k
      → AreFields names a.fields
      → (w : TypePosition) → AreClean (expr_nodes e a (Some (a_type w)))
      → is_set_type k (body_of a.scope.types names inner e) ≡ true
  body_set (group is) a names k inner g f w h =
      (items_set is (first_inside a) names k inner 1 0 (inside_agrees a.scope names k g) f (no_inputs _ k) h.1).all
  body_set (ref e) a names k inner g f w h = under_set e a names k inner g f (under w) (twice_under w) h.1
  body_set (lit n) a names k inner g f w h = type_set (lit n) a names k g w tt h
  body_set (named x es) a names k inner g f w h = type_set (named x es) a names k g w tt h
  body_set nat32 a names k inner g f w h = type_set nat32 a names k g w tt h
  body_set (bits es) a names k inner g f w h = type_set (bits es) a names k g w tt h
  body_set (below es) a names k inner g f w h = type_set (below es) a names k g w tt h
  body_set (up_to es) a names k inner g f w h = type_set (up_to es) a names k g w tt h
  body_set (plus x y) a names k inner g f w h = type_set (plus x y) a names k g w tt h
  body_set (star x y) a names k inner g f w h = type_set (star x y) a names k g w tt h
  body_set (out e) a names k inner g f w h = type_set (out e) a names k g w tt h

  under_set : (e : ExprView) (a : ItemContext) (names : Names) (k : Known) (inner : ℕ) → Agrees a.scope names k
      → AreFields names a.fields
      → (w : TypePosition) → takes_no_record (under w) ≡ true → AreClean (expr_nodes e a (Some (a_type w)))
      → is_set_type k (under_ref a.scope.types names inner e) ≡ true
  under_set (group is) a names k inner g f w p h =
      (items_set is (first_inside a) names k inner 1 0 (inside_agrees a.scope names k g) f (no_inputs _ k) h.1).all
  under_set (ref e) a names k inner g f w p h = type_set (ref e) a names k g w p h
  under_set (lit n) a names k inner g f w p h = type_set (lit n) a names k g w tt h
  under_set (named x es) a names k inner g f w p h = type_set (named x es) a names k g w tt h
  under_set nat32 a names k inner g f w p h = type_set nat32 a names k g w tt h
  under_set (bits es) a names k inner g f w p h = type_set (bits es) a names k g w tt h
  under_set (below es) a names k inner g f w p h = type_set (below es) a names k g w tt h
  under_set (up_to es) a names k inner g f w p h = type_set (up_to es) a names k g w tt h
  under_set (plus x y) a names k inner g f w p h = type_set (plus x y) a names k g w tt h
  under_set (star x y) a names k inner g f w p h = type_set (star x y) a names k g w tt h
  under_set (out e) a names k inner g f w p h = type_set (out e) a names k g w tt h
