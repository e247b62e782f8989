-- Numbers of which no cause holds: their variables are in scope and set.
use Rattle.std.proofs.Common.{◌≡◌, ℕ, List, ◌++◌, Option, Some, None, Bool, true, false, not, ◌&&◌, ◌||◌, refl}
use Rattle.std.proofs.Common.{sym, ap, ◌∙◌, subst, inl, inr, ◌⊎◌, arith}
use Rattle.std.specs.Prelude.{nat_lt, bytes_eq}
use Rattle.std.specs.List.{list_any}
use Rattle.std.proofs.lemmas.Bool.{or_parts, lt-ltb}
use Rattle.std.proofs.lemmas.List.Folds.{list_any-append}
use Rattle.std.proofs.lemmas.Slice.Eq.{bytes_eq-Decides}
use Rattle.nat_solver.specs.Number.{Expr, exact_sum}
use Rattle.tlb_syntax.specs.Tree.{ExprView, ExprList, SchemaView, lit, named, nat32, bits, below, up_to, plus, star}
use Rattle.tlb_syntax.specs.Tree.{out, ref}
use Rattle.tlb_syntax.specs.Tree.{group, no_exprs, an_expr}
use Rattle.kind_terms.specs.declared.scope.Meaning.{Meaning}
use Rattle.kind_terms.specs.declared.scope.Meaning.TheVariants.{ImplicitNumber, FieldNumber, TypeVariable, OtherField}
use Rattle.kind_terms.specs.Words.{Word}
use Rattle.kind_terms.specs.Classes.{word_class, name_class}
use Rattle.kind_terms.specs.Closed.{closed, exact_product}
use Rattle.kind_terms.specs.Forms.{parts}
use Rattle.kind_terms.specs.Params.{bare_name, greatest}
use Rattle.kind_terms.specs.Scopes.{Scope, meaning_of, is_known, is_number_meaning, is_type_meaning}
use Rattle.kind_terms.specs.Types.{TypeNamed, no_type, basic, declared, count, type_of_class}
use Rattle.kind_rules.specs.ExpectedKinds.{Expected, Use, a_number, type_in_class}
use Rattle.kind_rules.specs.Names.{names_none, is_no_variable}
use Rattle.kind_rules.specs.Numbers.{is_variable_in, holds_variable, is_some_type}
use Rattle.kind_rules.specs.Known.{seeks}
use Rattle.kind_declarations.specs.Nodes.{ItemContext, expr_nodes}
use Rattle.core_form.specs.Determined.{Known, is_in, is_valued}
use Rattle.schema_core.specs.Names.{Names, Variable, a_number, a_type, other, meaning, number_called, number_slot}
use Rattle.schema_core.specs.Numbers.{number_of, variable_or_none, product}
use Rattle.schema_core.specs.Same.{IsSameMeaning}
use Rattle.schema_core.specs.SameLaws.{meanings_agree}
use Rattle.kinded_core.specs.Clean.{AreClean, Agrees}
use Rattle.kinded_core.specs.CleanLaws.{CleanUse, clean_use, clean_both}

-- ---- names

-- an expression where a number is expected, or an output
abbrev pub use_of : Scope → Expected → ExprView → Use
use_of s d e = record { scope = s; expected = d; at = e }

-- a name without arguments that is neither of a type nor of another field is a variable of numbers
pub variable_meaning : (types : SchemaView) (x : Word) (m : Option Meaning)
    → (names_none (type_in_class types x false (name_class m x false)) && not (false || nat_lt 0 0)) ≡ false
    → is_some_type (type_in_class types x false (name_class m x false)) ≡ false → is_type_meaning m ≡ false
    → is_no_variable m ≡ false → is_number_meaning m ≡ true
variable_meaning types x (Some ImplicitNumber) u t v o = refl
variable_meaning types x (Some FieldNumber) u t v o = refl
variable_meaning types x (Some TypeVariable) u t v o = cc
variable_meaning types x (Some OtherField) u t v o = cc
variable_meaning types x None u t v o = none (type_of_class types x false (word_class x)) u t
  where
    none : (t : TypeNamed) → (names_none (Some t) && not (false || nat_lt 0 0)) ≡ false → is_some_type (Some t) ≡ false
        → is_number_meaning None ≡ true
    none no_type u t = cc
    none (basic ks) u t = cc
    none (declared ks) u t = cc

-- at a name alone, or at `~` and a name alone
pub number_meaning : (s : Scope) (most : ℕ) (q : Option Word) (x : Word) (e : ExprView) → e ≡ named x no_exprs
    → CleanUse (use_of s (a_number most q) e) → is_number_meaning (meaning_of s x) ≡ true
number_meaning s most q x e is c =
    let P : ExprView → Type 0 = λ f. CleanUse (use_of s (a_number most q) f) in at_name (subst P is c)
  where
    at_name : CleanUse (use_of s (a_number most q) (named x no_exprs)) → is_number_meaning (meaning_of s x) ≡ true
    at_name d =
        let a = or_parts _ (is_type_meaning (meaning_of s x)) d.type_for_number in
        let b = or_parts false _ a.0 in
        variable_meaning s.types x (meaning_of s x) d.unknown_name b.1 a.1 d.other_field

pub out_meaning : (s : Scope) (most : ℕ) (q : Option Word) (x : Word)
    → CleanUse (use_of s (a_number most q) (out (named x no_exprs)))
    → is_number_meaning (meaning_of s x) ≡ true
out_meaning s most q x d =
    let a = or_parts _ (is_type_meaning (meaning_of s x)) d.type_for_number in
    let b = or_parts false _ a.0 in
    variable_meaning s.types x (meaning_of s x) d.unknown_name b.1 a.1 d.other_field

-- the variable is known
pub number_known : (s : Scope) (most : ℕ) (q : Option Word) (x : Word)
    → CleanUse (use_of s (a_number most q) (named x no_exprs))
    → is_known s x ≡ true
number_known s most q x c =
    cases (is_number_meaning (meaning_of s x)) (is_known s x)
    (number_meaning s most q x (named x no_exprs) refl c) c.unknown
  where
    cases : (n k : Bool) → n ≡ true → (n && not k) ≡ false → k ≡ true
    cases true true n h = refl
    cases true false n h = cc
    cases false k n h = cc

-- a name with arguments is no number
pub number_args : (s : Scope) (most : ℕ) (q : Option Word) (x : Word) (e : ExprView) (es : ExprList)
    → CleanUse (use_of s (a_number most q) (named x (an_expr e es))) → ⊥
number_args s most q x e es c =
    let low : nat_lt 0 (count (an_expr e es)) ≡ true = lt-ltb 0 (count (an_expr e es)) (omega arith) in
    cases (meaning_of s x) low c.unknown_type (or_parts false _ (or_parts _ _ c.type_for_number).0).1
  where
    types : (t : TypeNamed) (b : Bool) → b ≡ true → (names_none (Some t) && (false || b)) ≡ false
        → is_some_type (Some t) ≡ false → ⊥
    types no_type true i u t = cc
    types no_type false i u t = cc
    types (basic ks) b i u t = cc
    types (declared ks) b i u t = cc

    cases : (m : Option Meaning) → nat_lt 0 (count (an_expr e es)) ≡ true
        → (names_none (type_in_class s.types x true (name_class m x true)) &&
        (false || nat_lt 0 (count (an_expr e es)))) ≡ false
        → is_some_type (type_in_class s.types x true (name_class m x true)) ≡ false → ⊥
    cases None low u t = types (type_of_class s.types x true (word_class x)) (nat_lt 0 (count (an_expr e es))) low u t
    cases (Some m) low u t = types (type_of_class s.types x true (word_class x))
        (nat_lt 0 (count (an_expr e es))) low u t

-- the x of a `~` that is sought
bare_is : (e : ExprView) (x : Word) → bare_name e ≡ Some x → e ≡ named x no_exprs
bare_is (named y no_exprs) x i = let s : y ≡ x = cc in ap (λ z. named z no_exprs) s
bare_is (named y (an_expr e es)) x i = cc
bare_is (lit n) x i = cc
bare_is nat32 x i = cc
bare_is (bits es) x i = cc
bare_is (below es) x i = cc
bare_is (up_to es) x i = cc
bare_is (plus a b) x i = cc
bare_is (star a b) x i = cc
bare_is (out e) x i = cc
bare_is (ref e) x i = cc
bare_is (group is) x i = cc

pub record Sought (q : Option Word) (e : ExprView) : Type 0 where
  pub name : Word
  pub sought : q ≡ Some name
  pub is : e ≡ named name no_exprs

pub out_sought : (s : Scope) (most : ℕ) (q : Option Word) (e : ExprView)
    → CleanUse (use_of s (a_number most q) (out e)) → Sought q e
out_sought s most q e c = cases q (bare_name e) refl refl c.other_out
  where
    cases : (p o : Option Word) → q ≡ p → bare_name e ≡ o → (true && not (seeks p o)) ≡ false → Sought q e
    cases None o i j h = cc
    cases (Some x) None i j h = cc
    cases (Some x) (Some y) i j h = same (bytes_eq x y) refl h
      where
        same : (b : Bool) → bytes_eq x y ≡ b → (true && not b) ≡ false → Sought q e
        same false t h = cc
        same true t h =
            let w : x ≡ y = (bytes_eq-Decides x y).0 t in
            record { name = x; sought = i; is = bare_is e y j ∙ ap (λ z. named z no_exprs) (sym w) }

-- ---- the slots of variables

pub number_variable : (s : Scope) (names : Names) (k : Known) → Agrees s names k → (x : Word)
    → is_number_meaning (meaning_of s x) ≡ true
    → (v : ℕ) × (meaning names x ≡ Some (a_number v))
number_variable s names k g x n =
    cases (meaning_of s x) (meaning names x) (meanings_agree (s.around ++ s.own) names x g.same) n
  where
    cases : (m : Option Meaning) (o : Option Variable) → IsSameMeaning m o → is_number_meaning m ≡ true → (v : ℕ)
        × (o ≡ Some (a_number v))
    cases None o i n = cc
    cases (Some m) None i n = absurd i
    cases (Some ImplicitNumber) (Some (a_number v)) i n = (v, refl)
    cases (Some ImplicitNumber) (Some (a_type v)) i n = absurd i
    cases (Some ImplicitNumber) (Some other) i n = absurd i
    cases (Some FieldNumber) (Some (a_number v)) i n = (v, refl)
    cases (Some FieldNumber) (Some (a_type v)) i n = absurd i
    cases (Some FieldNumber) (Some other) i n = absurd i
    cases (Some TypeVariable) o i n = cc
    cases (Some OtherField) o i n = cc

-- a name that is clean where a number is expected has a slot, which is set
pub name_set : (s : Scope) (names : Names) (k : Known) → Agrees s names k → (most : ℕ) (q : Option Word) (x : Word)
    → CleanUse (use_of s (a_number most q) (named x no_exprs))
    → (v : ℕ) × (number_called names x ≡ Some v) × (is_in k.numbers v ≡ true)
name_set s names k g most q x c =
    let w = number_variable s names k g x (number_meaning s most q x (named x no_exprs) refl c) in
    (w.0, ap number_slot w.1, g.numbers x w.0 (number_known s most q x c) w.1)

-- ---- numbers without variables

none_of_sum : (m n : Option ℕ) → exact_sum m n ≡ None → (m ≡ None) ⊎ (n ≡ None)
none_of_sum None n e = inl refl
none_of_sum (Some m) None e = inr refl
none_of_sum (Some m) (Some n) e = cc

none_of_product : (m n : Option ℕ) → exact_product m n ≡ None → (m ≡ None) ⊎ (n ≡ None)
none_of_product None n e = inl refl
none_of_product (Some m) None e = inr refl
none_of_product (Some m) (Some n) e = cc

pub any_left : {X : Type 0} (p : X → Bool) (xs ys : List X) → list_any p xs ≡ true → list_any p (xs ++ ys) ≡ true
any_left p xs ys h = list_any-append p xs ys ∙ ap (λ b. b || list_any p ys) h

pub or_true : (b : Bool) → (b || true) ≡ true
or_true true = refl
or_true false = refl

pub any_right : {X : Type 0} (p : X → Bool) (xs ys : List X) → list_any p ys ≡ true → list_any p (xs ++ ys) ≡ true
any_right p xs ys h = list_any-append p xs ys ∙ ap (λ b. list_any p xs || b) h ∙ or_true (list_any p xs)

of_either : (s : Scope) (a b : ExprView) → (closed a ≡ None → holds_variable s a ≡ true)
    → (closed b ≡ None → holds_variable s b ≡ true)
    → (closed a ≡ None) ⊎ (closed b ≡ None) → list_any (is_variable_in s) (parts a ++ parts b) ≡ true
of_either s a b f g h =
    elim h [
      | inl i ↦ any_left (is_variable_in s) (parts a) (parts b) (f i)
      | inr i ↦ any_right (is_variable_in s) (parts a) (parts b) (g i)
    ]

named_held : (s : Scope) (x : Word) → is_number_meaning (meaning_of s x) ≡ true
    → holds_variable s (named x no_exprs) ≡ true
named_held s x n = ap (λ b. b || false) n

-- a number of which no cause holds has no variables, or a variable of numbers stands in it
pub closed_or_held : (e : ExprView) (a : ItemContext) (most : ℕ) (q : Option Word)
    → AreClean (expr_nodes e a (Some (a_number most q)))
    → closed e ≡ None → holds_variable a.scope e ≡ true
closed_or_held (lit n) a most q h i = cc
closed_or_held (named x no_exprs) a most q h i =
    named_held a.scope x (number_meaning a.scope most q x (named x no_exprs) refl (clean_use _ h.0))
closed_or_held (named x (an_expr e es)) a most q h i = absurd (number_args a.scope most q x e es (clean_use _ h.0))
closed_or_held (plus e f) a most q h i =
    let p = clean_both (expr_nodes e a (Some (a_number greatest q))) _ h.1 in
    of_either a.scope e f (closed_or_held e a greatest q p.0) (closed_or_held f a greatest q p.1)
    (none_of_sum (closed e) (closed f) i)
closed_or_held (star e f) a most q h i =
    let p = clean_both (expr_nodes e a (Some (a_number greatest q))) _ h.1 in
    of_either a.scope e f (closed_or_held e a greatest q p.0) (closed_or_held f a greatest q p.1)
    (none_of_product (closed e) (closed f) i)
closed_or_held (out e) a most q h i =
    let w = out_sought a.scope most q e (clean_use _ h.0) in
    let P : ExprView → Type 0 = λ f. CleanUse (use_of a.scope (a_number most q) (out f)) in
    let n = out_meaning a.scope most q w.name (subst P w.is (clean_use _ h.0)) in
    ap (λ f. list_any (is_variable_in a.scope) (parts (out f))) w.is ∙ named_held a.scope w.name n
closed_or_held nat32 a most q h i = let b : true ≡ false = (clean_use _ h.0).type_for_number in cc
closed_or_held (bits es) a most q h i = let b : true ≡ false = (clean_use _ h.0).type_for_number in cc
closed_or_held (below es) a most q h i = let b : true ≡ false = (clean_use _ h.0).type_for_number in cc
closed_or_held (up_to es) a most q h i = let b : true ≡ false = (clean_use _ h.0).type_for_number in cc
closed_or_held (ref e) a most q h i = let b : true ≡ false = (clean_use _ h.0).type_for_number in cc
closed_or_held (group is) a most q h i = let b : true ≡ false = (clean_use _ h.0).type_for_number in cc

both_held : (m n : Bool) → m ≡ true → n ≡ true → (m && n) ≡ false → ⊥
both_held true true i j h = cc
both_held true false i j h = cc
both_held false n i j h = cc

-- one factor of a product is without variables
pub factor_closed : (e f : ExprView) (a : ItemContext) (most : ℕ) (q : Option Word)
    → AreClean (expr_nodes (star e f) a (Some (a_number most q)))
    → closed e ≡ None → closed f ≡ None → ⊥
factor_closed e f a most q h i j =
    let p = clean_both (expr_nodes e a (Some (a_number greatest q))) _ h.1 in
    both_held _ _ (closed_or_held e a greatest q p.0 i) (closed_or_held f a greatest q p.1 j) (clean_use _ h.0).product

-- ---- numbers

pub both_true : (m n : Bool) → m ≡ true → n ≡ true → (m && n) ≡ true
both_true true n i j = j
both_true false n i j = cc

product_set : (k : Known) (m n : Option ℕ) (a b : Expr) → is_valued k a ≡ true → is_valued k b ≡ true
    → (m ≡ None → n ≡ None → ⊥)
    → is_valued k (product m n a b) ≡ true
product_set k (Some m) n a b p q h = q
product_set k None (Some n) a b p q h = p
product_set k None None a b p q h = absurd (h refl refl)

pub number_set : (e : ExprView) (a : ItemContext) (names : Names) (k : Known) → Agrees a.scope names k → (most : ℕ)
    → AreClean (expr_nodes e a (Some (a_number most None))) → is_valued k (number_of names e) ≡ true
number_set (lit n) a names k g most h = refl
number_set (named x no_exprs) a names k g most h =
    let w = name_set a.scope names k g most None x (clean_use _ h.0) in
    ap (λ o. is_valued k (variable_or_none o)) w.1 ∙ w.2
number_set (named x (an_expr e es)) a names k g most h = absurd (number_args a.scope most None x e es (clean_use _ h.0))
number_set (plus e f) a names k g most h =
    let p = clean_both (expr_nodes e a (Some (a_number greatest None))) _ h.1 in
    both_true _ _ (number_set e a names k g greatest p.0) (number_set f a names k g greatest p.1)
number_set (star e f) a names k g most h =
    let p = clean_both (expr_nodes e a (Some (a_number greatest None))) _ h.1 in
    product_set k (closed e) (closed f) _ _ (number_set e a names k g greatest p.0)
    (number_set f a names k g greatest p.1)
    (factor_closed e f a most None h)
number_set (out e) a names k g most h =
    let w = out_sought a.scope most None e (clean_use _ h.0) in let b : None ≡ Some w.name = w.sought in cc
number_set nat32 a names k g most h = let b : true ≡ false = (clean_use _ h.0).type_for_number in cc
number_set (bits es) a names k g most h = let b : true ≡ false = (clean_use _ h.0).type_for_number in cc
number_set (below es) a names k g most h = let b : true ≡ false = (clean_use _ h.0).type_for_number in cc
number_set (up_to es) a names k g most h = let b : true ≡ false = (clean_use _ h.0).type_for_number in cc
number_set (ref e) a names k g most h = let b : true ≡ false = (clean_use _ h.0).type_for_number in cc
number_set (group is) a names k g most h = let b : true ≡ false = (clean_use _ h.0).type_for_number in cc
