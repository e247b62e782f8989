-- Nodes without a fault, and what that says of one expression.
use Rattle.std.proofs.Common.{◌≡◌, ◌⊎◌, inl, inr, ap, sym, ◌∙◌, refl, ℕ, suc, List, [], ◌∷◌, ◌++◌, map, Bool, true, false, not}
use Rattle.std.proofs.Common.{◌&&◌, ◌||◌, cond, arith}
use Rattle.std.specs.Prelude.{Option, Some, None, is_some, nat_lt}
use Rattle.std.proofs.lemmas.Bool.{or_parts, lt-ltb}
use Rattle.tlb_syntax.specs.Tree.{ExprView, ExprList, SchemaView, named, no_exprs, an_expr}
use Rattle.kind_terms.specs.Words.{Word}
use Rattle.kind_terms.specs.Params.{bare_name}
use Rattle.kind_terms.specs.declared.scope.Meaning.{Meaning}
use Rattle.kind_terms.specs.declared.scope.Meaning.TheVariants.{ImplicitNumber, FieldNumber, TypeVariable, OtherField}
use Rattle.kind_terms.specs.Classes.{name_class}
use Rattle.kind_terms.specs.Types.{TypeNamed, no_type, basic, declared, count}
use Rattle.kind_terms.specs.Scopes.{is_number_meaning, is_type_meaning, meaning_of, is_number_variable}
use Rattle.kind_declarations.specs.declared.error.Cause.{Cause}
use Rattle.kind_declarations.specs.declared.error.Cause.TheVariants.{Reserved, UnknownType, UnknownName, Arity}
use Rattle.kind_declarations.specs.declared.error.Cause.TheVariants.{KindMismatch, OutputUnderRef, NotLinear}
use Rattle.kind_declarations.specs.declared.error.Cause.TheVariants.{TwiceNamed, Undetermined, TooWide}
use Rattle.kind_declarations.specs.Faults.{causes, fault_at, faults}
use Rattle.kind_declarations.specs.Nodes.{Judged, a_use}
use Rattle.kind_rules.specs.ExpectedKinds.{Use, Expected, used_at, type_at, meaning_at, arguments, is_type_expected}
use Rattle.kind_rules.specs.ExpectedKinds.{as_type, type_in_class, meaning_by}
use Rattle.kind_rules.specs.Names.{is_unknown_type, is_unknown_name, is_other_arity, is_other_field_used, is_for_type}
use Rattle.kind_rules.specs.Names.{names_none, args_at, is_no_variable}
use Rattle.kind_rules.specs.Numbers.{is_product_of_variables, is_type_for_number, is_number_for_type, is_other_basic_arity}
use Rattle.kind_rules.specs.Numbers.{is_type_shaped, is_some_type}
use Rattle.kind_rules.specs.Known.{is_used_unknown, is_other_out, is_known_twice}
use Rattle.kind_rules.specs.Outputs.{is_output_under_ref, is_output_inside, is_no_output}
use Rattle.kind_rules.specs.Records.{is_misplaced_record}
use Rattle.kind_rules.specs.Widths.{is_too_wide}

-- ---- nodes

abbrev pub IsClean : List Judged → Type 0
IsClean js = faults js ≡ []

pub none_left : {X : Type 0} (xs ys : List X) → xs ++ ys ≡ [] → (xs ≡ []) × (ys ≡ [])
none_left [] ys h = (refl, h)
none_left (x ∷ xs) ys h = cc

none_both : {X : Type 0} (xs ys : List X) → xs ≡ [] → ys ≡ [] → xs ++ ys ≡ []
none_both xs ys h k = ap (λ zs. zs ++ ys) h ∙ k

pub none_mapped : {X Y : Type 0} (f : X → Y) (xs : List X) → map f xs ≡ [] → xs ≡ []
none_mapped f [] h = refl
none_mapped f (x ∷ xs) h = cc

pub clean_first : (j : Judged) (js : List Judged) → IsClean (j ∷ js) → (causes j.node ≡ []) × IsClean js
clean_first j js h =
    let both = none_left (map (fault_at j.path) (causes j.node)) (faults js) h in
    (none_mapped (fault_at j.path) (causes j.node) both.0, both.1)

pub clean_parts : (js ks : List Judged) → IsClean (js ++ ks) → IsClean js × IsClean ks
clean_parts [] ks h = (refl, h)
clean_parts (j ∷ js) ks h =
    let here = map (fault_at j.path) (causes j.node) in
    let both = none_left here (faults (js ++ ks)) h in
    let rest = clean_parts js ks both.1 in
    (none_both here (faults js) both.0 rest.0, rest.1)

-- ---- truths

pub and_left_false : (a b : Bool) → (a && b) ≡ false → b ≡ true → a ≡ false
and_left_false true b h is = sym is ∙ h
and_left_false false b h is = refl

pub and_right_false : (a b : Bool) → (a && b) ≡ false → a ≡ true → b ≡ false
and_right_false true b h is = h
and_right_false false b h is = cc

pub not_false : (b : Bool) → not b ≡ false → b ≡ true
not_false true h = refl
not_false false h = cc

-- ---- causes of one expression

-- no rule is broken by it
pub record IsCleanUse (u : Use) : Type 0 where
  pub unknown_type : is_unknown_type u ≡ false
  pub unknown_name : is_unknown_name u ≡ false
  pub arity : is_other_arity u ≡ false
  pub other_field : is_other_field_used u ≡ false
  pub type_for_number : is_type_for_number u ≡ false
  pub number_for_type : is_number_for_type u ≡ false
  pub basic_arity : is_other_basic_arity u ≡ false
  pub output_inside : is_output_inside u ≡ false
  pub no_output : is_no_output u ≡ false
  pub misplaced : is_misplaced_record u ≡ false
  pub under_ref : is_output_under_ref u ≡ false
  pub product : is_product_of_variables u ≡ false
  pub other_out : is_other_out u ≡ false
  pub known_twice : is_known_twice u ≡ false
  pub used_unknown : is_used_unknown u ≡ false
  pub too_wide : is_too_wide u ≡ false

not_here : (b : Bool) (c : Cause) (cs : List Cause) → cond b (c ∷ cs) cs ≡ [] → (b ≡ false) × (cs ≡ [])
not_here true c cs h = cc
not_here false c cs h = (refl, h)

pub clean_use : (u : Use) → causes (a_use u) ≡ [] → IsCleanUse u
clean_use u h =
    let a = not_here (is_unknown_type u) UnknownType _ h in
    let b = not_here (is_unknown_name u) UnknownName _ a.1 in
    let c = not_here (is_other_arity u) Arity _ b.1 in
    let d = not_here (is_other_field_used u || is_type_for_number u || is_number_for_type u || is_other_basic_arity u
    || is_output_inside u || is_no_output u || is_misplaced_record u) KindMismatch _ c.1 in
    let e = not_here (is_output_under_ref u) OutputUnderRef _ d.1 in
    let f = not_here (is_product_of_variables u || is_other_out u) NotLinear _ e.1 in
    let g = not_here (is_known_twice u) TwiceNamed _ f.1 in
    let k = not_here (is_used_unknown u) Undetermined _ g.1 in
    let l = not_here (is_too_wide u) TooWide _ k.1 in
    let m7 = or_parts _ (is_misplaced_record u) d.0 in
    let m6 = or_parts _ (is_no_output u) m7.0 in
    let m5 = or_parts _ (is_output_inside u) m6.0 in
    let m4 = or_parts _ (is_other_basic_arity u) m5.0 in
    let m3 = or_parts _ (is_number_for_type u) m4.0 in
    let m2 = or_parts (is_other_field_used u) (is_type_for_number u) m3.0 in
    let linear = or_parts (is_product_of_variables u) (is_other_out u) f.0 in
    record {
      unknown_type = a.0;
      unknown_name = b.0;
      arity = c.0;
      other_field = m2.0;
      type_for_number = m2.1;
      number_for_type = m3.1;
      basic_arity = m4.1;
      output_inside = m5.1;
      no_output = m6.1;
      misplaced = m7.1;
      under_ref = e.0;
      product = linear.0;
      other_out = linear.1;
      known_twice = g.0;
      used_unknown = k.0;
      too_wide = l.0;
    }

-- ---- a name where no type is expected

-- what is neither no type nor some type is none at all
pub no_such_type : (t : TypeNamed) → names_none (Some t) ≡ false → is_some_type (Some t) ≡ false → ⊥
no_such_type no_type none some = cc
no_such_type (basic ks) none some = cc
no_such_type (declared ks) none some = cc

meaning_is_number : (types : SchemaView) (x : Word) (m : Option Meaning)
    → names_none (type_in_class types x false (name_class m x false)) ≡ false
    → is_some_type (type_in_class types x false (name_class m x false)) ≡ false
    → is_type_meaning m ≡ false → is_no_variable m ≡ false → is_number_meaning m ≡ true
meaning_is_number types x None none some a b = absurd (no_such_type _ none some)
meaning_is_number types x (Some ImplicitNumber) none some a b = refl
meaning_is_number types x (Some FieldNumber) none some a b = refl
meaning_is_number types x (Some TypeVariable) none some a b = cc
meaning_is_number types x (Some OtherField) none some a b = cc

applied_is_none : (types : SchemaView) (x : Word) (m : Option Meaning)
    → names_none (type_in_class types x true (name_class m x true)) ≡ false
    → is_some_type (type_in_class types x true (name_class m x true)) ≡ false → ⊥
applied_is_none types x None none some = no_such_type _ none some
applied_is_none types x (Some m) none some = no_such_type _ none some

module _ (u : Use) (clean : IsCleanUse u) (other : is_type_expected u.expected ≡ false) where
  expected : not (is_type_expected u.expected) ≡ true
  expected = ap not other

  mismatch : (is_type_shaped u.at || is_some_type (type_at u) || is_type_meaning (meaning_at u)) ≡ false
  mismatch = and_right_false (not (is_type_expected u.expected)) _ clean.type_for_number expected

  pub no_type_shape : is_type_shaped u.at ≡ false
  no_type_shape = (or_parts (is_type_shaped u.at) (is_some_type (type_at u)) (or_parts _ _ mismatch).0).0

  no_type_at : is_some_type (type_at u) ≡ false
  no_type_at = (or_parts (is_type_shaped u.at) (is_some_type (type_at u)) (or_parts _ _ mismatch).0).1

  no_type_variable : is_type_meaning (meaning_at u) ≡ false
  no_type_variable = (or_parts _ _ mismatch).1

  -- it is a number variable
  pub name_is_number : (x : Word) → used_at u ≡ named x no_exprs → is_number_variable u.scope x ≡ true
  name_is_number x used =
      let s = u.scope in
      let alone : not (is_for_type u.expected (args_at u)) ≡ true =
      ap (λ e. not (is_for_type u.expected (count (arguments e)))) used ∙ ap (λ b. not (b || false)) other in
      let none : names_none (type_at u) ≡ false = and_left_false (names_none (type_at u)) _ clean.unknown_name alone in
      meaning_is_number s.types x (meaning_of s x)
      (sym (ap (λ e. names_none (as_type s e)) used) ∙ none)
      (sym (ap (λ e. is_some_type (as_type s e)) used) ∙ no_type_at)
      (sym (ap (λ e. is_type_meaning (meaning_by s (bare_name e))) used) ∙ no_type_variable)
      (sym (ap (λ e. is_no_variable (meaning_by s (bare_name e))) used) ∙ clean.other_field)

  -- and has no arguments
  pub name_is_alone : (x : Word) (e : ExprView) (es : ExprList) → used_at u ≡ named x (an_expr e es) → ⊥
  name_is_alone x e es used =
      let s = u.scope in
      let more : nat_lt 0 (suc (count es)) ≡ true = lt-ltb 0 (suc (count es)) (omega arith) in
      let with_arguments : is_for_type u.expected (args_at u) ≡ true =
      ap (λ v. is_for_type u.expected (count (arguments v))) used
      ∙ ap (λ b. b || nat_lt 0 (suc (count es))) other ∙ more in
      let none : names_none (type_at u) ≡ false = and_left_false (names_none (type_at u)) _ clean.unknown_type with_arguments in
      applied_is_none s.types x (meaning_of s x)
      (sym (ap (λ v. names_none (as_type s v)) used) ∙ none)
      (sym (ap (λ v. is_some_type (as_type s v)) used) ∙ no_type_at)
