-- Types, items and records without a fault.
use Rattle.std.proofs.Common.{◌≡◌, ◌⊎◌, inl, inr, ap, sym, ◌∙◌, refl, ℕ, suc, List, [], ◌∷◌, ◌++◌, map, length, Bool, true, false}
use Rattle.std.proofs.Common.{not, subst, ◌&&◌, ◌||◌, cond, arith}
use Rattle.std.specs.Prelude.{◌==◌}
use Rattle.std.proofs.lemmas.List.{append-nil}
use Rattle.std.specs.Prelude.{Option, Some, None, is_some, bytes_eq}
use Rattle.std.specs.List.{list_any}
use Rattle.std.proofs.lemmas.Bool.{or_parts, false≢true, eqb-true}
use Rattle.tlb_syntax.specs.Tree.{ExprView, ExprList, ItemView, ItemList, TypeView, ConstructorView, SchemaView, lit, named}
use Rattle.tlb_syntax.specs.Tree.{nat32, bits, below, up_to, plus, star, out, ref, group, no_exprs, an_expr, plain, when}
use Rattle.tlb_syntax.specs.Tree.{when_bit, implicit, check, explicit, no_items, an_item}
use Rattle.kind_terms.specs.Words.{Word, is_among}
use Rattle.kind_terms.specs.declared.kind.TermKind.{TermKind}
use Rattle.kind_terms.specs.declared.kind.TermKind.TheVariants.{NumberIn, TypeIn, NumberOut, NoKind}
use Rattle.kind_terms.specs.declared.scope.Meaning.{Meaning}
use Rattle.kind_terms.specs.declared.scope.Meaning.TheVariants.{ImplicitNumber, FieldNumber, TypeVariable, OtherField}
use Rattle.kind_terms.specs.Classes.{name_class, word_class}
use Rattle.kind_terms.specs.Params.{bare_name, greatest, has_outputs}
use Rattle.kind_terms.specs.Types.{TypeNamed, no_type, basic, declared, count, has_exprs, parameters, type_named, type_of_class}
use Rattle.kind_terms.specs.Forms.{out_name}
use Rattle.kind_terms.specs.Sought.{sought}
use Rattle.kind_terms.specs.Scopes.{Scope, given_out, in_scope, is_known, is_number_meaning, is_type_variable, is_type_meaning}
use Rattle.kind_terms.specs.Scopes.{meaning_of}
use Rattle.field_path.specs.declared.part.Part.{Part}
use Rattle.kind_declarations.specs.declared.error.Cause.TheVariants.{TwiceNamed}
use Rattle.kind_rules.specs.Names.{Field, is_field_twice}
use Rattle.kind_rules.specs.declared.expected.TypePosition.{TypePosition}
use Rattle.kind_rules.specs.declared.expected.TypePosition.TheVariants.{Whole, Conditional, FieldRef, UnderRef, Inner}
use Rattle.kind_rules.specs.ExpectedKinds.{Use, Expected, a_number, an_output, a_type, as_type, type_at, type_in_class, under}
use Rattle.kind_rules.specs.ExpectedKinds.{class_at, used_at}
use Rattle.kind_rules.specs.Names.{is_no_variable, names_none, takes_others}
use Rattle.kind_rules.specs.Numbers.{takes_other_basic}
use Rattle.kind_rules.specs.Outputs.{gives_outputs, is_at_position, is_conditional_or_part, is_under_ref}
use Rattle.kind_rules.specs.Records.{takes_no_record}
use Rattle.kind_declarations.specs.Nodes.{Judged, a_field, judged}
use Rattle.kind_declarations.specs.Nodes.{ItemContext, RecordContext, arg_nodes, at, expr_nodes, first_inside, item_nodes}
use Rattle.kind_declarations.specs.Nodes.{name_at, next, record_nodes, type_nodes, use_at, only_types}
use Rattle.kinded_schema.specs.Kinded.{AreItems, FitParameters, IsFieldType, IsItem, IsKnownType, IsNew, IsNumber, IsOneNumber}
use Rattle.kinded_schema.specs.Kinded.{IsOutput, IsTypeAt, IsTypeName, MayGive}
use Rattle.kinded_schema.specs.CleanLaws.{IsClean, IsCleanUse, and_left_false, and_right_false, clean_first, clean_parts, not_false}
use Rattle.kinded_schema.specs.CoverLaws.{Covers, covers_inside, covers_next, covers_with, is_new}
use Rattle.kinded_schema.specs.NumberLaws.{bare_name_is, clean_after, clean_at, number_clean, out_is_unknown, use_of}

-- ---- outputs

used_out : (e : ExprView) (x : Word) → bare_name e ≡ Some x → cond (is_some (bare_name e)) e (out e) ≡ named x no_exprs
used_out e x is = ap (λ o. cond (is_some o) e (out e)) is ∙ bare_name_is e x is

no_output_there : (a : ItemContext) (before : List Word) (e : ExprView) → IsCleanUse (use_of a (an_output before) e)
    → out_name e ≡ None → ⊥
no_output_there a before e clean is = false≢true (sym clean.no_output ∙ ap (λ o. not (is_some o)) is)

output_by : (a : ItemContext) (before : List Word) (e : ExprView) (found : Option Word) → bare_name e ≡ found
    → IsCleanUse (use_of a (an_output before) (out e)) → is_some found ≡ true → IsOutput a.scope before found
output_by a before e None is clean some = cc
output_by a before e (Some x) is clean some = out_is_unknown a (an_output before) e x clean refl (used_out e x is) is

pub output_clean : (e : ExprView) (a : ItemContext) (before : List Word)
    → IsClean (expr_nodes e a (Some (an_output before))) → IsOutput a.scope before (out_name e)
output_clean (out e) a before h =
    let clean = clean_at (out e) a (an_output before) h in
    output_by a before e (bare_name e) refl clean (not_false (is_some (bare_name e)) clean.no_output)
output_clean (lit n) a before h = absurd (no_output_there a before (lit n) (clean_at (lit n) a (an_output before) h) refl)
output_clean nat32 a before h = absurd (no_output_there a before nat32 (clean_at nat32 a (an_output before) h) refl)
output_clean (named x es) a before h = absurd (no_output_there a before (named x es) (clean_at (named x es) a (an_output before) h) refl)
output_clean (bits es) a before h = absurd (no_output_there a before (bits es) (clean_at (bits es) a (an_output before) h) refl)
output_clean (below es) a before h = absurd (no_output_there a before (below es) (clean_at (below es) a (an_output before) h) refl)
output_clean (up_to es) a before h = absurd (no_output_there a before (up_to es) (clean_at (up_to es) a (an_output before) h) refl)
output_clean (plus x y) a before h = absurd (no_output_there a before (plus x y) (clean_at (plus x y) a (an_output before) h) refl)
output_clean (star x y) a before h = absurd (no_output_there a before (star x y) (clean_at (star x y) a (an_output before) h) refl)
output_clean (ref e) a before h = absurd (no_output_there a before (ref e) (clean_at (ref e) a (an_output before) h) refl)
output_clean (group is) a before h = absurd (no_output_there a before (group is) (clean_at (group is) a (an_output before) h) refl)

-- ---- a name where a type is expected

may_give : (w : TypePosition) (ks : List TermKind) → (is_under_ref w && has_outputs ks) ≡ false
    → (is_conditional_or_part w && has_outputs ks) ≡ false → MayGive ks w
may_give Whole ks under inside is = refl
may_give Conditional ks under inside is = absurd (false≢true (sym inside ∙ is))
may_give FieldRef ks under inside is = absurd (false≢true (sym under ∙ is))
may_give UnderRef ks under inside is = absurd (false≢true (sym under ∙ is))
may_give Inner ks under inside is = absurd (false≢true (sym inside ∙ is))

same_count : (n m : ℕ) → not (n == m) ≡ false → m ≡ n
same_count n m h = sym (eqb-true n m (not_false (n == m) h))

-- a type whose arguments are as many as its parameters, and fit them then
fits : (s : Scope) (w : TypePosition) (x : Word) (n : ℕ) (fit : List TermKind → Type 0) (t : TypeNamed)
    → names_none (Some t) ≡ false → takes_others (Some t) n ≡ false → takes_other_basic (Some t) n ≡ false
    → (is_under_ref w && gives_outputs (Some t)) ≡ false → (is_conditional_or_part w && gives_outputs (Some t)) ≡ false
    → (n ≡ length (parameters t) → fit (parameters t)) → IsTypeName s w x fit (Some t)
fits s w x n fit no_type none arity basics under inside args = cc
fits s w x n fit (basic ks) none arity basics under inside args = args (same_count (length ks) n basics)
fits s w x n fit (declared ks) none arity basics under inside args =
    (args (same_count (length ks) n arity), may_give w ks under inside)

parameters_named : (types : SchemaView) (x : Word) (b : Bool)
    → parameters (type_named types x b) ≡ parameters (type_of_class types x b (word_class x))
unfolding type_named
parameters_named types x b = refl

-- a name without arguments, which is a variable or a type
alone : (a : ItemContext) (w : TypePosition) (x : Word) (fit : List TermKind → Type 0) (m : Option Meaning)
    → meaning_of a.scope x ≡ m → IsCleanUse (use_of a (a_type w) (named x no_exprs))
    → (0 ≡ length (parameters (type_named a.scope.types x false)) → fit (parameters (type_named a.scope.types x false)))
    → names_none (type_in_class a.scope.types x false (name_class m x false)) ≡ false
    → takes_others (type_in_class a.scope.types x false (name_class m x false)) 0 ≡ false
    → takes_other_basic (type_in_class a.scope.types x false (name_class m x false)) 0 ≡ false
    → (is_under_ref w && gives_outputs (type_in_class a.scope.types x false (name_class m x false))) ≡ false
    → (is_conditional_or_part w && gives_outputs (type_in_class a.scope.types x false (name_class m x false))) ≡ false
    → IsTypeName a.scope w x fit (type_in_class a.scope.types x false (name_class m x false))
alone a w x fit None is clean args none arity basics under inside =
    let same = parameters_named a.scope.types x false in
    let Fit : List TermKind → Type 0 = λ ks. 0 ≡ length ks → fit ks in
    fits a.scope w x 0 fit (type_of_class a.scope.types x false (word_class x)) none arity basics under inside
    (subst Fit same args)
alone a w x fit (Some TypeVariable) is clean args none arity basics under inside =
    let variable : is_type_variable a.scope x ≡ true = ap is_type_meaning is in
    record {
      variable = variable;
      known = not_false (is_known a.scope x) (and_right_false (is_type_variable a.scope x) _ clean.used_unknown variable);
    }
alone a w x fit (Some ImplicitNumber) is clean args none arity basics under inside =
    absurd (false≢true (sym clean.number_for_type ∙ ap is_number_meaning is))
alone a w x fit (Some FieldNumber) is clean args none arity basics under inside =
    absurd (false≢true (sym clean.number_for_type ∙ ap is_number_meaning is))
alone a w x fit (Some OtherField) is clean args none arity basics under inside =
    absurd (false≢true (sym clean.other_field ∙ ap is_no_variable is))

-- a name with arguments, which is a type
applied : (a : ItemContext) (w : TypePosition) (x : Word) (n : ℕ) (fit : List TermKind → Type 0) (m : Option Meaning)
    → (n ≡ length (parameters (type_named a.scope.types x true)) → fit (parameters (type_named a.scope.types x true)))
    → names_none (type_in_class a.scope.types x true (name_class m x true)) ≡ false
    → takes_others (type_in_class a.scope.types x true (name_class m x true)) n ≡ false
    → takes_other_basic (type_in_class a.scope.types x true (name_class m x true)) n ≡ false
    → (is_under_ref w && gives_outputs (type_in_class a.scope.types x true (name_class m x true))) ≡ false
    → (is_conditional_or_part w && gives_outputs (type_in_class a.scope.types x true (name_class m x true))) ≡ false
    → IsTypeName a.scope w x fit (type_in_class a.scope.types x true (name_class m x true))
applied a w x n fit None args none arity basics under inside =
    let Fit : List TermKind → Type 0 = λ ks. n ≡ length ks → fit ks in
    fits a.scope w x n fit (type_of_class a.scope.types x true (word_class x)) none arity basics under inside
    (subst Fit (parameters_named a.scope.types x true) args)
applied a w x n fit (Some m) args none arity basics under inside =
    let Fit : List TermKind → Type 0 = λ ks. n ≡ length ks → fit ks in
    fits a.scope w x n fit (type_of_class a.scope.types x true (word_class x)) none arity basics under inside
    (subst Fit (parameters_named a.scope.types x true) args)

-- ---- one number

one_number : (es : ExprList) (a : ItemContext) (n : ℕ) → not (count es == 1) ≡ false
    → IsClean (arg_nodes es a (NumberIn n ∷ []) []) → IsOneNumber es a.scope
one_number no_exprs a n one h = cc
one_number (an_expr e no_exprs) a n one h = number_clean e a n None (clean_parts (expr_nodes e a (Some (a_number n None))) [] h).0
one_number (an_expr e (an_expr f fs)) a n one h =
    let two : suc (suc (count fs)) ≡ 1 = eqb-true (suc (suc (count fs))) 1 (not_false (suc (suc (count fs)) == 1) one) in
    absurd (omega (arith, two))

-- ---- types, items and records

one_less : {m n : ℕ} → suc m ≡ suc n → m ≡ n
one_less h = omega (arith, h)

field_cause : (b : Bool) → cond b (TwiceNamed ∷ []) [] ≡ [] → b ≡ false
field_cause true h = cc
field_cause false h = refl

-- the name of an item is new
name_clean : (h : RecordContext) (path : List Part) (x : Word) (js : List Judged) → Covers h.fields h.scope
    → IsClean (name_at path (h.fields ++ h.inner) (Some x) ++ js) → (in_scope h.scope x ≡ false) × IsClean js
name_clean h path x js covers clean =
    let f : Field = record { name = x; others = h.fields ++ h.inner } in
    let both = clean_first (judged path (a_field f)) js clean in
    (is_new h.fields h.inner h.scope x covers (field_cause (is_field_twice f) both.0), both.1)

mutual
  pub type_clean : (e : ExprView) (a : ItemContext) (w : TypePosition) → Covers a.fields a.scope
      → IsClean (expr_nodes e a (Some (a_type w))) → IsTypeAt e a.scope w
  type_clean (lit n) a w covers h = absurd (false≢true (sym (clean_at (lit n) a (a_type w) h).number_for_type))
  type_clean (named x no_exprs) a w covers h =
      let v = named x no_exprs in
      let clean = clean_at v a (a_type w) h in
      alone a w x (λ ks. FitParameters no_exprs a.scope ks []) (meaning_of a.scope x) refl clean
      (λ same. args_clean no_exprs a (parameters (type_named a.scope.types x false)) [] covers same (clean_after v a (a_type w) h))
      (and_left_false (names_none (as_type a.scope v)) true clean.unknown_type refl)
      clean.arity clean.basic_arity clean.under_ref clean.output_inside
  type_clean (named x (an_expr e es)) a w covers h =
      let v = named x (an_expr e es) in
      let clean = clean_at v a (a_type w) h in
      applied a w x (count (an_expr e es)) (λ ks. FitParameters (an_expr e es) a.scope ks []) (meaning_of a.scope x)
      (λ same. args_clean (an_expr e es) a (parameters (type_named a.scope.types x true)) [] covers same
      (clean_after v a (a_type w) h))
      (and_left_false (names_none (as_type a.scope v)) true clean.unknown_type refl)
      clean.arity clean.basic_arity clean.under_ref clean.output_inside
  type_clean nat32 a w covers h = tt
  type_clean (bits es) a w covers h =
      one_number es a 32 (clean_at (bits es) a (a_type w) h).basic_arity (clean_after (bits es) a (a_type w) h)
  type_clean (below es) a w covers h =
      one_number es a greatest (clean_at (below es) a (a_type w) h).basic_arity (clean_after (below es) a (a_type w) h)
  type_clean (up_to es) a w covers h =
      one_number es a greatest (clean_at (up_to es) a (a_type w) h).basic_arity (clean_after (up_to es) a (a_type w) h)
  type_clean (plus x y) a w covers h = absurd (false≢true (sym (clean_at (plus x y) a (a_type w) h).number_for_type))
  type_clean (star x y) a w covers h =
      let both = clean_parts (expr_nodes x a (Some (a_number greatest None))) (expr_nodes y a (Some (a_type Inner)))
      (clean_after (star x y) a (a_type w) h) in
      (number_clean x a greatest None both.0, type_clean y a Inner covers both.1)
  type_clean (out e) a w covers h = absurd (false≢true (sym (clean_at (out e) a (a_type w) h).number_for_type))
  type_clean (ref e) a w covers h = type_clean e a (under w) covers (clean_after (ref e) a (a_type w) h)
  type_clean (group is) a w covers h = (
    (clean_at (group is) a (a_type w) h).misplaced,
    items_clean is (first_inside a) (covers_inside a.fields a.scope covers) (clean_after (group is) a (a_type w) h),
  )

  pub args_clean : (es : ExprList) (a : ItemContext) (ks : List TermKind) (before : List Word) → Covers a.fields a.scope
      → count es ≡ length ks → IsClean (arg_nodes es a ks before) → FitParameters es a.scope ks before
  args_clean no_exprs a [] before covers same h = tt
  args_clean no_exprs a (k ∷ ks) before covers same h = absurd (omega (arith, same))
  args_clean (an_expr e es) a [] before covers same h = absurd (omega (arith, same))
  args_clean (an_expr e es) a (NumberIn n ∷ ks) before covers same h =
      let parts = clean_parts (expr_nodes e a (Some (a_number n None))) (arg_nodes es a ks (before ++ [])) h in
      let P : List Word → Type 0 = λ b. FitParameters es a.scope ks b in (
        number_clean e a n None parts.0,
        subst P (append-nil before) (args_clean es a ks (before ++ []) covers (one_less same) parts.1),
      )
  args_clean (an_expr e es) a (TypeIn ∷ ks) before covers same h =
      let parts = clean_parts (expr_nodes e a (Some (a_type Inner))) (arg_nodes es a ks (before ++ [])) h in
      let P : List Word → Type 0 = λ b. FitParameters es a.scope ks b in (
        type_clean e a Inner covers parts.0,
        subst P (append-nil before) (args_clean es a ks (before ++ []) covers (one_less same) parts.1),
      )
  args_clean (an_expr e es) a (NumberOut ∷ ks) before covers same h =
      let next = before ++ given_out NumberOut e in
      let parts = clean_parts (expr_nodes e a (Some (an_output before))) (arg_nodes es a ks next) h in
      (output_clean e a before parts.0, args_clean es a ks next covers (one_less same) parts.1)
  args_clean (an_expr e es) a (NoKind ∷ ks) before covers same h =
      let parts = clean_parts (expr_nodes e a None) (arg_nodes es a ks (before ++ [])) h in
      let P : List Word → Type 0 = λ b. FitParameters es a.scope ks b in
      subst P (append-nil before) (args_clean es a ks (before ++ []) covers (one_less same) parts.1)

  pub field_clean : (t : TypeView) (a : ItemContext) → Covers a.fields a.scope → IsClean (type_nodes t a)
      → IsFieldType t a.scope
  field_clean (plain e) a covers h = type_clean e a Whole covers h
  field_clean (when c e) a covers h =
      let parts = clean_parts (expr_nodes c a (Some (a_number greatest None))) (expr_nodes e a (Some (a_type Conditional))) h in
      (number_clean c a greatest None parts.0, type_clean e a Conditional covers parts.1)
  field_clean (when_bit c k e) a covers h =
      let parts = clean_parts (expr_nodes c a (Some (a_number greatest None))) (expr_nodes e a (Some (a_type Conditional))) h in
      (number_clean c a greatest None parts.0, type_clean e a Conditional covers parts.1)

  pub item_clean : (i : ItemView) (h : RecordContext) → Covers h.fields h.scope
      → IsClean (item_nodes i (at h i) (h.fields ++ h.inner)) → IsItem i h.scope
  item_clean (implicit x k) h covers clean = (name_clean h (at h (implicit x k)).path x [] covers clean).0
  item_clean (check x op y) h covers clean =
      let q = sought x op y in
      let a = at h (check x op y) in
      let parts = clean_parts (expr_nodes x a (Some (a_number greatest q))) (expr_nodes y a (Some (a_number greatest q))) clean in
      (number_clean x a greatest q parts.0, number_clean y a greatest q parts.1)
  item_clean (explicit None t) h covers clean =
      (tt, field_clean t (at h (explicit None t)) (covers_with h.fields [] h.scope covers) clean)
  item_clean (explicit (Some x) t) h covers clean =
      let a = at h (explicit (Some x) t) in
      let both = name_clean h a.path x (type_nodes t a) covers clean in
      (both.0, field_clean t a (covers_with h.fields (x ∷ []) h.scope covers) both.1)

  pub items_clean : (is : ItemList) (h : RecordContext) → Covers h.fields h.scope → IsClean (record_nodes is h)
      → AreItems is h.scope
  items_clean no_items h covers clean = tt
  items_clean (an_item i is) h covers clean =
      let parts = clean_parts (item_nodes i (at h i) (h.fields ++ h.inner)) (record_nodes is (next h i)) clean in
      (item_clean i h covers parts.0, items_clean is (next h i) (covers_next h.fields h.scope i covers) parts.1)
