-- Types of which no cause holds: their names are types, and their variables are in scope and set.
use Rattle.std.proofs.Common.{◌≡◌, ℕ, suc, List, [], ◌∷◌, ◌++◌, Option, Some, None, Bool, true, false, not, ◌&&◌}
use Rattle.std.proofs.Common.{◌||◌, ◌==◌}
use Rattle.std.proofs.Common.{refl, sym, ap, ◌∙◌, subst, arith}
use Rattle.std.specs.Prelude.{nat_lt, nat_eq, bytes_eq}
use Rattle.std.proofs.lemmas.Bool.{or_parts, eqb-true, eq-eqb}
use Rattle.std.proofs.lemmas.List.Folds.{list_any-append}
use Rattle.std.proofs.lemmas.Slice.Eq.{bytes_eq-Decides}
use Rattle.nat_solver.specs.Number.{Expr}
use Rattle.nat_solver.specs.Number as num
use Rattle.tlb_syntax.specs.Tree.{ExprView, ExprList, SchemaView, lit, named, nat32, bits, below, up_to, plus}
use Rattle.tlb_syntax.specs.Tree.{star, out, ref, group, no_exprs, an_expr}
use Rattle.kind_rules.specs.declared.expected.TypePosition.{TypePosition}
use Rattle.kind_rules.specs.declared.expected.TypePosition.TheVariants.{Whole, Conditional, FieldRef, UnderRef, Inner}
use Rattle.kind_terms.specs.declared.kind.TermKind.{TermKind}
use Rattle.kind_terms.specs.declared.kind.TermKind.TheVariants.{NumberIn, TypeIn, NumberOut, NoKind}
use Rattle.kind_terms.specs.declared.scope.Meaning.{Meaning}
use Rattle.kind_terms.specs.declared.scope.Meaning.TheVariants.{ImplicitNumber, FieldNumber, TypeVariable, OtherField}
use Rattle.kind_terms.specs.declared.words.Family.{Family}
use Rattle.kind_terms.specs.declared.words.Family.TheVariants.{Uint, Int, Bits}
use Rattle.kind_terms.specs.declared.words.WordClass.{WordClass}
use Rattle.kind_terms.specs.declared.words.WordClass.TheVariants.{TypeWord, Any, Cell, Sized, Numbered, Hashmap}
use Rattle.kind_terms.specs.declared.words.WordClass.TheVariants.{HashmapE, HashmapNode, Free}
use Rattle.kind_terms.specs.Words.{Word, is_among, width_in, widest}
use Rattle.kind_terms.specs.Classes.{word_class, name_class}
use Rattle.kind_terms.specs.Dictionaries.{of_type}
use Rattle.kind_terms.specs.Params.{greatest, kinds, option_list}
use Rattle.kind_terms.specs.Forms.{out_name}
use Rattle.kind_terms.specs.Scopes.{Scope, meaning_of, is_known, is_number_meaning, is_type_meaning, all_given_out}
use Rattle.kind_terms.specs.Scopes.{outputs_of}
use Rattle.kind_terms.specs.Types.{count, type_of_class, type_named, parameters, declared_as}
use Rattle.kind_rules.specs.ExpectedKinds.{a_number, an_output, a_type, type_in_class, under}
use Rattle.kind_rules.specs.Names.{names_none, is_no_variable, takes_others}
use Rattle.kind_rules.specs.Numbers.{takes_other_basic}
use Rattle.kind_rules.specs.Records.{takes_no_record}
use Rattle.kind_declarations.specs.Nodes.{ItemContext, expr_nodes, arg_nodes}
use Rattle.core_form.specs.Core.{Ty, Args, outs, type_outs}
use Rattle.core_form.specs.Core as core
use Rattle.core_form.specs.Determined.{Known, is_in, is_valued, is_set_type, are_set_args}
use Rattle.schema_core.specs.Names.{Names, Variable, other, meaning, number_called, number_slot, type_called, type_by}
use Rattle.schema_core.specs.Names.{declared_by}
use Rattle.schema_core.specs.Names.{declared_kinds, width_or_0}
use Rattle.schema_core.specs.Names as slots
use Rattle.schema_core.specs.Numbers.{number_of, first_number, no_number, named_number}
use Rattle.schema_core.specs.CoreOf.{of_family, applied, alone, no_meaning, onto_out, type_of, first_type, args_of}
use Rattle.schema_core.specs.Same.{IsSameMeaning}
use Rattle.schema_core.specs.SameLaws.{meanings_agree}
use Rattle.kinded_core.specs.Clean.{AreClean, Agrees}
use Rattle.kinded_core.specs.CleanLaws.{CleanUse, clean_use, clean_both}
use Rattle.kinded_core.specs.NumberLaws.{use_of, variable_meaning, number_variable, number_set, both_true, or_true}
use Rattle.std.proofs.Math.Bool.{or-false}

-- ---- counts of arguments

not_equal : (m n : ℕ) → not (m == n) ≡ false → m ≡ n
not_equal m n h = cases (m == n) refl h
  where
    cases : (b : Bool) → (m == n) ≡ b → not b ≡ false → m ≡ n
    cases true is h = eqb-true m n is
    cases false is h = cc

none_of_count : (es : ExprList) → count es ≡ 0 → es ≡ no_exprs
none_of_count no_exprs h = refl
none_of_count (an_expr e es) h = absurd (omega (arith, h))

-- ---- names without arguments

family_set : (k : Known) (f : Family) (e : Expr) → is_valued k e ≡ true → is_set_type k (of_family f e) ≡ true
family_set k Uint e h = h
family_set k Int e h = h
family_set k Bits e h = h

class_alone : (types : SchemaView) (x : Word) (k : Known) (w : WordClass)
    → (names_none (Some (type_of_class types x false w)) && (true || nat_lt 0 0)) ≡ false
    → takes_others (Some (type_of_class types x false w)) 0 ≡ false
    → takes_other_basic (Some (type_of_class types x false w)) 0 ≡ false
    → is_set_type k (applied (type_by types x w) x no_number no_meaning core.no_args) ≡ true
class_alone types x k TypeWord u o b = cc
class_alone types x k Any u o b = refl
class_alone types x k Cell u o b = refl
class_alone types x k (Sized f) u o b = cc
class_alone types x k (Numbered f) u o b = family_set k f (num.lit (width_or_0 (width_in f x))) refl
class_alone types x k Hashmap u o b = cc
class_alone types x k HashmapE u o b = cc
class_alone types x k HashmapNode u o b = cc
class_alone types x k Free u o b = cases (of_type types x) refl u
  where
    cases : (s : SchemaView) → of_type types x ≡ s
        → (names_none (Some (type_of_class types x false Free)) && (true || nat_lt 0 0)) ≡ false
        → is_set_type k (applied (declared_by (of_type types x)) x no_number no_meaning core.no_args) ≡ true
    cases [] is u =
        let b : true ≡ false = sym (ap (λ s. names_none (Some (declared_as s)) && (true || nat_lt 0 0)) is) ∙ u in cc
    cases (c ∷ cs) is u = ap (λ s. is_set_type k (applied (declared_by s) x no_number no_meaning core.no_args)) is

pub alone_set : (s : Scope) (names : Names) (k : Known) → Agrees s names k → (w : TypePosition) (x : Word)
    → CleanUse (use_of s (a_type w) (named x no_exprs))
    → is_set_type k (type_of s.types names (named x no_exprs)) ≡ true
alone_set s names k g w x c =
    cases (meaning_of s x) (meaning names x) (meanings_agree (s.around ++ s.own) names x g.same) refl
    c.unknown_type c.arity c.basic_arity c.number_for_type c.other_field c.unknown
  where
    known : (b : Bool) → (true && not b) ≡ false → b ≡ true
    known true h = refl
    known false h = cc

    cases : (m : Option Meaning) (o : Option Variable) → IsSameMeaning m o → meaning names x ≡ o
        → (names_none (type_in_class s.types x false (name_class m x false)) && (true || nat_lt 0 0)) ≡ false
        → takes_others (type_in_class s.types x false (name_class m x false)) 0 ≡ false
        → takes_other_basic (type_in_class s.types x false (name_class m x false)) 0 ≡ false
        → (true && (false || is_number_meaning m)) ≡ false → is_no_variable m ≡ false
        → (is_type_meaning m && not (is_known s x)) ≡ false
        → is_set_type k (alone o (applied (type_called s.types x) x no_number no_meaning core.no_args)) ≡ true
    cases None None i is u a b n o h = class_alone s.types x k (word_class x) u a b
    cases None (Some v) i is u a b n o h = absurd i
    cases (Some m) None i is u a b n o h = absurd i
    cases (Some ImplicitNumber) (Some v) i is u a b n o h = cc
    cases (Some FieldNumber) (Some v) i is u a b n o h = cc
    cases (Some OtherField) (Some v) i is u a b n o h = cc
    cases (Some TypeVariable) (Some (slots.a_number v)) i is u a b n o h = absurd i
    cases (Some TypeVariable) (Some other) i is u a b n o h = absurd i
    cases (Some TypeVariable) (Some (slots.a_type v)) i is u a b n o h = g.types x v (known (is_known s x) h) is

-- ---- names with arguments

-- what is to be shown of the arguments of a name
pub record ArgsSet (types : SchemaView) (a : ItemContext) (names : Names) (k : Known) (e : ExprView)
    (es : ExprList) : Type 0 where
  pub first : (most : ℕ) → AreClean (expr_nodes e a (Some (a_number most None)))
      → is_valued k (number_of names e) ≡ true
  pub second : (before : List Word) → count es ≡ 1 → AreClean (arg_nodes es a (TypeIn ∷ []) before)
      → is_set_type k (first_type types names es) ≡ true
  pub all : (ks : List TermKind) (before : List Word) → AreClean (arg_nodes (an_expr e es) a ks before)
      → are_set_args k (args_of types names ks (an_expr e es)) ≡ true

class_applied : (types : SchemaView) (a : ItemContext) (names : Names) (k : Known) (x : Word) (e : ExprView)
    (es : ExprList)
    → ArgsSet types a names k e es → (w : WordClass)
    → (names_none (Some (type_of_class types x true w)) && (true || nat_lt 0 (count (an_expr e es)))) ≡ false
    → takes_others (Some (type_of_class types x true w)) (count (an_expr e es)) ≡ false
    → takes_other_basic (Some (type_of_class types x true w)) (count (an_expr e es)) ≡ false
    → AreClean (arg_nodes (an_expr e es) a (parameters (type_of_class types x true w)) [])
    → is_set_type k (applied (type_by types x w) x (number_of names e) (first_type types names es)
    (args_of types names (declared_kinds (type_by types x w)) (an_expr e es))) ≡ true
class_applied types a names k x e es r TypeWord u o b h =
    let n : 0 ≡ suc (count es) = not_equal 0 (suc (count es)) b in absurd (omega (arith, n))
class_applied types a names k x e es r Any u o b h = refl
class_applied types a names k x e es r Cell u o b h = refl
class_applied types a names k x e es r (Sized f) u o b h =
    let p = clean_both (expr_nodes e a (Some (a_number (widest f) None))) _ h in
    family_set k f (number_of names e) (r.first (widest f) p.0)
class_applied types a names k x e es r (Numbered f) u o b h = family_set k f (num.lit (width_or_0 (width_in f x))) refl
class_applied types a names k x e es r Hashmap u o b h =
    let p = clean_both (expr_nodes e a (Some (a_number 1023 None))) _ h in
    let n : 2 ≡ suc (count es) = not_equal 2 (suc (count es)) o in
    both_true _ _ (r.first 1023 p.0) (r.second _ (omega (arith, n)) p.1)
class_applied types a names k x e es r HashmapE u o b h =
    let p = clean_both (expr_nodes e a (Some (a_number 1023 None))) _ h in
    let n : 2 ≡ suc (count es) = not_equal 2 (suc (count es)) o in
    both_true _ _ (r.first 1023 p.0) (r.second _ (omega (arith, n)) p.1)
class_applied types a names k x e es r HashmapNode u o b h = cc
class_applied types a names k x e es r Free u o b h = cases (of_type types x) refl u h
  where
    cases : (s : SchemaView) → of_type types x ≡ s
        → (names_none (Some (declared_as (of_type types x))) && (true || nat_lt 0 (count (an_expr e es)))) ≡ false
        → AreClean (arg_nodes (an_expr e es) a (parameters (declared_as (of_type types x))) [])
        → is_set_type k (applied (declared_by (of_type types x)) x (number_of names e) (first_type types names es)
        (args_of types names (declared_kinds (declared_by (of_type types x))) (an_expr e es))) ≡ true
    cases [] is u h =
        let b : true ≡ false = sym (ap (λ s. names_none (Some (declared_as s)) &&
        (true || nat_lt 0 (count (an_expr e es)))) is) ∙ u in cc
    cases (c ∷ cs) is u h =
        let P : SchemaView → Type 0 = λ s. AreClean (arg_nodes (an_expr e es) a (parameters (declared_as s)) []) in
        ap (λ s. is_set_type k (applied (declared_by s) x (number_of names e) (first_type types names es)
        (args_of types names (declared_kinds (declared_by s)) (an_expr e es)))) is
        ∙ r.all (kinds c) [] (subst P is h)

pub applied_set : (a : ItemContext) (names : Names) (k : Known) (w : TypePosition) (x : Word) (e : ExprView)
    (es : ExprList)
    → ArgsSet a.scope.types a names k e es → CleanUse (use_of a.scope (a_type w) (named x (an_expr e es)))
    → AreClean (arg_nodes (an_expr e es) a (parameters (type_named a.scope.types x true)) [])
    → is_set_type k (type_of a.scope.types names (named x (an_expr e es))) ≡ true
unfolding type_named
applied_set a names k w x e es r c h = cases (meaning_of a.scope x) c.unknown_type c.arity c.basic_arity
  where
    cases : (m : Option Meaning)
        → (names_none (type_in_class a.scope.types x true (name_class m x true)) &&
        (true || nat_lt 0 (count (an_expr e es)))) ≡ false
        → takes_others (type_in_class a.scope.types x true (name_class m x true)) (count (an_expr e es)) ≡ false
        → takes_other_basic (type_in_class a.scope.types x true (name_class m x true)) (count (an_expr e es)) ≡ false
        → is_set_type k (type_of a.scope.types names (named x (an_expr e es))) ≡ true
    cases None u o b = class_applied a.scope.types a names k x e es r (word_class x) u o b h
    cases (Some m) u o b = class_applied a.scope.types a names k x e es r (word_class x) u o b h

-- ---- basic types

basic_set : (a : ItemContext) (names : Names) (k : Known) → Agrees a.scope names k → (most : ℕ) (es : ExprList)
    → not (count es == 1) ≡ false
    → AreClean (arg_nodes es a (NumberIn most ∷ []) []) → is_valued k (first_number names es) ≡ true
basic_set a names k g most no_exprs n h = cc
basic_set a names k g most (an_expr e es) n h =
    let p = clean_both (expr_nodes e a (Some (a_number most None))) _ h in number_set e a names k g most p.0

-- ---- types

-- no record stands here where none may
abbrev pub Placed : TypePosition → ExprView → Type 0
Placed w (group is) = takes_no_record w ≡ true
Placed w (ref e) = takes_no_record (under w) ≡ true
Placed w (lit n) = Unit {0}
Placed w (named x es) = Unit {0}
Placed w nat32 = Unit {0}
Placed w (bits es) = Unit {0}
Placed w (below es) = Unit {0}
Placed w (up_to es) = Unit {0}
Placed w (plus a b) = Unit {0}
Placed w (star a b) = Unit {0}
Placed w (out e) = Unit {0}

placed_where : (w : TypePosition) → takes_no_record w ≡ true → takes_no_record (under w) ≡ true → (e : ExprView)
    → Placed w e
placed_where w h i (group is) = h
placed_where w h i (ref e) = i
placed_where w h i (lit n) = tt
placed_where w h i (named x es) = tt
placed_where w h i nat32 = tt
placed_where w h i (bits es) = tt
placed_where w h i (below es) = tt
placed_where w h i (up_to es) = tt
placed_where w h i (plus a b) = tt
placed_where w h i (star a b) = tt
placed_where w h i (out e) = tt

under_under : (w : TypePosition) → takes_no_record (under w) ≡ true → takes_no_record (under (under w)) ≡ true
under_under Whole h = refl
under_under Conditional h = refl
under_under FieldRef h = refl
under_under UnderRef h = refl
under_under Inner h = refl

onto_out_set : (k : Known) (v : Option ℕ) (args : Args) → are_set_args k args ≡ true
    → are_set_args k (onto_out v args) ≡ true
onto_out_set k None args h = h
onto_out_set k (Some v) args h = h

mutual
  pub type_set : (e : ExprView) (a : ItemContext) (names : Names) (k : Known) → Agrees a.scope names k
      → (w : TypePosition) → Placed w e
      → AreClean (expr_nodes e a (Some (a_type w))) → is_set_type k (type_of a.scope.types names e) ≡ true
  type_set nat32 a names k g w p h = refl
  type_set (bits es) a names k g w p h = basic_set a names k g 32 es (clean_use _ h.0).basic_arity h.1
  type_set (below es) a names k g w p h = basic_set a names k g greatest es (clean_use _ h.0).basic_arity h.1
  type_set (up_to es) a names k g w p h = basic_set a names k g greatest es (clean_use _ h.0).basic_arity h.1
  type_set (star e f) a names k g w p h =
      let q = clean_both (expr_nodes e a (Some (a_number greatest None))) _ h.1 in
      both_true _ _ (number_set e a names k g greatest q.0)
      (type_set f a names k g Inner (placed_where Inner refl refl f) q.1)
  type_set (ref e) a names k g w p h = type_set e a names k g (under w)
      (placed_where (under w) p (under_under w p) e) h.1
  type_set (named x no_exprs) a names k g w p h = alone_set a.scope names k g w x (clean_use _ h.0)
  type_set (named x (an_expr e es)) a names k g w p h =
      applied_set a names k w x e es
      (record {
        first = λ most. number_set e a names k g most;
        second = λ before. second_set es a names k g before;
        all = λ ks before. args_set (an_expr e es) a names k g ks before;
      })
      (clean_use _ h.0) h.1
  type_set (lit n) a names k g w p h = let b : true ≡ false = (clean_use _ h.0).number_for_type in cc
  type_set (plus e f) a names k g w p h = let b : true ≡ false = (clean_use _ h.0).number_for_type in cc
  type_set (out e) a names k g w p h = let b : true ≡ false = (clean_use _ h.0).number_for_type in cc
  type_set (group is) a names k g w p h =
      let b : takes_no_record w ≡ false = (clean_use _ h.0).no_record in let c : true ≡ false = sym p ∙ b in cc

  second_set : (es : ExprList) (a : ItemContext) (names : Names) (k : Known) → Agrees a.scope names k
      → (before : List Word)
      → count es ≡ 1 → AreClean (arg_nodes es a (TypeIn ∷ []) before)
      → is_set_type k (first_type a.scope.types names es) ≡ true
  second_set no_exprs a names k g before n h = absurd (omega (arith, n))
  second_set (an_expr e es) a names k g before n h =
      let q = clean_both (expr_nodes e a (Some (a_type Inner))) _ h in
      type_set e a names k g Inner (placed_where Inner refl refl e) q.0

  args_set : (es : ExprList) (a : ItemContext) (names : Names) (k : Known) → Agrees a.scope names k
      → (ks : List TermKind) (before : List Word)
      → AreClean (arg_nodes es a ks before) → are_set_args k (args_of a.scope.types names ks es) ≡ true
  args_set no_exprs a names k g ks before h = refl
  args_set (an_expr e es) a names k g [] before h = refl
  args_set (an_expr e es) a names k g (NumberIn most ∷ ks) before h =
      let q = clean_both (expr_nodes e a (Some (a_number most None))) _ h in
      both_true _ _ (number_set e a names k g most q.0) (args_set es a names k g ks _ q.1)
  args_set (an_expr e es) a names k g (TypeIn ∷ ks) before h =
      let q = clean_both (expr_nodes e a (Some (a_type Inner))) _ h in
      both_true _ _ (type_set e a names k g Inner (placed_where Inner refl refl e) q.0)
      (args_set es a names k g ks _ q.1)
  args_set (an_expr e es) a names k g (NumberOut ∷ ks) before h =
      let q = clean_both (expr_nodes e a (Some (an_output before))) _ h in
      onto_out_set k (named_number names (out_name e)) _ (args_set es a names k g ks _ q.1)
  args_set (an_expr e es) a names k g (NoKind ∷ ks) before h =
      let q = clean_both (expr_nodes e a None) _ h in args_set es a names k g ks _ q.1

-- ---- outputs

-- a number variable whose slot is among those that are set
pub record IsSetBy (names : Names) (vs : List ℕ) (x : Word) : Type 0 where
  pub slot : ℕ
  pub is : meaning names x ≡ Some (slots.a_number slot)
  pub there : is_in vs slot ≡ true

-- an argument at an output place is `~x` with a variable of numbers
pub output_is : (e : ExprView) (s : Scope) (before : List Word) → CleanUse (use_of s (an_output before) e)
    → (x : Word) × (out_name e ≡ Some x) × (is_number_meaning (meaning_of s x) ≡ true)
output_is (lit n) s before c = let b : true ≡ false = c.no_output in cc
output_is (named x es) s before c = let b : true ≡ false = c.no_output in cc
output_is nat32 s before c = let b : true ≡ false = c.no_output in cc
output_is (bits es) s before c = let b : true ≡ false = c.no_output in cc
output_is (below es) s before c = let b : true ≡ false = c.no_output in cc
output_is (up_to es) s before c = let b : true ≡ false = c.no_output in cc
output_is (plus e f) s before c = let b : true ≡ false = c.no_output in cc
output_is (star e f) s before c = let b : true ≡ false = c.no_output in cc
output_is (ref e) s before c = let b : true ≡ false = c.no_output in cc
output_is (group is) s before c = let b : true ≡ false = c.no_output in cc
output_is (out (named x no_exprs)) s before c =
    let a = or_parts _ (is_type_meaning (meaning_of s x)) c.type_for_number in
    let b = or_parts false _ a.0 in
    (x, refl, variable_meaning s.types x (meaning_of s x) c.unknown_name b.1 a.1 c.other_field)
output_is (out (named x (an_expr e es))) s before c = let b : true ≡ false = c.no_output in cc
output_is (out (lit n)) s before c = let b : true ≡ false = c.no_output in cc
output_is (out nat32) s before c = let b : true ≡ false = c.no_output in cc
output_is (out (bits es)) s before c = let b : true ≡ false = c.no_output in cc
output_is (out (below es)) s before c = let b : true ≡ false = c.no_output in cc
output_is (out (up_to es)) s before c = let b : true ≡ false = c.no_output in cc
output_is (out (plus e f)) s before c = let b : true ≡ false = c.no_output in cc
output_is (out (star e f)) s before c = let b : true ≡ false = c.no_output in cc
output_is (out (out e)) s before c = let b : true ≡ false = c.no_output in cc
output_is (out (ref e)) s before c = let b : true ≡ false = c.no_output in cc
output_is (out (group is)) s before c = let b : true ≡ false = c.no_output in cc

-- a node stands for each expression where something is expected
use_first : (e : ExprView) (a : ItemContext) (before : List Word) → AreClean (expr_nodes e a (Some (an_output before)))
    → CleanUse (use_of a.scope (an_output before) e)
use_first (lit n) a before h = clean_use _ h.0
use_first (named x es) a before h = clean_use _ h.0
use_first nat32 a before h = clean_use _ h.0
use_first (bits es) a before h = clean_use _ h.0
use_first (below es) a before h = clean_use _ h.0
use_first (up_to es) a before h = clean_use _ h.0
use_first (plus e f) a before h = clean_use _ h.0
use_first (star e f) a before h = clean_use _ h.0
use_first (out e) a before h = clean_use _ h.0
use_first (ref e) a before h = clean_use _ h.0
use_first (group is) a before h = clean_use _ h.0

among_either : (xs ys : List Word) (y : Word) → is_among (xs ++ ys) y ≡ true → (b : Bool) × (is_among xs y ≡ b)
    × ((b ≡ false) → is_among ys y ≡ true)
among_either xs ys y h = cases (is_among xs y) refl (sym (list_any-append (bytes_eq y) xs ys) ∙ h)
  where
    cases : (b : Bool) → is_among xs y ≡ b → (b || is_among ys y) ≡ true → (b : Bool) × (is_among xs y ≡ b)
        × ((b ≡ false) → is_among ys y ≡ true)
    cases true is h = (true, is, λ f. cc)
    cases false is h = (false, is, λ f. h)

args_out : (es : ExprList) (a : ItemContext) (names : Names) (k : Known) → Agrees a.scope names k
    → (ks : List TermKind) (before : List Word)
    → AreClean (arg_nodes es a ks before) → (y : Word) → is_among (all_given_out ks es) y ≡ true
    → IsSetBy names (outs (args_of a.scope.types names ks es)) y
args_out no_exprs a names k g ks before h y m = cc
args_out (an_expr e es) a names k g [] before h y m = cc
args_out (an_expr e es) a names k g (NumberIn most ∷ ks) before h y m =
    let q = clean_both (expr_nodes e a (Some (a_number most None))) _ h in
    let r = args_out es a names k g ks _ q.1 y m in record { slot = r.slot; is = r.is; there = r.there }
args_out (an_expr e es) a names k g (TypeIn ∷ ks) before h y m =
    let q = clean_both (expr_nodes e a (Some (a_type Inner))) _ h in
    let r = args_out es a names k g ks _ q.1 y m in record { slot = r.slot; is = r.is; there = r.there }
args_out (an_expr e es) a names k g (NoKind ∷ ks) before h y m =
    let q = clean_both (expr_nodes e a None) _ h in args_out es a names k g ks _ q.1 y m
args_out (an_expr e es) a names k g (NumberOut ∷ ks) before h y m =
    let q = clean_both (expr_nodes e a (Some (an_output before))) _ h in
    let x = output_is e a.scope before (use_first e a before q.0) in
    let v = number_variable a.scope names k g x.0 x.2 in
    let arg : named_number names (out_name e) ≡ Some v.0 = ap (named_number names) x.1 ∙ ap number_slot v.1 in
    let both = among_either (option_list (out_name e)) (all_given_out ks es) y m in
    let P : List ℕ → Type 0 = λ vs. IsSetBy names vs y in
    subst P (sym (ap (λ o. outs (onto_out o (args_of a.scope.types names ks es))) arg))
    (cases both.0 both.1 (λ f. args_out es a names k g ks _ q.1 y (both.2 f)) x.0 x.1 v.0 v.1)
  where
    here : (v : ℕ) (vs : List ℕ) → is_in (v ∷ vs) v ≡ true
    here v vs = ap (λ b. b || is_in vs v) (eq-eqb v v refl)

    there_too : (u v : ℕ) (vs : List ℕ) → is_in vs u ≡ true → is_in (v ∷ vs) u ≡ true
    there_too u v vs h = ap (λ b. nat_eq u v || b) h ∙ or_true (nat_eq u v)

    cases : (b : Bool) → is_among (option_list (out_name e)) y ≡ b
        → (b ≡ false → IsSetBy names (outs (args_of a.scope.types names ks es)) y)
        → (x : Word) → out_name e ≡ Some x → (v : ℕ) → meaning names x ≡ Some (slots.a_number v)
        → IsSetBy names (v ∷ outs (args_of a.scope.types names ks es)) y
    cases false i rest x o v w =
        let r = rest refl in record { slot = r.slot; is = r.is; there = there_too r.slot v _ r.there }
    cases true i rest x o v w =
        let t : (bytes_eq y x || false) ≡ true = sym (ap (λ z. is_among (option_list z) y) o) ∙ i in
        let same : y ≡ x = (bytes_eq-Decides y x).0 (sym (or-false (bytes_eq y x)) ∙ t) in
        record { slot = v; is = ap (meaning names) same ∙ w; there = here v _ }

-- at a name of a class, with arguments
class_outs : (a : ItemContext) (types : SchemaView) (names : Names) (x : Word) (e : ExprView) (es : ExprList) (y : Word)
    → ((ks : List TermKind) → AreClean (arg_nodes (an_expr e es) a ks [])
    → is_among (all_given_out ks (an_expr e es)) y ≡ true
    → IsSetBy names (outs (args_of types names ks (an_expr e es))) y)
    → (w : WordClass) → AreClean (arg_nodes (an_expr e es) a (parameters (type_of_class types x true w)) [])
    → is_among (all_given_out (parameters (type_of_class types x true w)) (an_expr e es)) y ≡ true
    → IsSetBy names (type_outs (applied (type_by types x w) x (number_of names e) (first_type types names es)
    (args_of types names (declared_kinds (type_by types x w)) (an_expr e es)))) y
class_outs a types names x e es y r TypeWord h m = cc
class_outs a types names x e es y r Any h m = cc
class_outs a types names x e es y r Cell h m = cc
class_outs a types names x e no_exprs y r (Sized f) h m = cc
class_outs a types names x e (an_expr d ds) y r (Sized f) h m = cc
class_outs a types names x e es y r (Numbered f) h m = cc
class_outs a types names x e no_exprs y r Hashmap h m = cc
class_outs a types names x e (an_expr d no_exprs) y r Hashmap h m = cc
class_outs a types names x e (an_expr d (an_expr c cs)) y r Hashmap h m = cc
class_outs a types names x e no_exprs y r HashmapE h m = cc
class_outs a types names x e (an_expr d no_exprs) y r HashmapE h m = cc
class_outs a types names x e (an_expr d (an_expr c cs)) y r HashmapE h m = cc
class_outs a types names x e es y r HashmapNode h m = cc
class_outs a types names x e es y r Free h m = cases (of_type types x) refl h m
  where
    cases : (s : SchemaView) → of_type types x ≡ s → AreClean
        (arg_nodes (an_expr e es) a (parameters (declared_as (of_type types x))) [])
        → is_among (all_given_out (parameters (declared_as (of_type types x))) (an_expr e es)) y ≡ true
        → IsSetBy names (type_outs (applied (declared_by (of_type types x)) x (number_of names e)
        (first_type types names es)
        (args_of types names (declared_kinds (declared_by (of_type types x))) (an_expr e es)))) y
    cases [] is h m =
        let b : false ≡ true = sym (ap (λ s. is_among (all_given_out (parameters (declared_as s)) (an_expr e es)) y)
        is) ∙ m in cc
    cases (c ∷ cs) is h m =
        let n = sym (ap (λ s. is_among (all_given_out (parameters (declared_as s)) (an_expr e es)) y) is) ∙ m in
        let P : SchemaView → Type 0 = λ s. IsSetBy names (type_outs
        (applied (declared_by s) x (number_of names e) (first_type types names es)
        (args_of types names (declared_kinds (declared_by s)) (an_expr e es)))) y in
        let Q : SchemaView → Type 0 = λ s. AreClean (arg_nodes (an_expr e es) a (parameters (declared_as s)) []) in
        subst P (sym is) (r (kinds c) (subst Q is h) n)

args_of_type : (x : Word) (e : ExprView) (es : ExprList) (a : ItemContext) (names : Names) (k : Known)
    → Agrees a.scope names k
    → AreClean (arg_nodes (an_expr e es) a (parameters (type_named a.scope.types x true)) []) → (y : Word)
    → is_among (all_given_out (parameters (type_named a.scope.types x true)) (an_expr e es)) y ≡ true
    → IsSetBy names (type_outs (type_of a.scope.types names (named x (an_expr e es)))) y
unfolding type_named
args_of_type x e es a names k g h y m =
    class_outs a a.scope.types names x e es y (λ ks c n. args_out (an_expr e es) a names k g ks [] c y n)
    (word_class x) h m

-- the outputs of a field's type are set by it
pub outputs_set : (e : ExprView) (a : ItemContext) (names : Names) (k : Known) → Agrees a.scope names k
    → (w : TypePosition)
    → AreClean (expr_nodes e a (Some (a_type w))) → (y : Word) → is_among (outputs_of a.scope.types e) y ≡ true
    → IsSetBy names (type_outs (type_of a.scope.types names e)) y
outputs_set (named x no_exprs) a names k g w h y m = cc
outputs_set (named x (an_expr e es)) a names k g w h y m = args_of_type x e es a names k g h.1 y m
outputs_set (lit n) a names k g w h y m = cc
outputs_set nat32 a names k g w h y m = cc
outputs_set (bits es) a names k g w h y m = cc
outputs_set (below es) a names k g w h y m = cc
outputs_set (up_to es) a names k g w h y m = cc
outputs_set (plus e f) a names k g w h y m = cc
outputs_set (star e f) a names k g w h y m = cc
outputs_set (out e) a names k g w h y m = cc
outputs_set (ref e) a names k g w h y m = cc
outputs_set (group is) a names k g w h y m = cc
