-- Numbers of a core form have no unknown, and each equation has one.
use Rattle.std.proofs.Common.{◌≡◌, ℕ, List, [], ◌∷◌, ◌++◌, Option, Some, None, Bool, true, false, refl, ap, cond}
use Rattle.std.specs.Prelude.{All}
use Rattle.std.proofs.lemmas.List.Elements.{All-append, All-cons, All-nil}
use Rattle.nat_solver.specs.Number.{Expr, OneUnknown, unknowns, cancelled, is_empty}
use Rattle.nat_solver.specs.Number as num
use Rattle.nat_solver.specs.declared.compare.Op.{Op}
use Rattle.nat_solver.specs.declared.compare.Op.TheVariants.{Eq, Lt, Le, Gt, Ge}
use Rattle.nat_solver.specs.SolutionLaws.{empty_is}
use Rattle.tlb_syntax.specs.Tree.{ExprView, ExprList, ItemList, TypeView, SchemaView, lit, named}
use Rattle.tlb_syntax.specs.Tree.{nat32, bits, below, up_to, plus, star, out, ref, group, no_exprs, an_expr, plain}
use Rattle.tlb_syntax.specs.Tree.{when}
use Rattle.tlb_syntax.specs.Tree.{when_bit, implicit, check, explicit, no_items, an_item}
use Rattle.kind_terms.specs.declared.kind.TermKind.{TermKind}
use Rattle.kind_terms.specs.declared.kind.TermKind.TheVariants.{NumberIn, TypeIn, NumberOut, NoKind}
use Rattle.kind_terms.specs.declared.words.Family.{Family}
use Rattle.kind_terms.specs.declared.words.Family.TheVariants.{Uint, Int, Bits}
use Rattle.kind_terms.specs.Words.{Word}
use Rattle.kind_terms.specs.Closed.{closed}
use Rattle.kind_terms.specs.Positions.{shown}
use Rattle.kind_terms.specs.Forms.{is_field_of_numbers, out_name}
use Rattle.core_form.specs.Core.{Ty, Args, Item, Items}
use Rattle.core_form.specs.Core as core
use Rattle.core_form.specs.Plain.{IsPlainNumber, IsPlainType, ArePlainArgs, IsPlainItem, ArePlainItems}
use Rattle.schema_core.specs.Names.{Names, Variable, a_number, a_type, other, TypeName, no_type, type_word, anything}
use Rattle.schema_core.specs.Names.{family}
use Rattle.schema_core.specs.Names.{family_of, hashmap_type, hashmap_e_type, declared, declares, meaning, type_called}
use Rattle.schema_core.specs.Names.{declared_kinds, number_called}
use Rattle.schema_core.specs.Slots.{next_slot}
use Rattle.schema_core.specs.Numbers.{number_of, side_of, first_number, product, variable_or_none, only_one, unknown_of}
use Rattle.schema_core.specs.Numbers.{unknown_by, no_number, named_number}
use Rattle.schema_core.specs.CoreOf.{of_family, applied, alone, no_meaning, onto_out, type_of, first_type, args_of}
use Rattle.schema_core.specs.CoreOf.{own_slot}
use Rattle.schema_core.specs.CoreOf.{constraint_by, constraint_of, items_of, field_of, body_of}
use Rattle.schema_core.specs.CoreOf.{under_ref, output_of, outputs_of, names_at_result}
use Rattle.schema_core.specs.Laws.{CoreIsPlain}

-- ---- numbers

plain_product : (m n : Option ℕ) (a b : Expr) → IsPlainNumber a → IsPlainNumber b → IsPlainNumber (product m n a b)
plain_product (Some k) n a b p q = q
plain_product None (Some k) a b p q = p
plain_product None None a b p q = refl

plain_variable : (v : Option ℕ) → IsPlainNumber (variable_or_none v)
plain_variable None = refl
plain_variable (Some v) = refl

pub plain_number : (names : Names) (e : ExprView) → IsPlainNumber (number_of names e)
plain_number names (lit n) = refl
plain_number names (named x no_exprs) = plain_variable (number_called names x)
plain_number names (named x (an_expr e es)) = refl
plain_number names (plus a b) = λ i. plain_number names a i ++ plain_number names b i
plain_number names (star a b) =
    plain_product (closed a) (closed b) (number_of names a) (number_of names b) (plain_number names a)
    (plain_number names b)
plain_number names (out e) = refl
plain_number names nat32 = refl
plain_number names (bits es) = refl
plain_number names (below es) = refl
plain_number names (up_to es) = refl
plain_number names (ref e) = refl
plain_number names (group is) = refl

plain_first : (names : Names) (es : ExprList) → IsPlainNumber (first_number names es)
plain_first names no_exprs = refl
plain_first names (an_expr e es) = plain_number names e

-- ---- types

plain_family : (f : Family) (e : Expr) → IsPlainNumber e → IsPlainType (of_family f e)
plain_family Uint e p = p
plain_family Int e p = p
plain_family Bits e p = p

plain_applied : (t : TypeName) (x : Word) (e : Expr) (y : Ty) (args : Args) → IsPlainNumber e → IsPlainType y
    → ArePlainArgs args → IsPlainType (applied t x e y args)
plain_applied no_type x e y args p q r = tt
plain_applied type_word x e y args p q r = tt
plain_applied anything x e y args p q r = tt
plain_applied (family f) x e y args p q r = plain_family f e p
plain_applied (family_of f n) x e y args p q r = plain_family f (num.lit n) refl
plain_applied hashmap_type x e y args p q r = (p, q)
plain_applied hashmap_e_type x e y args p q r = (p, q)
plain_applied (declared ks) x e y args p q r = r

plain_alone : (v : Option Variable) (t : Ty) → IsPlainType t → IsPlainType (alone v t)
plain_alone None t p = p
plain_alone (Some (a_type v)) t p = tt
plain_alone (Some (a_number v)) t p = tt
plain_alone (Some other) t p = tt

plain_onto_out : (v : Option ℕ) (args : Args) → ArePlainArgs args → ArePlainArgs (onto_out v args)
plain_onto_out None args p = p
plain_onto_out (Some v) args p = p

mutual
  pub plain_type : (types : SchemaView) (names : Names) (e : ExprView) → IsPlainType (type_of types names e)
  plain_type types names nat32 = tt
  plain_type types names (bits es) = plain_first names es
  plain_type types names (below es) = plain_first names es
  plain_type types names (up_to es) = plain_first names es
  plain_type types names (star a b) = (plain_number names a, plain_type types names b)
  plain_type types names (ref e) = plain_type types names e
  plain_type types names (named x no_exprs) =
      plain_alone (meaning names x) _ (plain_applied
      (type_called types x) x no_number no_meaning core.no_args refl tt tt)
  plain_type types names (named x (an_expr e es)) =
      plain_applied (type_called types x) x (number_of names e) (first_type types names es) _ (plain_number names e)
      (plain_first_type types names es)
      (plain_args types names (declared_kinds (type_called types x)) (an_expr e es))
  plain_type types names (lit n) = tt
  plain_type types names (plus a b) = tt
  plain_type types names (out e) = tt
  plain_type types names (group is) = tt

  plain_first_type : (types : SchemaView) (names : Names) (es : ExprList) → IsPlainType (first_type types names es)
  plain_first_type types names no_exprs = tt
  plain_first_type types names (an_expr e es) = plain_type types names e

  plain_args : (types : SchemaView) (names : Names) (ks : List TermKind) (es : ExprList)
      → ArePlainArgs (args_of types names ks es)
  plain_args types names ks no_exprs = tt
  plain_args types names [] (an_expr e es) = tt
  plain_args types names (NumberIn most ∷ ks) (an_expr e es) = (plain_number names e, plain_args types names ks es)
  plain_args types names (TypeIn ∷ ks) (an_expr e es) = (plain_type types names e, plain_args types names ks es)
  plain_args types names (NumberOut ∷ ks) (an_expr e es) =
      plain_onto_out (named_number names (out_name e)) _ (plain_args types names ks es)
  plain_args types names (NoKind ∷ ks) (an_expr e es) = plain_args types names ks es

-- ---- constraints

only_is : (vs : List ℕ) (v : ℕ) → only_one vs ≡ Some v → vs ≡ v ∷ []
only_is [] v e = cc
only_is (w ∷ []) v e = let s : w ≡ v = cc in ap (λ u. u ∷ []) s
only_is (w ∷ u ∷ vs) v e = cc

-- the unknown of two sides is the one that they have
pub unknown_is : (left right : Expr) (v : ℕ) → unknown_of left right ≡ Some v → OneUnknown left right v
unknown_is left right v e = cases (is_empty (cancelled left ++ cancelled right)) refl e
  where
    cases : (b : Bool) → is_empty (cancelled left ++ cancelled right) ≡ b
        → cond b (only_one (unknowns left ++ unknowns right)) None ≡ Some v → OneUnknown left right v
    cases false is h = cc
    cases true is h = record { only = only_is (unknowns left ++ unknowns right) v h; counts = empty_is _ is }

pub unknown_by_is : (op : Op) (left right : Expr) (v : ℕ) → unknown_by op left right ≡ Some v → OneUnknown left right v
unknown_by_is Eq left right v e = unknown_is left right v e
unknown_by_is Lt left right v e = cc
unknown_by_is Le left right v e = cc
unknown_by_is Gt left right v e = cc
unknown_by_is Ge left right v e = cc

plain_constraint : (names : Names) (a : ExprView) (op : Op) (b : ExprView) (place : ℕ)
    → IsPlainItem (constraint_of names a op b place)
plain_constraint names a op b place = cases (unknown_by op (side_of names a) (side_of names b)) refl
  where
    cases : (v : Option ℕ) → unknown_by op (side_of names a) (side_of names b) ≡ v
        → IsPlainItem (constraint_by v names a op b place)
    cases None is = (plain_number names a, plain_number names b)
    cases (Some v) is = unknown_by_is op (side_of names a) (side_of names b) v is

-- ---- items

mutual
  pub plain_items : (types : SchemaView) (names : Names) (next place unnamed : ℕ) (is : ItemList)
      → ArePlainItems (items_of types names next place unnamed is)
  plain_items types names next place unnamed no_items = tt
  plain_items types names next place unnamed (an_item (implicit x k) is) =
      plain_items types (names ++ declares (implicit x k) next) (next_slot next (implicit x k)) _ _ is
  plain_items types names next place unnamed (an_item (check a op b) is) = (
    plain_constraint names a op b place,
    plain_items types (names ++ declares (check a op b) next) (next_slot next (check a op b)) _ _ is,
  )
  plain_items types names next place unnamed (an_item (explicit x t) is) = (
    plain_field types names (shown x unnamed) (own_slot x (is_field_of_numbers t) next) _ t,
    plain_items types (names ++ declares (explicit x t) next) (next_slot next (explicit x t)) _ _ is,
  )

  plain_field : (types : SchemaView) (names : Names) (x : Word) (own : Option ℕ) (next : ℕ) (t : TypeView)
      → IsPlainItem (field_of types names x own next t)
  plain_field types names x own next (plain e) = (tt, plain_body types names next e)
  plain_field types names x own next (when c e) = (plain_number names c, plain_body types names next e)
  plain_field types names x own next (when_bit c k e) = (plain_number names c, plain_body types names next e)

  plain_body : (types : SchemaView) (names : Names) (next : ℕ) (e : ExprView) → IsPlainType (body_of types names next e)
  plain_body types names next (group is) = plain_items types names next 1 0 is
  plain_body types names next (ref e) = plain_under types names next e
  plain_body types names next (lit n) = plain_type types names (lit n)
  plain_body types names next (named x es) = plain_type types names (named x es)
  plain_body types names next nat32 = plain_type types names nat32
  plain_body types names next (bits es) = plain_type types names (bits es)
  plain_body types names next (below es) = plain_type types names (below es)
  plain_body types names next (up_to es) = plain_type types names (up_to es)
  plain_body types names next (plus a b) = plain_type types names (plus a b)
  plain_body types names next (star a b) = plain_type types names (star a b)
  plain_body types names next (out e) = plain_type types names (out e)

  plain_under : (types : SchemaView) (names : Names) (next : ℕ) (e : ExprView)
      → IsPlainType (under_ref types names next e)
  plain_under types names next (group is) = plain_items types names next 1 0 is
  plain_under types names next (ref e) = plain_type types names (ref e)
  plain_under types names next (lit n) = plain_type types names (lit n)
  plain_under types names next (named x es) = plain_type types names (named x es)
  plain_under types names next nat32 = plain_type types names nat32
  plain_under types names next (bits es) = plain_type types names (bits es)
  plain_under types names next (below es) = plain_type types names (below es)
  plain_under types names next (up_to es) = plain_type types names (up_to es)
  plain_under types names next (plus a b) = plain_type types names (plus a b)
  plain_under types names next (star a b) = plain_type types names (star a b)
  plain_under types names next (out e) = plain_type types names (out e)

-- ---- declarations

plain_output : (names : Names) (e : ExprView) → All IsPlainNumber (output_of names e)
plain_output names (out e) = All-cons IsPlainNumber _ [] (plain_number names e) (All-nil IsPlainNumber)
plain_output names (lit n) = All-nil IsPlainNumber
plain_output names (named x es) = All-nil IsPlainNumber
plain_output names nat32 = All-nil IsPlainNumber
plain_output names (bits es) = All-nil IsPlainNumber
plain_output names (below es) = All-nil IsPlainNumber
plain_output names (up_to es) = All-nil IsPlainNumber
plain_output names (plus a b) = All-nil IsPlainNumber
plain_output names (star a b) = All-nil IsPlainNumber
plain_output names (ref e) = All-nil IsPlainNumber
plain_output names (group is) = All-nil IsPlainNumber

plain_outputs : (names : Names) (es : ExprList) → All IsPlainNumber (outputs_of names es)
plain_outputs names no_exprs = All-nil IsPlainNumber
plain_outputs names (an_expr e es) =
    All-append IsPlainNumber (output_of names e) (outputs_of names es) (plain_output names e) (plain_outputs names es)

pub core_is_plain : CoreIsPlain
core_is_plain types tag c = record {
  items = plain_items types [] 0 1 0 c.items;
  outputs = plain_outputs (names_at_result c) c.params;
}
