-- What stands first in a constructor.
use Rattle.std.proofs.Common.{rules, ◌≡◌, ℕ, ◌+◌, Bool, true, false, List, [], ◌∷◌, ◌++◌, refl, sym, ap, ◌∙◌, subst, map}
use Rattle.std.specs.Prelude.{◌||◌, cond, bytes_eq, Option, Some, None}
use Rattle.std.proofs.lemmas.Bool.{false≢true, true≢false}
use Rattle.std.proofs.lemmas.List.{map-append, append-nil}
use Rattle.std.proofs.lemmas.Slice.Eq.{bytes_eq-Decides}
use Rattle.nat_solver.specs.declared.compare.Op.{Op}
use Rattle.nat_solver.specs.Number.{Expr}
use Rattle.tlb_syntax.specs.declared.tree.Expr.{Expr as ProgramExpr, the_lemmas}
use Rattle.tlb_syntax.specs.declared.tree.FieldType.{FieldType, Plain}
use Rattle.tlb_syntax.specs.declared.tree.ParamKind.{ParamKind}
use Rattle.tlb_syntax.specs.View.{expr, field_type}
use Rattle.tlb_syntax.specs.Tree.{ConstructorView, SchemaView, ExprView, ExprList, ItemList, TypeView, named, no_exprs, an_expr, plain, when, when_bit, implicit, check, explicit, no_items, an_item}
use Rattle.kind_terms.specs.declared.words.WordClass.{WordClass}
use Rattle.kind_terms.specs.declared.words.WordClass.TheVariants.{Free}
use Rattle.kind_terms.specs.Words.{Word, is_among}
use Rattle.kind_terms.specs.Classes.{word_class}
use Rattle.kind_terms.specs.Dictionaries.{of_type}
use Rattle.kind_terms.specs.Forms.{is_field_of_numbers}
use Rattle.kind_terms.specs.Types.{has_exprs}
use Rattle.kind_terms.specs.Positions.{is_unnamed}
use Rattle.tlb_guard.specs.Numbering.{place_of}
use Rattle.core_form.specs.Core.{Ty, Args, Items}
use Rattle.core_form.specs.Core as core
use Rattle.schema_core.specs.Names.{Names, Variable, a_number, a_type, other, declares, meaning, type_by, type_called, declared_by, declared_kinds}
use Rattle.schema_core.specs.Slots.{next_slot, field_slots}
use Rattle.schema_core.specs.Numbers.{number_of, no_number, side_of, unknown_by}
use Rattle.schema_core.specs.CoreOf.{applied, alone, no_meaning, type_of, first_type, args_of, body_of, items_of, constraint_by, onto, unnamed_by}
use Rattle.schema_leads.specs.Leads.{First, anything, declared, first_of, first_of_type}
use Rattle.lead_table.specs.declared.first.First.TheVariants.{Anything, Declared}
use Rattle.lead_table.specs.declared.first.First.{First as ProgramFirst}
use Rattle.lead_table.specs.Heads.{IsFirst, first_by}
use Rattle.lead_table.specs.Scoping.{names_of, first_of_body, IsFirstOfField}
use Rattle.lead_table.proofs.Places.{place_word, place_number, no_place, some_placed}

-- ---- words

-- a free word with a place is a declared type
pub free_placed : (s : SchemaView) (x : Word) (n : ℕ) (w : WordClass) → w ≡ Free → place_of s x ≡ Some n → (e : Expr) (t : Ty) (args : Args)
    → IsFirst s (Declared n) (first_of_type (applied (type_by s x w) x e t args))
free_placed s x n w free at e t args =
    let some = some_placed s x n at in
    let types = ap declared_by some.are in
    let named_type : first_of_type (applied (declared_by (of_type s x)) x e t args) ≡ declared x = ap (λ y. first_of_type (applied y x e t args)) types in
    let by_word : first_of_type (applied (type_by s x w) x e t args) ≡ declared x = ap (λ v. first_of_type (applied (type_by s x v) x e t args)) free ∙ named_type in
    record {
      is = ap declared (place_word s x n at).word ∙ sym by_word;
      numbered = place_number s x n at;
    }

-- one without a place is no type
pub free_unplaced : (s : SchemaView) (x : Word) (w : WordClass) → w ≡ Free → place_of s x ≡ None → (e : Expr) (t : Ty) (args : Args)
    → IsFirst s Anything (first_of_type (applied (type_by s x w) x e t args))
free_unplaced s x w free at e t args =
    let types = ap declared_by (no_place s x at) in
    let no_type : first_of_type (applied (declared_by (of_type s x)) x e t args) ≡ anything = ap (λ y. first_of_type (applied y x e t args)) types in
    record {
      is = sym (ap (λ v. first_of_type (applied (type_by s x v) x e t args)) free ∙ no_type);
      numbered = tt;
    }

-- ---- names

-- a name in scope begins with any bits
in_scope_at : (b : Word × Variable) (names : Names) (x : Word) (t : Bool) → bytes_eq x b.0 ≡ t → (t || is_among (names_of names) x) ≡ true
    → (is_among (names_of names) x ≡ true → (v : Variable) × (meaning names x ≡ Some v)) → (v : Variable) × (cond (bytes_eq b.0 x) (Some b.1) (meaning names x) ≡ Some v)
in_scope_at b names x true is e rest =
    let same : bytes_eq b.0 x ≡ true = (bytes_eq-Decides b.0 x).1 (sym ((bytes_eq-Decides x b.0).0 is)) in
    (b.1, ap (λ c. cond c (Some b.1) (meaning names x)) same)
in_scope_at b names x false is e rest = let r = rest e in at (bytes_eq b.0 x) r.0 r.1
  where
    at : (t : Bool) (v : Variable) → meaning names x ≡ Some v → (v : Variable) × (cond t (Some b.1) (meaning names x) ≡ Some v)
    at true v e = (b.1, refl)
    at false v e = (v, e)

in_scope : (names : Names) (x : Word) → is_among (names_of names) x ≡ true → (v : Variable) × (meaning names x ≡ Some v)
in_scope [] x e = absurd (false≢true e)
in_scope (b ∷ names) x e = in_scope_at b names x (bytes_eq x b.0) refl e (in_scope names x)

pub hidden : (s : SchemaView) (names : Names) (next : ℕ) (x : Word) → is_among (names_of names) x ≡ true
    → IsFirst s Anything (first_of_type (body_of s names next (named x no_exprs)))
hidden s names next x e =
    let r = in_scope names x e in
    let by_variable = ap (λ o. first_of_type (alone o (applied (type_called s x) x no_number no_meaning core.no_args))) r.1 in
    record { is = sym (by_variable ∙ at r.0); numbered = tt }
  where
    at : (v : Variable) → first_of_type (alone (Some v) (applied (type_called s x) x no_number no_meaning core.no_args)) ≡ anything
    at (a_number v) = refl
    at (a_type v) = refl
    at other = refl

-- a name that is not in scope, or has arguments, is its word
not_in_scope_at : (b : Word × Variable) (names : Names) (x : Word) → (is_among (names_of names) x ≡ false → meaning names x ≡ None)
    → (bytes_eq x b.0 || is_among (names_of names) x) ≡ false → (t : Bool) → bytes_eq b.0 x ≡ t → cond t (Some b.1) (meaning names x) ≡ None
not_in_scope_at b names x rest e true is =
    let same : bytes_eq x b.0 ≡ true = (bytes_eq-Decides x b.0).1 (sym ((bytes_eq-Decides b.0 x).0 is)) in
    absurd (false≢true (sym e ∙ ap (λ c. c || is_among (names_of names) x) same))
not_in_scope_at b names x rest e false is = rest (none_of (bytes_eq x b.0) (is_among (names_of names) x) e)
  where
    none_of : (a c : Bool) → (a || c) ≡ false → c ≡ false
    none_of true c e = cc
    none_of false c e = e

not_in_scope : (names : Names) (x : Word) → is_among (names_of names) x ≡ false → meaning names x ≡ None
not_in_scope [] x e = refl
not_in_scope (b ∷ names) x e = not_in_scope_at b names x (not_in_scope names x) e (bytes_eq b.0 x) refl

pub by_word : (s : SchemaView) (names : Names) (next : ℕ) (x : Word) (es : ExprList) (f : ProgramFirst)
    → ((e : Expr) (t : Ty) (args : Args) → IsFirst s f (first_of_type (applied (type_by s x (word_class x)) x e t args)))
    → (has_exprs es ≡ false → is_among (names_of names) x ≡ false)
    → IsFirst s f (first_of_type (body_of s names next (named x es)))
by_word s names next x (an_expr e es) f first free =
    first (number_of names e) (first_type s names es) (args_of s names (declared_kinds (type_called s x)) (an_expr e es))
by_word s names next x no_exprs f first free =
    let none = not_in_scope names x (free refl) in
    let P : Option Variable → Type 0 = λ o. IsFirst s f (first_of_type (alone o (applied (type_called s x) x no_number no_meaning core.no_args))) in
    subst P (sym none) (first no_number no_meaning core.no_args)

-- ---- items

-- what is left of a record begins as the whole does
pub record IsRest (s : SchemaView) (names : Names) (next place unnamed : ℕ) (is : ItemList) (scope : List Word) (rest : ItemList) : Type 0 where
  pub more : Names
  pub slot : ℕ
  pub at_place : ℕ
  pub without_names : ℕ
  pub scope_is : scope ≡ names_of more
  pub same : first_of (items_of s names next place unnamed is) ≡ first_of (items_of s more slot at_place without_names rest)

pub whole_rest : (s : SchemaView) (names : Names) (next place unnamed : ℕ) (is : ItemList) (scope : List Word) → scope ≡ names_of names
    → IsRest s names next place unnamed is scope is
whole_rest s names next place unnamed is scope e =
    record { more = names; slot = next; at_place = place; without_names = unnamed; scope_is = e; same = refl }

pub rest_implicit : (s : SchemaView) (names : Names) (next place unnamed : ℕ) (is : ItemList) (scope : List Word) (x : Word) (kind : ParamKind) (rest : ItemList)
    → IsRest s names next place unnamed is scope (an_item (implicit x kind) rest) → IsRest s names next place unnamed is (scope ++ x ∷ []) rest
rest_implicit s names next place unnamed is scope x kind rest r =
    record {
      more = r.more ++ declares (implicit x kind) r.slot;
      slot = next_slot r.slot (implicit x kind);
      at_place = r.at_place + 1;
      without_names = unnamed_by (is_unnamed (implicit x kind)) r.without_names;
      scope_is = ap (λ ws. ws ++ x ∷ []) r.scope_is ∙ sym (map-append (λ (e : Word × Variable). e.0) r.more (declares (implicit x kind) r.slot));
      same = r.same;
    }

constraint_skipped : (o : Option ℕ) (names : Names) (a : ExprView) (op : Op) (b : ExprView) (place : ℕ) (rest : Items)
    → first_of (onto (Some (constraint_by o names a op b place)) rest) ≡ first_of rest
constraint_skipped None names a op b place rest = refl
constraint_skipped (Some v) names a op b place rest = refl

pub rest_check : (s : SchemaView) (names : Names) (next place unnamed : ℕ) (is : ItemList) (scope : List Word) (a : ExprView) (op : Op) (b : ExprView) (rest : ItemList)
    → IsRest s names next place unnamed is scope (an_item (check a op b) rest) → IsRest s names next place unnamed is scope rest
rest_check s names next place unnamed is scope a op b rest r =
    record {
      more = r.more ++ [];
      slot = next_slot r.slot (check a op b);
      at_place = r.at_place + 1;
      without_names = unnamed_by (is_unnamed (check a op b)) r.without_names;
      scope_is = r.scope_is ∙ sym (map-append (λ (e : Word × Variable). e.0) r.more [] ∙ append-nil (names_of r.more));
      same = r.same ∙ constraint_skipped (unknown_by op (side_of r.more a) (side_of r.more b)) r.more a op b r.at_place
          (items_of s (r.more ++ []) (next_slot r.slot (check a op b)) (r.at_place + 1) (unnamed_by (is_unnamed (check a op b)) r.without_names) rest);
    }

pub rest_explicit : (s : SchemaView) (names : Names) (next place unnamed : ℕ) (is : ItemList) (scope : List Word) (x : Option Word) (t : TypeView) (rest : ItemList) (f : ProgramFirst)
    → IsRest s names next place unnamed is scope (an_item (explicit x t) rest) → ((more : Names) → scope ≡ names_of more → IsFirstOfField s more f t)
    → IsFirst s f (first_of (items_of s names next place unnamed is))
rest_explicit s names next place unnamed is scope x t rest f r first =
    let at = first r.more r.scope_is (r.slot + field_slots x (is_field_of_numbers t)) in
    record { is = at.is ∙ sym (r.same ∙ by_field t); numbered = at.numbered }
  where
    by_field : (t : TypeView) → first_of (items_of s r.more r.slot r.at_place r.without_names (an_item (explicit x t) rest))
        ≡ first_of_body s r.more (r.slot + field_slots x (is_field_of_numbers t)) t
    by_field (plain e) = refl
    by_field (when c e) = refl
    by_field (when_bit c k e) = refl

pub rest_end : (s : SchemaView) (names : Names) (next place unnamed : ℕ) (is : ItemList) (scope : List Word)
    → IsRest s names next place unnamed is scope no_items → IsFirst s Anything (first_of (items_of s names next place unnamed is))
rest_end s names next place unnamed is scope r = record { is = sym r.same; numbered = tt }

-- a field without a condition
pub field_plain : (s : SchemaView) (names : Names) (f : ProgramFirst) (t : TypeView) (e : ExprView) → t ≡ plain e
    → ((next : ℕ) → IsFirst s f (first_of_type (body_of s names next e))) → IsFirstOfField s names f t
field_plain s names f t e is first =
    let P : TypeView → Type 0 = λ z. IsFirstOfField s names f z in
    subst P (sym is) first

pub seen_plain : (t : FieldType) (e : ProgramExpr) → t ≡ Plain e → field_type t ≡ plain (expr e)
seen_plain t e is = rw is (search (the_lemmas, rules))
