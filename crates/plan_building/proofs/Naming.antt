-- A record has the fields of its operations where it has their names.
use Rattle.std.proofs.Common.{◌≡◌, ℕ, suc, Bool, true, false, ◌&&◌, List, [], ◌∷◌, Option, Some, None, length, map, nat_eq, refl, sym, ap, ◌∙◌, arith}
use Rattle.std.specs.Prelude.{bytes_eq}
use Rattle.std.proofs.lemmas.Bool.{eq-eqb, ne_eqb}
use Rattle.std.proofs.lemmas.Slice.Eq.{bytes_eq-Decides}
use Rattle.core_form.specs.Core.{Condition, Ty, Word, field_names}
use Rattle.flat_form.specs.Stands.{bit_of, expr_at, items_in, name_at}
use Rattle.flat_form.specs.declared.lists.Flat.{Flat}
use Rattle.flat_form.specs.declared.lists.PlanOp.{PlanOp}
use Rattle.flat_form.specs.declared.lists.PlanOp.TheVariants.{Check, Solve, When, Field}
use Rattle.typed_value.specs.View.{pair_of, vals_in}
use Rattle.typed_value.specs.declared.value.Value.{Value}
use Rattle.building.specs.PlainBuilder.{count, has_fields, same_words}
use Rattle.plan_building.specs.FieldNames.{names_of, op_names}

names_are : (f : Flat) (at : ℕ → Ty) (c : Option Condition) (ops : List PlanOp)
    → field_names (items_in f at c ops) ≡ op_names f ops
names_are f at c [] = refl
names_are f at c (Check a op b i ∷ ops) = names_are f at None ops
names_are f at c (Solve v a b i ∷ ops) = names_are f at None ops
names_are f at c (When e k ∷ ops) = names_are f at (Some (record { number = expr_at f e; bit = bit_of k })) ops
names_are f at c (Field x t v ∷ ops) = ap (λ (l : List Word). name_at f x ∷ l) (names_are f at None ops)

as_many : (fields : List (List ℕ × Value)) → count (vals_in (map pair_of fields)) ≡ length (names_of fields)
as_many [] = refl
as_many (x ∷ fields) = ap suc (as_many fields)

and_true : (b : Bool) → (b && true) ≡ b
and_true true = refl
and_true false = refl

pub fields_are : (f : Flat) (at : ℕ → Ty) (ops : List PlanOp) (fields : List (List ℕ × Value))
    → has_fields (names_of fields) (vals_in (map pair_of fields)) (items_in f at None ops)
    ≡ same_words (names_of fields) (op_names f ops)
fields_are f at ops fields =
    let same = eq-eqb (count (vals_in (map pair_of fields))) (length (names_of fields)) (as_many fields) in
    ap (λ b. same_words (names_of fields) (field_names (items_in f at None ops)) && b) same
    ∙ and_true (same_words (names_of fields) (field_names (items_in f at None ops)))
    ∙ ap (same_words (names_of fields)) (names_are f at None ops)

pub first_same : (x y : Word) (xs ys : List Word) → x ≡ y → same_words (x ∷ xs) (y ∷ ys) ≡ same_words xs ys
first_same x y xs ys e = ap (λ b. b && same_words xs ys) ((bytes_eq-Decides x y).1 e)

pub first_other : (x y : Word) (xs ys : List Word) → (x ≡ y → ⊥) → same_words (x ∷ xs) (y ∷ ys) ≡ false
first_other x y xs ys f = ap (λ b. b && same_words xs ys) (not (bytes_eq x y) refl)
  where
    not : (b : Bool) → bytes_eq x y ≡ b → b ≡ false
    not true e = absurd (f ((bytes_eq-Decides x y).0 e))
    not false e = refl

-- where no operation is left
pub fields_end : (f : Flat) (at : ℕ → Ty) (ops rest : List PlanOp) (fields left : List (List ℕ × Value)) (b : Bool)
    → rest ≡ [] → same_words (names_of left) (op_names f rest) ≡ same_words (names_of fields) (op_names f ops)
    → b ≡ nat_eq (length left) 0
    → b ≡ has_fields (names_of fields) (vals_in (map pair_of fields)) (items_in f at None ops)
fields_end f at ops rest fields left b none same is =
    is ∙ empty left ∙ sym (ap (λ r. same_words (names_of left) (op_names f r)) none) ∙ same ∙ sym (fields_are f at ops fields)
  where
    empty : (l : List (List ℕ × Value)) → nat_eq (length l) 0 ≡ same_words (names_of l) []
    empty [] = refl
    empty (x ∷ l) = ne_eqb (length (x ∷ l)) 0 (λ e. absurd (omega (arith, e)))

-- where the next operation finds no field of its name
pub fields_stop : (f : Flat) (at : ℕ → Ty) (ops rest more : List PlanOp) (op : PlanOp) (fields left : List (List ℕ × Value))
    → rest ≡ op ∷ more → same_words (names_of left) (op_names f rest) ≡ same_words (names_of fields) (op_names f ops)
    → same_words (names_of left) (op_names f (op ∷ more)) ≡ false
    → false ≡ has_fields (names_of fields) (vals_in (map pair_of fields)) (items_in f at None ops)
fields_stop f at ops rest more op fields left cons same other =
    sym other ∙ sym (ap (λ r. same_words (names_of left) (op_names f r)) cons) ∙ same ∙ sym (fields_are f at ops fields)
