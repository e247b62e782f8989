-- Each slot of a core form is one of its constructor, but that of what has no meaning.
use Rattle.std.proofs.Common.{◌≡◌, ℕ, ◌+◌, ◌<◌, ◌≤◌, List, [], ◌∷◌, ◌++◌, Option, Some, None, Bool, true, false, refl}
use Rattle.std.proofs.Common.{cond, inl, inr, arith, subst}
use Rattle.std.specs.Prelude.{All, bytes_eq}
use Rattle.std.proofs.lemmas.List.Elements.{All-append, All-cons, All-head, All-nil}
use Rattle.nat_solver.specs.Number.{Expr, OneUnknown, unknowns}
use Rattle.nat_solver.specs.Number as num
use Rattle.nat_solver.specs.declared.compare.Op.{Op}
use Rattle.tlb_syntax.specs.declared.tree.ParamKind.{ParamKind}
use Rattle.tlb_syntax.specs.declared.tree.ParamKind.TheVariants as params
use Rattle.tlb_syntax.specs.Tree.{ExprView, ExprList, ItemView, ItemList, TypeView, SchemaView, lit, named}
use Rattle.tlb_syntax.specs.Tree.{nat32, bits, below, up_to, plus, star, out, ref, group, no_exprs, an_expr, plain}
use Rattle.tlb_syntax.specs.Tree.{when}
use Rattle.tlb_syntax.specs.Tree.{when_bit, implicit, check, explicit, no_items, an_item}
use Rattle.kind_terms.specs.declared.kind.TermKind.{TermKind}
use Rattle.kind_terms.specs.declared.kind.TermKind.TheVariants.{NumberIn, TypeIn, NumberOut, NoKind}
use Rattle.kind_terms.specs.declared.words.Family.{Family}
use Rattle.kind_terms.specs.declared.words.Family.TheVariants.{Uint, Int, Bits}
use Rattle.kind_terms.specs.Words.{Word}
use Rattle.kind_terms.specs.Closed.{closed}
use Rattle.kind_terms.specs.Params.{bare_name}
use Rattle.kind_terms.specs.Positions.{shown}
use Rattle.kind_terms.specs.Forms.{is_field_of_numbers, out_name}
use Rattle.core_form.specs.Core.{Ty, Args, Item, Items, Input, no_slot}
use Rattle.core_form.specs.Core as core
use Rattle.core_form.specs.Bounds.{IsSlotWithin, IsNumberWithin, IsTypeWithin, AreArgsWithin, IsItemWithin}
use Rattle.core_form.specs.Bounds.{AreItemsWithin, IsInputWithin}
use Rattle.schema_core.specs.Names.{Names, Variable, a_number, a_type, other, TypeName, no_type, type_word, anything}
use Rattle.schema_core.specs.Names.{family}
use Rattle.schema_core.specs.Names.{family_of, hashmap_type, hashmap_e_type, declared, declares, meaning, type_called}
use Rattle.schema_core.specs.Names.{declared_kinds, number_called, number_slot, implicit_variable, field_variable}
use Rattle.schema_core.specs.Slots.{field_slots, own_slots, slots_in, slots_at, slots_under, type_slots, next_slot}
use Rattle.schema_core.specs.Numbers.{number_of, side_of, first_number, product, variable_or_none, sought_or_none}
use Rattle.schema_core.specs.Numbers.{unknown_by, no_number, named_number}
use Rattle.schema_core.specs.CoreOf.{of_family, applied, alone, no_meaning, onto_out, type_of, first_type, args_of}
use Rattle.schema_core.specs.CoreOf.{own_slot}
use Rattle.schema_core.specs.CoreOf.{constraint_by, constraint_of, items_of, field_of, body_of, under_ref, output_of}
use Rattle.schema_core.specs.CoreOf.{outputs_of, names_after, names_at_result, variable_input, sum_input, literal_of}
use Rattle.schema_core.specs.CoreOf.{input_of, inputs_of}
use Rattle.schema_core.specs.PlainLaws.{unknown_by_is}
use Rattle.schema_core.specs.Laws.{CoreIsWithin}

-- ---- names

-- the slots of variables are among so many
abbrev pub IsVariableWithin : ℕ → Variable → Type 0
IsVariableWithin n (a_number v) = v < n
IsVariableWithin n (a_type v) = v < n
IsVariableWithin n other = Unit {0}

abbrev pub AreNamesWithin : ℕ → Names → Type 0
AreNamesWithin n [] = Unit {0}
AreNamesWithin n (e ∷ es) = IsVariableWithin n e.1 × AreNamesWithin n es

abbrev pub IsMeaningWithin : ℕ → Option Variable → Type 0
IsMeaningWithin n None = Unit {0}
IsMeaningWithin n (Some v) = IsVariableWithin n v

pub names_append : (n : ℕ) (xs ys : Names) → AreNamesWithin n xs → AreNamesWithin n ys → AreNamesWithin n (xs ++ ys)
names_append n [] ys p q = q
names_append n (x ∷ xs) ys p q = (p.0, names_append n xs ys p.1 q)

pub meaning_within : (n : ℕ) (names : Names) (x : Word) → AreNamesWithin n names → IsMeaningWithin n (meaning names x)
meaning_within n [] x p = tt
meaning_within n (e ∷ es) x p = cases (bytes_eq e.0 x) (meaning_within n es x p.1)
  where
    cases : (b : Bool) → IsMeaningWithin n (meaning es x) → IsMeaningWithin n (cond b (Some e.1) (meaning es x))
    cases true q = p.0
    cases false q = q

-- a slot of a variable of numbers
abbrev pub IsOptionWithin : ℕ → Option ℕ → Type 0
IsOptionWithin n None = Unit {0}
IsOptionWithin n (Some v) = v < n

slot_within : (n : ℕ) (v : Option Variable) → IsMeaningWithin n v → IsOptionWithin n (number_slot v)
slot_within n None p = tt
slot_within n (Some (a_number v)) p = p
slot_within n (Some (a_type v)) p = tt
slot_within n (Some other) p = tt

called_within : (n : ℕ) (names : Names) (x : Word) → AreNamesWithin n names → IsOptionWithin n (number_called names x)
called_within n names x p = slot_within n (meaning names x) (meaning_within n names x p)

named_within : (n : ℕ) (names : Names) (x : Option Word) → AreNamesWithin n names
    → IsOptionWithin n (named_number names x)
named_within n names None p = tt
named_within n names (Some x) p = called_within n names x p

implicit_within : (n v : ℕ) (k : ParamKind) → v < n → IsVariableWithin n (implicit_variable k v)
implicit_within n v params.Nat h = h
implicit_within n v params.Ty h = h

field_within : (n v : ℕ) (b : Bool) → v + field_slots (Some []) b ≤ n → IsVariableWithin n (field_variable b v)
field_within n v true h = omega (arith, h)
field_within n v false h = tt

own_within : (n v : ℕ) (x : Option Word) (b : Bool) → v + field_slots x b ≤ n → IsSlotWithin n (own_slot x b v)
own_within n v None b h = tt
own_within n v (Some x) true h = omega (arith, h)
own_within n v (Some x) false h = tt

slots_alike : (x y : Word) (b : Bool) → field_slots (Some x) b ≡ field_slots (Some y) b
slots_alike x y true = refl
slots_alike x y false = refl

-- what an item declares
declares_within : (n v : ℕ) (i : ItemView) → v + own_slots i ≤ n → AreNamesWithin n (declares i v)
declares_within n v (implicit x k) h = (implicit_within n v k (omega (arith, h)), tt)
declares_within n v (check a op b) h = tt
declares_within n v (explicit None t) h = tt
declares_within n v (explicit (Some x) t) h =
    let e = slots_alike x [] (is_field_of_numbers t) in
    (field_within n v (is_field_of_numbers t) (omega (arith, h, e)), tt)

-- ---- numbers

product_within : (n : ℕ) (k m : Option ℕ) (a b : Expr) → IsNumberWithin n a → IsNumberWithin n b
    → IsNumberWithin n (product k m a b)
product_within n (Some k) m a b p q = q
product_within n None (Some k) a b p q = p
product_within n None None a b p q = inr refl

variable_within : (n : ℕ) (v : Option ℕ) → IsOptionWithin n v → IsNumberWithin n (variable_or_none v)
variable_within n None p = inr refl
variable_within n (Some v) p = inl p

sought_within : (n : ℕ) (v : Option ℕ) → IsOptionWithin n v → IsNumberWithin n (sought_or_none v)
sought_within n None p = inr refl
sought_within n (Some v) p = p

pub number_within : (n : ℕ) (names : Names) (e : ExprView) → AreNamesWithin n names
    → IsNumberWithin n (number_of names e)
number_within n names (lit m) p = tt
number_within n names (named x no_exprs) p = variable_within n (number_called names x) (called_within n names x p)
number_within n names (named x (an_expr e es)) p = inr refl
number_within n names (plus a b) p = (number_within n names a p, number_within n names b p)
number_within n names (star a b) p =
    product_within n (closed a) (closed b) (number_of names a) (number_of names b) (number_within n names a p)
    (number_within n names b p)
number_within n names (out e) p = inr refl
number_within n names nat32 p = inr refl
number_within n names (bits es) p = inr refl
number_within n names (below es) p = inr refl
number_within n names (up_to es) p = inr refl
number_within n names (ref e) p = inr refl
number_within n names (group is) p = inr refl

pub side_within : (n : ℕ) (names : Names) (e : ExprView) → AreNamesWithin n names → IsNumberWithin n (side_of names e)
side_within n names (lit m) p = tt
side_within n names (named x no_exprs) p = variable_within n (number_called names x) (called_within n names x p)
side_within n names (named x (an_expr e es)) p = inr refl
side_within n names (plus a b) p = (side_within n names a p, side_within n names b p)
side_within n names (star a b) p =
    product_within n (closed a) (closed b) (side_of names a) (side_of names b) (side_within n names a p)
    (side_within n names b p)
side_within n names (out e) p = sought_within n (named_number names (bare_name e))
    (named_within n names (bare_name e) p)
side_within n names nat32 p = inr refl
side_within n names (bits es) p = inr refl
side_within n names (below es) p = inr refl
side_within n names (up_to es) p = inr refl
side_within n names (ref e) p = inr refl
side_within n names (group is) p = inr refl

first_within : (n : ℕ) (names : Names) (es : ExprList) → AreNamesWithin n names
    → IsNumberWithin n (first_number names es)
first_within n names no_exprs p = inr refl
first_within n names (an_expr e es) p = number_within n names e p

-- an unknown of a number within is within
unknowns_within : (n : ℕ) (e : Expr) → IsNumberWithin n e → All (λ v. v < n) (unknowns e)
unknowns_within n (num.lit m) p = All-nil (λ v. v < n)
unknowns_within n (num.var v) p = All-nil (λ v. v < n)
unknowns_within n (num.sought v) p = All-cons (λ v. v < n) v [] p (All-nil (λ v. v < n))
unknowns_within n (num.plus a b) p =
    All-append (λ v. v < n) (unknowns a) (unknowns b) (unknowns_within n a p.0) (unknowns_within n b p.1)
unknowns_within n (num.times k a) p = unknowns_within n a p

unknown_within : (n v : ℕ) (a b : Expr) → OneUnknown a b v → IsNumberWithin n a → IsNumberWithin n b → v < n
unknown_within n v a b one p q =
    let all : All (λ w. w < n) (unknowns a ++ unknowns b) =
    All-append (λ w. w < n) (unknowns a) (unknowns b) (unknowns_within n a p) (unknowns_within n b q) in
    let P : List ℕ → Type 0 = All (λ w. w < n) in
    All-head (λ w. w < n) v [] (subst P one.only all)

-- ---- types

family_within : (n : ℕ) (f : Family) (e : Expr) → IsNumberWithin n e → IsTypeWithin n (of_family f e)
family_within n Uint e p = p
family_within n Int e p = p
family_within n Bits e p = p

applied_within : (n : ℕ) (t : TypeName) (x : Word) (e : Expr) (y : Ty) (args : Args) → IsNumberWithin n e
    → IsTypeWithin n y
    → AreArgsWithin n args → IsTypeWithin n (applied t x e y args)
applied_within n no_type x e y args p q r = inr refl
applied_within n type_word x e y args p q r = inr refl
applied_within n anything x e y args p q r = tt
applied_within n (family f) x e y args p q r = family_within n f e p
applied_within n (family_of f m) x e y args p q r = family_within n f (num.lit m) tt
applied_within n hashmap_type x e y args p q r = (p, q)
applied_within n hashmap_e_type x e y args p q r = (p, q)
applied_within n (declared ks) x e y args p q r = r

alone_within : (n : ℕ) (v : Option Variable) (t : Ty) → IsMeaningWithin n v → IsTypeWithin n t
    → IsTypeWithin n (alone v t)
alone_within n None t m p = p
alone_within n (Some (a_type v)) t m p = inl m
alone_within n (Some (a_number v)) t m p = inr refl
alone_within n (Some other) t m p = inr refl

onto_out_within : (n : ℕ) (v : Option ℕ) (args : Args) → IsOptionWithin n v → AreArgsWithin n args
    → AreArgsWithin n (onto_out v args)
onto_out_within n None args q p = p
onto_out_within n (Some v) args q p = (q, p)

mutual
  pub type_within : (n : ℕ) (types : SchemaView) (names : Names) (e : ExprView) → AreNamesWithin n names
      → IsTypeWithin n (type_of types names e)
  type_within n types names nat32 p = tt
  type_within n types names (bits es) p = first_within n names es p
  type_within n types names (below es) p = first_within n names es p
  type_within n types names (up_to es) p = first_within n names es p
  type_within n types names (star a b) p = (number_within n names a p, type_within n types names b p)
  type_within n types names (ref e) p = type_within n types names e p
  type_within n types names (named x no_exprs) p =
      alone_within n (meaning names x) _ (meaning_within n names x p)
      (applied_within n (type_called types x) x no_number no_meaning core.no_args (inr refl) (inr refl) tt)
  type_within n types names (named x (an_expr e es)) p =
      applied_within n (type_called types x) x (number_of names e)
      (first_type types names es) _ (number_within n names e p)
      (first_type_within n types names es p)
      (args_within n types names (declared_kinds (type_called types x)) (an_expr e es) p)
  type_within n types names (lit m) p = inr refl
  type_within n types names (plus a b) p = inr refl
  type_within n types names (out e) p = inr refl
  type_within n types names (group is) p = inr refl

  first_type_within : (n : ℕ) (types : SchemaView) (names : Names) (es : ExprList) → AreNamesWithin n names
      → IsTypeWithin n (first_type types names es)
  first_type_within n types names no_exprs p = inr refl
  first_type_within n types names (an_expr e es) p = type_within n types names e p

  args_within : (n : ℕ) (types : SchemaView) (names : Names) (ks : List TermKind) (es : ExprList)
      → AreNamesWithin n names
      → AreArgsWithin n (args_of types names ks es)
  args_within n types names ks no_exprs p = tt
  args_within n types names [] (an_expr e es) p = tt
  args_within n types names (NumberIn most ∷ ks) (an_expr e es) p =
      (number_within n names e p, args_within n types names ks es p)
  args_within n types names (TypeIn ∷ ks) (an_expr e es) p =
      (type_within n types names e p, args_within n types names ks es p)
  args_within n types names (NumberOut ∷ ks) (an_expr e es) p =
      onto_out_within n (named_number names (out_name e)) _ (named_within n names (out_name e) p)
      (args_within n types names ks es p)
  args_within n types names (NoKind ∷ ks) (an_expr e es) p = args_within n types names ks es p

-- ---- items

constraint_within : (n : ℕ) (names : Names) (a : ExprView) (op : Op) (b : ExprView) (place : ℕ) → AreNamesWithin n names
    → IsItemWithin n (constraint_of names a op b place)
constraint_within n names a op b place p = cases (unknown_by op (side_of names a) (side_of names b)) refl
  where
    cases : (v : Option ℕ) → unknown_by op (side_of names a) (side_of names b) ≡ v
        → IsItemWithin n (constraint_by v names a op b place)
    cases None is = (number_within n names a p, number_within n names b p)
    cases (Some v) is =
        let l = side_within n names a p in
        let r = side_within n names b p in
        (unknown_within n v _ _ (unknown_by_is op (side_of names a) (side_of names b) v is) l r, l, r)

mutual
  -- where the slots from the next one on that the items take are among so many
  pub items_within : (n : ℕ) (types : SchemaView) (names : Names) (next place unnamed : ℕ) (is : ItemList)
      → next + slots_in is ≤ n → AreNamesWithin n names → AreItemsWithin n (items_of types names next place unnamed is)
  items_within n types names next place unnamed no_items h p = tt
  items_within n types names next place unnamed (an_item (implicit x k) is) h p =
      items_within n types (names ++ declares (implicit x k) next)
      (next_slot next (implicit x k)) _ _ is (omega (arith, h))
      (names_append n names _ p (declares_within n next (implicit x k) (omega (arith, h))))
  items_within n types names next place unnamed (an_item (check a op b) is) h p = (
    constraint_within n names a op b place p,
    items_within n types (names ++ declares (check a op b) next)
        (next_slot next (check a op b)) _ _ is (omega (arith, h))
        (names_append n names _ p tt),
  )
  items_within n types names next place unnamed (an_item (explicit x t) is) h p = (
    typed_within n types names (shown x unnamed) (own_slot x (is_field_of_numbers t) next) _ t (omega (arith, h)) p
        (own_within n next x (is_field_of_numbers t) (omega (arith, h))),
    items_within n types (names ++ declares (explicit x t) next)
        (next_slot next (explicit x t)) _ _ is (omega (arith, h))
        (names_append n names _ p (declares_within n next (explicit x t) (omega (arith, h)))),
  )

  typed_within : (n : ℕ) (types : SchemaView) (names : Names) (x : Word) (own : Option ℕ) (next : ℕ) (t : TypeView)
      → next + type_slots t ≤ n → AreNamesWithin n names → IsSlotWithin n own
      → IsItemWithin n (field_of types names x own next t)
  typed_within n types names x own next (plain e) h p q = (q, tt, body_within n types names next e h p)
  typed_within n types names x own next (when c e) h p q
      = (q, number_within n names c p, body_within n types names next e h p)
  typed_within n types names x own next (when_bit c k e) h p q =
      (q, number_within n names c p, body_within n types names next e h p)

  body_within : (n : ℕ) (types : SchemaView) (names : Names) (next : ℕ) (e : ExprView) → next + slots_at e ≤ n
      → AreNamesWithin n names → IsTypeWithin n (body_of types names next e)
  body_within n types names next (group is) h p = items_within n types names next 1 0 is h p
  body_within n types names next (ref e) h p = under_within n types names next e h p
  body_within n types names next (lit m) h p = type_within n types names (lit m) p
  body_within n types names next (named x es) h p = type_within n types names (named x es) p
  body_within n types names next nat32 h p = type_within n types names nat32 p
  body_within n types names next (bits es) h p = type_within n types names (bits es) p
  body_within n types names next (below es) h p = type_within n types names (below es) p
  body_within n types names next (up_to es) h p = type_within n types names (up_to es) p
  body_within n types names next (plus a b) h p = type_within n types names (plus a b) p
  body_within n types names next (star a b) h p = type_within n types names (star a b) p
  body_within n types names next (out e) h p = type_within n types names (out e) p

  under_within : (n : ℕ) (types : SchemaView) (names : Names) (next : ℕ) (e : ExprView) → next + slots_under e ≤ n
      → AreNamesWithin n names → IsTypeWithin n (under_ref types names next e)
  under_within n types names next (group is) h p = items_within n types names next 1 0 is h p
  under_within n types names next (ref e) h p = type_within n types names (ref e) p
  under_within n types names next (lit m) h p = type_within n types names (lit m) p
  under_within n types names next (named x es) h p = type_within n types names (named x es) p
  under_within n types names next nat32 h p = type_within n types names nat32 p
  under_within n types names next (bits es) h p = type_within n types names (bits es) p
  under_within n types names next (below es) h p = type_within n types names (below es) p
  under_within n types names next (up_to es) h p = type_within n types names (up_to es) p
  under_within n types names next (plus a b) h p = type_within n types names (plus a b) p
  under_within n types names next (star a b) h p = type_within n types names (star a b) p
  under_within n types names next (out e) h p = type_within n types names (out e) p

-- ---- results

pub names_after_within : (n : ℕ) (is : ItemList) (names : Names) (next : ℕ) → next + slots_in is ≤ n
    → AreNamesWithin n names
    → AreNamesWithin n (names_after is names next)
names_after_within n no_items names next h p = p
names_after_within n (an_item i is) names next h p =
    names_after_within n is (names ++ declares i next) (next_slot next i) (omega (arith, h))
    (names_append n names _ p (declares_within n next i (omega (arith, h))))

output_within : (n : ℕ) (names : Names) (e : ExprView) → AreNamesWithin n names → All (IsNumberWithin n)
    (output_of names e)
output_within n names (out e) p = All-cons (IsNumberWithin n) _ [] (number_within n names e p)
    (All-nil (IsNumberWithin n))
output_within n names (lit m) p = All-nil (IsNumberWithin n)
output_within n names (named x es) p = All-nil (IsNumberWithin n)
output_within n names nat32 p = All-nil (IsNumberWithin n)
output_within n names (bits es) p = All-nil (IsNumberWithin n)
output_within n names (below es) p = All-nil (IsNumberWithin n)
output_within n names (up_to es) p = All-nil (IsNumberWithin n)
output_within n names (plus a b) p = All-nil (IsNumberWithin n)
output_within n names (star a b) p = All-nil (IsNumberWithin n)
output_within n names (ref e) p = All-nil (IsNumberWithin n)
output_within n names (group is) p = All-nil (IsNumberWithin n)

outputs_within : (n : ℕ) (names : Names) (es : ExprList) → AreNamesWithin n names → All (IsNumberWithin n)
    (outputs_of names es)
outputs_within n names no_exprs p = All-nil (IsNumberWithin n)
outputs_within n names (an_expr e es) p =
    All-append (IsNumberWithin n) (output_of names e) (outputs_of names es) (output_within n names e p)
    (outputs_within n names es p)

variable_input_within : (n : ℕ) (v : Option Variable) → IsMeaningWithin n v → All (IsInputWithin n) (variable_input v)
variable_input_within n None p = All-nil (IsInputWithin n)
variable_input_within n (Some (a_number v)) p = All-cons (IsInputWithin n) _ [] p (All-nil (IsInputWithin n))
variable_input_within n (Some (a_type v)) p = All-cons (IsInputWithin n) _ [] p (All-nil (IsInputWithin n))
variable_input_within n (Some other) p = All-nil (IsInputWithin n)

sum_input_within : (n : ℕ) (v : Option ℕ) (k : ℕ) → IsOptionWithin n v → All (IsInputWithin n) (sum_input v k)
sum_input_within n None k p = All-nil (IsInputWithin n)
sum_input_within n (Some v) k p = All-cons (IsInputWithin n) _ [] p (All-nil (IsInputWithin n))

input_within : (n : ℕ) (names : Names) (e : ExprView) → AreNamesWithin n names → All (IsInputWithin n)
    (input_of names e)
input_within n names (lit m) p = All-cons (IsInputWithin n) _ [] tt (All-nil (IsInputWithin n))
input_within n names (named x no_exprs) p = variable_input_within n (meaning names x) (meaning_within n names x p)
input_within n names (named x (an_expr e es)) p = All-nil (IsInputWithin n)
input_within n names (plus a b) p =
    sum_input_within n (named_number names (bare_name a)) (literal_of b) (named_within n names (bare_name a) p)
input_within n names nat32 p = All-nil (IsInputWithin n)
input_within n names (bits es) p = All-nil (IsInputWithin n)
input_within n names (below es) p = All-nil (IsInputWithin n)
input_within n names (up_to es) p = All-nil (IsInputWithin n)
input_within n names (star a b) p = All-nil (IsInputWithin n)
input_within n names (out e) p = All-nil (IsInputWithin n)
input_within n names (ref e) p = All-nil (IsInputWithin n)
input_within n names (group is) p = All-nil (IsInputWithin n)

inputs_within : (n : ℕ) (names : Names) (es : ExprList) → AreNamesWithin n names → All (IsInputWithin n)
    (inputs_of names es)
inputs_within n names no_exprs p = All-nil (IsInputWithin n)
inputs_within n names (an_expr e es) p =
    All-append (IsInputWithin n) (input_of names e) (inputs_of names es) (input_within n names e p)
    (inputs_within n names es p)

pub core_is_within : CoreIsWithin
core_is_within types tag c =
    let n = slots_in c.items in
    let h : 0 + n ≤ n = omega arith in
    let names = names_after_within n c.items [] 0 h tt in
    record {
      inputs = inputs_within n (names_at_result c) c.params names;
      outputs = outputs_within n (names_at_result c) c.params names;
      items = items_within n types [] 0 1 0 c.items h tt;
    }
