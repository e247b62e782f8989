-- In which core forms each variable is set before it is used, so that a number of it has no value only where it, or a
-- part
-- of it, exceeds 2^32 - 1.
-- Source: the TON documentation on the TL-B language (implicit and explicit fields), and this project's rules.
use Rattle.std.specs.Prelude.{ℕ, ◌≡◌, ◌&&◌, Bool, true, false, List, [], ◌∷◌, ◌++◌, Option, Some, None, nat_eq}
use Rattle.std.specs.List.{list_any, list_all}
use Rattle.nat_solver.specs.Number.{Expr, lit, var, sought, plus, times, number_at}
use Rattle.nat_solver.specs.declared.pattern.Pattern.{Pattern}
use Rattle.nat_solver.specs.declared.pattern.Pattern.TheVariants.{Lit, Var, Plus}
use Rattle.core_form.specs.Core.{Ty, Args, Item, Items, Condition, Input, Constructor, number, type, check, solve}
use Rattle.core_form.specs.Core.{field}
use Rattle.core_form.specs.Core.{nat32, bits, below, up_to, uint, int, bit_str, whole, variable, ref, repeat, dict}
use Rattle.core_form.specs.Core.{dict_e}
use Rattle.core_form.specs.Core.{named, group, no_args, nat_arg, ty_arg, out_arg, no_items, an_item, sets}
use Rattle.core_form.specs.Closed.{Closed}
use Rattle.core_form.specs.Scope.{Scope, type_at}

-- the slots that are set, those of types and of numbers
pub record Known : Type 0 where
  pub numbers : List ℕ
  pub types : List ℕ

abbrev pub is_in : List ℕ → ℕ → Bool
is_in vs v = list_any (nat_eq v) vs

-- a number without an unknown, all of whose variables are set
abbrev pub is_valued : Known → Expr → Bool
is_valued k (lit n) = true
is_valued k (var v) = is_in k.numbers v
is_valued k (sought v) = false
is_valued k (plus a b) = is_valued k a && is_valued k b
is_valued k (times n a) = is_valued k a

-- a side of an equation
abbrev pub is_valued_side : Known → Expr → Bool
is_valued_side k (lit n) = true
is_valued_side k (var v) = is_in k.numbers v
is_valued_side k (sought v) = true
is_valued_side k (plus a b) = is_valued_side k a && is_valued_side k b
is_valued_side k (times n a) = is_valued_side k a

abbrev pub is_valued_condition : Known → Option Condition → Bool
is_valued_condition k None = true
is_valued_condition k (Some c) = is_valued k c.number

abbrev pub with_numbers : List ℕ → Known → Known
with_numbers vs k = record k { numbers = vs ++ k.numbers }

-- after an item; what a record in it sets ends with it
abbrev pub after : Item → Known → Known
after (check a op b i) k = k
after (solve v a b i) k = with_numbers (v ∷ []) k
after (field x slot c t) k = with_numbers (sets slot t) k

abbrev mutual
  pub is_set_type : Known → Ty → Bool
  is_set_type k nat32 = true
  is_set_type k (bits e) = is_valued k e
  is_set_type k (below e) = is_valued k e
  is_set_type k (up_to e) = is_valued k e
  is_set_type k (uint e) = is_valued k e
  is_set_type k (int e) = is_valued k e
  is_set_type k (bit_str e) = is_valued k e
  is_set_type k whole = true
  is_set_type k (variable v) = is_in k.types v
  is_set_type k (ref t) = is_set_type k t
  is_set_type k (repeat e t) = is_valued k e && is_set_type k t
  is_set_type k (dict e t) = is_valued k e && is_set_type k t
  is_set_type k (dict_e e t) = is_valued k e && is_set_type k t
  is_set_type k (named x args) = are_set_args k args
  is_set_type k (group is) = are_set_items k is

  pub are_set_args : Known → Args → Bool
  are_set_args k no_args = true
  are_set_args k (nat_arg e args) = is_valued k e && are_set_args k args
  are_set_args k (ty_arg t args) = is_set_type k t && are_set_args k args
  are_set_args k (out_arg v args) = are_set_args k args

  pub is_set_item : Known → Item → Bool
  is_set_item k (check a op b i) = is_valued k a && is_valued k b
  is_set_item k (solve v a b i) = is_valued_side k a && is_valued_side k b
  is_set_item k (field x slot c t) = is_valued_condition k c && is_set_type k t

  pub are_set_items : Known → Items → Bool
  are_set_items k no_items = true
  are_set_items k (an_item i is) = is_set_item k i && are_set_items (after i k) is

-- what is set after the items
abbrev pub after_all : Items → Known → Known
after_all no_items k = k
after_all (an_item i is) k = after_all is (after i k)

abbrev pub pattern_sets : Pattern → List ℕ
pattern_sets (Lit n) = []
pattern_sets (Var v) = v ∷ []
pattern_sets (Plus v n) = v ∷ []

-- what the inputs set
abbrev pub known_by : List Input → Known
known_by [] = record { numbers = []; types = [] }
known_by (number p ∷ inputs) = with_numbers (pattern_sets p) (known_by inputs)
known_by (type v ∷ inputs) = let k = known_by inputs in record k { types = v ∷ k.types }

-- Each variable is set before it is used, in the items and in the outputs.
abbrev pub is_determined : Constructor → Bool
is_determined c =
    are_set_items (known_by c.inputs) c.items
    && list_all (is_valued (after_all c.items (known_by c.inputs))) c.outputs

-- ---- what is set in a scope

-- each slot that is known has its number or its closed type
pub record AreSet (k : Known) (scope : Scope) : Type 0 where
  pub numbers : (v : ℕ) → is_in k.numbers v ≡ true → (n : ℕ) × (number_at scope.numbers v ≡ Some n)
  pub types : (v : ℕ) → is_in k.types v ≡ true → (t : Closed) × (type_at scope v ≡ Some t)
