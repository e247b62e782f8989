-- What the laws need of a schema: numbers in range, one unknown in each equation, no chain of first fields without end,
-- and constructors that differ before one of them is entered. Each is a rule of the syntax tree's ranges, of kinds, of the
-- guard, or of separation.
use Rattle.std.specs.Prelude.{ℕ, ◌≡◌, ◌^◌, ◌<◌, List, [], ◌∷◌, Some, slice_get}
use Rattle.nat_solver.specs.Number.{OneUnknown}
use Rattle.nat_solver.specs.declared.pattern.Pattern.{Pattern}
use Rattle.nat_solver.specs.declared.pattern.Pattern.TheVariants.{Lit, Var, Plus}
use Rattle.core_form.specs.Core.{Word, Ty, Items, Input, Declaration, CoreSchema, check, solve, field, no_items, an_item}
use Rattle.core_form.specs.Core as core
use Rattle.schema_leads.specs.Leads.{type_count}
use Rattle.schema_leads.specs.FirstFields.{IsDeclared, Chain}
use Rattle.schema_leads.specs.Separation.{AreSeparated}

-- Each equation of a record, and of the records in it, seeks its one unknown.
abbrev mutual
  pub Seeks : Items → Type 0
  Seeks no_items = Unit {0}
  Seeks (an_item (check a op b i) is) = Seeks is
  Seeks (an_item (solve v a b i) is) = OneUnknown a b v × Seeks is
  Seeks (an_item (field x slot c t) is) = SeeksIn t × Seeks is

  pub SeeksIn : Ty → Type 0
  SeeksIn (core.group is) = Seeks is
  SeeksIn (core.ref t) = SeeksIn t
  SeeksIn core.nat32 = Unit {0}
  SeeksIn (core.bits e) = Unit {0}
  SeeksIn (core.below e) = Unit {0}
  SeeksIn (core.up_to e) = Unit {0}
  SeeksIn (core.uint e) = Unit {0}
  SeeksIn (core.int e) = Unit {0}
  SeeksIn (core.bit_str e) = Unit {0}
  SeeksIn core.whole = Unit {0}
  SeeksIn (core.variable v) = Unit {0}
  SeeksIn (core.repeat e t) = Unit {0}
  SeeksIn (core.dict e t) = Unit {0}
  SeeksIn (core.dict_e e t) = Unit {0}
  SeeksIn (core.named x args) = Unit {0}

-- the number in a pattern is one of 32 bits
abbrev pub InRange : Pattern → Type 0
InRange (Lit n) = n < 2 ^ 32
InRange (Var v) = Unit {0}
InRange (Plus v k) = k < 2 ^ 32

abbrev pub AreInRange : List Input → Type 0
AreInRange [] = Unit {0}
AreInRange (core.number p ∷ inputs) = InRange p × AreInRange inputs
AreInRange (core.type v ∷ inputs) = AreInRange inputs

pub record IsAcceptable (schema : CoreSchema) : Type 0 where
  pub seeks : (i : ℕ) (c : Declaration) → slice_get schema i ≡ Some c → Seeks c.core.items
  pub in_range : (i : ℕ) (c : Declaration) → slice_get schema i ≡ Some c → AreInRange c.core.inputs
  pub guarded : (x : Word) → IsDeclared schema x → Chain schema (type_count schema) x → ⊥
  pub separated : (i j : ℕ) (c e : Declaration) → slice_get schema i ≡ Some c → slice_get schema j ≡ Some e
      → c.of_type ≡ e.of_type → (i ≡ j → ⊥) → AreSeparated schema c e
