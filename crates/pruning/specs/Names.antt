-- Records that name their fields apart.
--
-- Source: this project's own. An accepted schema is so: two fields of one name are refused there.
use Rattle.std.specs.Prelude.{◌≡◌, ℕ, List, [], ◌∷◌, Some, slice_get}
use Rattle.core_form.specs.Core.{Word, Ty, Items, Declaration, CoreSchema, check, solve, field, no_items, an_item}
use Rattle.core_form.specs.Core.{field_names}
use Rattle.core_form.specs.Core as core

abbrev pub NotAmong : Word → List Word → Type 0
NotAmong x [] = Unit {0}
NotAmong x (y ∷ ys) = (x ≡ y → ⊥) × NotAmong x ys

-- No two fields of a record are shown by one name, nor of the records in it.
abbrev mutual
  pub AreApart : Items → Type 0
  AreApart no_items = Unit {0}
  AreApart (an_item (check a op b i) is) = AreApart is
  AreApart (an_item (solve v a b i) is) = AreApart is
  AreApart (an_item (field x slot c t) is) = NotAmong x (field_names is) × AreApartIn t × AreApart is

  pub AreApartIn : Ty → Type 0
  AreApartIn (core.group is) = AreApart is
  AreApartIn (core.ref t) = AreApartIn t
  AreApartIn core.nat32 = Unit {0}
  AreApartIn (core.bits e) = Unit {0}
  AreApartIn (core.below e) = Unit {0}
  AreApartIn (core.up_to e) = Unit {0}
  AreApartIn (core.uint e) = Unit {0}
  AreApartIn (core.int e) = Unit {0}
  AreApartIn (core.bit_str e) = Unit {0}
  AreApartIn core.whole = Unit {0}
  AreApartIn (core.variable v) = Unit {0}
  AreApartIn (core.repeat e t) = Unit {0}
  AreApartIn (core.dict e t) = Unit {0}
  AreApartIn (core.dict_e e t) = Unit {0}
  AreApartIn (core.named x args) = Unit {0}

abbrev pub NamesFieldsApart : CoreSchema → Type 0
NamesFieldsApart schema = (i : ℕ) (c : Declaration) → slice_get schema i ≡ Some c → AreApart c.core.items
