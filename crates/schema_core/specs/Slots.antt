-- Slots: each implicit field has one, and each named field of numbers without a condition, in the order of the text,
-- those
-- of records in a record included.
use Rattle.std.specs.Prelude.{ℕ, ◌+◌, Bool, true, false, Option, Some, None}
use Rattle.tlb_syntax.specs.Tree.{ExprView, ItemView, ItemList, TypeView, lit, named, nat32, bits, below, up_to, plus}
use Rattle.tlb_syntax.specs.Tree.{star}
use Rattle.tlb_syntax.specs.Tree.{out, ref, group, plain, when, when_bit, implicit, check, explicit, no_items, an_item}
use Rattle.kind_terms.specs.Words.{Word}
use Rattle.kind_terms.specs.Forms.{is_field_of_numbers}

-- the slot of a field of numbers that has a name
abbrev pub field_slots : Option Word → Bool → ℕ
field_slots (Some x) true = 1
field_slots (Some x) false = 0
field_slots None b = 0

-- of the item itself
abbrev pub own_slots : ItemView → ℕ
own_slots (implicit x k) = 1
own_slots (check a op b) = 0
own_slots (explicit x t) = field_slots x (is_field_of_numbers t)

-- A record stands as the type of a field, or under one `^` there.
abbrev mutual
  pub slots_in : ItemList → ℕ
  slots_in no_items = 0
  slots_in (an_item i is) = (own_slots i + inner_slots i) + slots_in is

  -- of the records in an item
  pub inner_slots : ItemView → ℕ
  inner_slots (implicit x k) = 0
  inner_slots (check a op b) = 0
  inner_slots (explicit x t) = type_slots t

  pub type_slots : TypeView → ℕ
  type_slots (plain e) = slots_at e
  type_slots (when c e) = slots_at e
  type_slots (when_bit c k e) = slots_at e

  pub slots_at : ExprView → ℕ
  slots_at (group is) = slots_in is
  slots_at (ref e) = slots_under e
  slots_at (lit n) = 0
  slots_at (named x es) = 0
  slots_at nat32 = 0
  slots_at (bits es) = 0
  slots_at (below es) = 0
  slots_at (up_to es) = 0
  slots_at (plus a b) = 0
  slots_at (star a b) = 0
  slots_at (out e) = 0

  pub slots_under : ExprView → ℕ
  slots_under (group is) = slots_in is
  slots_under (ref e) = 0
  slots_under (lit n) = 0
  slots_under (named x es) = 0
  slots_under nat32 = 0
  slots_under (bits es) = 0
  slots_under (below es) = 0
  slots_under (up_to es) = 0
  slots_under (plus a b) = 0
  slots_under (star a b) = 0
  slots_under (out e) = 0

-- the slots that are taken after an item
abbrev pub next_slot : ℕ → ItemView → ℕ
next_slot next i = (next + own_slots i) + inner_slots i
