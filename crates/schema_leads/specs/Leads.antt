-- The leads of a constructor: bits one of which stands at the beginning of whatever it spells.
-- Source: this project's rule, after the TON documentation on the TL-B language (constructors of a type are told apart by
-- their tags; a constructor may have the empty tag).
use Rattle.std.specs.Prelude.{ℕ, zero, suc, ◌&&◌, Bool, true, false, List, [], ◌∷◌, ◌++◌, map, filter, length}
use Rattle.std.specs.Prelude.{Some, None, bytes_eq, nat_eq, nat_lt, if◌then◌else◌}
use Rattle.std.specs.List.{flat_map, list_any}
use Rattle.tlb_guard.specs.DeclaredTypes.{distinct}
use Rattle.core_form.specs.Core.{Word, Condition, Ty, Items, check, solve, field, no_items, an_item, Declaration, CoreSchema}
use Rattle.core_form.specs.Core as core

-- whether the second list of bits begins with the first
abbrev pub begins : List ℕ → List ℕ → Bool
begins [] bits = true
begins (b ∷ lead) [] = false
begins (b ∷ lead) (c ∷ bits) = nat_eq b c && begins lead bits

abbrev pub Leads : Type 0
Leads = List (List ℕ)

-- the empty lead alone: any bits
abbrev pub any_bits : Leads
any_bits = [] ∷ []

-- ---- what stands first

-- what a type begins with: any bits, one of these leads, or what a declared type begins with
pub data First : Type 0 where
  anything : First
  fixed : Leads → First
  declared : Word → First

-- the label of a Hashmap is short, long or of one bit repeated
abbrev pub hashmap_leads : Leads
hashmap_leads = (0 ∷ []) ∷ (1 ∷ 0 ∷ []) ∷ (1 ∷ 1 ∷ []) ∷ []

-- the bit of a HashmapE
abbrev pub hashmap_e_leads : Leads
hashmap_e_leads = (0 ∷ []) ∷ (1 ∷ []) ∷ []

-- of a type, and of a record by its first explicit field; a field with a condition begins with any bits
abbrev mutual
  pub first_of_type : Ty → First
  first_of_type (core.named x args) = declared x
  first_of_type (core.dict e t) = fixed hashmap_leads
  first_of_type (core.dict_e e t) = fixed hashmap_e_leads
  first_of_type (core.group is) = first_of is
  first_of_type core.nat32 = anything
  first_of_type (core.bits e) = anything
  first_of_type (core.below e) = anything
  first_of_type (core.up_to e) = anything
  first_of_type (core.uint e) = anything
  first_of_type (core.int e) = anything
  first_of_type (core.bit_str e) = anything
  first_of_type core.whole = anything
  first_of_type (core.variable v) = anything
  first_of_type (core.ref t) = anything
  first_of_type (core.repeat e t) = anything

  pub first_of : Items → First
  first_of no_items = anything
  first_of (an_item (check a op b place) is) = first_of is
  first_of (an_item (solve v a b place) is) = first_of is
  first_of (an_item (field x slot None t) is) = first_of_type t
  first_of (an_item (field x slot (Some c) t) is) = anything

-- ---- sets of leads

-- one more, unless it is there
abbrev pub with_lead : Leads → List ℕ → Leads
with_lead ls l = if list_any (bytes_eq l) ls then ls else ls ++ l ∷ []

-- further ones, each once
abbrev pub with_leads : Leads → Leads → Leads
with_leads ls [] = ls
with_leads ls (k ∷ ks) = with_leads (with_lead ls k) ks

-- at most 64, or the empty lead alone
abbrev pub at_most_64 : Leads → Leads
at_most_64 ls = if nat_lt 64 (length ls) then any_bits else ls

-- ---- leads by those of declared types

abbrev pub by_first : (Word → Leads) → First → Leads
by_first of_type anything = any_bits
by_first of_type (fixed ls) = ls
by_first of_type (declared x) = at_most_64 (of_type x)

-- a tag that is not empty is the only lead
abbrev pub by_tag : List ℕ → Leads → Leads
by_tag [] ls = ls
by_tag (b ∷ tag) ls = (b ∷ tag) ∷ []

abbrev pub of_declaration : (Word → Leads) → Declaration → Leads
of_declaration of_type d = by_tag d.core.tag (by_first of_type (first_of d.core.items))

-- the declarations of a type
abbrev pub of_type_named : CoreSchema → Word → CoreSchema
of_type_named s x = filter (λ (d : Declaration). bytes_eq d.of_type x) s

-- the leads of all constructors of a type together
unfoldable pub together : (Word → Leads) → CoreSchema → Word → Leads
together of_type s x = with_leads [] (flat_map (of_declaration of_type) (of_type_named s x))

-- ---- by rounds

-- how many types are declared
abbrev pub type_count : CoreSchema → ℕ
type_count s = length (distinct (map (λ (d : Declaration). d.of_type) s))

-- the leads of declared types, by rounds that begin empty
unfoldable pub rounds : ℕ → CoreSchema → Word → Leads
rounds zero s x = []
rounds (suc n) s x = together (rounds n s) s x

-- the leads of a declared type: the round whose number is the count of declared types
abbrev pub type_leads : CoreSchema → Word → Leads
type_leads s x = rounds (type_count s) s x

-- the leads of a constructor of the schema
unfoldable pub leads : CoreSchema → Declaration → Leads
leads s d = of_declaration (type_leads s) d

-- whether one of the leads begins the bits
abbrev pub some_begins : Leads → List ℕ → Bool
some_begins ls bits = list_any (λ l. begins l bits) ls
