-- What the leads of a constructor come from.
use Rattle.std.specs.Prelude.{ℕ, suc, ◌≡◌, ◌<◌, Bool, true, false, List, [], ◌∷◌, map, length, All, Option, Some, None}
use Rattle.std.specs.Prelude.{slice_get, nat_eq, if◌then◌else◌}
use Rattle.std.specs.List.{flat_map}
use Rattle.tlb_syntax.specs.Tree.{ConstructorView, SchemaView}
use Rattle.tlb_guard.specs.Numbering.{place_of, word_at}
use Rattle.lead_table.specs.declared.first.First.{First as ProgramFirst}
use Rattle.lead_table.specs.declared.first.First.TheVariants.{Anything, Label, RootBit, Declared}
use Rattle.lead_table.specs.declared.heads.Head.{Head}
use Rattle.schema_core.specs.CoreOf.{items_of}
use Rattle.schema_leads.specs.Tags.{tag_of}
use Rattle.schema_leads.specs.Leads.{First, anything, fixed, declared, first_of, Leads, any_bits, hashmap_leads}
use Rattle.schema_leads.specs.Leads.{hashmap_e_leads, by_tag}

-- a declared type stands by its number, the place of its first constructor
abbrev pub IsNumber : SchemaView → ℕ → Type 0
IsNumber s n = place_of s (word_at s n) ≡ Some n

abbrev pub first_by : SchemaView → ProgramFirst → First
first_by s Anything = anything
first_by s Label = fixed hashmap_leads
first_by s RootBit = fixed hashmap_e_leads
first_by s (Declared n) = declared (word_at s n)

abbrev pub IsNumbered : SchemaView → ProgramFirst → Type 0
IsNumbered s (Declared n) = IsNumber s n
IsNumbered s Anything = Unit {0}
IsNumbered s Label = Unit {0}
IsNumbered s RootBit = Unit {0}

-- what stands first in items
pub record IsFirst (s : SchemaView) (f : ProgramFirst) (first : First) : Type 0 where
  pub is : first_by s f ≡ first
  pub numbered : IsNumbered s f

-- the head of a constructor of the schema
pub record IsHead (s : SchemaView) (c : ConstructorView) (h : Head) : Type 0 where
  pub of_type : place_of s c.result ≡ Some h.of_type
  pub tag : h.tag ≡ tag_of c
  pub first : IsFirst s h.first (first_of (items_of s [] 0 1 0 c.items))

-- the heads of these constructors of the schema
abbrev pub AreHeads : SchemaView → SchemaView → List Head → Type 0
AreHeads s [] [] = Unit {0}
AreHeads s [] (h ∷ hs) = ⊥
AreHeads s (c ∷ cs) [] = ⊥
AreHeads s (c ∷ cs) (h ∷ hs) = IsHead s c h × AreHeads s cs hs

abbrev pub IsTypeBelow : ℕ → Head → Type 0
IsTypeBelow count h = h.of_type < count

-- ---- members

-- the places of the heads of a type, where the first of them stands at this place
abbrev pub places : ℕ → ℕ → List Head → List ℕ
places t k [] = []
places t k (h ∷ hs) = if nat_eq h.of_type t then k ∷ places t (suc k) hs else places t (suc k) hs

-- for each type its places
abbrev pub AreMembers : List Head → List (List ℕ) → Type 0
AreMembers hs members = (t : ℕ) → t < length members → slice_get members t ≡ Some (places t 0 hs)

-- ---- leads

-- by the leads of types, by their numbers
abbrev pub leads_first : (ℕ → Leads) → ProgramFirst → Leads
leads_first of_type Anything = any_bits
leads_first of_type Label = hashmap_leads
leads_first of_type RootBit = hashmap_e_leads
leads_first of_type (Declared n) = of_type n

abbrev pub leads_by : (ℕ → Leads) → Head → Leads
leads_by of_type h = by_tag h.tag (leads_first of_type h.first)

abbrev pub leads_at : (ℕ → Leads) → Option Head → Leads
leads_at of_type None = []
leads_at of_type (Some h) = leads_by of_type h

-- of the heads at these places
abbrev pub leads_of_members : (ℕ → Leads) → List Head → List ℕ → Leads
leads_of_members of_type hs members = flat_map (λ i. leads_at of_type (slice_get hs i)) members
