-- What the program's values stand for.
use Rattle.std.specs.Prelude.{ℕ, ◌≡◌, ◌<◌, ◌*◌, ◌&&◌, ◌||◌, ◌++◌, List, [], map, filter, length, All, Bool, false, Option, Some, None, bytes_eq, if◌then◌else◌}
use Rattle.std.specs.List.{list_all}
use Rattle.tlb_syntax.specs.declared.tree.Constructor.{Constructor}
use Rattle.tlb_syntax.specs.Tree.{ConstructorView, SchemaView}
use Rattle.tlb_guard.specs.declared.empty.Needs.{Needs}
use Rattle.tlb_guard.specs.declared.rules.Rule.{Rule}
use Rattle.tlb_guard.specs.declared.exposures.ExposedTerm.{ExposedTerm as ProgramTerm}
use Rattle.tlb_guard.specs.declared.exposures.ExposedTerm.TheVariants.{Declared, Variable}
use Rattle.tlb_guard.specs.declared.exposures.Exposure.{Exposure}
use Rattle.tlb_guard.specs.declared.exposures.Exposures.{Exposures}
use Rattle.kind_terms.specs.Words.{Word}
use Rattle.tlb_guard.specs.Scoping.{names}
use Rattle.tlb_guard.specs.Rounds.{Test}
use Rattle.tlb_guard.specs.Facts.{IsBelow, gives, holds}
use Rattle.tlb_guard.specs.Numbering.{views, place_of, word_at, width, types_in, parameters_in}
use Rattle.tlb_guard.specs.Empty.{may_be_empty_constructor}
use Rattle.tlb_guard.specs.Exposed.{ExposedTerm, a_type, a_variable, Known, Exposed, through as by_item}

abbrev pub term_by : SchemaView → ProgramTerm → ExposedTerm
term_by s (Declared n) = a_type (word_at s n)
term_by s (Variable x) = a_variable x.now

abbrev pub exposed_as : SchemaView → Exposure → Exposed
exposed_as s l = record { item = l.item; term = term_by s l.term }

-- the exposure holds where these parameters are exposed
abbrev pub is_through : Test ℕ → Exposure → Bool
is_through t l = list_all t l.through

-- what is exposed by the exposures of a constructor, where these parameters are
abbrev pub exposed_in : SchemaView → Test ℕ → List Exposure → List Exposed
exposed_in s t exposures = map (exposed_as s) (filter (is_through t) exposures)

-- what is known where these types may take nothing, and these parameters are exposed
abbrev pub knowing : SchemaView → List Bool → Test ℕ → Known
knowing s empty t = record { types = s; empty = types_in s (holds empty); exposed = parameters_in s t }

-- a type stands there by its own number
abbrev pub IsNumber : SchemaView → ProgramTerm → Type 0
IsNumber s (Declared n) = place_of s (word_at s n) ≡ Some n
IsNumber s (Variable x) = Unit {0}

-- the numbers of types and of parameters are those of the schema
abbrev pub IsWithin : SchemaView → Exposure → Type 0
IsWithin s l = IsNumber s l.term × All (λ n. n < length s * width s) l.through

-- ---- what is gathered of what may take nothing

-- The needed types may take nothing, where the expression may: `may` says whether it may, if they may.
abbrev pub IsNeeding : (Test Word → List Word → Bool) → Needs → Needs → Bool → Type 0
IsNeeding value old new may =
    (t : Test ℕ) → (list_all t old.needed && value (types_in (views old.types.now) t) (names old.scope)) ≡ (may && list_all t new.needed)

abbrev pub AreTypes : SchemaView → List ℕ → Type 0
AreTypes s numbers = All (λ n. n < length s) numbers

-- the types are the same, and the needed ones are those of the schema
pub record KeepsTypes (old new : Needs) : Type 0 where
  pub types : new.types ≡ old.types
  pub below : AreTypes (views old.types.now) old.needed → AreTypes (views old.types.now) new.needed

-- a constructor may take nothing where these types may
abbrev pub MeetsNeeds : SchemaView → ConstructorView → Option (List ℕ) → Type 0
MeetsNeeds s c None = (t : Test ℕ) → may_be_empty_constructor (types_in s t) c ≡ false
MeetsNeeds s c (Some ns) = ((t : Test ℕ) → may_be_empty_constructor (types_in s t) c ≡ list_all t ns) × AreTypes s ns

-- one more rule: the type of the constructor may take nothing where the constructor may
pub record AddsRule (s : SchemaView) (c : ConstructorView) (old new : List Rule) : Type 0 where
  pub below : All (IsBelow (length s)) old → All (IsBelow (length s)) new
  pub given : (t : Test ℕ) (x : Word) (n m : ℕ) → place_of s x ≡ Some n → place_of s c.result ≡ Some m
      → gives new [] t n ≡ (gives old [] t n || (bytes_eq c.result x && may_be_empty_constructor (types_in s t) c))

-- ---- what is gathered of what is exposed

-- what stands at an item, where these parameters are exposed
abbrev pub terms_through : Test ℕ → List ℕ → ℕ → List ExposedTerm → List Exposed
terms_through t parameters item terms_of = if list_all t parameters then map (by_item item) terms_of else []

-- The exposures grow by those of these terms: through which parameters, at which item, and where these types are declared
-- and may take nothing.
abbrev pub ExposesThrough : List Constructor → List Bool → List ℕ → ℕ → (Known → List Word → List ExposedTerm) → Exposures → Exposures → Type 0
ExposesThrough types empty parameters item terms_of old new =
    (t : Test ℕ) → exposed_in (views types) t new.exposures
    ≡ exposed_in (views types) t old.exposures ++ terms_through t parameters item (terms_of (knowing (views types) empty t) (names old.scope))

abbrev pub Exposes : (Known → List Word → List ExposedTerm) → Exposures → Exposures → Type 0
Exposes terms_of old new = ExposesThrough old.types.now old.empty.now old.through old.item terms_of old new

abbrev pub AreParameters : SchemaView → List ℕ → Type 0
AreParameters s numbers = All (λ n. n < length s * width s) numbers

-- only the scope and the exposures differ, and these are within the schema
pub record KeepsExposures (old new : Exposures) : Type 0 where
  pub types : new.types ≡ old.types
  pub empty : new.empty ≡ old.empty
  pub item : new.item ≡ old.item
  pub through : new.through ≡ old.through
  pub within : AreParameters (views old.types.now) old.through → All (IsWithin (views old.types.now)) old.exposures → All (IsWithin (views old.types.now)) new.exposures

-- whether it may take nothing, where these types may
abbrev pub IsEmpty : (Test Word → List Word → Bool) → Exposures → Bool → Type 0
IsEmpty value old may = may ≡ value (types_in (views old.types.now) (holds old.empty.now)) (names old.scope)
