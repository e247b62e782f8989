-- Types that begin with one another: the leads of a constructor with the empty tag are those of the type of its first
-- field, and so on.
use Rattle.std.specs.Prelude.{ℕ, zero, suc, ◌≡◌, true, [], Some, None, map, slice_get}
use Rattle.tlb_syntax.specs.Tree.{SchemaView}
use Rattle.kind_terms.specs.Words.{is_among}
use Rattle.tlb_guard.specs.Cycles.{first_unguarded}
use Rattle.core_form.specs.Core.{Word, Declaration, CoreSchema}
use Rattle.schema_leads.specs.Leads.{first_of, declared}

abbrev pub IsDeclared : CoreSchema → Word → Type 0
IsDeclared s x = is_among (map (λ (d : Declaration). d.of_type) s) x ≡ true

-- a constructor of the first type has the empty tag, and its first explicit field is of the second, a declared one
pub record BeginsWithType (s : CoreSchema) (x y : Word) : Type 0 where
  pub place : ℕ
  pub constructor : Declaration
  pub there : slice_get s place ≡ Some constructor
  pub of_type : constructor.of_type ≡ x
  pub empty_tag : constructor.core.tag ≡ []
  pub first : first_of constructor.core.items ≡ declared y
  pub is_declared : IsDeclared s y

-- so many types that begin with one another, from this one on
abbrev pub Chain : CoreSchema → ℕ → Word → Type 0
Chain s zero x = Unit {0}
Chain s (suc n) x = (y : Word) × BeginsWithType s x y × Chain s n y

-- so many types that begin with one another lead from the first type to the second
abbrev pub LeadsTo : CoreSchema → ℕ → Word → Word → Type 0
LeadsTo s zero x y = x ≡ y
LeadsTo s (suc n) x y = (z : Word) × BeginsWithType s x z × LeadsTo s n z y

-- no type leads back to itself before anything is taken
abbrev pub IsGuarded : SchemaView → Type 0
IsGuarded s = first_unguarded s ≡ None
