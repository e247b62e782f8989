-- What is kept of a schema in which nothing is refused.
use Rattle.std.specs.Prelude.{◌≡◌, All, false}
use Rattle.tlb_syntax.specs.Limits.{IsWithinLimits}
use Rattle.tlb_syntax.specs.Tree.{ConstructorView, SchemaView}
use Rattle.kind_terms.specs.Classes.{is_dictionary}
use Rattle.tlb_kinds.specs.Refusals.{IsKinded}

-- a declaration of ordinary cells
abbrev pub IsOrdinary : ConstructorView → Type 0
IsOrdinary c = c.exotic ≡ false

-- a declaration of a type that is no dictionary
abbrev pub IsNoDictionary : ConstructorView → Type 0
IsNoDictionary c = is_dictionary c.result ≡ false

-- A schema without a refusal, within the limits of a text, in which no declaration is left that is passed over.
pub record IsKept (s : SchemaView) : Type 0 where
  pub kinded : IsKinded s
  pub within : IsWithinLimits s
  pub ordinary : All IsOrdinary s
  pub no_dictionaries : All IsNoDictionary s
