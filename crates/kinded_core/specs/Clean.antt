-- What is judged and not refused, and names in scope whose variables have slots that are set.
use Rattle.std.specs.Prelude.{◌≡◌, ◌++◌, ℕ, false, true, List, [], ◌∷◌, Some}
use Rattle.kind_declarations.specs.declared.error.Cause.{Cause}
use Rattle.kind_declarations.specs.Faults.{has}
use Rattle.kind_declarations.specs.Nodes.{Node, Judged}
use Rattle.kind_terms.specs.Words.{Word}
use Rattle.kind_terms.specs.Scopes.{Scope, is_known}
use Rattle.core_form.specs.Determined.{Known, is_in}
use Rattle.schema_core.specs.Names.{Names, Variable, a_number, a_type, meaning}
use Rattle.schema_core.specs.Same.{AreSameNames}

-- no cause holds of it
abbrev pub IsClean : Node → Type 0
IsClean n = (c : Cause) → has n c ≡ false

abbrev pub AreClean : List Judged → Type 0
AreClean [] = Unit {0}
AreClean (j ∷ js) = IsClean j.node × AreClean js

-- The names in scope are the same; each known one is in scope, and the slot of a known variable is set.
pub record Agrees (s : Scope) (names : Names) (k : Known) : Type 0 where
  pub same : AreSameNames (s.around ++ s.own) names
  pub bound : (x : Word) → is_known s x ≡ true → (v : Variable) × (meaning names x ≡ Some v)
  pub numbers : (x : Word) (v : ℕ) → is_known s x ≡ true → meaning names x ≡ Some (a_number v)
      → is_in k.numbers v ≡ true
  pub types : (x : Word) (v : ℕ) → is_known s x ≡ true → meaning names x ≡ Some (a_type v) → is_in k.types v ≡ true
