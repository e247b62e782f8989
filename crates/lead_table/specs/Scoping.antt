-- What stands first in a field, with names in scope.
use Rattle.std.specs.Prelude.{ℕ, List, map}
use Rattle.tlb_syntax.specs.Tree.{TypeView, SchemaView, plain, when, when_bit}
use Rattle.kind_terms.specs.Words.{Word}
use Rattle.schema_core.specs.Names.{Names, Variable}
use Rattle.schema_core.specs.CoreOf.{body_of}
use Rattle.schema_leads.specs.Leads.{First, anything, first_of_type}
use Rattle.lead_table.specs.declared.first.First.{First as ProgramFirst}
use Rattle.lead_table.specs.Heads.{IsFirst}

-- the names in scope, without what they stand for
abbrev pub names_of : Names → List Word
names_of names = map (λ (e : Word × Variable). e.0) names

-- a field with a condition begins with any bits
abbrev pub first_of_body : SchemaView → Names → ℕ → TypeView → First
first_of_body s names next (plain e) = first_of_type (body_of s names next e)
first_of_body s names next (when c e) = anything
first_of_body s names next (when_bit c k e) = anything

-- whatever the next slot
abbrev pub IsFirstOfField : SchemaView → Names → ProgramFirst → TypeView → Type 0
IsFirstOfField s names f t = (next : ℕ) → IsFirst s f (first_of_body s names next t)
