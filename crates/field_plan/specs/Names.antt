-- What constructors are called by.
use Rattle.std.specs.Prelude.{◌≡◌, List, map}
use Rattle.core_form.specs.Core.{CoreSchema, Declaration}
use Rattle.field_plan.specs.declared.names.ConstructorName.{ConstructorName}

-- the name that a constructor is shown by, and its number
abbrev pub name_of : Declaration → ConstructorName
name_of d = record { shown = d.shown; number = d.number }

-- those of each constructor of the schema
abbrev pub AreNames : CoreSchema → List ConstructorName → Type 0
AreNames s names = names ≡ map name_of s
