-- What a word for a type is answered with in a schema.
use Rattle.std.specs.Prelude.{ℕ, List, Result}
use Rattle.tlb_syntax.specs.Tree.{SchemaView}
use Rattle.kind_terms.specs.Dictionaries.{of_type}
use Rattle.kind_terms.specs.Types.{first_kinds}
use Rattle.core_form.specs.Closed.{Closed}
use Rattle.type_closing.specs.Faults.{DeclaredKinds}
use Rattle.type_word.specs.declared.error.TypeError.{TypeError}
use Rattle.type_word.specs.Resolving.{Resolves}

-- the kinds of the parameters of the schema's types, which the first declaration of each fixes
abbrev pub kinds_of : SchemaView → DeclaredKinds
kinds_of s x = first_kinds (of_type s x)

-- the word's answer in a schema without the declarations that are passed over
abbrev pub ResolvesIn : SchemaView → List ℕ → Result Closed TypeError → Type 0
ResolvesIn s word r = Resolves (kinds_of s) word r
