-- The core forms of a schema.
-- Source: that a constructor without a name is shown by its number is this project's rule.
use Rattle.std.specs.Prelude.{ℕ, ◌+◌, List, [], ◌∷◌, ◌++◌, length, Option, Some, None, codes, decimal}
use Rattle.tlb_syntax.specs.Tree.{ConstructorView, SchemaView}
use Rattle.kind_terms.specs.Words.{Word}
use Rattle.kind_terms.specs.Dictionaries.{of_type}
use Rattle.core_form.specs.Core.{Declaration, CoreSchema}
use Rattle.schema_core.specs.CoreOf.{core_of}

-- the name of a constructor, or `_i` for an unnamed one that is the i-th of its type
abbrev pub shown_name : Option Word → ℕ → Word
shown_name (Some x) i = x
shown_name None i = codes "_" ++ decimal i

-- the place of a declaration after these among those of its type, from 1
abbrev pub number_after : SchemaView → ConstructorView → ℕ
number_after before c = length (of_type before c.result) + 1

-- a declaration with this tag after these, where these types are declared
abbrev pub declaration_of : SchemaView → List ℕ → SchemaView → ConstructorView → Declaration
declaration_of types tag before c = record {
  of_type = c.result;
  shown = shown_name c.name (number_after before c);
  number = number_after before c;
  core = core_of types tag c;
}

-- of declarations after these, each with the tag that it has by this function
abbrev pub cores_after : SchemaView → (ConstructorView → List ℕ) → SchemaView → SchemaView → CoreSchema
cores_after types tag before [] = []
cores_after types tag before (c ∷ cs) =
    declaration_of types (tag c) before c ∷ cores_after types tag (before ++ c ∷ []) cs

-- The core forms of the declarations of a schema, in their order, where each has the tag that this function gives it.
-- The
-- schema stands here without the declarations that are passed over.
abbrev pub cores_of : (ConstructorView → List ℕ) → SchemaView → CoreSchema
cores_of tag types = cores_after types tag [] types
