-- What the laws say: facts about the definitions alone.
use Rattle.std.specs.Prelude.{ℕ, ◌≡◌, ◌++◌, Bool, List}
use Rattle.kind_terms.specs.Words.{Word}
use Rattle.kind_terms.specs.Scopes.{Binding, Scope, meaning_in, at_end}
use Rattle.kind_terms.specs.Types.{type_named}
use Rattle.tlb_syntax.specs.Tree.{ItemList, ConstructorView, SchemaView}
use Rattle.core_form.specs.Plain.{IsPlain}
use Rattle.core_form.specs.Bounds.{IsWithin}
use Rattle.schema_core.specs.Names.{Names, meaning, type_called}
use Rattle.schema_core.specs.CoreOf.{core_of, names_after}
use Rattle.schema_core.specs.Same.{AreSameNames, IsSameMeaning, named_as}

-- numbers of a core form have no unknown, and each equation has one, once and not under a factor 0
abbrev pub CoreIsPlain : Type 0
CoreIsPlain = (types : SchemaView) (tag : List ℕ) (c : ConstructorView) → IsPlain (core_of types tag c)

-- each slot of a core form is one of its constructor, but that of what has no meaning
abbrev pub CoreIsWithin : Type 0
CoreIsWithin = (types : SchemaView) (tag : List ℕ) (c : ConstructorView) → IsWithin (core_of types tag c)

-- where the names in scope are the same, a name in scope stands for the same by the rules on kinds and in the core form
abbrev pub MeaningsAgree : Type 0
MeaningsAgree =
    (bindings : List Binding) (names : Names) (x : Word) → AreSameNames bindings names
    → IsSameMeaning (meaning_in bindings x) (meaning names x)

-- and they are the same after the items of a record, where they are so before
abbrev pub ScopesAgree : Type 0
ScopesAgree =
    (s : Scope) (is : ItemList) (names : Names) (next : ℕ) → AreSameNames (s.around ++ s.own) names
    → AreSameNames ((at_end s is).around ++ (at_end s is).own) (names_after is names next)

-- a name is the same type by the rules on kinds and in the core form
abbrev pub TypesAgree : Type 0
TypesAgree =
    (types : SchemaView) (x : Word) (has_arguments : Bool)
    → type_named types x has_arguments ≡ named_as has_arguments (type_called types x)
