-- What the rules on kinds and the core form say of one name.
use Rattle.std.specs.Prelude.{◌≡◌, Bool, List, [], ◌∷◌, Option, Some, None}
use Rattle.kind_terms.specs.declared.scope.Meaning.{Meaning}
use Rattle.kind_terms.specs.declared.scope.Meaning.TheVariants.{ImplicitNumber, FieldNumber, TypeVariable, OtherField}
use Rattle.kind_terms.specs.declared.kind.TermKind.TheVariants.{NumberIn, TypeIn}
use Rattle.kind_terms.specs.Scopes.{Binding}
use Rattle.kind_terms.specs.Types.{TypeNamed, basic, family_kinds}
use Rattle.kind_terms.specs.Types as kinds
use Rattle.schema_core.specs.Names.{Names, Variable, a_number, a_type, other, TypeName, no_type, type_word, anything}
use Rattle.schema_core.specs.Names.{family}
use Rattle.schema_core.specs.Names.{family_of, hashmap_type, hashmap_e_type, declared}

-- ---- names in scope

abbrev pub IsSameVariable : Meaning → Variable → Type 0
IsSameVariable ImplicitNumber (a_number v) = Unit {0}
IsSameVariable FieldNumber (a_number v) = Unit {0}
IsSameVariable TypeVariable (a_type v) = Unit {0}
IsSameVariable OtherField other = Unit {0}
IsSameVariable _ _ = ⊥

abbrev pub IsSameMeaning : Option Meaning → Option Variable → Type 0
IsSameMeaning None None = Unit {0}
IsSameMeaning (Some m) (Some v) = IsSameVariable m v
IsSameMeaning _ _ = ⊥

-- the same names, one by one
abbrev pub AreSameNames : List Binding → Names → Type 0
AreSameNames [] [] = Unit {0}
AreSameNames (b ∷ bs) (e ∷ es) = (b.name ≡ e.0) × IsSameVariable b.meaning e.1 × AreSameNames bs es
AreSameNames _ _ = ⊥

-- ---- names of types

-- with arguments or without
abbrev pub named_as : Bool → TypeName → TypeNamed
named_as has_arguments no_type = kinds.no_type
named_as has_arguments type_word = kinds.type_word has_arguments
named_as has_arguments anything = basic []
named_as has_arguments (family f) = basic (family_kinds f)
named_as has_arguments (family_of f n) = basic []
named_as has_arguments hashmap_type = kinds.declared (NumberIn 1023 ∷ TypeIn ∷ [])
named_as has_arguments hashmap_e_type = kinds.declared (NumberIn 1023 ∷ TypeIn ∷ [])
named_as has_arguments (declared ks) = kinds.declared ks
