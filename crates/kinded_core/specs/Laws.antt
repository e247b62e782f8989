-- What the laws say: facts about the definitions alone.
use Rattle.std.specs.Prelude.{ℕ, ◌≡◌, Bool, true, false, List, Option, Some, None, map, All}
use Rattle.tlb_syntax.specs.Tree.{ConstructorView, SchemaView, ExprList}
use Rattle.kind_terms.specs.Words.{Word}
use Rattle.kind_terms.specs.Classes.{name_class}
use Rattle.kind_terms.specs.Types.{has_exprs}
use Rattle.tlb_guard.specs.Empty.{class_in}
use Rattle.tlb_guard.specs.DeclaredTypes.{is_declared_type}
use Rattle.tlb_kinds.specs.Refusals.{IsKinded, kept_of}
use Rattle.core_form.specs.Core.{Declaration}
use Rattle.schema_core.specs.Names.{Names, TypeName, no_type, type_word, anything, family, family_of, hashmap_type}
use Rattle.schema_core.specs.Names.{hashmap_e_type}
use Rattle.schema_core.specs.Names.{declared, meaning, type_called}
use Rattle.schema_core.specs.Cores.{cores_of}
use Rattle.kinded_core.specs.Resolved.{IsResolved}

-- in a schema of whose kinds and guard nothing is refused, the core form of each constructor is resolved
abbrev pub KindedIsResolved : Type 0
KindedIsResolved =
    (s : SchemaView) (tag : ConstructorView → List ℕ) → IsKinded s
    → All (λ (d : Declaration). IsResolved d.core) (cores_of tag (kept_of s))

-- ---- names, as the guard reads them

abbrev pub is_there : {X : Type 0} → Option X → Option (Unit {0})
is_there None = None
is_there (Some x) = Some tt

abbrev pub is_declared : TypeName → Bool
is_declared (declared ks) = true
is_declared no_type = false
is_declared type_word = false
is_declared anything = false
is_declared (family f) = false
is_declared (family_of f n) = false
is_declared hashmap_type = false
is_declared hashmap_e_type = false

-- a name is a field in scope, or a word of the same class, by the guard and in the core form
abbrev pub GuardAgrees : Type 0
GuardAgrees =
    (names : Names) (x : Word) (es : ExprList)
    → class_in (map (λ e. e.0) names) x es ≡ name_class (is_there (meaning names x)) x (has_exprs es)

-- a name is that of a declared type by the guard where it is so in the core form
abbrev pub DeclaredAgree : Type 0
DeclaredAgree = (types : SchemaView) (x : Word) → is_declared_type types x ≡ is_declared (type_called types x)
