-- What the laws say: facts about the definitions alone.
use Rattle.std.specs.Prelude.{ℕ, ◌≡◌, ◌≤◌, List, Result, Ok, Err}
use Rattle.tlb_syntax.specs.Tree.{ConstructorView, SchemaView}
use Rattle.core_form.specs.Closed.{Closed, ClosedOf, nodes}
use Rattle.schema_core.specs.Cores.{cores_of}
use Rattle.type_closing.specs.Faults.{DeclaredKinds}
use Rattle.type_word.specs.declared.error.TypeError.{TypeError}
use Rattle.type_word.specs.declared.error.TypeError.TheVariants as errors
use Rattle.type_word.specs.InSchema.{ResolvesIn}
use Rattle.type_word.specs.Resolving.{Resolves}

-- a word has at most one answer
abbrev pub AtMostOneAnswer : Type 0
AtMostOneAnswer =
    (d : DeclaredKinds) (word : List ℕ) (r q : Result Closed TypeError) → Resolves d word r → Resolves d word q → r ≡ q

-- and it has one
abbrev pub AtLeastOneAnswer : Type 0
AtLeastOneAnswer = (d : DeclaredKinds) (word : List ℕ) → (r : Result Closed TypeError) × Resolves d word r

-- out of memory is none
abbrev pub NoAnswerOfMemory : Type 0
NoAnswerOfMemory = (d : DeclaredKinds) (word : List ℕ) → Resolves d word (Err errors.NoMemory) → ⊥

-- a closed type of the schema within the limit
pub record IsSmallClosed (s : SchemaView) (tag : ConstructorView → List ℕ) (t : Closed) : Type 0 where
  pub closed : ClosedOf (cores_of tag s) t
  pub few : nodes t ≤ 4096

-- the closed type that a word names is one of the schema, whatever tags its constructors have
abbrev pub NamedIsClosed : Type 0
NamedIsClosed =
    (s : SchemaView) (tag : ConstructorView → List ℕ) (word : List ℕ) (t : Closed) → ResolvesIn s word (Ok t)
    → IsSmallClosed s tag t
