-- What the laws say: facts about the definitions alone.
use Rattle.std.specs.Prelude.{ℕ, ◌≡◌, ◌≤◌, List, true, if◌then◌else◌}
use Rattle.tlb_syntax.specs.Tree.{ExprList, SchemaView}
use Rattle.kind_terms.specs.Words.{Word}
use Rattle.kind_terms.specs.Classes.{of_scope, of_word, word_class}
use Rattle.tlb_guard.specs.Rounds.{round}
use Rattle.tlb_guard.specs.DeclaredTypes.{Parameter, type_count, parameter_count}
use Rattle.tlb_guard.specs.Empty.{class_in, empty_rules, may_take_nothing}
use Rattle.tlb_guard.specs.NameLaws.{is_variable}
use Rattle.tlb_guard.specs.Exposed.{Known, exposed_rules, exposed_parameters}
use Rattle.tlb_guard.specs.Cycles.{is_reached}

-- A name has the class of a variable where it stands alone and is in scope, and else that of its word.
abbrev pub OneClass : Type 0
OneClass =
    (scope : List Word) (x : Word) (es : ExprList)
    → class_in scope x es ≡ (if is_variable scope x es then of_scope tt else of_word (word_class x))

-- no later round of what may take nothing differs
abbrev pub EmptyStays : Type 0
EmptyStays = (types : SchemaView) (n : ℕ) (x : Word) → type_count types ≤ n → round (empty_rules types) n x ≡ may_take_nothing types x

-- no later round of what is exposed differs
abbrev pub ExposedStays : Type 0
ExposedStays =
    (types : SchemaView) (n : ℕ) (p : Parameter) → parameter_count types ≤ n
    → round (exposed_rules types (may_take_nothing types)) n p ≡ exposed_parameters types p

-- what is reached at all is reached by at most as many edges as there are types
abbrev pub ReachedWithinTypeCount : Type 0
ReachedWithinTypeCount =
    (k : Known) (n : ℕ) (from end : Word) → is_reached k n from end ≡ true → is_reached k (type_count k.types) from end ≡ true
