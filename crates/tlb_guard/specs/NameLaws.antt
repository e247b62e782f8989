-- Two forms of what a name is, with names in scope.
use Rattle.std.proofs.Common.{◌≡◌, Bool, true, false, not, ◌&&◌, ap, sym, ◌∙◌, refl}
use Rattle.std.specs.Prelude.{Option, Some, None, List, cond}
use Rattle.tlb_syntax.specs.Tree.{ExprList, named}
use Rattle.kind_terms.specs.Words.{Word, is_among}
use Rattle.kind_terms.specs.Classes.{NameClass, of_scope, of_word, name_class, word_class}
use Rattle.kind_terms.specs.Types.{has_exprs}
use Rattle.tlb_guard.specs.Rounds.{Test}
use Rattle.tlb_guard.specs.Empty.{class_in, may_be_empty, may_be_empty_name, may_be_empty_type}

-- whether a name with these arguments stands alone and is in scope
abbrev pub is_variable : List Word → Word → ExprList → Bool
is_variable scope x es = not (has_exprs es) && is_among scope x

abbrev some_if : Bool → Option (Unit {0})
some_if among = cond among (Some tt) None

abbrev variable_if : Bool → Word → NameClass (Unit {0})
variable_if b x = cond b (of_scope tt) (of_word (word_class x))

by_test : (x : Word) (has_arguments among : Bool)
    → name_class (some_if among) x has_arguments ≡ variable_if (not has_arguments && among) x
by_test x true true = refl
by_test x true false = refl
by_test x false true = refl
by_test x false false = refl

-- its class is that of a variable exactly there
pub class_by_test : (scope : List Word) (x : Word) (es : ExprList)
    → class_in scope x es ≡ cond (is_variable scope x es) (of_scope tt) (of_word (word_class x))
class_by_test scope x es = by_test x (has_exprs es) (is_among scope x)

pub class_seen : (scope : List Word) (x : Word) (es : ExprList) (b : Bool) → is_variable scope x es ≡ b
    → class_in scope x es ≡ cond b (of_scope tt) (of_word (word_class x))
class_seen scope x es b is = class_by_test scope x es ∙ ap (λ c. variable_if c x) is
