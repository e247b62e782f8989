-- The closed type that the expression of a type word names.
-- Source: the TON documentation on the TL-B language (built-in types, parametrized types).
use Rattle.std.specs.Prelude.{ℕ, Option, Some, None, drop, length}
use Rattle.tlb_syntax.specs.Lexeme.{number_of}
use Rattle.tlb_syntax.specs.Tree.{ExprView, ExprList, lit, named, nat32, bits, below, up_to, plus, star, out, ref}
use Rattle.tlb_syntax.specs.Tree.{group, no_exprs, an_expr}
use Rattle.kind_terms.specs.declared.words.Family.{Family}
use Rattle.kind_terms.specs.declared.words.Family.TheVariants.{Uint, Int, Bits}
use Rattle.kind_terms.specs.declared.words.WordClass.{WordClass}
use Rattle.kind_terms.specs.declared.words.WordClass.TheVariants.{TypeWord, Any, Cell, Sized, Numbered, Hashmap}
use Rattle.kind_terms.specs.declared.words.WordClass.TheVariants.{HashmapE, HashmapNode, Free}
use Rattle.kind_terms.specs.Words.{Word, family_word}
use Rattle.kind_terms.specs.Classes.{word_class}
use Rattle.closed_type.specs.View.{AnArg, number, type, onto}
use Rattle.core_form.specs.Closed.{Closed, ClosedArgs, no_args}
use Rattle.core_form.specs.Closed as forms

-- what stands for a type where there is none
abbrev pub no_meaning : Closed
no_meaning = forms.whole

-- the number that a literal is
abbrev pub literal : ExprView → ℕ
literal (lit n) = n
literal (named x es) = 0
literal nat32 = 0
literal (bits es) = 0
literal (below es) = 0
literal (up_to es) = 0
literal (plus a b) = 0
literal (star a b) = 0
literal (out e) = 0
literal (ref e) = 0
literal (group is) = 0

abbrev pub number_or_0 : Option ℕ → ℕ
number_or_0 (Some n) = n
number_or_0 None = 0

-- the width that stands in a name after the word of its family
abbrev pub width_of : Family → Word → ℕ
width_of f x = number_or_0 (number_of (drop (length (family_word f)) x))

abbrev pub of_family : Family → ℕ → Closed
of_family Uint n = forms.uint n
of_family Int n = forms.int n
of_family Bits n = forms.bit_str n

-- the first of the arguments, as a number
abbrev pub first_number : ExprList → ℕ
first_number no_exprs = 0
first_number (an_expr e es) = literal e

-- a name of this class with these arguments, of which the first is this number and the second this type
abbrev pub closed_by : WordClass → Word → ℕ → Closed → ClosedArgs → Closed
closed_by Any x n t args = forms.whole
closed_by Cell x n t args = forms.whole
closed_by (Sized f) x n t args = of_family f n
closed_by (Numbered f) x n t args = of_family f (width_of f x)
closed_by Hashmap x n t args = forms.dict n t
closed_by HashmapE x n t args = forms.dict_e n t
closed_by Free x n t args = forms.named x args
closed_by TypeWord x n t args = no_meaning
closed_by HashmapNode x n t args = no_meaning

-- an argument is a number where it is a literal
abbrev pub an_arg : ExprView → Closed → AnArg
an_arg (lit n) t = number n
an_arg (named x es) t = type t
an_arg nat32 t = type t
an_arg (bits es) t = type t
an_arg (below es) t = type t
an_arg (up_to es) t = type t
an_arg (plus a b) t = type t
an_arg (star a b) t = type t
an_arg (out e) t = type t
an_arg (ref e) t = type t
an_arg (group is) t = type t

-- The closed type that the expression names, where it names one: where nothing is at fault in it.
abbrev mutual
  pub closed_of : ExprView → Closed
  closed_of nat32 = forms.nat32
  closed_of (bits es) = forms.bits (first_number es)
  closed_of (below es) = forms.below (first_number es)
  closed_of (up_to es) = forms.up_to (first_number es)
  closed_of (star a b) = forms.repeat (literal a) (closed_of b)
  closed_of (ref e) = forms.ref (closed_of e)
  closed_of (named x es) = closed_by (word_class x) x (first_number es) (second_type es) (args_of es)
  closed_of (lit n) = no_meaning
  closed_of (plus a b) = no_meaning
  closed_of (out e) = no_meaning
  closed_of (group is) = no_meaning

  pub args_of : ExprList → ClosedArgs
  args_of no_exprs = no_args
  args_of (an_expr e es) = onto (an_arg e (closed_of e)) (args_of es)

  pub first_type : ExprList → Closed
  first_type no_exprs = no_meaning
  first_type (an_expr e es) = closed_of e

  pub second_type : ExprList → Closed
  second_type no_exprs = no_meaning
  second_type (an_expr e es) = first_type es
