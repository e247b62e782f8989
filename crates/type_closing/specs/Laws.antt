-- What the laws say: facts about the definitions alone.
use Rattle.std.specs.Prelude.{◌≡◌, List, [], ◌∷◌, None, option_map}
use Rattle.tlb_syntax.specs.Limits.{IsExpr}
use Rattle.tlb_syntax.specs.Tree.{ExprView}
use Rattle.kind_terms.specs.declared.kind.TermKind.{TermKind}
use Rattle.kind_terms.specs.declared.kind.TermKind.TheVariants.{NumberIn, TypeIn, NumberOut, NoKind}
use Rattle.kind_terms.specs.Words.{Word}
use Rattle.core_form.specs.Core.{Parameter, CoreSchema, number_in, type_in, number_out, no_parameter}
use Rattle.core_form.specs.Closed.{ClosedOf, parameters_of}
use Rattle.type_closing.specs.Closing.{closed_of}
use Rattle.type_closing.specs.Faults.{DeclaredKinds, type_fault}

abbrev pub parameter_by : TermKind → Parameter
parameter_by (NumberIn most) = number_in
parameter_by TypeIn = type_in
parameter_by NumberOut = number_out
parameter_by NoKind = no_parameter

abbrev pub parameters_by : List TermKind → List Parameter
parameters_by [] = []
parameters_by (k ∷ ks) = parameter_by k ∷ parameters_by ks

-- these are the kinds of the parameters of the schema's types
abbrev pub Declares : DeclaredKinds → CoreSchema → Type 0
Declares d s = (x : Word) → option_map parameters_by (d x) ≡ parameters_of s x

-- the closed type that an expression without a fault names is one of the schema
abbrev pub ClosingIsClosed : Type 0
ClosingIsClosed =
    (s : CoreSchema) (d : DeclaredKinds) (e : ExprView) → Declares d s → IsExpr e → type_fault d None e ≡ None
    → ClosedOf s (closed_of e)
