-- The inputs of results, as far as their patterns go.
use Rattle.std.specs.Prelude.{◌≡◌, Bool, List, [], ◌∷◌, map, Option, Some, None}
use Rattle.nat_solver.specs.declared.pattern.Pattern.{Pattern}
use Rattle.nat_solver.specs.declared.pattern.Pattern.TheVariants.{Lit, Var, Plus}
use Rattle.core_form.specs.Core.{Input, number, type}
use Rattle.schema_core.specs.Names.{Variable, a_number, a_type, other}
use Rattle.schema_leads.specs.Separation.{excluding}
use Rattle.tag_ambiguity.specs.declared.inputs.Input.{Input as ProgramInput}
use Rattle.tag_ambiguity.specs.declared.inputs.Input.TheVariants.{Number, OfType}
use Rattle.tag_ambiguity.specs.declared.inputs.Variable.{Variable as ProgramVariable}
use Rattle.tag_ambiguity.specs.declared.inputs.Variable.TheVariants as variables

abbrev pub input_by : ProgramInput → Input
input_by (Number p) = number p
input_by OfType = type 0

abbrev pub inputs_by : List ProgramInput → List Input
inputs_by inputs = map input_by inputs

-- without the slots of variables, which say nothing of what a pattern meets
abbrev pub plain_pattern : Pattern → Pattern
plain_pattern (Lit n) = Lit n
plain_pattern (Var v) = Var 0
plain_pattern (Plus v k) = Plus 0 k

abbrev pub plain_input : Input → Input
plain_input (number p) = number (plain_pattern p)
plain_input (type v) = type 0

abbrev pub plain_inputs : List Input → List Input
plain_inputs inputs = map plain_input inputs

-- what a name stands for, without its slot
abbrev pub variable_by : Variable → ProgramVariable
variable_by (a_number v) = variables.Number
variable_by (a_type v) = variables.OfType
variable_by other = variables.Other

abbrev pub one_input : Option ProgramInput → List Input
one_input None = []
one_input (Some i) = input_by i ∷ []

-- ---- two inputs at one place

abbrev pub or_those_after : Option Bool → Bool → Bool
or_those_after None rest = rest
or_those_after (Some answer) rest = answer

-- what an input and the other at its place settle; else those after them do
abbrev pub IsVerdict : ProgramInput → ProgramInput → Option Bool → Type 0
IsVerdict p q answer =
    (ps qs : List Input) → excluding (input_by p ∷ ps) (input_by q ∷ qs) ≡ or_those_after answer (excluding ps qs)
