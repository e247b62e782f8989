-- Inputs and outputs of a constructor, place by place.
use Rattle.std.specs.Prelude.{List, [], ◌∷◌}
use Rattle.nat_solver.specs.Number.{Expr}
use Rattle.core_form.specs.Core.{Input, Parameter, number_in, type_in, number_out, number, type}

-- each parameter has its input or its output, and there are no others
abbrev pub AreParameters : List Parameter → List Input → List Expr → Type 0
AreParameters [] [] [] = Unit {0}
AreParameters (number_in ∷ ps) (number p ∷ inputs) outputs = AreParameters ps inputs outputs
AreParameters (type_in ∷ ps) (type v ∷ inputs) outputs = AreParameters ps inputs outputs
AreParameters (number_out ∷ ps) inputs (e ∷ outputs) = AreParameters ps inputs outputs
AreParameters _ _ _ = ⊥
