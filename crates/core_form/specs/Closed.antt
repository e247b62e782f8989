-- Types without variables.
-- Source: the TON documentation on the TL-B language (built-in types, parametrized types).
use Rattle.std.specs.Prelude.{ℕ, ◌+◌, ◌^◌, ◌<◌, List, [], ◌∷◌, Option, Some, None, bytes_eq, if◌then◌else◌}
use Rattle.core_form.specs.Core.{Word, Parameter, number_in, type_in, CoreSchema}

mutual
  pub data Closed : Type 0 where
    nat32 : Closed
    bits : ℕ → Closed
    below : ℕ → Closed
    up_to : ℕ → Closed
    uint : ℕ → Closed
    int : ℕ → Closed
    bit_str : ℕ → Closed
    whole : Closed
    ref : Closed → Closed
    repeat : ℕ → Closed → Closed
    dict : ℕ → Closed → Closed
    dict_e : ℕ → Closed → Closed
    named : Word → ClosedArgs → Closed

  -- the inputs of a declared type, in order; outputs have no place here
  pub data ClosedArgs : Type 0 where
    no_args : ClosedArgs
    nat_arg : ℕ → ClosedArgs → ClosedArgs
    ty_arg : Closed → ClosedArgs → ClosedArgs

-- one node for each form, and one for each number among arguments
abbrev mutual
  pub nodes : Closed → ℕ
  nodes nat32 = 1
  nodes (bits n) = 1
  nodes (below n) = 1
  nodes (up_to n) = 1
  nodes (uint n) = 1
  nodes (int n) = 1
  nodes (bit_str n) = 1
  nodes whole = 1
  nodes (ref t) = 1 + nodes t
  nodes (repeat n t) = 1 + nodes t
  nodes (dict n t) = 1 + nodes t
  nodes (dict_e n t) = 1 + nodes t
  nodes (named x args) = 1 + arg_nodes args

  pub arg_nodes : ClosedArgs → ℕ
  arg_nodes no_args = 0
  arg_nodes (nat_arg n args) = 1 + arg_nodes args
  arg_nodes (ty_arg t args) = nodes t + arg_nodes args

-- ---- closed types of a schema

-- the parameters of a type, which its first constructor fixes
abbrev pub parameters_of : CoreSchema → Word → Option (List Parameter)
parameters_of [] x = None
parameters_of (d ∷ ds) x = if bytes_eq d.of_type x then Some d.core.parameters else parameters_of ds x

-- each parameter is an input, and has an argument of its kind
abbrev pub AreInputs : List Parameter → ClosedArgs → Type 0
AreInputs [] no_args = Unit {0}
AreInputs (number_in ∷ ps) (nat_arg n args) = AreInputs ps args
AreInputs (type_in ∷ ps) (ty_arg t args) = AreInputs ps args
AreInputs _ _ = ⊥

abbrev pub AreInputsOf : Option (List Parameter) → ClosedArgs → Type 0
AreInputsOf None args = ⊥
AreInputsOf (Some ps) args = AreInputs ps args

-- Every type named in it is one of the schema, without outputs and with arguments of the right number and kinds, and
-- each
-- number is one of 32 bits.
abbrev mutual
  pub ClosedOf : CoreSchema → Closed → Type 0
  ClosedOf s nat32 = Unit {0}
  ClosedOf s (bits n) = n < 2 ^ 32
  ClosedOf s (below n) = n < 2 ^ 32
  ClosedOf s (up_to n) = n < 2 ^ 32
  ClosedOf s (uint n) = n < 2 ^ 32
  ClosedOf s (int n) = n < 2 ^ 32
  ClosedOf s (bit_str n) = n < 2 ^ 32
  ClosedOf s whole = Unit {0}
  ClosedOf s (ref t) = ClosedOf s t
  ClosedOf s (repeat n t) = (n < 2 ^ 32) × ClosedOf s t
  ClosedOf s (dict n t) = (n < 2 ^ 32) × ClosedOf s t
  ClosedOf s (dict_e n t) = (n < 2 ^ 32) × ClosedOf s t
  ClosedOf s (named x args) = AreInputsOf (parameters_of s x) args × AreClosedOf s args

  pub AreClosedOf : CoreSchema → ClosedArgs → Type 0
  AreClosedOf s no_args = Unit {0}
  AreClosedOf s (nat_arg n args) = (n < 2 ^ 32) × AreClosedOf s args
  AreClosedOf s (ty_arg t args) = ClosedOf s t × AreClosedOf s args
