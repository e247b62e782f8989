-- Constructors of a type: which one is entered, which one has a name, and how the one at a place is shown.
-- Source: the TON documentation on the TL-B language (parameters of a result; constructors of a type are told apart by
-- their tags); leads and shown names are this project's rule.
use Rattle.std.specs.Prelude.{ℕ, ◌≡◌, ◌<◌, ◌^◌, Bool, true, false, List, [], ◌∷◌, Some, IsSome, slice_get}
use Rattle.closed_type.specs.View.{AnArg}
use Rattle.closed_type.specs.View as args
use Rattle.core_form.specs.Closed.{ClosedArgs}
use Rattle.core_form.specs.Core.{CoreSchema, Declaration, Input, Word, number, type}
use Rattle.core_form.specs.Fit.{fit}
use Rattle.schema_leads.specs.Leads.{leads, some_begins}
use Rattle.schema_leads.specs.Separation.{meets}

-- the constructor is of this type, fits the arguments, and has a lead that begins these bits
pub record Enters (s : CoreSchema) (x : Word) (args : ClosedArgs) (bits : List ℕ) (d : Declaration) : Type 0 where
  pub of_type : d.of_type ≡ x
  pub fits : IsSome (fit d.core args)
  pub begins : some_begins (leads s d) bits ≡ true

-- the constructor is of this type, is shown by this name, and fits the arguments
pub record IsNamed (x : Word) (args : ClosedArgs) (name : Word) (d : Declaration) : Type 0 where
  pub of_type : d.of_type ≡ x
  pub shown : d.shown ≡ name
  pub fits : IsSome (fit d.core args)

-- two constructors of one type are shown by different names
abbrev pub AreShownApart : CoreSchema → Type 0
AreShownApart s =
    (i j : ℕ) (d e : Declaration) → slice_get s i ≡ Some d → slice_get s j ≡ Some e → d.of_type ≡ e.of_type
    → d.shown ≡ e.shown → i ≡ j

-- the schema has a constructor of this number in its type, from 1, and it is shown by this name
pub record IsShownAt (s : CoreSchema) (x : Word) (n : ℕ) (name : Word) : Type 0 where
  pub place : ℕ
  pub declaration : Declaration
  pub there : slice_get s place ≡ Some declaration
  pub of_type : declaration.of_type ≡ x
  pub number : declaration.number ≡ n
  pub shown : declaration.shown ≡ name

-- ---- inputs and arguments, one by one

-- a number meets a pattern; a type variable takes each type
abbrev pub input_meets : Input → AnArg → Bool
input_meets (number p) (args.number n) = meets p n
input_meets (number p) (args.type t) = false
input_meets (type v) (args.number n) = false
input_meets (type v) (args.type t) = true

-- a number of 32 bits
abbrev pub IsSmall : AnArg → Type 0
IsSmall (args.number n) = n < 2 ^ 32
IsSmall (args.type t) = Unit {0}

abbrev pub AreSmall : List AnArg → Type 0
AreSmall [] = Unit {0}
AreSmall (a ∷ rest) = IsSmall a × AreSmall rest
