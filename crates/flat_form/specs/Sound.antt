-- Flat lists whose numbers lead into the lists, those of a type's parts to smaller numbers.
use Rattle.std.specs.Prelude.{ℕ, ◌+◌, ◌<◌, ◌≤◌, ◌≡◌, List, [], ◌∷◌, Some, length, slice_get}
use Rattle.nat_solver.specs.Number.{OneUnknown, unknowns}
use Rattle.flat_form.specs.Stands.{expr_at, range}
use Rattle.flat_form.specs.declared.lists.Flat.{Flat}
use Rattle.flat_form.specs.declared.lists.PlanOp.{PlanOp}
use Rattle.flat_form.specs.declared.lists.PlanOp.TheVariants.{Check, Solve, When, Field}
use Rattle.flat_form.specs.declared.lists.TypeNode.{TypeNode}
use Rattle.flat_form.specs.declared.lists.TypeNode.TheVariants.{Nat32, Bits, Below, UpTo, Uint, Int, BitStr, Whole}
use Rattle.flat_form.specs.declared.lists.TypeNode.TheVariants.{Variable, Ref, Repeat, Dict, DictE, Named, Group}
use Rattle.flat_form.specs.declared.lists.PlanArg.{PlanArg}
use Rattle.flat_form.specs.declared.lists.PlanArg.TheVariants.{Nat, Ty, Out}

-- an expression of the lists without an unknown
pub record IsPlainNumber (f : Flat) (e : ℕ) : Type 0 where
  pub there : e < length f.exprs
  pub plain : unknowns (expr_at f e) ≡ []

-- the two sides of an equation with this one unknown
pub record IsEquation (f : Flat) (v left right : ℕ) : Type 0 where
  pub left_there : left < length f.exprs
  pub right_there : right < length f.exprs
  pub one : OneUnknown (expr_at f left) (expr_at f right) v

-- so many from a number on are there
abbrev pub IsRange : {A : Type 0} → List A → ℕ → ℕ → Type 0
IsRange xs first count = first + count ≤ length xs

-- types have numbers below this one
abbrev pub ArgIsSound : Flat → ℕ → PlanArg → Type 0
ArgIsSound f top (Nat e) = IsPlainNumber f e
ArgIsSound f top (Ty t) = t < top
ArgIsSound f top (Out v) = Unit {0}

abbrev pub ArgsAreSound : Flat → ℕ → List PlanArg → Type 0
ArgsAreSound f top [] = Unit {0}
ArgsAreSound f top (a ∷ rest) = ArgIsSound f top a × ArgsAreSound f top rest

abbrev pub OpIsSound : Flat → ℕ → PlanOp → Type 0
OpIsSound f top (Check a op b i) = IsPlainNumber f a × IsPlainNumber f b
OpIsSound f top (Solve v a b i) = IsEquation f v a b
OpIsSound f top (When e k) = IsPlainNumber f e × (k ≤ 32)
OpIsSound f top (Field x t v) = (x < length f.names) × (t < top)

abbrev pub OpsAreSound : Flat → ℕ → List PlanOp → Type 0
OpsAreSound f top [] = Unit {0}
OpsAreSound f top (o ∷ rest) = OpIsSound f top o × OpsAreSound f top rest

-- the first of these operations is a field
abbrev pub FieldIsNext : List PlanOp → Type 0
FieldIsNext [] = ⊥
FieldIsNext (Check a op b i ∷ rest) = ⊥
FieldIsNext (Solve v a b i ∷ rest) = ⊥
FieldIsNext (When e k ∷ rest) = ⊥
FieldIsNext (Field x t v ∷ rest) = Unit {0}

-- each condition stands directly before the field that it governs
abbrev pub ConditionsGovern : List PlanOp → Type 0
ConditionsGovern [] = Unit {0}
ConditionsGovern (Check a op b i ∷ rest) = ConditionsGovern rest
ConditionsGovern (Solve v a b i ∷ rest) = ConditionsGovern rest
ConditionsGovern (When e k ∷ rest) = FieldIsNext rest × ConditionsGovern rest
ConditionsGovern (Field x t v ∷ rest) = ConditionsGovern rest

-- the node of this number
abbrev pub NodeIsSound : Flat → ℕ → TypeNode → Type 0
NodeIsSound f top Nat32 = Unit {0}
NodeIsSound f top (Bits e) = IsPlainNumber f e
NodeIsSound f top (Below e) = IsPlainNumber f e
NodeIsSound f top (UpTo e) = IsPlainNumber f e
NodeIsSound f top (Uint e) = IsPlainNumber f e
NodeIsSound f top (Int e) = IsPlainNumber f e
NodeIsSound f top (BitStr e) = IsPlainNumber f e
NodeIsSound f top Whole = Unit {0}
NodeIsSound f top (Variable v) = Unit {0}
NodeIsSound f top (Ref t) = t < top
NodeIsSound f top (Repeat e t) = IsPlainNumber f e × (t < top)
NodeIsSound f top (Dict e t) = IsPlainNumber f e × (t < top)
NodeIsSound f top (DictE e t) = IsPlainNumber f e × (t < top)
NodeIsSound f top (Named x first count) =
    (x < length f.names) × IsRange f.args first count × ArgsAreSound f top (range f.args first count)
NodeIsSound f top (Group first count) =
    IsRange f.ops first count × OpsAreSound f top (range f.ops first count) × ConditionsGovern (range f.ops first count)

-- Each node is sound, and each operation's type is there. The operations of a record stand before each operation that
-- uses the record: the parts of the operation's type are among the types up to it.
pub record IsFlat (f : Flat) : Type 0 where
  pub nodes : (t : ℕ) (n : TypeNode) → slice_get f.types t ≡ Some n → NodeIsSound f t n
  pub there : (p x t v : ℕ) → slice_get f.ops p ≡ Some (Field x t v) → t < length f.types
  pub before : (p x t v u first count : ℕ) → slice_get f.ops p ≡ Some (Field x t v) → u ≤ t
      → slice_get f.types u ≡ Some (Group first count) → first + count ≤ p
