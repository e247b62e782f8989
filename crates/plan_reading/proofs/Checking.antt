-- A check by the values of its sides.
use Rattle.std.proofs.Common.{◌≡◌, ℕ, Bool, true, false, cond, if◌then◌else◌, Option, Some, None, Result, Ok, Err, refl, ap}
use Rattle.hashmap_labels.specs.Steps.{same_ok}
use Rattle.hashmap_tree.specs.Entries.{Slice}
use Rattle.nat_solver.specs.Number.{Expr, answer, comparison, holding, number_or, value}
use Rattle.nat_solver.specs.declared.compare.Op.{Op}
use Rattle.nat_solver.specs.declared.evaluate.NatError.{NatError}
use Rattle.core_form.specs.Core as core
use Rattle.core_form.specs.Scope.{Scope}
use Rattle.spelling.specs.Places.{Spot, Place, stuck, item_of}
use Rattle.spelling.specs.PlainReader.{◌>>=◌, Reader, Step, known, step}
use Rattle.spelling.specs.declared.Cause.TheVariants.{Constraint, Overflow}
use Rattle.plan_reading.specs.Gives.{unchanged}

abbrev compared : Spot → Op → Result Step Place → Option ℕ → Option ℕ → Result Step Place
compared p op x m n = known p m >>= (λ a. known p n >>= (λ b. if comparison op a b then x else Err (stuck p Constraint)))

by_sides : (p : Spot) (op : Op) (x : Result Step Place) (m n : Option ℕ) (e f : NatError) (b : Bool)
    → holding op (number_or m e) (number_or n f) ≡ Ok b
    → compared p op x m n ≡ cond b x (Err (stuck p Constraint))
by_sides p op x (Some m) (Some n) e f b h = ap (λ z. cond z x (Err (stuck p Constraint))) (same_ok (comparison op m n) b h)
by_sides p op x (Some m) None e f b h = cc
by_sides p op x None n e f b h = cc

by_lack : (p : Spot) (op : Op) (x : Result Step Place) (m n : Option ℕ) (e f g : NatError)
    → holding op (number_or m e) (number_or n f) ≡ Err g
    → compared p op x m n ≡ Err (stuck p Overflow)
by_lack p op x (Some m) (Some n) e f g h = cc
by_lack p op x (Some m) None e f g h = refl
by_lack p op x None n e f g h = refl

pub check_true : (R : Reader) (h : Spot) (a : Expr) (op : Op) (b : Expr) (i : ℕ) (scope : Scope) (q : ℕ) (s : Slice)
    → holding op (answer a scope.numbers) (answer b scope.numbers) ≡ Ok true
    → step R h (core.check a op b i) scope q s ≡ Ok (unchanged scope q s)
check_true R h a op b i scope q s e =
    by_sides (item_of h i) op (Ok (unchanged scope q s)) (value a scope.numbers) (value b scope.numbers) _ _ true e

pub check_false : (R : Reader) (h : Spot) (a : Expr) (op : Op) (b : Expr) (i : ℕ) (scope : Scope) (q : ℕ) (s : Slice)
    → holding op (answer a scope.numbers) (answer b scope.numbers) ≡ Ok false
    → step R h (core.check a op b i) scope q s ≡ Err (stuck (item_of h i) Constraint)
check_false R h a op b i scope q s e =
    by_sides (item_of h i) op (Ok (unchanged scope q s)) (value a scope.numbers) (value b scope.numbers) _ _ false e

pub check_lacks : (R : Reader) (h : Spot) (a : Expr) (op : Op) (b : Expr) (i : ℕ) (scope : Scope) (q : ℕ) (s : Slice) (g : NatError)
    → holding op (answer a scope.numbers) (answer b scope.numbers) ≡ Err g
    → step R h (core.check a op b i) scope q s ≡ Err (stuck (item_of h i) Overflow)
check_lacks R h a op b i scope q s g e =
    by_lack (item_of h i) op (Ok (unchanged scope q s)) (value a scope.numbers) (value b scope.numbers) _ _ g e
