-- Operations and arguments that are put after others.
use Rattle.std.proofs.Common.{◌≡◌, ℕ, ◌<◌, ◌≤◌, List, [], ◌∷◌, ◌++◌, Option, Some, None, refl, ap, sym}
use Rattle.std.proofs.Common.{◌∙◌, subst, length, append_assoc, arith}
use Rattle.std.proofs.Common.{Bool, true, false, is_some}
use Rattle.nat_solver.specs.Number.{Expr, OneUnknown, unknowns}
use Rattle.nat_solver.specs.declared.compare.Op.{Op}
use Rattle.core_form.specs.Core.{Word, Condition, Ty, Args, Item, Items}
use Rattle.core_form.specs.Core as core
use Rattle.flat_form.specs.declared.lists.Flat.{Flat}
use Rattle.flat_form.specs.declared.lists.PlanOp.{PlanOp}
use Rattle.flat_form.specs.declared.lists.PlanOp.TheVariants.{Check, Solve, When, Field}
use Rattle.flat_form.specs.declared.lists.PlanArg.{PlanArg}
use Rattle.flat_form.specs.declared.lists.PlanArg.TheVariants.{Nat, Ty as TypeArg, Out}
use Rattle.flat_form.specs.Stands.{expr_at, name_at, args_in, items_in}
use Rattle.flat_form.specs.Stands.{type_at, slot_of, bit_of}
use Rattle.flat_form.specs.Sound.{IsFlat, IsPlainNumber, IsEquation, ArgIsSound, ArgsAreSound}
use Rattle.flat_form.specs.Sound.{ConditionsGovern, FieldIsNext, OpsAreSound}
use Rattle.flat_form.specs.Growth.{Grows, Adds}
use Rattle.flat_form.specs.Parts.{AreOps, append_args, append_items, args_so_far, is_open, items_so_far, with_argument}
use Rattle.flat_form.specs.Parts.{with_item}
use Rattle.flat_form.specs.GrowthLaws.{expr_grows, number_grows, length_begins, type_stays}
use Rattle.flat_form.specs.GrowthLaws.{record_stays, record_sound, arguments_stay, arguments_sound, adds_on}

-- operations after closed ones
pub items_append : (f : Flat) (at : ℕ → Ty) (c : Option Condition) (os new : List PlanOp)
    → is_open (is_some c) os ≡ false
    → items_in f at c (os ++ new) ≡ append_items (items_in f at c os) (items_in f at None new)
items_append f at None [] new e = refl
items_append f at (Some c) [] new e = cc
items_append f at c (Check a op b i ∷ os) new e =
    ap (core.an_item (core.check (expr_at f a) op (expr_at f b) i)) (items_append f at None os new e)
items_append f at c (Solve v a b i ∷ os) new e =
    ap (core.an_item (core.solve v (expr_at f a) (expr_at f b) i)) (items_append f at None os new e)
items_append f at c (When n k ∷ os) new e =
    items_append f at (Some (record { number = expr_at f n; bit = bit_of k })) os new e
items_append f at c (Field x t v ∷ os) new e =
    ap (core.an_item (core.field (name_at f x) (slot_of v) c (at t))) (items_append f at None os new e)

next_append : (os new : List PlanOp) → FieldIsNext os → FieldIsNext (os ++ new)
next_append [] new h = absurd h
next_append (Check l op r i ∷ os) new h = h
next_append (Solve v l r i ∷ os) new h = h
next_append (When n k ∷ os) new h = h
next_append (Field x t v ∷ os) new h = h

pub conditions_append : (os new : List PlanOp) → ConditionsGovern os → ConditionsGovern new
    → ConditionsGovern (os ++ new)
conditions_append [] new h k = k
conditions_append (Check l op r i ∷ os) new h k = conditions_append os new h k
conditions_append (Solve v l r i ∷ os) new h k = conditions_append os new h k
conditions_append (When n m ∷ os) new h k = (next_append os new h.0, conditions_append os new h.1 k)
conditions_append (Field x t v ∷ os) new h k = conditions_append os new h k

conditions_end : (b : Bool) (ops : List PlanOp) → (b ≡ true → FieldIsNext ops) → ConditionsGovern ops
    → is_open b ops ≡ false
conditions_end true [] next h = absurd (next refl)
conditions_end false [] next h = refl
conditions_end b (Check l op r i ∷ ops) next h = conditions_end false ops (λ e. cc) h
conditions_end b (Solve v l r i ∷ ops) next h = conditions_end false ops (λ e. cc) h
conditions_end b (When n k ∷ ops) next h = conditions_end true ops (λ e. h.0) h.1
conditions_end b (Field x t v ∷ ops) next h = conditions_end false ops (λ e. cc) h

-- no condition waits at the end of a record
pub conditions_close : (ops : List PlanOp) → ConditionsGovern ops → is_open false ops ≡ false
conditions_close ops h = conditions_end false ops (λ e. cc) h

pub sound_append : (f : Flat) (top : ℕ) (os new : List PlanOp) → OpsAreSound f top os → OpsAreSound f top new
    → OpsAreSound f top (os ++ new)
sound_append f top [] new h k = k
sound_append f top (o ∷ os) new h k = (h.0, sound_append f top os new h.1 k)

-- operations that were pushed onto those of a record, in lists that have grown
pub ops_pushed : (f g : Flat) (os all new : List PlanOp) → Adds f g → AreOps f os → all ≡ os ++ new
    → OpsAreSound g (length g.types) new → ConditionsGovern new → AreOps g all
ops_pushed f g os all new adds ops is sound conditions = record {
  sound =
      let P : List PlanOp → Type 0 = OpsAreSound g (length g.types) in
      subst P (sym is) (sound_append g (length g.types) os new (record_sound f g os adds ops.sound) sound);
  conditions =
      let P : List PlanOp → Type 0 = ConditionsGovern in
      subst P (sym is) (conditions_append os new ops.conditions conditions);
}

pub items_pushed : (f g : Flat) (os all new : List PlanOp) → IsFlat f → Adds f g → AreOps f os → all ≡ os ++ new
    → items_so_far g all ≡ append_items (items_so_far f os) (items_in g (type_at g) None new)
items_pushed f g os all new flat adds ops is =
    ap (items_in g (type_at g) None) is
    ∙ items_append g (type_at g) None os new (conditions_close os ops.conditions)
    ∙ ap (λ z. append_items z (items_in g (type_at g) None new)) (record_stays f g os flat adds ops.sound)

pub plain_at : (g : Flat) (e : ℕ) (a : Expr) → e < length g.exprs → expr_at g e ≡ a → unknowns a ≡ []
    → IsPlainNumber g e
plain_at g e a there is plain = record { there = there; plain = ap unknowns is ∙ plain }

-- a check was pushed, once its sides were added
pub check_ops : (f g h : Flat) (os all : List PlanOp) (l r i : ℕ) (op : Op) (a b : Expr) → Adds f g → Adds g h
    → AreOps f os → all ≡ os ++ Check l op r i ∷ []
    → l < length g.exprs → expr_at g l ≡ a → r < length h.exprs → expr_at h r ≡ b → unknowns a ≡ [] → unknowns b ≡ []
    → AreOps h all
check_ops f g h os all l r i op a b first second ops is l_there l_is r_there r_is left right =
    ops_pushed f h os all (Check l op r i ∷ []) (adds_on f g h first second) ops is
    ((number_grows g h l second.grows (plain_at g l a l_there l_is left), plain_at h r b r_there r_is right), tt) tt

pub check_is : (f g h : Flat) (os all : List PlanOp) (l r i : ℕ) (op : Op) (a b : Expr) → IsFlat f → Adds f g → Adds g h
    → AreOps f os → all ≡ os ++ Check l op r i ∷ []
    → l < length g.exprs → expr_at g l ≡ a → expr_at h r ≡ b
    → items_so_far h all ≡ with_item (items_so_far f os) (core.check a op b i)
check_is f g h os all l r i op a b flat first second ops is l_there l_is r_is =
    let left : expr_at h l ≡ a = expr_grows g h l second.grows l_there ∙ l_is in
    items_pushed f h os all (Check l op r i ∷ []) flat (adds_on f g h first second) ops is
    ∙ ap (λ z. with_item (items_so_far f os) (core.check z op (expr_at h r) i)) left
    ∙ ap (λ z. with_item (items_so_far f os) (core.check a op z i)) r_is

-- a field was pushed, once its name was added
pub field_ops : (f g : Flat) (os all : List PlanOp) (n t v : ℕ) → Adds f g → AreOps f os → all ≡ os ++ Field n t v ∷ []
    → n < length g.names → t < length f.types → AreOps g all
field_ops f g os all n t v adds ops is n_there t_there =
    let longer : length f.types ≤ length g.types = length_begins f.types g.types adds.grows.types in
    ops_pushed f g os all (Field n t v ∷ []) adds ops is ((n_there, omega (arith, t_there)), tt) tt

pub field_is : (f g : Flat) (os all : List PlanOp) (n t v : ℕ) (x : Word) → IsFlat f → Adds f g → AreOps f os
    → all ≡ os ++ Field n t v ∷ [] → name_at g n ≡ x → t < length f.types
    → items_so_far g all ≡ with_item (items_so_far f os) (core.field x (slot_of v) None (type_at f t))
field_is f g os all n t v x flat adds ops is n_is t_there =
    items_pushed f g os all (Field n t v ∷ []) flat adds ops is
    ∙ ap (λ z. with_item (items_so_far f os) (core.field z (slot_of v) None (type_at g t))) n_is
    ∙ ap (λ z. with_item (items_so_far f os) (core.field x (slot_of v) None z)) (type_stays f g t flat adds t_there)

twice : {A : Type 0} (os mid all : List A) (x y : A) → mid ≡ os ++ x ∷ [] → all ≡ mid ++ y ∷ [] → all ≡ os ++ x ∷ y ∷ []
twice os mid all x y e h = h ∙ ap (λ z. z ++ y ∷ []) e ∙ append_assoc os (x ∷ []) (y ∷ [])

-- a field with its condition
pub when_ops : (f g h : Flat) (os mid all : List PlanOp) (e k n t v : ℕ) (a : Expr) → Adds f g → Adds g h → AreOps f os
    → mid ≡ os ++ When e k ∷ [] → all ≡ mid ++ Field n t v ∷ []
    → e < length g.exprs → expr_at g e ≡ a → unknowns a ≡ [] → k ≤ 32 → n < length h.names → t < length f.types
    → AreOps h all
when_ops f g h os mid all e k n t v a first second ops is more e_there e_is plain few n_there t_there =
    let adds : Adds f h = adds_on f g h first second in
    let longer : length f.types ≤ length h.types = length_begins f.types h.types adds.grows.types in
    ops_pushed f h os all (When e k ∷ Field n t v ∷ []) adds ops (twice os mid all (When e k) (Field n t v) is more) (
      (number_grows g h e second.grows (plain_at g e a e_there e_is plain), few),
      ((n_there, omega (arith, t_there)), tt),
    )
    (tt, tt)

pub when_is : (f g h : Flat) (os mid all : List PlanOp) (e k n t v : ℕ) (a : Expr) (x : Word) → IsFlat f → Adds f g
    → Adds g h → AreOps f os → mid ≡ os ++ When e k ∷ [] → all ≡ mid ++ Field n t v ∷ []
    → e < length g.exprs → expr_at g e ≡ a → name_at h n ≡ x → t < length f.types
    → items_so_far h all ≡ with_item (items_so_far f os)
    (core.field x (slot_of v) (Some (record { number = a; bit = bit_of k })) (type_at f t))
when_is f g h os mid all e k n t v a x flat first second ops is more e_there e_is n_is t_there =
    let adds : Adds f h = adds_on f g h first second in
    let number : expr_at h e ≡ a = expr_grows g h e second.grows e_there ∙ e_is in
    let tested : Expr → Option Condition = λ z. Some (let c : Condition = record { number = z; bit = bit_of k } in c) in
    items_pushed f h os all (When e k ∷ Field n t v ∷ []) flat adds ops
    (twice os mid all (When e k) (Field n t v) is more)
    ∙ ap (λ z. with_item (items_so_far f os) (core.field (name_at h n) (slot_of v) (tested z) (type_at h t))) number
    ∙ ap (λ z. with_item (items_so_far f os) (core.field z (slot_of v) (tested a) (type_at h t))) n_is
    ∙ ap (λ z. with_item (items_so_far f os) (core.field x (slot_of v) (tested a) z))
    (type_stays f h t flat adds t_there)

-- a record's operations so far stay those of a record
pub ops_kept : (f g : Flat) (os : List PlanOp) → Adds f g → AreOps f os → AreOps g os
ops_kept f g os adds ops = record { sound = record_sound f g os adds ops.sound; conditions = ops.conditions }

-- an equation was pushed, once its sides were added
equation_at : (g h : Flat) (l r v : ℕ) (a b : Expr) → Grows g h → l < length g.exprs → expr_at g l ≡ a
    → r < length h.exprs → expr_at h r ≡ b → OneUnknown a b v → IsEquation h v l r
equation_at g h l r v a b grows l_there l_is r_there r_is one =
    let longer : length g.exprs ≤ length h.exprs = length_begins g.exprs h.exprs grows.exprs in
    let left : expr_at h l ≡ a = expr_grows g h l grows l_there ∙ l_is in
    let P : Expr → Type 0 = λ e. OneUnknown e (expr_at h r) v in
    let Q : Expr → Type 0 = λ e. OneUnknown a e v in
    record {
      left_there = omega arith;
      right_there = r_there;
      one = subst P (sym left) (subst Q (sym r_is) one);
    }

pub solve_ops : (f g h : Flat) (os all : List PlanOp) (v l r i : ℕ) (a b : Expr) → Adds f g → Adds g h → AreOps f os
    → all ≡ os ++ Solve v l r i ∷ [] → l < length g.exprs → expr_at g l ≡ a → r < length h.exprs → expr_at h r ≡ b
    → OneUnknown a b v → AreOps h all
solve_ops f g h os all v l r i a b first second ops is l_there l_is r_there r_is one =
    ops_pushed f h os all (Solve v l r i ∷ []) (adds_on f g h first second) ops is
    (equation_at g h l r v a b second.grows l_there l_is r_there r_is one, tt) tt

pub solve_is : (f g h : Flat) (os all : List PlanOp) (v l r i : ℕ) (a b : Expr) → IsFlat f → Adds f g → Adds g h
    → AreOps f os → all ≡ os ++ Solve v l r i ∷ [] → l < length g.exprs → expr_at g l ≡ a → expr_at h r ≡ b
    → items_so_far h all ≡ with_item (items_so_far f os) (core.solve v a b i)
solve_is f g h os all v l r i a b flat first second ops is l_there l_is r_is =
    let left : expr_at h l ≡ a = expr_grows g h l second.grows l_there ∙ l_is in
    items_pushed f h os all (Solve v l r i ∷ []) flat (adds_on f g h first second) ops is
    ∙ ap (λ z. with_item (items_so_far f os) (core.solve v z (expr_at h r) i)) left
    ∙ ap (λ z. with_item (items_so_far f os) (core.solve v a z i)) r_is

-- ---- arguments

pub args_append : (f : Flat) (at : ℕ → Ty) (xs new : List PlanArg)
    → args_in f at (xs ++ new) ≡ append_args (args_in f at xs) (args_in f at new)
args_append f at [] new = refl
args_append f at (Nat e ∷ xs) new = ap (core.nat_arg (expr_at f e)) (args_append f at xs new)
args_append f at (TypeArg t ∷ xs) new = ap (core.ty_arg (at t)) (args_append f at xs new)
args_append f at (Out v ∷ xs) new = ap (core.out_arg v) (args_append f at xs new)

sound_args : (f : Flat) (top : ℕ) (xs new : List PlanArg) → ArgsAreSound f top xs → ArgsAreSound f top new
    → ArgsAreSound f top (xs ++ new)
sound_args f top [] new h k = k
sound_args f top (a ∷ xs) new h k = (h.0, sound_args f top xs new h.1 k)

-- an argument that was put after others, in lists that have grown
pub args_pushed : (f g : Flat) (xs all : List PlanArg) (a : PlanArg) → Adds f g → ArgsAreSound f (length f.types) xs
    → all ≡ xs ++ a ∷ [] → ArgIsSound g (length g.types) a → ArgsAreSound g (length g.types) all
args_pushed f g xs all a adds sound is one =
    let P : List PlanArg → Type 0 = ArgsAreSound g (length g.types) in
    subst P (sym is) (sound_args g (length g.types) xs (a ∷ []) (arguments_sound f g xs adds sound) (one, tt))

pub arg_pushed_is : (f g : Flat) (xs all : List PlanArg) (a : PlanArg) → IsFlat f → Adds f g
    → ArgsAreSound f (length f.types) xs → all ≡ xs ++ a ∷ []
    → args_so_far g all ≡ append_args (args_so_far f xs) (args_in g (type_at g) (a ∷ []))
arg_pushed_is f g xs all a flat adds sound is =
    ap (args_in g (type_at g)) is
    ∙ args_append g (type_at g) xs (a ∷ [])
    ∙ ap (λ z. append_args z (args_in g (type_at g) (a ∷ []))) (arguments_stay f g xs flat adds sound)

pub number_args : (f g : Flat) (xs all : List PlanArg) (n : ℕ) (a : Expr) → Adds f g
    → ArgsAreSound f (length f.types) xs → all ≡ xs ++ Nat n ∷ [] → n < length g.exprs → expr_at g n ≡ a
    → unknowns a ≡ [] → ArgsAreSound g (length g.types) all
number_args f g xs all n a adds sound is there e plain =
    args_pushed f g xs all (Nat n) adds sound is (plain_at g n a there e plain)

pub number_is : (f g : Flat) (xs all : List PlanArg) (n : ℕ) (a : Expr) → IsFlat f → Adds f g
    → ArgsAreSound f (length f.types) xs → all ≡ xs ++ Nat n ∷ [] → expr_at g n ≡ a
    → args_so_far g all ≡ with_argument (args_so_far f xs) (core.nat_arg a)
number_is f g xs all n a flat adds sound is e =
    arg_pushed_is f g xs all (Nat n) flat adds sound is
    ∙ ap (λ z. with_argument (args_so_far f xs) (core.nat_arg z)) e

pub type_args : (f : Flat) (xs all : List PlanArg) (t : ℕ) → ArgsAreSound f (length f.types) xs
    → all ≡ xs ++ TypeArg t ∷ [] → t < length f.types → ArgsAreSound f (length f.types) all
type_args f xs all t sound is there =
    let P : List PlanArg → Type 0 = ArgsAreSound f (length f.types) in
    subst P (sym is) (sound_args f (length f.types) xs (TypeArg t ∷ []) sound (there, tt))

pub type_arg_is : (f : Flat) (xs all : List PlanArg) (t : ℕ) → all ≡ xs ++ TypeArg t ∷ []
    → args_so_far f all ≡ with_argument (args_so_far f xs) (core.ty_arg (type_at f t))
type_arg_is f xs all t is = ap (args_in f (type_at f)) is ∙ args_append f (type_at f) xs (TypeArg t ∷ [])

pub output_args : (f : Flat) (xs all : List PlanArg) (v : ℕ) → ArgsAreSound f (length f.types) xs
    → all ≡ xs ++ Out v ∷ [] → ArgsAreSound f (length f.types) all
output_args f xs all v sound is =
    let P : List PlanArg → Type 0 = ArgsAreSound f (length f.types) in
    subst P (sym is) (sound_args f (length f.types) xs (Out v ∷ []) sound (tt, tt))

pub output_is : (f : Flat) (xs all : List PlanArg) (v : ℕ) → all ≡ xs ++ Out v ∷ []
    → args_so_far f all ≡ with_argument (args_so_far f xs) (core.out_arg v)
output_is f xs all v is = ap (args_in f (type_at f)) is ∙ args_append f (type_at f) xs (Out v ∷ [])
