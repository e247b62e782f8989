-- What a node stands for, by what its parts stand for.
use Rattle.std.proofs.Common.{◌≡◌, ℕ, zero, suc, ◌<◌, List, [], ◌∷◌, Option, Some, None, refl, ap}
use Rattle.std.proofs.Common.{◌∙◌, slice_get, arith}
use Rattle.core_form.specs.Core.{Word, Condition, Ty, Args, Item, Items}
use Rattle.core_form.specs.Core as core
use Rattle.flat_form.specs.declared.lists.Flat.{Flat}
use Rattle.flat_form.specs.declared.lists.PlanOp.{PlanOp}
use Rattle.flat_form.specs.declared.lists.PlanOp.TheVariants.{Check, Solve, When, Field}
use Rattle.flat_form.specs.declared.lists.TypeNode.{TypeNode}
use Rattle.flat_form.specs.declared.lists.TypeNode.TheVariants.{Nat32, Bits, Below, UpTo, Uint, Int, BitStr, Whole}
use Rattle.flat_form.specs.declared.lists.TypeNode.TheVariants.{Variable, Ref, Repeat, Dict, DictE, Named, Group}
use Rattle.flat_form.specs.declared.lists.PlanArg.{PlanArg}
use Rattle.flat_form.specs.declared.lists.PlanArg.TheVariants.{Nat, Ty as TypeArg, Out}
use Rattle.flat_form.specs.Stands.{expr_at, name_at, arg_onto, args_in, items_in, node_type}
use Rattle.flat_form.specs.Stands.{node_or, type_at, slot_of}
use Rattle.flat_form.specs.Sound.{IsFlat, NodeIsSound, ArgIsSound, ArgsAreSound}
use Rattle.flat_form.specs.Sound.{OpsAreSound}
use Rattle.flat_form.specs.Stands.{type_within}

-- two readings of numbers that agree below a number
abbrev pub Agree : (ℕ → Ty) → (ℕ → Ty) → ℕ → Type 0
Agree p q top = (t : ℕ) → t < top → p t ≡ q t

arg_agrees : (f : Flat) (p q : ℕ → Ty) (top : ℕ) (a : PlanArg) (rest : Args) → Agree p q top → ArgIsSound f top a
    → arg_onto f p a rest ≡ arg_onto f q a rest
arg_agrees f p q top (Nat e) rest same sound = refl
arg_agrees f p q top (TypeArg t) rest same sound = ap (λ z. core.ty_arg z rest) (same t sound)
arg_agrees f p q top (Out v) rest same sound = refl

pub args_agree : (f : Flat) (p q : ℕ → Ty) (top : ℕ) (xs : List PlanArg) → Agree p q top → ArgsAreSound f top xs
    → args_in f p xs ≡ args_in f q xs
args_agree f p q top [] same sound = refl
args_agree f p q top (a ∷ rest) same sound =
    ap (arg_onto f p a) (args_agree f p q top rest same sound.1)
    ∙ arg_agrees f p q top a (args_in f q rest) same sound.0

pub items_agree : (f : Flat) (p q : ℕ → Ty) (top : ℕ) (c : Option Condition) (ops : List PlanOp) → Agree p q top
    → OpsAreSound f top ops → items_in f p c ops ≡ items_in f q c ops
items_agree f p q top c [] same sound = refl
items_agree f p q top c (Check a op b i ∷ ops) same sound =
    ap (core.an_item (core.check (expr_at f a) op (expr_at f b) i)) (items_agree f p q top None ops same sound.1)
items_agree f p q top c (Solve v a b i ∷ ops) same sound =
    ap (core.an_item (core.solve v (expr_at f a) (expr_at f b) i)) (items_agree f p q top None ops same sound.1)
items_agree f p q top c (When e k ∷ ops) same sound = items_agree f p q top _ ops same sound.1
items_agree f p q top c (Field x t v ∷ ops) same sound =
    ap (core.an_item (core.field (name_at f x) (slot_of v) c (p t))) (items_agree f p q top None ops same sound.1)
    ∙ ap (λ z. core.an_item (core.field (name_at f x) (slot_of v) c z) (items_in f q None ops)) (same t sound.0.1)

pub node_agrees : (f : Flat) (p q : ℕ → Ty) (top : ℕ) (n : TypeNode) → Agree p q top → NodeIsSound f top n
    → node_type f p n ≡ node_type f q n
node_agrees f p q top Nat32 same sound = refl
node_agrees f p q top (Bits e) same sound = refl
node_agrees f p q top (Below e) same sound = refl
node_agrees f p q top (UpTo e) same sound = refl
node_agrees f p q top (Uint e) same sound = refl
node_agrees f p q top (Int e) same sound = refl
node_agrees f p q top (BitStr e) same sound = refl
node_agrees f p q top Whole same sound = refl
node_agrees f p q top (Variable v) same sound = refl
node_agrees f p q top (Ref t) same sound = ap core.ref (same t sound)
node_agrees f p q top (Repeat e t) same sound = ap (core.repeat (expr_at f e)) (same t sound.1)
node_agrees f p q top (Dict e t) same sound = ap (core.dict (expr_at f e)) (same t sound.1)
node_agrees f p q top (DictE e t) same sound = ap (core.dict_e (expr_at f e)) (same t sound.1)
node_agrees f p q top (Named x first count) same sound =
    ap (core.named (name_at f x)) (args_agree f p q top _ same sound.2)
node_agrees f p q top (Group first count) same sound = ap core.group (items_agree f p q top None _ same sound.1)

or_agrees : (f : Flat) (p q : ℕ → Ty) (top : ℕ) (n : Option TypeNode)
    → ((m : TypeNode) → n ≡ Some m → NodeIsSound f top m) → Agree p q top → node_or f p n ≡ node_or f q n
or_agrees f p q top (Some n) sound same = node_agrees f p q top n same (sound n refl)
or_agrees f p q top None sound same = refl

-- the depth doesn't matter where it is more than the number
pub depths_agree : (f : Flat) (d e : ℕ) → IsFlat f → (t : ℕ) → t < d → t < e → type_within d f t ≡ type_within e f t
unfolding type_within
depths_agree f zero e flat t below_d below_e = absurd (omega arith)
depths_agree f (suc d) zero flat t below_d below_e = absurd (omega arith)
depths_agree f (suc d) (suc e) flat t below_d below_e =
    or_agrees f (type_within d f) (type_within e f) t (slice_get f.types t) (flat.nodes t)
    (λ u below. depths_agree f d e flat u (omega arith) (omega arith))

-- a node stands for itself over what its parts stand for
pub type_at_is : (f : Flat) (t : ℕ) → IsFlat f → type_at f t ≡ node_or f (type_at f) (slice_get f.types t)
unfolding type_at type_within
type_at_is f t flat =
    or_agrees f (type_within t f) (type_at f) t (slice_get f.types t) (flat.nodes t)
    (λ u below. depths_agree f t (suc u) flat u below (omega arith))

pub node_is : (f : Flat) (t : ℕ) (n : TypeNode) → slice_get f.types t ≡ Some n → IsFlat f
    → type_at f t ≡ node_type f (type_at f) n
node_is f t n e flat = type_at_is f t flat ∙ ap (node_or f (type_at f)) e
