-- What a number stands for stays while the lists grow.
use Rattle.std.proofs.Common.{◌≡◌, ℕ, zero, suc, ◌+◌, ◌<◌, ◌≤◌, List, [], ◌∷◌, ◌++◌, Option, Some, None, refl, ap, sym}
use Rattle.std.proofs.Common.{◌∙◌, subst, slice_get, length, take, drop, append_assoc, length-append, arith, ◌⊎◌, inl}
use Rattle.std.proofs.Common.{inr, true, false, nat_lt, Result, Ok, Err, OnOk}
use Rattle.std.proofs.lemmas.Bool.{ltb-true, ltb-false}
use Rattle.std.proofs.lemmas.List.{take-append-le, drop-append-le, length-drop}
use Rattle.std.proofs.lemmas.Option.{slice_get_within}
use Rattle.nat_solver.specs.Number.{Expr, OneUnknown, unknowns}
use Rattle.core_form.specs.Core.{Word, Condition, Ty, Args, Item, Items}
use Rattle.core_form.specs.Core as core
use Rattle.flat_form.specs.declared.lists.Flat.{Flat}
use Rattle.flat_form.specs.declared.lists.PlanOp.{PlanOp}
use Rattle.flat_form.specs.declared.lists.PlanOp.TheVariants.{Check, Solve, When, Field}
use Rattle.flat_form.specs.declared.lists.TypeNode.{TypeNode}
use Rattle.flat_form.specs.declared.lists.TypeNode.TheVariants.{Nat32, Bits, Below, UpTo, Uint, Int, BitStr, Whole}
use Rattle.flat_form.specs.declared.lists.TypeNode.TheVariants.{Variable, Ref, Repeat, Dict, DictE, Named, Group}
use Rattle.flat_form.specs.declared.lists.PlanArg.{PlanArg}
use Rattle.flat_form.specs.declared.lists.PlanArg.TheVariants.{Nat, Ty as TypeArg, Out}
use Rattle.flat_form.specs.Stands.{expr_at, expr_or, name_at, name_or, range, arg_onto, args_in, items_in, node_type}
use Rattle.flat_form.specs.Stands.{type_at, bit_of}
use Rattle.flat_form.specs.Sound.{IsFlat, IsPlainNumber, IsEquation, NodeIsSound, ArgIsSound, ArgsAreSound}
use Rattle.flat_form.specs.Sound.{ConditionsGovern, OpsAreSound, OpIsSound}
use Rattle.flat_form.specs.Growth.{Begins, Grows, Adds}
use Rattle.flat_form.specs.StandingLaws.{Agree, args_agree, items_agree, node_agrees, node_is}

get_append : {A : Type 0} (xs ys : List A) (k : ℕ) → k < length xs → slice_get (xs ++ ys) k ≡ slice_get xs k
get_append [] ys k lt = absurd (omega arith)
get_append (x ∷ xs) ys zero lt = refl
get_append (x ∷ xs) ys (suc k) lt = get_append xs ys k (omega arith)

pub get_seam : {A : Type 0} (xs : List A) (x : A) → slice_get (xs ++ x ∷ []) (length xs) ≡ Some x
get_seam [] x = refl
get_seam (y ∷ xs) x = get_seam xs x

pub get_begins : {A : Type 0} (xs ys : List A) (k : ℕ) → Begins xs ys → k < length xs → slice_get ys k ≡ slice_get xs k
get_begins xs ys k b lt = ap (λ z. slice_get z k) b.is ∙ get_append xs b.more k lt

pub length_begins : {A : Type 0} (xs ys : List A) → Begins xs ys → length xs ≤ length ys
length_begins xs ys b =
    let e : length ys ≡ length xs + length b.more = ap length b.is ∙ length-append xs b.more in omega arith

pub range_begins : {A : Type 0} (xs ys : List A) (first count : ℕ) → Begins xs ys → first + count ≤ length xs
    → range ys first count ≡ range xs first count
range_begins xs ys first count b within =
    let whole : first ≤ length xs = omega arith in
    let left : count ≤ length (drop first xs) = omega (arith, length-drop first xs) in
    ap (λ z. range z first count) b.is
    ∙ ap (take count) (drop-append-le first xs b.more whole)
    ∙ take-append-le count (drop first xs) b.more left

pub expr_grows : (f g : Flat) (e : ℕ) → Grows f g → e < length f.exprs → expr_at g e ≡ expr_at f e
expr_grows f g e grows lt = ap expr_or (get_begins f.exprs g.exprs e grows.exprs lt)

pub name_grows : (f g : Flat) (x : ℕ) → Grows f g → x < length f.names → name_at g x ≡ name_at f x
name_grows f g x grows lt = ap name_or (get_begins f.names g.names x grows.names lt)

pub number_grows : (f g : Flat) (e : ℕ) → Grows f g → IsPlainNumber f e → IsPlainNumber g e
number_grows f g e grows plain =
    let longer : length f.exprs ≤ length g.exprs = length_begins f.exprs g.exprs grows.exprs in
    record
    { there = omega (arith, plain.there); plain = ap unknowns (expr_grows f g e grows plain.there) ∙ plain.plain }

pub equation_grows : (f g : Flat) (v a b : ℕ) → Grows f g → IsEquation f v a b → IsEquation g v a b
equation_grows f g v a b grows h =
    let longer : length f.exprs ≤ length g.exprs = length_begins f.exprs g.exprs grows.exprs in
    let left : expr_at g a ≡ expr_at f a = expr_grows f g a grows h.left_there in
    let right : expr_at g b ≡ expr_at f b = expr_grows f g b grows h.right_there in
    let P : Expr → Type 0 = λ e. OneUnknown e (expr_at g b) v in
    let Q : Expr → Type 0 = λ e. OneUnknown (expr_at f a) e v in
    record {
      left_there = omega (arith, h.left_there);
      right_there = omega (arith, h.right_there);
      one = subst P (sym left) (subst Q (sym right) h.one);
    }

-- ---- soundness

arg_sound : (f g : Flat) (top : ℕ) (a : PlanArg) → Grows f g → ArgIsSound f top a → ArgIsSound g top a
arg_sound f g top (Nat e) grows h = number_grows f g e grows h
arg_sound f g top (TypeArg t) grows h = h
arg_sound f g top (Out v) grows h = tt

pub args_sound : (f g : Flat) (top : ℕ) (xs : List PlanArg) → Grows f g → ArgsAreSound f top xs → ArgsAreSound g top xs
args_sound f g top [] grows h = tt
args_sound f g top (a ∷ xs) grows h = (arg_sound f g top a grows h.0, args_sound f g top xs grows h.1)

op_sound : (f g : Flat) (top : ℕ) (o : PlanOp) → Grows f g → OpIsSound f top o → OpIsSound g top o
op_sound f g top (Check a op b i) grows h = (number_grows f g a grows h.0, number_grows f g b grows h.1)
op_sound f g top (Solve v a b i) grows h = equation_grows f g v a b grows h
op_sound f g top (When e k) grows h = (number_grows f g e grows h.0, h.1)
op_sound f g top (Field x t v) grows h =
    let longer : length f.names ≤ length g.names = length_begins f.names g.names grows.names in
    (omega (arith, h.0), h.1)

pub ops_sound : (f g : Flat) (top : ℕ) (os : List PlanOp) → Grows f g → OpsAreSound f top os → OpsAreSound g top os
ops_sound f g top [] grows h = tt
ops_sound f g top (o ∷ os) grows h = (op_sound f g top o grows h.0, ops_sound f g top os grows h.1)

pub node_sound : (f g : Flat) (top : ℕ) (n : TypeNode) → Grows f g → NodeIsSound f top n → NodeIsSound g top n
node_sound f g top Nat32 grows h = tt
node_sound f g top (Bits e) grows h = number_grows f g e grows h
node_sound f g top (Below e) grows h = number_grows f g e grows h
node_sound f g top (UpTo e) grows h = number_grows f g e grows h
node_sound f g top (Uint e) grows h = number_grows f g e grows h
node_sound f g top (Int e) grows h = number_grows f g e grows h
node_sound f g top (BitStr e) grows h = number_grows f g e grows h
node_sound f g top Whole grows h = tt
node_sound f g top (Variable v) grows h = tt
node_sound f g top (Ref t) grows h = h
node_sound f g top (Repeat e t) grows h = (number_grows f g e grows h.0, h.1)
node_sound f g top (Dict e t) grows h = (number_grows f g e grows h.0, h.1)
node_sound f g top (DictE e t) grows h = (number_grows f g e grows h.0, h.1)
node_sound f g top (Named x first count) grows h =
    let longer : length f.names ≤ length g.names = length_begins f.names g.names grows.names in
    let more : length f.args ≤ length g.args = length_begins f.args g.args grows.args in
    let P : List PlanArg → Type 0 = ArgsAreSound g top in
    let same : range f.args first count ≡ range g.args first count =
    sym (range_begins f.args g.args first count grows.args h.1) in
    (omega (arith, h.0), omega (arith, h.1), subst P same (args_sound f g top (range f.args first count) grows h.2))
node_sound f g top (Group first count) grows h =
    let more : length f.ops ≤ length g.ops = length_begins f.ops g.ops grows.ops in
    let same : range f.ops first count ≡ range g.ops first count =
    sym (range_begins f.ops g.ops first count grows.ops h.0) in
    let P : List PlanOp → Type 0 = OpsAreSound g top in
    let Q : List PlanOp → Type 0 = ConditionsGovern in
    (omega (arith, h.0), subst P same (ops_sound f g top (range f.ops first count) grows h.1), subst Q same h.2)

-- ---- what is stood for

arg_stays : (f g : Flat) (at : ℕ → Ty) (top : ℕ) (a : PlanArg) (rest : Args) → Grows f g → ArgIsSound f top a
    → arg_onto g at a rest ≡ arg_onto f at a rest
arg_stays f g at top (Nat e) rest grows h = ap (λ z. core.nat_arg z rest) (expr_grows f g e grows h.there)
arg_stays f g at top (TypeArg t) rest grows h = refl
arg_stays f g at top (Out v) rest grows h = refl

pub args_stay : (f g : Flat) (at : ℕ → Ty) (top : ℕ) (xs : List PlanArg) → Grows f g → ArgsAreSound f top xs
    → args_in g at xs ≡ args_in f at xs
args_stay f g at top [] grows h = refl
args_stay f g at top (a ∷ xs) grows h =
    ap (arg_onto g at a) (args_stay f g at top xs grows h.1) ∙ arg_stays f g at top a (args_in f at xs) grows h.0

pub items_stay : (f g : Flat) (at : ℕ → Ty) (top : ℕ) (c d : Option Condition) (os : List PlanOp) → Grows f g
    → OpsAreSound f top os → c ≡ d → items_in g at c os ≡ items_in f at d os
items_stay f g at top c d [] grows h e = refl
items_stay f g at top c d (Check a op b i ∷ os) grows h e =
    let left : expr_at g a ≡ expr_at f a = expr_grows f g a grows h.0.0.there in
    let right : expr_at g b ≡ expr_at f b = expr_grows f g b grows h.0.1.there in
    let rest : items_in g at None os ≡ items_in f at None os = items_stay f g at top None None os grows h.1 refl in
    cc
items_stay f g at top c d (Solve v a b i ∷ os) grows h e =
    let left : expr_at g a ≡ expr_at f a = expr_grows f g a grows h.0.left_there in
    let right : expr_at g b ≡ expr_at f b = expr_grows f g b grows h.0.right_there in
    let rest : items_in g at None os ≡ items_in f at None os = items_stay f g at top None None os grows h.1 refl in
    cc
items_stay f g at top c d (When n k ∷ os) grows h e =
    items_stay f g at top _ _ os grows h.1
    (ap (λ z. Some (let r : Condition = record { number = z; bit = bit_of k } in r))
    (expr_grows f g n grows h.0.0.there))
items_stay f g at top c d (Field x t v ∷ os) grows h e =
    let named : name_at g x ≡ name_at f x = name_grows f g x grows h.0.0 in
    let rest : items_in g at None os ≡ items_in f at None os = items_stay f g at top None None os grows h.1 refl in
    cc

pub node_stays : (f g : Flat) (at : ℕ → Ty) (top : ℕ) (n : TypeNode) → Grows f g → NodeIsSound f top n
    → node_type g at n ≡ node_type f at n
node_stays f g at top Nat32 grows h = refl
node_stays f g at top (Bits e) grows h = ap core.bits (expr_grows f g e grows h.there)
node_stays f g at top (Below e) grows h = ap core.below (expr_grows f g e grows h.there)
node_stays f g at top (UpTo e) grows h = ap core.up_to (expr_grows f g e grows h.there)
node_stays f g at top (Uint e) grows h = ap core.uint (expr_grows f g e grows h.there)
node_stays f g at top (Int e) grows h = ap core.int (expr_grows f g e grows h.there)
node_stays f g at top (BitStr e) grows h = ap core.bit_str (expr_grows f g e grows h.there)
node_stays f g at top Whole grows h = refl
node_stays f g at top (Variable v) grows h = refl
node_stays f g at top (Ref t) grows h = refl
node_stays f g at top (Repeat e t) grows h = ap (λ z. core.repeat z (at t)) (expr_grows f g e grows h.0.there)
node_stays f g at top (Dict e t) grows h = ap (λ z. core.dict z (at t)) (expr_grows f g e grows h.0.there)
node_stays f g at top (DictE e t) grows h = ap (λ z. core.dict_e z (at t)) (expr_grows f g e grows h.0.there)
node_stays f g at top (Named x first count) grows h =
    ap (λ z. core.named z (args_in g at (range g.args first count))) (name_grows f g x grows h.0)
    ∙ ap (λ z. core.named (name_at f x) (args_in g at z)) (range_begins f.args g.args first count grows.args h.1)
    ∙ ap (core.named (name_at f x)) (args_stay f g at top (range f.args first count) grows h.2)
node_stays f g at top (Group first count) grows h =
    ap (λ z. core.group (items_in g at None z)) (range_begins f.ops g.ops first count grows.ops h.0)
    ∙ ap core.group (items_stay f g at top None None (range f.ops first count) grows h.1 refl)

at_or : {A : Type 0} (xs : List A) (k : ℕ) → k < length xs → (x : A) × (slice_get xs k ≡ Some x)
at_or [] k lt = absurd (omega arith)
at_or (x ∷ xs) zero lt = (x, refl)
at_or (x ∷ xs) (suc k) lt = at_or xs k (omega arith)

one_stays : (f g : Flat) (t : ℕ) (n : TypeNode) → IsFlat f → Adds f g → slice_get f.types t ≡ Some n
    → t < length f.types → Agree (type_at g) (type_at f) t → type_at g t ≡ type_at f t
one_stays f g t n flat adds e there same =
    node_is g t n (get_begins f.types g.types t adds.grows.types there ∙ e) adds.flat
    ∙ node_stays f g (type_at g) t n adds.grows (flat.nodes t n e)
    ∙ node_agrees f (type_at g) (type_at f) t n same (flat.nodes t n e)
    ∙ sym (node_is f t n e flat)

stays_within : (f g : Flat) (depth : ℕ) → IsFlat f → Adds f g → (t : ℕ) → t < depth → t < length f.types
    → type_at g t ≡ type_at f t
stays_within f g zero flat adds t below there = absurd (omega arith)
stays_within f g (suc depth) flat adds t below there =
    let n = at_or f.types t there in
    one_stays f g t n.0 flat adds n.1 there (λ u less. stays_within f g depth flat adds u (omega arith) (omega arith))

pub type_stays : (f g : Flat) (t : ℕ) → IsFlat f → Adds f g → t < length f.types → type_at g t ≡ type_at f t
type_stays f g t flat adds there = stays_within f g (suc t) flat adds t (omega arith) there

-- ---- one step after the other

pub begins_same : {A : Type 0} (xs : List A) → Begins xs xs
begins_same xs = record { more = []; is = same xs }
  where
    same : {A : Type 0} (ys : List A) → ys ≡ ys ++ []
    same [] = refl
    same (y ∷ ys) = ap (λ z. y ∷ z) (same ys)

pub begins_on : {A : Type 0} (xs ys zs : List A) → Begins xs ys → Begins ys zs → Begins xs zs
begins_on xs ys zs b c =
    record { more = b.more ++ c.more; is = c.is ∙ ap (λ z. z ++ c.more) b.is ∙ append_assoc xs b.more c.more }

pub adds_same : (f : Flat) → IsFlat f → Adds f f
adds_same f flat = record {
  flat = flat;
  grows = record {
    ops = begins_same f.ops;
    types = begins_same f.types;
    args = begins_same f.args;
    exprs = begins_same f.exprs;
    names = begins_same f.names;
  };
}

pub adds_on : (f g h : Flat) → Adds f g → Adds g h → Adds f h
adds_on f g h a b = record {
  flat = b.flat;
  grows = record {
    ops = begins_on f.ops g.ops h.ops a.grows.ops b.grows.ops;
    types = begins_on f.types g.types h.types a.grows.types b.grows.types;
    args = begins_on f.args g.args h.args a.grows.args b.grows.args;
    exprs = begins_on f.exprs g.exprs h.exprs a.grows.exprs b.grows.exprs;
    names = begins_on f.names g.names h.names a.grows.names b.grows.names;
  };
}

-- ---- what is added

pub begins_more : {A : Type 0} (xs ys zs : List A) → ys ≡ xs ++ zs → Begins xs ys
begins_more xs ys zs e = record { more = zs; is = e }

pub begins_equal : {A : Type 0} (xs ys : List A) → ys ≡ xs → Begins xs ys
begins_equal xs ys e = record { more = (begins_same xs).more; is = e ∙ (begins_same xs).is }

nodes_stay : (f g : Flat) → IsFlat f → Grows f g → g.types ≡ f.types
    → (t : ℕ) (n : TypeNode) → slice_get g.types t ≡ Some n → NodeIsSound g t n
nodes_stay f g flat grows same t n e =
    node_sound f g t n grows (flat.nodes t n (ap (λ z. slice_get z t) (sym same) ∙ e))

-- lists that grew with the same nodes and operations
pub adds_others : (f g : Flat) → IsFlat f → Grows f g → g.types ≡ f.types → g.ops ≡ f.ops → Adds f g
adds_others f g flat grows same ops =
    let P : List TypeNode → Type 0 = λ z. (p x t v : ℕ) → slice_get f.ops p ≡ Some (Field x t v) → t < length z in
    let there = subst P (sym same) flat.there in
    record {
      flat = record {
        nodes = nodes_stay f g flat grows same;
        there = λ p x t v e. there p x t v (ap (λ z. slice_get z p) (sym ops) ∙ e);
        before = λ p x t v u first count e le n.
            flat.before p x t v u first count (ap (λ z. slice_get z p) (sym ops) ∙ e) le
            (ap (λ z. slice_get z u) (sym same) ∙ n);
      };
      grows = grows;
    }

-- ---- operations more

-- an operation is one of the first, or stands after them
op_at : (xs ys : List PlanOp) (p : ℕ) (o : PlanOp) → slice_get (xs ++ ys) p ≡ Some o
    → (slice_get xs p ≡ Some o) ⊎ ((length xs ≤ p) × ((k : ℕ) × (slice_get ys k ≡ Some o)))
op_at [] ys p o e = inr (omega arith, (p, e))
op_at (x ∷ xs) ys zero o e = inl e
op_at (x ∷ xs) ys (suc p) o e =
    elim (op_at xs ys p o e) [ inl h ↦ inl h | inr h ↦ inr (omega (arith, h.0), h.1) ]

type_there : (f : Flat) (top : ℕ) (os : List PlanOp) (p x t v : ℕ) → OpsAreSound f top os
    → slice_get os p ≡ Some (Field x t v) → t < top
type_there f top [] p x t v h e = cc
type_there f top (o ∷ os) zero x t v h e =
    let P : PlanOp → Type 0 = OpIsSound f top in
    let is : o ≡ Field x t v = cc in
    (subst P is h.0).1
type_there f top (o ∷ os) (suc p) x t v h e = type_there f top os p x t v h.1 e

-- each field was there, or stands after what was there and has a type that is there
field_at : (f g : Flat) (new : List PlanOp) → g.ops ≡ f.ops ++ new → OpsAreSound f (length f.types) new
    → (p x t v : ℕ) → slice_get g.ops p ≡ Some (Field x t v)
    → (slice_get f.ops p ≡ Some (Field x t v)) ⊎ ((length f.ops ≤ p) × (t < length f.types))
field_at f g new is sound p x t v e =
    elim (op_at f.ops new p (Field x t v) (ap (λ z. slice_get z p) (sym is) ∙ e)) [
      | inl h ↦ inl h
      | inr h ↦ inr (h.0, type_there f (length f.types) new h.1.0 x t v sound h.1.1)
    ]

field_there : (f : Flat) (p x t v : ℕ) → IsFlat f
    → (slice_get f.ops p ≡ Some (Field x t v)) ⊎ ((length f.ops ≤ p) × (t < length f.types)) → t < length f.types
field_there f p x t v flat (inl h) = flat.there p x t v h
field_there f p x t v flat (inr h) = h.1

group_before : (f : Flat) (p x t v u first count : ℕ) → IsFlat f
    → (slice_get f.ops p ≡ Some (Field x t v)) ⊎ ((length f.ops ≤ p) × (t < length f.types)) → u ≤ t
    → slice_get f.types u ≡ Some (Group first count) → first + count ≤ p
group_before f p x t v u first count flat (inl h) le n = flat.before p x t v u first count h le n
group_before f p x t v u first count flat (inr h) le n =
    let within = (flat.nodes u (Group first count) n).0 in omega (arith, h.0, within)

-- lists that grew with the same nodes, and with these operations
pub adds_ops : (f g : Flat) (new : List PlanOp) → IsFlat f → Grows f g → g.types ≡ f.types → g.ops ≡ f.ops ++ new
    → OpsAreSound f (length f.types) new → Adds f g
adds_ops f g new flat grows same is sound =
    let at = field_at f g new is sound in
    let P : List TypeNode → Type 0 = λ z. (p x t v : ℕ) → slice_get g.ops p ≡ Some (Field x t v) → t < length z in
    record {
      flat = record {
        nodes = nodes_stay f g flat grows same;
        there = subst P (sym same) (λ p x t v e. field_there f p x t v flat (at p x t v e));
        before = λ p x t v u first count e le n.
            group_before f p x t v u first count flat (at p x t v e) le (ap (λ z. slice_get z u) (sym same) ∙ n);
      };
      grows = grows;
    }

-- one node more
new_node : (f g : Flat) (n : TypeNode) → IsFlat f → Grows f g → g.types ≡ f.types ++ n ∷ []
    → NodeIsSound f (length f.types) n
    → (t : ℕ) (m : TypeNode) → slice_get g.types t ≡ Some m → (t < length f.types) ⊎ (t ≡ length f.types)
    → NodeIsSound g t m
new_node f g n flat grows is sound t m e (inl less) =
    node_sound f g t m grows (flat.nodes t m (sym (get_begins f.types g.types t grows.types less) ∙ e))
new_node f g n flat grows is sound t m e (inr same) =
    let here : Some n ≡ Some m = sym (get_seam f.types n)
    ∙ ap (λ z. slice_get z (length f.types)) (sym is)
    ∙ ap (slice_get g.types) (sym same)
    ∙ e in
    let node : n ≡ m = cc in
    let P : ℕ → Type 0 = λ z. NodeIsSound g z m in
    let Q : TypeNode → Type 0 = NodeIsSound g (length f.types) in
    subst P (sym same) (subst Q node (node_sound f g (length f.types) n grows sound))

below_or_at : (t n : ℕ) → t < n + 1 → (t < n) ⊎ (t ≡ n)
below_or_at t n lt =
    elim (nat_lt t n) as
    (λ b. nat_lt t n ≡ b → (t < n) ⊎ (t ≡ n))
    [ true ↦ λ e. inl (ltb-true t n e) | false ↦ λ e. let h : n ≤ t = ltb-false t n e in inr (omega arith) ] refl

pub adds_node : (f g : Flat) (n : TypeNode) → IsFlat f → Grows f g → g.types ≡ f.types ++ n ∷ [] → g.ops ≡ f.ops
    → NodeIsSound f (length f.types) n → Adds f g
adds_node f g n flat grows is ops sound =
    let longer : length g.types ≡ length f.types + 1 = ap length is ∙ length-append f.types (n ∷ []) in
    record {
      flat = record {
        nodes = λ t m e.
            let within : t < length g.types = slice_get_within g.types t m e in
            new_node f g n flat grows is sound t m e (below_or_at t (length f.types) (omega arith));
        there = λ p x t v e.
            let there = flat.there p x t v (ap (λ z. slice_get z p) (sym ops) ∙ e) in omega (arith, there);
        before = λ p x t v u first count e le m.
            let old = ap (λ z. slice_get z p) (sym ops) ∙ e in
            let there : t < length f.types = flat.there p x t v old in
            flat.before p x t v u first count old le
            (sym (get_begins f.types g.types u grows.types (omega arith)) ∙ m);
      };
      grows = grows;
    }

pub node_stands : (f g : Flat) (n : TypeNode) → IsFlat f → Grows f g → g.types ≡ f.types ++ n ∷ [] → g.ops ≡ f.ops
    → NodeIsSound f (length f.types) n → type_at g (length f.types) ≡ node_type f (type_at f) n
node_stands f g n flat grows is ops sound =
    let adds : Adds f g = adds_node f g n flat grows is ops sound in
    node_is g (length f.types) n (ap (λ z. slice_get z (length f.types)) is ∙ get_seam f.types n) adds.flat
    ∙ node_stays f g (type_at g) (length f.types) n grows sound
    ∙ node_agrees f (type_at g) (type_at f) (length f.types) n (λ u less. type_stays f g u flat adds less) sound

-- a record's operations keep their meaning
pub record_stays : (f g : Flat) (ops : List PlanOp) → IsFlat f → Adds f g → OpsAreSound f (length f.types) ops
    → items_in g (type_at g) None ops ≡ items_in f (type_at f) None ops
record_stays f g ops flat adds sound =
    items_stay f g (type_at g) (length f.types) None None ops adds.grows sound refl
    ∙ items_agree f (type_at g) (type_at f) (length f.types) None ops (λ u less. type_stays f g u flat adds less) sound

op_higher : (f : Flat) (top more : ℕ) (o : PlanOp) → top ≤ more → OpIsSound f top o → OpIsSound f more o
op_higher f top more (Check a op b i) le h = h
op_higher f top more (Solve v a b i) le h = h
op_higher f top more (When e k) le h = h
op_higher f top more (Field x t v) le h = (h.0, omega (arith, h.1))

pub ops_higher : (f : Flat) (top more : ℕ) (os : List PlanOp) → top ≤ more → OpsAreSound f top os
    → OpsAreSound f more os
ops_higher f top more [] le h = tt
ops_higher f top more (o ∷ os) le h = (op_higher f top more o le h.0, ops_higher f top more os le h.1)

pub record_sound : (f g : Flat) (ops : List PlanOp) → Adds f g → OpsAreSound f (length f.types) ops
    → OpsAreSound g (length g.types) ops
record_sound f g ops adds sound =
    ops_higher g (length f.types) (length g.types) ops (length_begins f.types g.types adds.grows.types)
    (ops_sound f g (length f.types) ops adds.grows sound)

-- arguments keep their meaning
args_higher : (f : Flat) (top more : ℕ) (xs : List PlanArg) → top ≤ more → ArgsAreSound f top xs
    → ArgsAreSound f more xs
args_higher f top more [] le h = tt
args_higher f top more (Nat e ∷ xs) le h = (h.0, args_higher f top more xs le h.1)
args_higher f top more (TypeArg t ∷ xs) le h = (omega (arith, h.0), args_higher f top more xs le h.1)
args_higher f top more (Out v ∷ xs) le h = (h.0, args_higher f top more xs le h.1)

pub arguments_stay : (f g : Flat) (xs : List PlanArg) → IsFlat f → Adds f g → ArgsAreSound f (length f.types) xs
    → args_in g (type_at g) xs ≡ args_in f (type_at f) xs
arguments_stay f g xs flat adds sound =
    args_stay f g (type_at g) (length f.types) xs adds.grows sound
    ∙ args_agree f (type_at g) (type_at f) (length f.types) xs (λ u less. type_stays f g u flat adds less) sound

pub arguments_sound : (f g : Flat) (xs : List PlanArg) → Adds f g → ArgsAreSound f (length f.types) xs
    → ArgsAreSound g (length g.types) xs
arguments_sound f g xs adds sound =
    args_higher g (length f.types) (length g.types) xs (length_begins f.types g.types adds.grows.types)
    (args_sound f g (length f.types) xs adds.grows sound)

pub on_ok : {T E : Type 0} {P Q : Type 0} (r : Result T E) → (P → Q) → OnOk r P → OnOk r Q
on_ok (Ok x) f h = f h
on_ok (Err e) f h = h

-- arguments that were added are there after more was added
pub args_then : (g h : Flat) (first count : ℕ) (xs : List PlanArg) → Adds g h → range g.args first (length xs) ≡ xs
    → first + length xs ≤ length g.args → count ≡ length xs
    → (first + count ≤ length h.args) × (range h.args first count ≡ xs)
args_then g h first count xs adds is there same =
    let longer : length g.args ≤ length h.args = length_begins g.args h.args adds.grows.args in
    let within : first + count ≤ length g.args = omega arith in
    (omega arith, range_begins g.args h.args first count adds.grows.args within ∙ ap (range g.args first) same ∙ is)
