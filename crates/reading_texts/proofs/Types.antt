-- The numbers of closed types, and of those that variables stand for, are below 2^32.
use Rattle.std.proofs.Common.{◌≡◌, ℕ, zero, suc, ◌<◌, ◌^◌, sym, subst, refl, arith, List, [], ◌∷◌, Option, Some, None, replicate, slice_get, slice_set}
use Rattle.nat_solver.specs.Number.{Expr, Numbers, lit, var, sought, plus, times, number_at, within_any, value}
use Rattle.nat_solver.specs.ValueLaws.{within_some, sum_parts, times_parts}
use Rattle.nat_solver.specs.declared.pattern.Pattern.{Pattern}
use Rattle.nat_solver.specs.declared.pattern.Pattern.TheVariants.{Lit, Var, Plus}
use Rattle.core_form.specs.Closed.{Closed, ClosedArgs, ClosedOf, AreClosedOf}
use Rattle.core_form.specs.Closed as closed
use Rattle.core_form.specs.Closing.{of_number, of_type, of_both, of_args, and_number, and_type, closing, closing_args}
use Rattle.core_form.specs.Core.{Word, Ty, Args, Input, CoreSchema}
use Rattle.core_form.specs.Core as core
use Rattle.core_form.specs.Fit.{InputsFit, with_pattern}
use Rattle.core_form.specs.Scope.{Scope, set_type, unset, value_in, with_number, with_type, bind}

-- bounds of `#<` and `#<=`, here and in every part
abbrev mutual
  pub Small : Closed → Type 0
  Small closed.nat32 = Unit {0}
  Small (closed.bits n) = Unit {0}
  Small (closed.below n) = n < 2 ^ 32
  Small (closed.up_to n) = n < 2 ^ 32
  Small (closed.uint n) = Unit {0}
  Small (closed.int n) = Unit {0}
  Small (closed.bit_str n) = Unit {0}
  Small closed.whole = Unit {0}
  Small (closed.ref t) = Small t
  Small (closed.repeat n t) = Small t
  Small (closed.dict n t) = Small t
  Small (closed.dict_e n t) = Small t
  Small (closed.named x args) = AreSmall args

  pub AreSmall : ClosedArgs → Type 0
  AreSmall closed.no_args = Unit {0}
  AreSmall (closed.nat_arg n args) = AreSmall args
  AreSmall (closed.ty_arg t args) = Small t × AreSmall args

mutual
  pub small-of : (s : CoreSchema) (t : Closed) → ClosedOf s t → Small t
  small-of s closed.nat32 h = tt
  small-of s (closed.bits n) h = tt
  small-of s (closed.below n) h = h
  small-of s (closed.up_to n) h = h
  small-of s (closed.uint n) h = tt
  small-of s (closed.int n) h = tt
  small-of s (closed.bit_str n) h = tt
  small-of s closed.whole h = tt
  small-of s (closed.ref t) h = small-of s t h
  small-of s (closed.repeat n t) h = small-of s t h.1
  small-of s (closed.dict n t) h = small-of s t h.1
  small-of s (closed.dict_e n t) h = small-of s t h.1
  small-of s (closed.named x args) h = smalls-of s args h.1

  smalls-of : (s : CoreSchema) (args : ClosedArgs) → AreClosedOf s args → AreSmall args
  smalls-of s closed.no_args h = tt
  smalls-of s (closed.nat_arg n args) h = smalls-of s args h.1
  smalls-of s (closed.ty_arg t args) h = (small-of s t h.0, smalls-of s args h.1)

-- ---- values

any-small : (o : Option ℕ) (n : ℕ) → within_any o ≡ Some n → n < 2 ^ 32
any-small None n e = absurd (cc)
any-small (Some m) n e = let p = within_some m n e in let a = p.0 in let b = p.1 in omega (arith, a, b)

value-small : (e : Expr) (env : Numbers) (n : ℕ) → value e env ≡ Some n → n < 2 ^ 32
value-small (lit m) env n e = let p = within_some m n e in let a = p.0 in let b = p.1 in omega (arith, a, b)
value-small (var v) env n e = any-small (number_at env v) n e
value-small (sought v) env n e = absurd (cc)
value-small (plus a b) env n e = (sum_parts (value a env) (value b env) n e).fits
value-small (times k a) env n e = (times_parts k (value a env) n e).fits

-- ---- what variables stand for

abbrev pub AreSmallTypes : List (Option Closed) → Type 0
AreSmallTypes [] = Unit {0}
AreSmallTypes (None ∷ ts) = AreSmallTypes ts
AreSmallTypes (Some t ∷ ts) = Small t × AreSmallTypes ts

unset-small : (n : ℕ) → AreSmallTypes (replicate n None)
unset-small zero = tt
unset-small (suc n) = unset-small n

set-small : (ts : List (Option Closed)) (v : ℕ) (t : Closed) → AreSmallTypes ts → Small t
    → AreSmallTypes (slice_set ts v (Some t))
set-small [] v t h k = tt
set-small (None ∷ ts) zero t h k = (k, h)
set-small (Some u ∷ ts) zero t h k = (k, h.1)
set-small (None ∷ ts) (suc v) t h k = set-small ts v t h k
set-small (Some u ∷ ts) (suc v) t h k = (h.0, set-small ts v t h.1 k)

same-small : (a c : Closed) → Some a ≡ Some c → Small a → Small c
same-small a c e h = let same : a ≡ c = cc in subst Small same h

type-small : (ts : List (Option Closed)) (v : ℕ) (t : Closed) → AreSmallTypes ts → set_type (slice_get ts v) ≡ Some t
    → Small t
type-small [] v t h e = absurd (cc)
type-small (None ∷ ts) zero t h e = absurd (cc)
type-small (Some u ∷ ts) zero t h e = same-small u t e h.0
type-small (None ∷ ts) (suc v) t h e = type-small ts v t h e
type-small (Some u ∷ ts) (suc v) t h e = type-small ts v t h.1 e

-- outputs set numbers alone
pub bind-small : (vs outs : List ℕ) (scope : Scope) → AreSmallTypes scope.types → AreSmallTypes (bind vs outs scope).types
bind-small [] outs scope h = h
bind-small (v ∷ vs) [] scope h = h
bind-small (v ∷ vs) (n ∷ ns) scope h = bind-small vs ns (with_number v n scope) h

pattern-small : (p : Pattern) (y : ℕ) (scope : Scope) → AreSmallTypes scope.types
    → AreSmallTypes (with_pattern p y scope).types
pattern-small (Lit n) y scope h = h
pattern-small (Var v) y scope h = h
pattern-small (Plus v k) y scope h = h

inputs-small : (inputs : List Input) (args : ClosedArgs) (scope end : Scope) → InputsFit inputs args scope end
    → AreSmall args → AreSmallTypes scope.types → AreSmallTypes end.types
inputs-small [] closed.no_args scope end e a h =
    let P : Scope → Type 0 = λ x. AreSmallTypes x.types in subst P (sym e) h
inputs-small [] (closed.nat_arg n args) scope end e a h = absurd e
inputs-small [] (closed.ty_arg t args) scope end e a h = absurd e
inputs-small (core.number p ∷ inputs) closed.no_args scope end e a h = absurd e
inputs-small (core.number p ∷ inputs) (closed.nat_arg n args) scope end e a h =
    inputs-small inputs args (with_pattern p e.0 scope) end e.2 a (pattern-small p e.0 scope h)
inputs-small (core.number p ∷ inputs) (closed.ty_arg t args) scope end e a h = absurd e
inputs-small (core.type v ∷ inputs) closed.no_args scope end e a h = absurd e
inputs-small (core.type v ∷ inputs) (closed.nat_arg n args) scope end e a h = absurd e
inputs-small (core.type v ∷ inputs) (closed.ty_arg t args) scope end e a h =
    inputs-small inputs args (with_type v t scope) end e a.1 (set-small scope.types v t h a.0)

pub fits-small : (inputs : List Input) (slots : ℕ) (args : ClosedArgs) (end : Scope)
    → InputsFit inputs args (unset slots) end → AreSmall args → AreSmallTypes end.types
fits-small inputs slots args end e a = inputs-small inputs args (unset slots) end e a (unset-small slots)

-- ---- closing

by-number : (f : ℕ → Closed) (o : Option ℕ) (c : Closed) → ((n : ℕ) → o ≡ Some n → Small (f n)) → of_number f o ≡ Some c
    → Small c
by-number f None c h e = absurd (cc)
by-number f (Some n) c h e = same-small (f n) c e (h n refl)

by-type : (f : Closed → Closed) (o : Option Closed) (c : Closed) → ((t : Closed) → o ≡ Some t → Small (f t))
    → of_type f o ≡ Some c → Small c
by-type f None c h e = absurd (cc)
by-type f (Some t) c h e = same-small (f t) c e (h t refl)

by-both : (f : ℕ → Closed → Closed) (o : Option ℕ) (p : Option Closed) (c : Closed)
    → ((n : ℕ) (t : Closed) → p ≡ Some t → Small (f n t)) → of_both f o p ≡ Some c → Small c
by-both f None p c h e = absurd (cc)
by-both f (Some n) p c h e = by-type (f n) p c (h n) e

by-args : (x : Word) (o : Option ClosedArgs) (c : Closed) → ((args : ClosedArgs) → o ≡ Some args → AreSmall args)
    → of_args x o ≡ Some c → Small c
by-args x None c h e = absurd (cc)
by-args x (Some args) c h e = same-small (closed.named x args) c e (h args refl)

same-smalls : (a c : ClosedArgs) → Some a ≡ Some c → AreSmall a → AreSmall c
same-smalls a c e h = let same : a ≡ c = cc in subst AreSmall same h

with-number : (o : Option ℕ) (p : Option ClosedArgs) (c : ClosedArgs)
    → ((args : ClosedArgs) → p ≡ Some args → AreSmall args) → and_number o p ≡ Some c → AreSmall c
with-number None p c h e = absurd (cc)
with-number (Some n) None c h e = absurd (cc)
with-number (Some n) (Some args) c h e = same-smalls (closed.nat_arg n args) c e (h args refl)

with-a_type : (o : Option Closed) (p : Option ClosedArgs) (c : ClosedArgs) → ((t : Closed) → o ≡ Some t → Small t)
    → ((args : ClosedArgs) → p ≡ Some args → AreSmall args) → and_type o p ≡ Some c → AreSmall c
with-a_type None p c k h e = absurd (cc)
with-a_type (Some t) None c k h e = absurd (cc)
with-a_type (Some t) (Some args) c k h e = same-smalls (closed.ty_arg t args) c e (k t refl, h args refl)

mutual
  pub closing-small : (t : Ty) (scope : Scope) (c : Closed) → AreSmallTypes scope.types → closing t scope ≡ Some c → Small c
  closing-small core.nat32 scope c h e = same-small closed.nat32 c e tt
  closing-small (core.bits x) scope c h e = by-number closed.bits (value_in x scope) c (λ n k. tt) e
  closing-small (core.below x) scope c h e =
      by-number closed.below (value_in x scope) c (λ n k. value-small x scope.numbers n k) e
  closing-small (core.up_to x) scope c h e =
      by-number closed.up_to (value_in x scope) c (λ n k. value-small x scope.numbers n k) e
  closing-small (core.uint x) scope c h e = by-number closed.uint (value_in x scope) c (λ n k. tt) e
  closing-small (core.int x) scope c h e = by-number closed.int (value_in x scope) c (λ n k. tt) e
  closing-small (core.bit_str x) scope c h e = by-number closed.bit_str (value_in x scope) c (λ n k. tt) e
  closing-small core.whole scope c h e = same-small closed.whole c e tt
  closing-small (core.variable v) scope c h e = type-small scope.types v c h e
  closing-small (core.ref t) scope c h e =
      by-type closed.ref (closing t scope) c (λ u k. closing-small t scope u h k) e
  closing-small (core.repeat x t) scope c h e =
      by-both closed.repeat (value_in x scope) (closing t scope) c (λ n u k. closing-small t scope u h k) e
  closing-small (core.dict x t) scope c h e =
      by-both closed.dict (value_in x scope) (closing t scope) c (λ n u k. closing-small t scope u h k) e
  closing-small (core.dict_e x t) scope c h e =
      by-both closed.dict_e (value_in x scope) (closing t scope) c (λ n u k. closing-small t scope u h k) e
  closing-small (core.named x args) scope c h e =
      by-args x (closing_args args scope) c (λ u k. closing-smalls args scope u h k) e
  closing-small (core.group is) scope c h e = absurd (cc)

  closing-smalls : (args : Args) (scope : Scope) (c : ClosedArgs) → AreSmallTypes scope.types
      → closing_args args scope ≡ Some c → AreSmall c
  closing-smalls core.no_args scope c h e = same-smalls closed.no_args c e tt
  closing-smalls (core.nat_arg x args) scope c h e =
      with-number (value_in x scope) (closing_args args scope) c (λ u k. closing-smalls args scope u h k) e
  closing-smalls (core.ty_arg t args) scope c h e =
      with-a_type (closing t scope) (closing_args args scope) c (λ u k. closing-small t scope u h k)
      (λ u k. closing-smalls args scope u h k) e
  closing-smalls (core.out_arg v args) scope c h e = closing-smalls args scope c h e
