-- In a schema within the limits of a text the numbers of input patterns are of 32 bits.
use Rattle.std.proofs.Common.{◌≡◌, ◌<◌, ◌^◌, ap, refl, subst, arith, ℕ, zero, suc, List, [], ◌∷◌, ◌++◌, Option, Some}
use Rattle.std.proofs.Common.{None}
use Rattle.std.specs.Prelude.{slice_get}
use Rattle.tlb_syntax.specs.Limits.{IsConstructor, AreConstructors, IsExpr, AreExprs}
use Rattle.tlb_syntax.specs.Tree.{ExprView, ExprList, ConstructorView, SchemaView, lit, named, nat32, bits, below}
use Rattle.tlb_syntax.specs.Tree.{up_to}
use Rattle.tlb_syntax.specs.Tree.{plus, star, out, ref, group, no_exprs, an_expr}
use Rattle.kind_terms.specs.Params.{bare_name}
use Rattle.core_form.specs.Core.{Declaration, Input, number, type}
use Rattle.schema_core.specs.Names.{Names, Variable, a_number, a_type, other, meaning}
use Rattle.schema_core.specs.Numbers.{named_number}
use Rattle.schema_core.specs.CoreOf.{core_of, input_of, inputs_of, literal_of, names_at_result, sum_input}
use Rattle.schema_core.specs.CoreOf.{variable_input}
use Rattle.schema_core.specs.Cores.{cores_after}
use Rattle.spelling.specs.Acceptable.{AreInRange}

range_append : (xs ys : List Input) → AreInRange xs → AreInRange ys → AreInRange (xs ++ ys)
range_append [] ys h k = k
range_append (number p ∷ xs) ys h k = (h.0, range_append xs ys h.1 k)
range_append (type v ∷ xs) ys h k = range_append xs ys h k

literal_small : (e : ExprView) → IsExpr e → literal_of e < 2 ^ 32
literal_small (lit n) h = h
literal_small (named x es) h = omega arith
literal_small nat32 h = omega arith
literal_small (bits es) h = omega arith
literal_small (below es) h = omega arith
literal_small (up_to es) h = omega arith
literal_small (plus a b) h = omega arith
literal_small (star a b) h = omega arith
literal_small (out e) h = omega arith
literal_small (ref e) h = omega arith
literal_small (group is) h = omega arith

variable_range : (o : Option Variable) → AreInRange (variable_input o)
variable_range None = tt
variable_range (Some (a_number v)) = (tt, tt)
variable_range (Some (a_type v)) = tt
variable_range (Some other) = tt

sum_range : (o : Option ℕ) (k : ℕ) → k < 2 ^ 32 → AreInRange (sum_input o k)
sum_range None k h = tt
sum_range (Some v) k h = (h, tt)

input_range : (names : Names) (e : ExprView) → IsExpr e → AreInRange (input_of names e)
input_range names (lit n) h = (h, tt)
input_range names (named x no_exprs) h = variable_range (meaning names x)
input_range names (named x (an_expr e es)) h = tt
input_range names (plus a b) h = sum_range (named_number names (bare_name a)) (literal_of b) (literal_small b h.1)
input_range names nat32 h = tt
input_range names (bits es) h = tt
input_range names (below es) h = tt
input_range names (up_to es) h = tt
input_range names (star a b) h = tt
input_range names (out e) h = tt
input_range names (ref e) h = tt
input_range names (group is) h = tt

inputs_range : (names : Names) (es : ExprList) → AreExprs es → AreInRange (inputs_of names es)
inputs_range names no_exprs h = tt
inputs_range names (an_expr e es) h =
    range_append (input_of names e) (inputs_of names es) (input_range names e h.0) (inputs_range names es h.1)

-- ---- declarations by their place

constructor_at : (cs : SchemaView) (i : ℕ) (c : ConstructorView) → AreConstructors cs → slice_get cs i ≡ Some c
    → IsConstructor c
constructor_at [] i c h e = absurd (grind arith)
constructor_at (d ∷ cs) zero c h e = let same : d ≡ c = cc in subst IsConstructor same h.0
constructor_at (d ∷ cs) (suc i) c h e = constructor_at cs i c h.1 e

-- the constructor whose core form a declaration has
pub record IsCoreOf (types : SchemaView) (tag : ConstructorView
    → List ℕ) (cs : SchemaView) (i : ℕ) (d : Declaration) : Type 0 where
  pub constructor : ConstructorView
  pub there : slice_get cs i ≡ Some constructor
  pub core : d.core ≡ core_of types (tag constructor) constructor

pub core_at : (types : SchemaView) (tag : ConstructorView → List ℕ) (before cs : SchemaView) (i : ℕ) (d : Declaration)
    → slice_get (cores_after types tag before cs) i ≡ Some d → IsCoreOf types tag cs i d
core_at types tag before [] i d e = absurd (grind arith)
core_at types tag before (c ∷ cs) zero d e = record { constructor = c; there = refl; core = core_same _ d e }
  where
    core_same : (x y : Declaration) → Some x ≡ Some y → y.core ≡ x.core
    core_same x y e = let same : y ≡ x = cc in ap (λ (z : Declaration). z.core) same
core_at types tag before (c ∷ cs) (suc i) d e =
    let rest = core_at types tag (before ++ c ∷ []) cs i d e in
    record { constructor = rest.constructor; there = rest.there; core = rest.core }

pub inputs_in_range : (types : SchemaView) (tag : ConstructorView
    → List ℕ) (cs : SchemaView) (i : ℕ) (d : Declaration) → AreConstructors cs
    → IsCoreOf types tag cs i d → AreInRange d.core.inputs
inputs_in_range types tag cs i d h core =
    let c = core.constructor in
    let within = constructor_at cs i c h core.there in
    rw core.core (inputs_range (names_at_result c) c.params within.params)
