-- A closed type that a word names is one of the schema, within the limit.
use Rattle.std.proofs.Common.{◌≡◌, refl, subst, inl, inr, Bool, true, false, cond, List, ℕ, Some, None}
use Rattle.std.proofs.lemmas.Bool.{ltb-false}
use Rattle.std.specs.Prelude.{Option, Ok, Err, nat_lt}
use Rattle.tlb_syntax.specs.Limits.{IsExpr, IsWordWithinLimits}
use Rattle.tlb_syntax.specs.Tree.{ConstructorView, ExprView, SchemaView}
use Rattle.tlb_syntax.specs.Written.{WritesWord}
use Rattle.core_form.specs.Closed.{Closed, ClosedOf, nodes}
use Rattle.schema_core.specs.Cores.{cores_of}
use Rattle.type_closing.specs.Closing.{closed_of}
use Rattle.type_closing.specs.ClosingLaws.{closing_is_closed}
use Rattle.type_closing.specs.Faults.{Fault, type_fault}
use Rattle.type_word.specs.declared.error.TypeError.TheVariants as errors
use Rattle.type_word.specs.InSchema.{ResolvesIn, kinds_of}
use Rattle.type_word.specs.Laws.{IsSmallClosed}
use Rattle.type_word.specs.Resolving.{after_faults, after_signs, bounded}
use Rattle.type_word.specs.SchemaLaws.{schema_declares}
use Rattle.type_word.specs.Signs.{first_refused, refused_signs, sign_places}

-- ---- an expression

small_is : (s : SchemaView) (tag : ConstructorView → List ℕ) (t u : Closed) (b : Bool) → nat_lt 4096 (nodes u) ≡ b
    → Ok t ≡ cond b (Err errors.BigType) (Ok u) → ClosedOf (cores_of tag s) u → IsSmallClosed s tag t
small_is s tag t u true big r h = cc
small_is s tag t u false few r h =
    let same : u ≡ t = cc in
    let P : Closed → Type 0 = λ v. IsSmallClosed s tag v in
    subst P same (record { closed = h; few = ltb-false 4096 (nodes u) few })

expr_is : (s : SchemaView) (tag : ConstructorView → List ℕ) (e : ExprView) (t : Closed) (sign : Option ℕ)
    (fault : Option Fault)
    → type_fault (kinds_of s) None e ≡ fault → IsExpr e
    → Ok t ≡ after_signs sign (after_faults fault (bounded (closed_of e))) → IsSmallClosed s tag t
expr_is s tag e t (Some place) fault is ranges r = cc
expr_is s tag e t None (Some f) is ranges r = cc
expr_is s tag e t None None is ranges r =
    small_is s tag t (closed_of e) (nat_lt 4096 (nodes (closed_of e))) refl r
    (closing_is_closed (cores_of tag s) (kinds_of s) e (schema_declares s tag) ranges is)

-- ---- a word

-- where the expressions of words are within the limits
pub named_is_closed : ((text : List ℕ) (e : ExprView) → WritesWord text e → IsWordWithinLimits e)
    → (s : SchemaView) (tag : ConstructorView → List ℕ) (word : List ℕ) (t : Closed) → ResolvesIn s word (Ok t)
    → IsSmallClosed s tag t
named_is_closed limits s tag word t (inl h) = cc
named_is_closed limits s tag word t (inr h) =
    expr_is s tag h.0 t (first_refused (refused_signs h.0) (sign_places word h.1.tokens)) (type_fault (kinds_of s) None h.0)
    refl (limits word h.0 h.1).expression h.2
