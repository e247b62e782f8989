-- From the answer for an expression to that of the word that writes it.
use Rattle.std.proofs.Common.{◌≡◌, ◌<◌, ◌≤◌, ◌+◌, ℕ, ap, sym, ◌∙◌, subst, inr, List, Some, None, min, arith}
use Rattle.std.proofs.lemmas.Bool.{cond-true, cond-false, lt-ltb, le-ltb}
use Rattle.std.specs.Prelude.{Result, Ok, Err, nat_lt}
use Rattle.core_form.specs.Closed.{Closed, nodes}
use Rattle.type_closing.specs.Closing.{closed_of}
use Rattle.closed_type.specs.View.{closed_type}
use Rattle.closed_type.specs.declared.tree.ClosedType.{ClosedType}
use Rattle.tlb_syntax.specs.Tree.{ExprView, SchemaView}
use Rattle.tlb_syntax.specs.Written.{WritesWord}
use Rattle.type_index.specs.declared.index.TypeIndex.{TypeIndex}
use Rattle.type_index.specs.Index.{IsTypeIndex, kinds_at}
use Rattle.type_closing.specs.Faults.{DeclaredKinds, Fault, type_fault}
use Rattle.type_word.specs.declared.error.TypeError.{TypeError}
use Rattle.type_word.specs.declared.error.TypeError.TheVariants as errors
use Rattle.type_word.specs.InSchema.{kinds_of}
use Rattle.type_word.specs.SchemaLaws.{index_has_kinds}
use Rattle.type_word.specs.Signs.{first_refused, refused_signs, sign_places}
use Rattle.type_word.specs.Resolving.{Answers, IfResolved, after_faults, after_signs, bounded, fault_error, resolved}

pub resolved_word : (r : Result ClosedType TypeError) (d : DeclaredKinds) (word places : List ℕ) (e : ExprView) (w : WritesWord word e)
    → places ≡ sign_places word w.tokens
    → IfResolved r (λ t. Ok (closed_type t) ≡ resolved d places e) (λ x. Err x ≡ resolved d places e)
    → Answers d word r
resolved_word (Ok t) d word places e w same h = inr (e, w, h ∙ ap (λ p. resolved d p e) same)
resolved_word (Err x) d word places e w same h = λ n. inr (e, w, h n ∙ ap (λ p. resolved d p e) same)

-- ---- an expression

pub signed : (d : DeclaredKinds) (places : List ℕ) (e : ExprView) (p : ℕ) → Some p ≡ first_refused (refused_signs e) places
    → Err (errors.TypeSyntax p) ≡ resolved d places e
signed d places e p h = ap (λ o. after_signs o (after_faults (type_fault d None e) (bounded (closed_of e)))) h

pub faulted : (d : DeclaredKinds) (places : List ℕ) (e : ExprView) (f : Fault) (x : TypeError) → None ≡ first_refused (refused_signs e) places
    → Some f ≡ type_fault d None e → x ≡ fault_error f → Err x ≡ resolved d places e
faulted d places e f x none h is =
    ap Err is
    ∙ ap (λ o. after_faults o (bounded (closed_of e))) h
    ∙ ap (λ o. after_signs o (after_faults (type_fault d None e) (bounded (closed_of e)))) none

closed_alone : (d : DeclaredKinds) (places : List ℕ) (e : ExprView) → None ≡ first_refused (refused_signs e) places
    → None ≡ type_fault d None e → bounded (closed_of e) ≡ resolved d places e
closed_alone d places e none faultless =
    ap (λ o. after_faults o (bounded (closed_of e))) faultless
    ∙ ap (λ o. after_signs o (after_faults (type_fault d None e) (bounded (closed_of e)))) none

pub too_big : (d : DeclaredKinds) (places : List ℕ) (e : ExprView) (t : Closed) (n : ℕ) → None ≡ first_refused (refused_signs e) places
    → None ≡ type_fault d None e → t ≡ closed_of e → n ≡ min (0 + nodes t) 4097 → 4096 < n → Err errors.BigType ≡ resolved d places e
too_big d places e t n none faultless is size big =
    let many : 4096 < nodes t = omega (arith, size, big) in
    sym (cond-true (nat_lt 4096 (nodes t)) (Err errors.BigType) (Ok t) (lt-ltb 4096 (nodes t) many))
    ∙ ap bounded is ∙ closed_alone d places e none faultless

pub closes : (d : DeclaredKinds) (places : List ℕ) (e : ExprView) (t : Closed) (n : ℕ) → None ≡ first_refused (refused_signs e) places
    → None ≡ type_fault d None e → t ≡ closed_of e → n ≡ min (0 + nodes t) 4097 → n ≤ 4096 → Ok t ≡ resolved d places e
closes d places e t n none faultless is size few =
    let small : nodes t ≤ 4096 = omega (arith, size, few) in
    sym (cond-false (nat_lt 4096 (nodes t)) (Err errors.BigType) (Ok t) (le-ltb 4096 (nodes t) small))
    ∙ ap bounded is ∙ closed_alone d places e none faultless

-- ---- a schema

pub in_schema : (r : Result ClosedType TypeError) (index : TypeIndex) (word : List ℕ) → Answers (kinds_at index) word r
    → (s : SchemaView) → IsTypeIndex index s → Answers (kinds_of s) word r
in_schema r index word h s is =
    let P : DeclaredKinds → Type 0 = λ d. Answers d word r in subst P (index_has_kinds index s is) h
