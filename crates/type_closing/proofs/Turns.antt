-- Faults of a name, and of arguments, one by one.
use Rattle.std.proofs.Common.{◌≡◌, ◌<◌, ◌+◌, ℕ, zero, suc, ap, sym, ◌∙◌, List, [], ◌∷◌, length, drop, get_or, refl, Bool, true, false}
use Rattle.std.proofs.Common.{Some, None, add-one}
use Rattle.std.specs.Prelude.{Option, option_map, is_some}
use Rattle.tlb_syntax.specs.declared.tree.Expr.{Expr}
use Rattle.tlb_syntax.specs.declared.tree.Expr.TheVariants.{Named}
use Rattle.tlb_syntax.specs.View.{expr, exprs}
use Rattle.kind_terms.specs.declared.kind.TermKind.{TermKind}
use Rattle.kind_terms.specs.declared.kind.TermKind.TheVariants.{NoKind}
use Rattle.kind_terms.specs.Types.{TypeNamed, count, parameters}
use Rattle.kind_terms.specs.ViewLaws.{drop_at, seen_named}
use Rattle.kind_terms.specs.Words.{Word}
use Rattle.type_closing.specs.declared.fault.Fault.{Fault as ProgramFault}
use Rattle.type_closing.specs.Faults.{DeclaredKinds, Fault, first_of, first_kind, later_kinds, name_fault, number_fault}
use Rattle.type_closing.specs.Faults.{number_name_fault, argument_fault, arguments_fault, type_fault, type_called}
use Rattle.type_closing.specs.Views.{fault_by}

-- the first fault is found, or the later ones decide
pub stops : (f g : Option Fault) (p : Option ProgramFault) → option_map fault_by p ≡ f → is_some p ≡ true
    → option_map fault_by p ≡ first_of f g
stops f g None e h = cc
stops f g (Some p) e h = ap (λ z. first_of z g) e

pub goes : (f g : Option Fault) (p : Option ProgramFault) → option_map fault_by p ≡ f → is_some p ≡ false → g ≡ first_of f g
goes f g None e h = ap (λ z. first_of z g) e
goes f g (Some p) e h = cc

-- ---- a name

pub named_fault : (d : DeclaredKinds) (h : Option Word) (x : Word) (es : List Expr) (e : Expr) (t : TypeNamed) (n : ℕ)
    → e ≡ Named x es → t ≡ type_called d x → n ≡ count (exprs es)
    → first_of (name_fault t x n) (arguments_fault d (Some x) (parameters t) (exprs es)) ≡ type_fault d h (expr e)
named_fault d h x es e t n is it size =
    (λ i. first_of (name_fault (it i) x (size i)) (arguments_fault d (Some x) (parameters (it i)) (exprs es)))
    ∙ sym (ap (type_fault d h) (seen_named e x es is))

pub named_number : (d : DeclaredKinds) (h : Option Word) (most : ℕ) (x : Word) (es : List Expr) (e : Expr) (t : TypeNamed) (n : ℕ)
    → e ≡ Named x es → t ≡ type_called d x → n ≡ count (exprs es)
    → Some (number_name_fault h t x n) ≡ number_fault d h most (expr e)
named_number d h most x es e t n is it size =
    (λ i. Some (number_name_fault h (it i) x (size i))) ∙ sym (ap (number_fault d h most) (seen_named e x es is))

-- ---- arguments

kind_first : (ks : List TermKind) (i : ℕ) → first_kind (drop i ks) ≡ get_or ks i NoKind
kind_first [] zero = refl
kind_first [] (suc i) = refl
kind_first (k ∷ ks) zero = refl
kind_first (k ∷ ks) (suc i) = kind_first ks i

kinds_later : (ks : List TermKind) (i : ℕ) → later_kinds (drop i ks) ≡ drop (suc i) ks
kinds_later [] zero = refl
kinds_later [] (suc i) = refl
kinds_later (k ∷ ks) zero = refl
kinds_later (k ∷ ks) (suc i) = kinds_later ks i

pub arguments_turn : (d : DeclaredKinds) (h : Option Word) (ks : List TermKind) (es : List Expr) (i : ℕ) (e : Expr) (k : TermKind)
    → i < length es → e ≡ get_or es i e → k ≡ get_or ks i NoKind
    → first_of (argument_fault d h k (expr e) (type_fault d h (expr e))) (arguments_fault d h (drop (i + 1) ks) (exprs (drop (i + 1) es)))
    ≡ arguments_fault d h (drop i ks) (exprs (drop i es))
arguments_turn d h ks es i e k lt is kind =
    let first : k ≡ first_kind (drop i ks) = kind ∙ sym (kind_first ks i) in
    let later : drop (i + 1) ks ≡ later_kinds (drop i ks) = ap (λ n. drop n ks) (add-one i) ∙ sym (kinds_later ks i) in
    (λ j. first_of (argument_fault d h (first j) (expr e) (type_fault d h (expr e))) (arguments_fault d h (later j) (exprs (drop (i + 1) es))))
    ∙ sym (ap (arguments_fault d h (drop i ks)) (drop_at es i e lt is))
