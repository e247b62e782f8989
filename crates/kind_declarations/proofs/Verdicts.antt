-- Verdicts of several nodes, one after the other.
use Rattle.std.proofs.Common.{◌≡◌, ap, sym, ◌∙◌, refl, List, [], ◌∷◌, ◌++◌, map}
use Rattle.std.specs.Result.{IsErrAnd}
use Rattle.std.proofs.lemmas.Result.{err_from_is_err_and}
use Rattle.std.specs.Prelude.{Option, Some, None, Result, Ok, Err}
use Rattle.field_path.specs.declared.part.Part.{Part}
use Rattle.kind_declarations.specs.declared.error.Cause.{Cause}
use Rattle.kind_declarations.specs.declared.error.Fault.{Fault}
use Rattle.kind_declarations.specs.declared.error.Fault.TheVariants.{Refused, NoMemory}
use Rattle.kind_declarations.specs.Nodes.{Judged, Node, judged}
use Rattle.kind_declarations.specs.Faults.{FaultAt, Judges, causes, fault_at, faults, first, verdict}

-- the first answer, if there is one, else the second
abbrev pub or_else : {X : Type 0} → Option X → Option X → Option X
or_else (Some x) y = Some x
or_else None y = y

first_append : {X : Type 0} (xs ys : List X) → first (xs ++ ys) ≡ or_else (first xs) (first ys)
first_append [] ys = refl
first_append (x ∷ xs) ys = refl

pub append_assoc : {X : Type 0} (xs ys zs : List X) → (xs ++ ys) ++ zs ≡ xs ++ (ys ++ zs)
append_assoc [] ys zs = refl
append_assoc (x ∷ xs) ys zs = ap (λ r. x ∷ r) (append_assoc xs ys zs)

faults_append : (js ks : List Judged) → faults (js ++ ks) ≡ faults js ++ faults ks
faults_append [] ks = refl
faults_append (j ∷ js) ks =
    ap (λ r. map (fault_at j.path) (causes j.node) ++ r) (faults_append js ks)
    ∙ sym (append_assoc (map (fault_at j.path) (causes j.node)) (faults js) (faults ks))

pub verdict_none : verdict [] ≡ None
unfolding verdict
verdict_none = refl

pub verdict_append : (js ks : List Judged) → verdict (js ++ ks) ≡ or_else (verdict js) (verdict ks)
unfolding verdict
verdict_append js ks = ap first (faults_append js ks) ∙ first_append (faults js) (faults ks)

-- the fault of a cause, if there is one
abbrev pub fault_of : List Part → Option Cause → Option FaultAt
fault_of p None = None
fault_of p (Some c) = Some (fault_at p c)

first_fault : (p : List Part) (cs : List Cause) → first (map (fault_at p) cs) ≡ fault_of p (first cs)
first_fault p [] = refl
first_fault p (c ∷ cs) = refl

pub verdict_node : (p : List Part) (n : Node) (js : List Judged)
    → verdict (judged p n ∷ js) ≡ or_else (fault_of p (first (causes n))) (verdict js)
unfolding verdict
verdict_node p n js =
    first_append (map (fault_at p) (causes n)) (faults js)
    ∙ ap (λ x. or_else x (first (faults js))) (first_fault p (causes n))

-- ---- judging nodes, and then more

pub passed_then : (js ks : List Judged) (p : List Part) (r : Result (Unit {0}) Fault)
    → verdict js ≡ None → Judges ks p r → Judges (js ++ ks) p r
passed_then js ks p (Ok u) e j = verdict_append js ks ∙ ap (λ x. or_else x (verdict ks)) e ∙ j
passed_then js ks p (Err (Refused c)) e j = verdict_append js ks ∙ ap (λ x. or_else x (verdict ks)) e ∙ j
passed_then js ks p (Err NoMemory) e j = j

pub refused_then : (js ks : List Judged) (p : List Part) (f : Fault) → Judges js p (Err f) → Judges (js ++ ks) p (Err f)
refused_then js ks p (Refused c) j = verdict_append js ks ∙ ap (λ x. or_else x (verdict ks)) j
refused_then js ks p NoMemory j = j

pub refused_here : (p : List Part) (n : Node) (js : List Judged) (c : Cause)
    → Some c ≡ first (causes n) → Judges (judged p n ∷ js) p (Err (Refused c))
refused_here p n js c e = verdict_node p n js ∙ ap (λ x. or_else (fault_of p x) (verdict js)) (sym e)

pub passed_here : (p : List Part) (n : Node) (js : List Judged) (r : Result (Unit {0}) Fault)
    → None ≡ first (causes n) → Judges js p r → Judges (judged p n ∷ js) p r
passed_here p n js (Ok u) e j = verdict_node p n js ∙ ap (λ x. or_else (fault_of p x) (verdict js)) (sym e) ∙ j
passed_here p n js (Err (Refused c)) e j = verdict_node p n js ∙ ap (λ x. or_else (fault_of p x) (verdict js)) (sym e) ∙ j
passed_here p n js (Err NoMemory) e j = j

-- a refusal that is handed on
pub judges_err : (js : List Judged) (p : List Part) (r : Result (Unit {0}) Fault) (f : Fault)
    → IsErrAnd r (λ e. e ≡ f) → Judges js p (Err f) → Judges js p r
judges_err js p r f h j = let q = err_from_is_err_and r h in rw (q.1, q.2) j

pub passed_verdict : (js ks : List Judged) → verdict js ≡ None → verdict (js ++ ks) ≡ verdict ks
passed_verdict js ks e = verdict_append js ks ∙ ap (λ x. or_else x (verdict ks)) e

-- nodes of one verdict are judged alike
pub judged_from : (js ks : List Judged) (p : List Part) (r : Result (Unit {0}) Fault)
    → verdict js ≡ verdict ks → Judges js p r → Judges ks p r
judged_from js ks p (Ok u) e j = sym e ∙ j
judged_from js ks p (Err (Refused c)) e j = sym e ∙ j
judged_from js ks p (Err NoMemory) e j = j
