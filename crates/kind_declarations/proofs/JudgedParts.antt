-- Nodes judged part by part.
use Rattle.std.proofs.Common.{◌≡◌, ◌∙◌, ap, sym, subst}
use Rattle.std.specs.Prelude.{List, ◌∷◌, ◌++◌, map, Some, None, Result, Err, IsErrAnd}
use Rattle.field_path.specs.declared.part.Part.{Part}
use Rattle.kind_declarations.specs.declared.error.Cause.{Cause}
use Rattle.kind_declarations.specs.declared.error.Fault.{Fault}
use Rattle.kind_terms.specs.declared.shown.Shown.{Shown}
use Rattle.kind_declarations.specs.Faults.{fault_at, first, causes, verdict, Judges}
use Rattle.kind_declarations.specs.Nodes.{Node, Judged, judged}
use Rattle.kind_terms.specs.Views.{part_by}
use Rattle.kind_declarations.proofs.Verdicts.{fault_of, judges_err, or_else, passed_then, refused_then, verdict_node}

-- the first node has no cause
pub node_passes : (path : List Part) (node : Node) (ks : List Judged) → first (causes node) ≡ None
    → verdict (judged path node ∷ ks) ≡ verdict ks
node_passes path node ks h = verdict_node path node ks ∙ ap (λ c. or_else (fault_of path c) (verdict ks)) h

-- the first node has one
pub node_stops : (path : List Part) (node : Node) (ks : List Judged) (c : Cause) → first (causes node) ≡ Some c
    → verdict (judged path node ∷ ks) ≡ Some (fault_at path c)
node_stops path node ks c h = verdict_node path node ks ∙ ap (λ x. or_else (fault_of path x) (verdict ks)) h

-- nodes that are those of two parts: the first has a cause, or out of memory
pub part_stops : (whole js ks : List Judged) (path : List Part) (result : Result (Unit {0}) Fault) (f : Fault) → whole ≡ js ++ ks
    → IsErrAnd result (λ e. e ≡ f) → Judges js path (Err f) → Judges whole path result
part_stops whole js ks path result f e is h =
    judges_err whole path result f is
    (subst (λ (x : List Judged). Judges x path (Err f)) (sym e) (refused_then js ks path f h))

-- the first has none, and the second is judged with the path as it was before the first
pub both_pass : (whole js : List Judged) (ks : List Part → List Judged) (old mid : List Shown) (end : List Part)
    → (result : Result (Unit {0}) Fault) → whole ≡ js ++ ks (map part_by old) → mid ≡ old → verdict js ≡ None
    → Judges (ks (map part_by mid)) end result → Judges whole end result
both_pass whole js ks old mid end result e kept none h =
    let same = λ (x : List Shown). Judges (ks (map part_by x)) end result in
    subst (λ (x : List Judged). Judges x end result) (sym e)
    (passed_then js (ks (map part_by old)) end result none (subst same kept h))
