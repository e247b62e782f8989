use Rattle.std.proofs.Common.{◌∙◌, ap, arith, map, take, sym, subst, ◌++◌, [], ◌∷◌, List, Result, Ok, Err}
use Rattle.std.proofs.lemmas.List.{take_more}
use Rattle.tlb_syntax.specs.declared.tree.Constructor.{Constructor}
use Rattle.tlb_syntax.specs.View.{constructor}
use Rattle.kind_declarations.specs.declared.error.Fault.{Fault}
use Rattle.kind_declarations.specs.Faults.{Judges}
use Rattle.kind_declarations.specs.Nodes.{heading_nodes, result_path}
use Rattle.tlb_kinds.specs.Spots.{heading, refusals_at}
use Rattle.tlb_kinds.proofs.Firsts.{no_refusals}
use Rattle.tlb_kinds.proofs.Loops.{headings_here, later, first_here}
use Rattle.tlb_kinds.proofs.check.judge_headings.Goals as goal

abbrev Judged : Constructor → List Constructor → Result (Unit {0}) Fault → Type 0
Judged c before r = Judges (heading_nodes (heading (map constructor before) (constructor c))) result_path r

pub returns-in-Err : goal.returns-in-Err
returns-in-Err c =
    let xs = c.args.constructors.now in
    let i = c.loop-index.index in
    let this = c.index-constructors-index.result in
    let h = heading (map constructor (take i xs)) (constructor this) in
    let J : List Constructor → Type 0 = λ ts. Judged this ts c.judge_heading.result in
    let K : Result (Unit {0}) Fault → Type 0 = λ r. Judged this (take i xs) r in
    let judged : K (Err c.in-Err.fault) = subst K c.in-Err.is (subst J c.loop-index.invariant.types c.judge_heading.ensures) in
    first_here _ _ (refusals_at h (heading_nodes h)) _ c.refusal.result c.loop-index.invariant.passed
    (headings_here xs i this (omega arith) c.index-constructors-index.is)
    (c.refusal.ensures (heading_nodes h) judged)

pub loop-index-preserved : goal.loop-index-preserved
loop-index-preserved c =
    let xs = c.args.constructors.now in
    let i = c.loop-index.index in
    let this = c.index-constructors-index.result in
    let h = heading (map constructor (take i xs)) (constructor this) in
    let J : List Constructor → Type 0 = λ ts. Judged this ts c.judge_heading.result in
    let K : Result (Unit {0}) Fault → Type 0 = λ r. Judged this (take i xs) r in
    let judged : K (Ok c.in_default.field-0) = subst K c.in_default.is (subst J c.loop-index.invariant.types c.judge_heading.ensures) in
    record {
      types =
          c.in_ok-types.ensures ∙ ap (λ z. z ++ this ∷ []) c.loop-index.invariant.types ∙ ap (λ z. take i xs ++ z ∷ []) c.index-constructors-index.is
          ∙ sym (take_more xs i this (omega arith));
      passed =
          later _ (refusals_at h (heading_nodes h)) _ (c.loop-index.invariant.passed ∙ headings_here xs i this (omega arith) c.index-constructors-index.is)
          (no_refusals h (heading_nodes h) judged);
    }
