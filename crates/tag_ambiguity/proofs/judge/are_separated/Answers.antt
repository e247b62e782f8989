use Rattle.std.proofs.Common.{◌≡◌, ◌∙◌, ap, arith, sym, false, true}
use Rattle.std.specs.Prelude.{◌||◌}
use Rattle.std.proofs.lemmas.List.{length-map}
use Rattle.tlb_syntax.specs.View.{constructor}
use Rattle.tlb_guard.specs.Numbering.{views}
use Rattle.schema_leads.specs.Leads.{leads}
use Rattle.schema_leads.specs.Separation.{are_apart, excluding}
use Rattle.schema_leads.specs.Tags.{cores}
use Rattle.tag_ambiguity.specs.Inputs.{inputs_by}
use Rattle.tag_ambiguity.proofs.Marks.{input_mark, input_marks, lead_mark, lead_marks, same_answer}
use Rattle.tag_ambiguity.proofs.judge.are_separated.Goals as goal

pub bounds-marks-first : goal.bounds-marks-first
bounds-marks-first c =
    let m = c.args.marks.now in
    omega (arith, c.requires.first, length-map m.constructors.now constructor, lead_marks (views m.constructors.now) m.leads.now m.inputs.now c.requires.marks)

pub bounds-marks-second : goal.bounds-marks-second
bounds-marks-second c =
    let m = c.args.marks.now in
    omega (arith, c.requires.second, length-map m.constructors.now constructor, lead_marks (views m.constructors.now) m.leads.now m.inputs.now c.requires.marks)

pub bounds-marks-first-else-are_apart : goal.bounds-marks-first-else-are_apart
bounds-marks-first-else-are_apart c =
    let m = c.args.marks.now in
    omega (arith, c.requires.first, length-map m.constructors.now constructor, input_marks (views m.constructors.now) m.leads.now m.inputs.now c.requires.marks)

pub bounds-marks-second-else-are_apart : goal.bounds-marks-second-else-are_apart
bounds-marks-second-else-are_apart c =
    let m = c.args.marks.now in
    omega (arith, c.requires.second, length-map m.constructors.now constructor, input_marks (views m.constructors.now) m.leads.now m.inputs.now c.requires.marks)

pub returns-then-are_apart : goal.returns-then-are_apart
returns-then-are_apart c = λ d e first second.
    let m = c.args.marks.now in
    let s = views m.constructors.now in
    let l : c.as_slice.result.now ≡ leads (cores s) d =
    c.as_slice.ensures ∙ lead_mark s m.leads.now m.inputs.now c.args.first d c.index-marks-first.result c.requires.marks first in
    let k : c.as_slice-2.result.now ≡ leads (cores s) e =
    c.as_slice-2.ensures ∙ lead_mark s m.leads.now m.inputs.now c.args.second e c.index-marks-second.result c.requires.marks second in
    let apart : are_apart (leads (cores s) d) (leads (cores s) e) ≡ true =
    ap (λ z. are_apart z (leads (cores s) e)) (sym l) ∙ ap (are_apart c.as_slice.result.now) (sym k) ∙ sym c.are_apart.ensures ∙ c.if-are_apart.true in
    c.if-are_apart.true ∙ sym (ap (λ b. b || excluding d.core.inputs e.core.inputs) apart)

pub returns-else-are_apart : goal.returns-else-are_apart
returns-else-are_apart c = λ d e first second.
    let m = c.args.marks.now in
    let s = views m.constructors.now in
    let ls = c.as_slice.result.now in
    let ks = c.as_slice-2.result.now in
    let ps = c.as_slice-else-are_apart.result.now in
    let qs = c.as_slice-else-are_apart-2.result.now in
    let l : ls ≡ leads (cores s) d =
    c.as_slice.ensures ∙ lead_mark s m.leads.now m.inputs.now c.args.first d c.index-marks-first.result c.requires.marks first in
    let k : ks ≡ leads (cores s) e =
    c.as_slice-2.ensures ∙ lead_mark s m.leads.now m.inputs.now c.args.second e c.index-marks-second.result c.requires.marks second in
    let p = ap inputs_by c.as_slice-else-are_apart.ensures
    ∙ input_mark s m.leads.now m.inputs.now c.args.first d c.index-marks-first-else-are_apart.result c.requires.marks first in
    let q = ap inputs_by c.as_slice-else-are_apart-2.ensures
    ∙ input_mark s m.leads.now m.inputs.now c.args.second e c.index-marks-second-else-are_apart.result c.requires.marks second in
    let off : are_apart ls ks ≡ false = sym c.are_apart.ensures ∙ c.if-are_apart.false in
    c.are_excluding.ensures ∙ ap (λ b. b || excluding (inputs_by ps) (inputs_by qs)) (sym off) ∙ same_answer s d e ls ks ps qs l k p q
