use Rattle.std.proofs.Common.{◌≡◌, ◌∙◌, List, [], ap, map, refl, subst, sym}
use Rattle.tlb_syntax.specs.declared.tree.Constructor.{Constructor}
use Rattle.tlb_syntax.specs.declared.tree.Schema.{Schema}
use Rattle.tlb_syntax.specs.View.{constructor, schema}
use Rattle.schema_leads.specs.FirstFields.{IsGuarded}
use Rattle.schema_leads.specs.Tags.{cores}
use Rattle.lead_table.specs.Tables.{IsLeadTable}
use Rattle.accepted_schema.specs.Refusals.{tag_refusals}
use Rattle.tag_ambiguity.specs.Judged.{IsFirst}
use Rattle.tag_ambiguity.proofs.Firsts.{out_of_memory}
use Rattle.tag_ambiguity.proofs.Keeping.{accepted_by, enters_one, kept_is_guarded, no_refusals, nothing_passed_over}
use Rattle.tag_ambiguity.proofs.accepted.separate.Goals as goal

pub judge-requires-clause-guarded : goal.judge-requires-clause-guarded
judge-requires-clause-guarded c =
    let e = c.schema.ensures in
    let list : c.as_slice.result.now ≡ c.args.kinded.constructors = c.as_slice.ensures ∙ ap (λ (z : Schema). z.constructors) e.same in
    let P : List Constructor → Type 0 = λ z. IsGuarded (map constructor z) in
    subst P (sym list) (kept_is_guarded (schema c.args.kinded) e.kinded e.ordinary e.no_dictionaries)

pub invariant_of-result : goal.invariant_of-result
invariant_of-result c =
    let e = c.schema.ensures in
    let s = schema c.args.kinded in
    let list : c.as_slice.result.now ≡ c.args.kinded.constructors = c.as_slice.ensures ∙ ap (λ (z : Schema). z.constructors) e.same in
    let T : List Constructor → Type 0 = λ z. (tag_refusals (cores (map constructor z)) ≡ []) × IsLeadTable (map constructor z) c.in-Ok.table in
    let judged = subst T list c.in-Ok.ensures in
    let kept = nothing_passed_over s e.ordinary e.no_dictionaries in
    record {
      accepted = accepted_by c.accepted_or_refused.ensures s e.within e.kinded kept judged.0;
      kept = kept;
      is_table = judged.1;
    }

pub returns-in-Ok-clause-judged : goal.returns-in-Ok-clause-judged
returns-in-Ok-clause-judged c =
    let e = c.schema.ensures in
    let s = schema c.args.kinded in
    let list : c.as_slice.result.now ≡ c.args.kinded.constructors = c.as_slice.ensures ∙ ap (λ (z : Schema). z.constructors) e.same in
    let T : List Constructor → Type 0 = λ z. (tag_refusals (cores (map constructor z)) ≡ []) × IsLeadTable (map constructor z) c.in-Ok.table in
    let judged = subst T list c.in-Ok.ensures in
    let kept = nothing_passed_over s e.ordinary e.no_dictionaries in
    (accepted_by c.accepted_or_refused.ensures s e.within e.kinded kept judged.0, judged.0, refl)

pub returns-in-Ok-clause-one_constructor : goal.returns-in-Ok-clause-one_constructor
returns-in-Ok-clause-one_constructor c =
    let e = c.schema.ensures in
    let s = schema c.args.kinded in
    let list : c.as_slice.result.now ≡ c.args.kinded.constructors = c.as_slice.ensures ∙ ap (λ (z : Schema). z.constructors) e.same in
    let T : List Constructor → Type 0 = λ z. (tag_refusals (cores (map constructor z)) ≡ []) × IsLeadTable (map constructor z) c.in-Ok.table in
    let judged = subst T list c.in-Ok.ensures in
    let kept = nothing_passed_over s e.ordinary e.no_dictionaries in
    enters_one c.one_constructor.ensures s kept (accepted_by c.accepted_or_refused.ensures s e.within e.kinded kept judged.0)

pub returns-in-Err-clause-passed : goal.returns-in-Err-clause-passed
returns-in-Err-clause-passed c = λ ok.
    let e = c.schema.ensures in
    let s = schema c.args.kinded in
    let list : c.as_slice.result.now ≡ c.args.kinded.constructors = c.as_slice.ensures ∙ ap (λ (z : Schema). z.constructors) e.same in
    let P : List Constructor → Type 0 = λ z. IsFirst (tag_refusals (cores (map constructor z))) c.in-Err.error in
    out_of_memory (tag_refusals (cores s)) c.in-Err.error (no_refusals c.accepted_has_no_refusal.ensures s (nothing_passed_over s e.ordinary e.no_dictionaries) ok)
    (subst P list c.in-Err.ensures)
