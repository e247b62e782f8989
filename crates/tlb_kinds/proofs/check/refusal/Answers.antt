use Rattle.std.proofs.Common.{◌≡◌, ◌∙◌, ap, map, subst, sym, Some, Err}
use Rattle.tlb_syntax.specs.View.{constructor}
use Rattle.kind_declarations.specs.declared.error.Fault.{Fault}
use Rattle.kind_declarations.specs.Faults.{Judges, fault_at, verdict}
use Rattle.kind_terms.specs.Views.{part_by}
use Rattle.tlb_kinds.specs.Spots.{refusal}
use Rattle.tlb_kinds.proofs.Firsts.{first_at}
use Rattle.tlb_kinds.specs.Spots.{heading}
use Rattle.tlb_kinds.proofs.check.refusal.Goals as goal

pub returns-in-Ok : goal.returns-in-Ok
returns-in-Ok c = λ js judged no_room.
    let h = heading (map constructor c.args.before.now) (constructor c.args.constructor.now) in
    let path = map part_by c.args.path.now in
    let J : Fault → Type 0 = λ f. Judges js path (Err f) in
    let found : verdict js ≡ Some (fault_at path c.in-Refused.cause) = subst J c.in-Refused.is judged in
    first_at h js path c.in-Refused.cause found ∙ ap Some (sym (c.refusal_for.ensures ∙ ap (refusal c.in-Refused.cause) c.in-Ok.ensures))
