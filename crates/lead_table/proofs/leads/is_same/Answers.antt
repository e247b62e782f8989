use Rattle.std.proofs.Common.{◌≡◌, Bool, true, false, sym, ap, subst, ◌∙◌, refl}
use Rattle.std.specs.Prelude.{bytes_eq}
use Rattle.std.proofs.lemmas.Slice.Eq.{bytes_eq-Decides}
use Rattle.lead_table.proofs.Sets.{same_truth}
use Rattle.lead_table.proofs.leads.is_same.Goals as goal

pub returns : goal.returns
returns c =
    same_truth c.same.result (bytes_eq c.args.lead.now c.args.other.now)
    (λ e. (bytes_eq-Decides c.args.lead.now c.args.other.now).1 (sym c.slice.ensures ∙ c.same.ensures.0 e ∙ c.slice-2.ensures))
    (λ e. c.same.ensures.1 (c.slice.ensures ∙ (bytes_eq-Decides c.args.lead.now c.args.other.now).0 e ∙ sym c.slice-2.ensures))
