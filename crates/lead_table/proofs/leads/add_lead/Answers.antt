use Rattle.std.proofs.Common.{◌≡◌, ◌∷◌, ◌++◌, [], true, false, ◌∙◌, ap, sym, refl}
use Rattle.std.specs.Prelude.{cond, bytes_eq}
use Rattle.std.specs.List.{list_any}
use Rattle.lead_table.proofs.leads.add_lead.Goals as goal

pub returns-then-has_lead : goal.returns-then-has_lead
returns-then-has_lead c =
    let has : list_any (bytes_eq c.args.more.now) c.args.leads.now ≡ true =
    ap (list_any (bytes_eq c.args.more.now)) (sym c.as_slice.ensures) ∙ sym c.has_lead.ensures ∙ c.if-has_lead.true in
    sym (ap (λ b. cond b c.args.leads.now (c.args.leads.now ++ c.args.more.now ∷ [])) has)

pub returns : goal.returns
returns c =
    let has : list_any (bytes_eq c.args.more.now) c.args.leads.now ≡ false =
    ap (list_any (bytes_eq c.args.more.now)) (sym c.as_slice.ensures) ∙ sym c.has_lead.ensures ∙ c.if-has_lead.false in
    let lead : c.in_ok-from_slice.field-0 ≡ c.args.more.now = c.in_ok-from_slice.ensures ∙ c.slice.ensures in
    c.in_ok-push.ensures.ok ∙ ap (λ l. c.args.leads.now ++ l ∷ []) lead
    ∙ sym (ap (λ b. cond b c.args.leads.now (c.args.leads.now ++ c.args.more.now ∷ [])) has)
