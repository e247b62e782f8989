use Rattle.std.proofs.Common.{◌≡◌, ℕ, suc, ◌+◌, ◌<◌, ◌≤◌, [], ◌++◌, length, take, get_or, ap, sym, subst, ◌∙◌, arith, add-one}
use Rattle.std.proofs.lemmas.Result.{IfOk-weaker}
use Rattle.schema_leads.specs.Leads.{Leads, with_leads, at_most_64}
use Rattle.lead_table.specs.Chains.{done_leads}
use Rattle.lead_table.specs.Heads.{leads_by, leads_of_members}
use Rattle.lead_table.proofs.Sets.{members_step, too_many}
use Rattle.lead_table.proofs.leads.type_leads.Goals as goal

pub returns-then-len-gt-MOST : goal.returns-then-len-gt-MOST
returns-then-len-gt-MOST c =
    let M = done_leads c.args.table.now in
    let k = c.loop-place.place-index in
    let i = get_or c.args.members.now k 0 in
    let below : i < length c.args.heads.now = c.requires k 0 c.loop-place-test.true in
    let same : c.add_leads.new.leads ≡ with_leads [] (leads_of_members M c.args.heads.now (take (k + 1) c.args.members.now)) =
    members_step M c.args.heads.now c.args.members.now k c.index-heads-place.result c.loop-place.leads c.add_leads.new.leads _ c.loop-place-test.true below
    c.index-heads-place.is c.loop-place.invariant.are (c.as_slice.ensures ∙ c.in_ok-more.ensures) c.in_ok-add_leads.ensures in
    let many : 64 < length (with_leads [] (leads_of_members M c.args.heads.now (take (k + 1) c.args.members.now))) =
    omega (arith, ap length same, c.len.ensures, c.if-len-gt-MOST.true) in
    IfOk-weaker c.any_bits.result _ _ (λ leads e. e ∙ sym (too_many M c.args.heads.now c.args.members.now (k + 1) many)) c.any_bits.ensures

pub loop-place-preserved : goal.loop-place-preserved
loop-place-preserved c =
    let M = done_leads c.args.table.now in
    let k = c.loop-place.place-index in
    let i = get_or c.args.members.now k 0 in
    let below : i < length c.args.heads.now = c.requires k 0 c.loop-place-test.true in
    record {
      few = omega (arith, c.len.ensures, c.if-len-gt-MOST.false);
      are = members_step M c.args.heads.now c.args.members.now k c.index-heads-place.result c.loop-place.leads c.add_leads.new.leads _ c.loop-place-test.true below
          c.index-heads-place.is c.loop-place.invariant.are (c.as_slice.ensures ∙ c.in_ok-more.ensures) c.in_ok-add_leads.ensures;
    }
