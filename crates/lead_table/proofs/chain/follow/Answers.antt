use Rattle.std.proofs.Common.{◌≡◌, ℕ, ◌+◌, ◌*◌, ◌<◌, List, [], ◌∷◌, ◌++◌, length, set, ap, sym, subst, ◌∙◌, refl, arith, length-append}
use Rattle.std.specs.Prelude.{All, Some, None, slice_get}
use Rattle.std.proofs.lemmas.List.{length-set}
use Rattle.lead_table.specs.declared.leads.Entry.{Entry}
use Rattle.lead_table.specs.declared.leads.Entry.TheVariants.{Open, Done}
use Rattle.schema_leads.specs.Leads.{at_most_64, with_leads}
use Rattle.lead_table.specs.Heads.{places, leads_of_members}
use Rattle.lead_table.specs.Chains.{IsFollowed, IsSeen, to_do, done_leads}
use Rattle.lead_table.proofs.Entries.{seen_stays, fewer_unseen, one_unseen_fewer, unseen_below}
use Rattle.lead_table.proofs.Following.{done_right, gone_on, gone_back, next_type, entry_unseen, members_at, all_and}
use Rattle.lead_table.proofs.chain.follow.Goals as goal

pub open-requires : goal.open-requires
open-requires c =
    let r = c.in-Some.ensures.some in
    unseen_below c.args.table.now c.in-Some.next (entry_unseen c.args.table.now (slice_get c.args.heads.now r.1) c.in-Some.next r.3)

pub returns-in_ok-open-in-Some-clause-followed : goal.returns-in_ok-open-in-Some-clause-followed
returns-in_ok-open-in-Some-clause-followed c = λ s is f.
    let r = c.in-Some.ensures.some in
    let n = c.in-Some.next in
    let of_t = members_at c.args.heads.now c.args.members.now c.args.of c.index-members-of.result c.as_slice.result.now is.are_members c.requires.below c.index-members-of.is c.as_slice.ensures in
    let member : slice_get (places c.args.of 0 c.args.heads.now) r.0 ≡ Some r.1 = ap (λ ms. slice_get ms r.0) (sym of_t.0) ∙ r.2 in
    let begins = next_type s c.args.heads.now c.args.table.now c.args.of r.0 r.1 n is.are_heads member r.3 in
    let below = unseen_below c.args.table.now n (entry_unseen c.args.table.now (slice_get c.args.heads.now r.1) n r.3) in
    let chain : c.open.new.chain ≡ (c.args.chain.now ++ c.args.of ∷ []) ++ n ∷ [] =
    c.in_ok-open-in-Some.ensures.chain ∙ ap (λ z. z ++ n ∷ []) c.in_ok-push-in-Some.ensures.ok in
    let P : List ℕ → Type 0 = λ z. IsFollowed s z c.open.new.table in
    let Q : List Entry → Type 0 = λ z. IsFollowed s ((c.args.chain.now ++ c.args.of ∷ []) ++ n ∷ []) z in
    subst P (sym chain) (subst Q (sym c.in_ok-open-in-Some.ensures.table) (gone_on s c.args.chain.now c.args.table.now c.args.of n f begins below))

pub returns-in_ok-open-in-Some-clause-below : goal.returns-in_ok-open-in-Some-clause-below
returns-in_ok-open-in-Some-clause-below c = λ all.
    let r = c.in-Some.ensures.some in
    let n = c.in-Some.next in
    let below = unseen_below c.args.table.now n (entry_unseen c.args.table.now (slice_get c.args.heads.now r.1) n r.3) in
    let chain : c.open.new.chain ≡ (c.args.chain.now ++ c.args.of ∷ []) ++ n ∷ [] =
    c.in_ok-open-in-Some.ensures.chain ∙ ap (λ z. z ++ n ∷ []) c.in_ok-push-in-Some.ensures.ok in
    let P : ℕ → Type 0 = λ t. t < length c.args.members.now in
    subst (All P) (sym chain) (all_and P (c.args.chain.now ++ c.args.of ∷ []) n (all_and P c.args.chain.now c.args.of all c.requires.below) (omega (arith, below, c.requires.sizes)))

pub returns-in_ok-open-in-Some-clause-less : goal.returns-in_ok-open-in-Some-clause-less
returns-in_ok-open-in-Some-clause-less c =
    let r = c.in-Some.ensures.some in
    let n = c.in-Some.next in
    let unseen = entry_unseen c.args.table.now (slice_get c.args.heads.now r.1) n r.3 in
    let below = unseen_below c.args.table.now n unseen in
    let chain : c.open.new.chain ≡ (c.args.chain.now ++ c.args.of ∷ []) ++ n ∷ [] =
    c.in_ok-open-in-Some.ensures.chain ∙ ap (λ z. z ++ n ∷ []) c.in_ok-push-in-Some.ensures.ok in
    let longer = length-append (c.args.chain.now ++ c.args.of ∷ []) (n ∷ []) in
    let fewer = one_unseen_fewer c.args.table.now n Open below refl unseen in
    let less : to_do ((c.args.chain.now ++ c.args.of ∷ []) ++ n ∷ []) (set c.args.table.now n Open) < to_do (c.args.chain.now ++ c.args.of ∷ []) c.args.table.now =
    omega (arith, longer, fewer) in
    let P : List ℕ → Type 0 = λ z. to_do z c.open.new.table < to_do (c.args.chain.now ++ c.args.of ∷ []) c.args.table.now in
    let Q : List Entry → Type 0 = λ z. to_do ((c.args.chain.now ++ c.args.of ∷ []) ++ n ∷ []) z < to_do (c.args.chain.now ++ c.args.of ∷ []) c.args.table.now in
    subst P (sym chain) (subst Q (sym c.in_ok-open-in-Some.ensures.table) less)

pub returns-in_ok-open-in-Some-clause-seen : goal.returns-in_ok-open-in-Some-clause-seen
returns-in_ok-open-in-Some-clause-seen c = λ n before.
    let Q : List Entry → Type 0 = λ z. IsSeen z n in
    subst Q (sym c.in_ok-open-in-Some.ensures.table) (seen_stays c.args.table.now c.in-Some.next n Open refl before)

pub returns-in_ok-leads-in-None-clause-followed : goal.returns-in_ok-leads-in-None-clause-followed
returns-in_ok-leads-in-None-clause-followed c = λ s is f.
    let members = c.as_slice.result.now in
    let of_t = members_at c.args.heads.now c.args.members.now c.args.of c.index-members-of.result members is.are_members c.requires.below c.index-members-of.is c.as_slice.ensures in
    let again = members_at c.args.heads.now c.args.members.now c.args.of c.index-members-of-in-None.result c.as_slice-in-None.result.now is.are_members c.requires.below
    c.index-members-of-in-None.is c.as_slice-in-None.ensures in
    let right = done_right c.no_cycle.ensures c.rounds_end.ensures s c.args.heads.now c.args.members.now c.args.chain.now c.args.table.now c.args.of members is f c.requires.sizes
    c.requires.below of_t.1 c.in-None.ensures.none in
    let leads = c.in_ok-leads-in-None.ensures
    ∙ ap (λ ms. at_most_64 (with_leads [] (leads_of_members (done_leads c.args.table.now) c.args.heads.now ms))) (again.0 ∙ sym of_t.0) in
    gone_back s c.args.chain.now c.args.table.now c.args.of c.in_ok-leads-in-None.leads f (omega (arith, c.requires.below, c.requires.sizes)) (leads ∙ right)

pub returns-in_ok-leads-in-None-clause-seen : goal.returns-in_ok-leads-in-None-clause-seen
returns-in_ok-leads-in-None-clause-seen c = λ n before. seen_stays c.args.table.now c.args.of n (Done c.in_ok-leads-in-None.leads) refl before
