use Rattle.std.proofs.Common.{◌≡◌, ℕ, suc, ◌+◌, ◌<◌, ◌≤◌, List, [], ◌∷◌, ◌++◌, length, take, drop, get_or, set, ap, sym, subst, ◌∙◌, arith, add-one, rules as steps}
use Rattle.std.proofs.lemmas.List.{places as in_place, length-set}
use Rattle.lead_table.specs.declared.heads.Head.{Head}
use Rattle.lead_table.specs.Heads.{AreMembers}
use Rattle.lead_table.proofs.Listing.{member_step}
use Rattle.lead_table.proofs.members.members_of.Goals as goal

pub loop-place-preserved : goal.loop-place-preserved
loop-place-preserved c =
    let new = c.add_member.new.members in
    let n = c.loop-place.place in
    let back : take c.loop-place.members.len (new ++ drop (length new) c.loop-place.members.items) ≡ new = search (steps, in_place) in
    let lt : n < length c.args.heads.now = omega arith in
    let h = c.index-heads-place.result in
    let before : AreMembers (take n c.args.heads.now) c.as_mut_slice.result.now =
    let P : List (List ℕ) → Type 0 = λ z. AreMembers (take n c.args.heads.now) z in subst P (sym c.as_mut_slice.ensures.value) c.loop-place.invariant.are in
    let size : length c.as_mut_slice.result.now ≡ length c.args.heads.now = ap length c.as_mut_slice.ensures.value ∙ c.loop-place.invariant.size in
    let R : List (List ℕ) → Type 0 = λ z. record { size : length z ≡ length c.args.heads.now; are : AreMembers (take (n + 1) c.args.heads.now) z } in
    let added = member_step c.args.heads.now c.as_mut_slice.result.now new n h lt c.index-heads-place.is size (c.requires n h lt) before c.in_ok-add_member.ensures in
    subst R (sym back) (record { size = added.0; are = added.1 })
