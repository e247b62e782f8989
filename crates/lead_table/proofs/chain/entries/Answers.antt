use Rattle.std.proofs.Common.{◌≡◌, ℕ, ◌+◌, ◌<◌, List, [], ◌∷◌, ◌++◌, length, take, drop, get_or, ap, sym, subst, ◌∙◌, arith, rules as steps}
use Rattle.std.specs.Prelude.{All, Some, slice_get}
use Rattle.std.proofs.lemmas.List.{places as in_place, take_all}
use Rattle.std.proofs.lemmas.List.Elements.{All-more}
use Rattle.std.proofs.lemmas.Option.{slice_get-get_or}
use Rattle.tlb_syntax.specs.Tree.{SchemaView}
use Rattle.lead_table.specs.declared.heads.Head.{Head}
use Rattle.lead_table.specs.declared.leads.Entry.{Entry}
use Rattle.lead_table.specs.Heads.{IsNumber}
use Rattle.lead_table.specs.Chains.{IsFollowing, IsSeen, IsSettled}
use Rattle.lead_table.proofs.Entries.{unseen_settled}
use Rattle.lead_table.proofs.Following.{head_number, seen_done}
use Rattle.lead_table.proofs.chain.entries.Goals as goal

pub loop-head-init : goal.loop-head-init
loop-head-init c = record {
  size = c.in_ok-table.ensures.size ∙ sym c.requires.sizes;
  settled = λ s is. unseen_settled s c.in_ok-table.table.items c.in_ok-table.ensures.unseen;
  seen = λ k d lt. absurd (omega (arith, lt));
}

pub loop-head-preserved : goal.loop-head-preserved
loop-head-preserved c =
    let hs = c.args.heads.now in
    let new = c.fill.new.table in
    let i = c.loop-head.head-index in
    let h = c.head-item.result in
    let lt : i < length hs = c.loop-head-test.true in
    let old = c.as_mut_slice.result.now in
    let back : take c.loop-head.table.len (new ++ drop (length new) c.loop-head.table.items) ≡ new = search (steps, in_place) in
    let there : slice_get hs i ≡ Some h = slice_get-get_or hs i h lt ∙ ap Some (sym c.head-item.is) in
    let seen_at : List Entry → Head → Type 0 = λ z x. IsSeen z x.of_type in
    let S : List Entry → Type 0 = λ z. All (seen_at z) (take i hs) in
    let seen_old = subst S (sym c.as_mut_slice.ensures.value) c.loop-head.invariant.seen in
    let seen_new : All (seen_at new) (take i hs) = λ k d below. c.in_ok-fill.ensures.seen _ (seen_old k d below) in
    let H : Head → Type 0 = λ x. IsSeen new x.of_type in
    let here = subst H c.head-item.is c.in_ok-fill.ensures.filled in
    let R : List Entry → Type 0 = λ z. record {
      size : length z ≡ length c.args.members.now;
      settled : (s : SchemaView) → IsFollowing s hs c.args.members.now → IsSettled s z;
      seen : All (seen_at z) (take (i + 1) hs);
    } in
    subst R (sym back) (record {
      size = c.fill.auto.table ∙ ap length c.as_mut_slice.ensures.value ∙ c.loop-head.invariant.size;
      settled = λ s is.
          (let T : List Entry → Type 0 = λ z. IsSettled s z in
          c.in_ok-fill.ensures.settled s is (head_number s hs i h is.are_heads there) (subst T (sym c.as_mut_slice.ensures.value) (c.loop-head.invariant.settled s is)));
      seen = All-more H hs i h lt seen_new here;
    })

pub returns : goal.returns
returns c = λ s is k d lt.
    let hs = c.args.heads.now in
    let whole = take_all c.loop-head.head-index hs (omega arith) in
    let S : List Head → Type 0 = λ z. All (λ (x : Head). IsSeen c.loop-head.table.items x.of_type) z in
    let seen = subst S whole c.loop-head.invariant.seen k d lt in
    seen_done s c.loop-head.table.items (get_or hs k d).of_type (c.loop-head.invariant.settled s is) seen
    (omega (arith, c.requires.types k d lt, c.requires.sizes, c.loop-head.invariant.size))
