use Rattle.std.proofs.Common.{◌≡◌, ℕ, ◌+◌, ◌<◌, length, take, get_or, ap, subst, sym, ◌∙◌, arith}
use Rattle.std.specs.Prelude.{All, None, Some, slice_get}
use Rattle.std.proofs.lemmas.List.{take_all}
use Rattle.std.proofs.lemmas.List.Elements.{All-more}
use Rattle.std.proofs.lemmas.Option.{slice_get-get_or}
use Rattle.lead_table.specs.declared.heads.Head.{Head}
use Rattle.lead_table.specs.Chains.{unseen_at, unseen_by}
use Rattle.lead_table.proofs.chain.first_unseen.Goals as goal

pub returns-clause-none : goal.returns-clause-none
returns-clause-none c =
    let P : ℕ → Type 0 = λ i. unseen_at c.args.table.now (slice_get c.args.heads.now i) ≡ None in
    let whole = take_all c.loop-place.place-index c.args.members.now (omega arith) in
    subst (All P) whole c.loop-place.invariant

pub loop-place-preserved : goal.loop-place-preserved
loop-place-preserved c =
    let P : ℕ → Type 0 = λ i. unseen_at c.args.table.now (slice_get c.args.heads.now i) ≡ None in
    let k = c.loop-place.place-index in
    let i = get_or c.args.members.now k 0 in
    let below : i < length c.args.heads.now = c.requires k 0 c.loop-place-test.true in
    let there = slice_get-get_or c.args.heads.now i c.index-heads-place.result below in
    let here : P i = ap (unseen_at c.args.table.now) there ∙ ap (unseen_by c.args.table.now) (sym c.index-heads-place.is) ∙ sym c.unseen_of.ensures ∙ c.in_default.is in
    All-more P c.args.members.now k 0 c.loop-place-test.true c.loop-place.invariant here
