use Rattle.std.proofs.Common.{◌≡◌, ℕ, ◌+◌, ◌<◌, List, [], length, get_or, sym, ap, ◌∙◌, subst, arith}
use Rattle.std.proofs.lemmas.List.{get_or_default}
use Rattle.tlb_guard.specs.Facts.{AreUsers, IsServed}
use Rattle.tlb_guard.proofs.Searches.{extends_twice, holds_below, served_next, served_obeys}
use Rattle.tlb_guard.proofs.rules.finish.Goals as goal

pub loop-next-preserved : goal.loop-next-preserved
loop-next-preserved c =
    let s = c.loop-next.state in
    let t = c.apply_users.new.state in
    let n = c.loop-next.next in
    let fact = get_or s.queue n 0 in
    let users = c.as_slice-in-loop-next.result.now in
    let size = c.len.ensures in
    let lt : n < length s.queue = omega (arith, size, c.loop-next-test.true) in
    let longer = c.in_ok-apply_users.ensures.extends.longer in
    let facts = c.loop-next.invariant.extends.facts in
    let inside : fact < length c.args.users.now =
    omega (arith, facts, c.requires.facts, holds_below s.found fact (c.loop-next.invariant.search.found n lt)) in
    let same : get_or c.args.users.now fact [] ≡ users =
    get_or_default c.args.users.now fact [] c.index-users-fact.result inside
    ∙ ap (λ z. get_or c.args.users.now (get_or z n 0) c.index-users-fact.result) (sym c.as_slice.ensures) ∙ sym c.index-users-fact.is
    ∙ sym c.as_slice-in-loop-next.ensures in
    let P : List ℕ → Type 0 = λ z. AreUsers c.args.rules.now fact z in
    let are : AreUsers c.args.rules.now fact users = subst P same (c.requires.users fact inside) in
    record {
      search = c.in_ok-apply_users.ensures.search;
      extends = extends_twice c.args.state.now s t c.loop-next.invariant.extends c.in_ok-apply_users.ensures.extends;
      within = omega (arith, lt, longer);
      served = λ k d within.
          served_next s t n k c.args.rules.now d users c.in_ok-apply_users.ensures.extends lt within are (c.loop-next.invariant.served k d within)
          (λ i below. c.in_ok-apply_users.ensures.served (n + 1) (omega (arith, lt)) i d below);
      sound = λ seeds sound. c.in_ok-apply_users.ensures.sound seeds (c.loop-next.invariant.sound seeds sound);
    }

pub returns-clause-ruled : goal.returns-clause-ruled
returns-clause-ruled c = λ k d lt.
    let s = c.loop-next.state in
    let size = c.len.ensures in
    let end : c.loop-next.next ≡ length s.queue = omega (arith, size, c.loop-next-test.false, c.loop-next.invariant.within) in
    let P : ℕ → Type 0 = λ n. IsServed s n (get_or c.args.rules.now k d) in
    served_obeys s (get_or c.args.rules.now k d) c.loop-next.invariant.search (subst P end (c.loop-next.invariant.served k d lt))
