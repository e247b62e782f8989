use Rattle.std.proofs.Common.{sym, ◌∙◌, arith, subst}
use Rattle.hashmap_tree.specs.Walk.{here}
use Rattle.hashmap_tree.specs.Adds.{Faults}
use Rattle.hashmap_tree.specs.declared.found.WalkCause.{WalkCause}
use Rattle.hashmap_tree.proofs.Adding.{branch_adds, both_add, leaf_adds, fork_adds, label_adds}
use Rattle.hashmap_tree.proofs.walking.+walk.Goals as goal

pub branch-returns-in-Ordinary : goal.branch-returns-in-Ordinary
branch-returns-in-Ordinary t c = λ f lt. branch_adds _ c.args.prefix.now c.args.found.now c.edge.new.found c.edge.result f c.args.mode c.args.m c.args.cell.now _ _ lt (sym c.unseen.ensures ∙ c.in-None.is) (sym c.kind.ensures ∙ c.in-Ordinary.is) c.content.ensures.bits c.content.ensures.refs c.edge.ensures

pub branches-returns : goal.branches-returns
branches-returns t c = λ f p lt e. both_add (Unit {0}) _ c.args.prefix.now p c.args.key.now _ _ c.args.found.now c.branch-alloc.new.found c.branch-alloc-2.new.found tt c.branch-alloc-2.result _ _ e c.in_ok-left.ensures.ok c.in_ok-right.ensures.ok (c.in_ok-branch.ensures f lt) (c.branch-alloc-2.ensures f lt)

pub edge-returns-then-n-len : goal.edge-returns-then-n-len
edge-returns-then-n-len t c = λ f lt. leaf_adds _ c.args.prefix.now _ _ _ c.args.found.now c.leaf.new.found c.leaf.result f c.args.mode c.args.n _ c.in-Ok.ensures.gives (c.if-n-len.true ∙ c.len-len.ensures) c.in_ok-key-in-Ok.ensures.ok c.leaf.ensures.ok c.leaf.ensures.err

pub edge-overflow_sub-n : goal.edge-overflow_sub-n
edge-overflow_sub-n t c = omega (arith, c.in-Ok.ensures.bound, c.len-len.ensures)

pub edge-overflow_sub-n-in-Ok : goal.edge-overflow_sub-n-in-Ok
edge-overflow_sub-n-in-Ok t c = omega (arith, c.in-Ok.ensures.bound, c.len-len.ensures, c.if-n-len.false)

pub edge-returns-in-Err : goal.edge-returns-in-Err
edge-returns-in-Err t c = λ f lt.
    let P : WalkCause → Type 0 = λ w. Faults c.args.prefix.now c.stuck.result (here w) in
    label_adds (Unit {0}) c.args.prefix.now c.args.found.now c.args.found.now c.stuck.result c.in-Err.e f c.args.mode c.args.n _ c.in-Err.ensures.gives (subst P c.cause_of.ensures c.stuck.ensures)

pub edge-returns-else-n-len : goal.edge-returns-else-n-len
edge-returns-else-n-len t c = λ f lt.
    let le = c.in-Ok.ensures.bound in
    let ne = c.if-n-len.false in
    let is = c.len-len.ensures in
    fork_adds _ c.args.prefix.now _ _ c.args.found.now c.forks.new.found c.forks.result f c.args.mode c.args.n _ c.in-Ok.ensures.gives (omega (arith, le, ne, is))
    (rw is at (c.forks.ensures f _ (omega (arith, le, ne, is, lt)) c.in_ok-key-in-Ok.ensures.ok))
