use Rattle.std.proofs.Common.{List, [], ℕ, ◌++◌, Err, ap, ◌∙◌, subst, arith}
use Rattle.hashmap_labels.specs.Views.{bits_of}
use Rattle.hashmap_tree.specs.declared.found.WalkCause.{WalkCause}
use Rattle.hashmap_tree.specs.Walk.{here}
use Rattle.hashmap_tree.specs.Adds.{Faults, slice_of}
use Rattle.hashmap_tree.proofs.Begin.{leaf_gives, fork_gives, label_gives, means}
use Rattle.hashmap_tree.proofs.walking.walk.Goals as goal

pub returns-then-n-len : goal.returns-then-n-len
returns-then-n-len c =
    let none = c.in_ok-prefix-in-Ok.ensures.ok in
    means c.args.closed c.args.mode c.args.n _ c.leaf_in_place.result
    (leaf_gives c.leaf_in_place.result c.args.closed c.args.mode c.args.n _ _ _ _ c.in-Ok.ensures.gives (c.if-n-len.true ∙ c.len-len.ensures) (c.in_ok-key-in-Ok.ensures.ok ∙ ap (λ (p : List ℕ). p ++ bits_of c.in-Ok.label) none) c.leaf_in_place.ensures.ok c.leaf_in_place.ensures.err)

pub returns-in-Err : goal.returns-in-Err
returns-in-Err c =
    let P : WalkCause → Type 0 = λ w. Faults [] c.stuck_first.result (here w) in
    means c.args.closed c.args.mode c.args.n (slice_of c.args.s) (Err c.stuck_first.result)
    (label_gives c.stuck_first.result c.in-Err.e c.args.closed c.args.mode c.args.n (slice_of c.args.s) c.in-Err.ensures.gives (subst P c.cause_of.ensures c.stuck_first.ensures))

pub returns-else-n-len : goal.returns-else-n-len
returns-else-n-len c =
    let le = c.in-Ok.ensures.bound in
    let ne = c.if-n-len.false in
    let is = c.len-len.ensures in
    let none = c.in_ok-prefix-in-Ok.ensures.ok in
    means c.args.closed c.args.mode c.args.n _ c.fork_of.result
    (fork_gives c.fork_of.result c.args.closed c.args.mode c.args.n _ _ _ _ c.in-Ok.ensures.gives (omega (arith, le, ne, is)) (c.in_ok-key-in-Ok.ensures.ok ∙ ap (λ (p : List ℕ). p ++ bits_of c.in-Ok.label) none) (rw is at (c.fork_of.ensures c.args.n (omega (arith, le, ne, is)))))
