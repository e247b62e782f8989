use Rattle.std.proofs.Common.{List, ℕ, ◌++◌, ap, sym}
use Rattle.hashmap_tree.specs.Walk.{walk}
use Rattle.hashmap_tree.proofs.Begin.{pair_gives}
use Rattle.hashmap_tree.proofs.walking.fork_in_place.Goals as goal

pub returns : goal.returns
returns c = λ f lt.
    let none = c.in_ok-prefix.ensures.ok in
    let added = c.in_ok-branches.ensures f c.args.key.now lt (ap (λ (p : List ℕ). p ++ c.args.key.now) (sym none)) in
    pair_gives (Unit {0}) c.in_ok-prefix.prefix c.args.key.now _ c.branches.new.found tt (walk f c.args.mode) c.args.mode c.args.m c.args.parts.0.now c.args.parts.1.now c.args.rest none c.new.ensures.items c.new-2.ensures.items added
