use Rattle.std.proofs.Common.{◌≡◌, ◌-◌, List, ◌++◌, ◌∷◌, [], length, ap, sym, ◌∙◌, length-append, arith, rules, refl}
use Rattle.cell_nodes.specs.declared.tree.Tree.{Tree}
use Rattle.bag_cells.specs.Cells.{ref_at}
use Rattle.bag_cells.specs.Trees.{picked}
use Rattle.bag_cells.proofs.Laid.{cell_size-parts, ref_fits}
use Rattle.bag_cells.proofs.Picks.{picked-more, picked_at}
use Rattle.bag_cells.proofs.trees.picked.Goals as goal

pub ref_count-refs-requires : goal.ref_count-refs-requires
ref_count-refs-requires c = omega (arith, cell_size-parts c.args.raw.now c.args.place)

pub refs-init : goal.refs-init
unfolding picked
refs-init c = record {
  picked_are = c.in_ok-children.ensures.items;
  count = rw c.in_ok-children.ensures.items refl;
}

pub ref_at-requires-clause-within : goal.ref_at-requires-clause-within
ref_at-requires-clause-within c = ref_fits c.args.raw.now c.args.place c.refs.k c.requires.cell.laid (omega arith) (omega arith)

pub refs-preserved : goal.refs-preserved
refs-preserved c =
    let raw = c.args.raw.now in
    let place = c.args.place in
    let later = c.args.later.now in
    let t = c.index-later-header.result in
    let pushed : c.push.new.self.items ≡ c.refs.children.items ++ t ∷ [] = search rules in
    let cell = c.requires.cell.forward c.refs.k (omega arith) in
    let got = picked_at raw c.args.i (ref_at raw place c.refs.k) (c.args.header.cells - 1 - c.ref_at.result) later t cell (omega arith) (omega arith) c.index-later-header.is in
    record {
      picked_are = pushed ∙ ap (λ (ts : List Tree). ts ++ t ∷ []) c.refs.invariant.picked_are ∙ sym (picked-more raw place later c.refs.k t got);
      count = omega (arith, simp length-append at (ap length pushed), c.refs.invariant.count);
    }
