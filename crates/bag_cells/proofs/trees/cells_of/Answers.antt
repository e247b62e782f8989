use Rattle.std.proofs.Common.{◌≡◌, ℕ, ◌-◌, ◌<◌, List, ◌++◌, ◌∷◌, [], length, get_or, ap, subst, sym, ◌∙◌, length-append, arith, rules, refl}
use Rattle.std.specs.Prelude.{None, Some}
use Rattle.std.proofs.lemmas.Result.{err_from_is_err_and}
use Rattle.cell_nodes.specs.declared.tree.Tree.{Tree}
use Rattle.bag_cells.specs.Header.{cells}
use Rattle.bag_cells.specs.Trees.{trees, node_refusal}
use Rattle.bag_cells.proofs.Rows.{last_before-none}
use Rattle.bag_cells.proofs.Refusals.{refused_node}
use Rattle.bag_cells.proofs.Picks.{refusal_now, trees_now, at_or_above}
use Rattle.bag_cells.proofs.trees.cells_of.Goals as goal

pub cells-init : goal.cells-init
unfolding trees
cells-init c = record {
  trees_are = c.in_ok-cells.ensures.items;
  count = rw c.in_ok-cells.ensures.items refl;
  accepted = λ j h k. absurd (omega arith);
}

pub returns-in_err-cell : goal.returns-in_err-cell
returns-in_err-cell c =
    let raw = c.args.raw.now in
    let i = c.args.header.cells - 1 - c.cells.made in
    let p = err_from_is_err_and c.from_residual-in_err-cell.result c.from_residual-in_err-cell.ensures.1 in
    rw (p.1, p.2) (λ ne.
    refused_node raw i c.in_err-cell.field-0.0 c.requires.header.accepted c.requires.starts.accepted c.requires.starts.nothing_left (omega arith)
    (λ j h k. c.cells.invariant.accepted j (omega arith) k)
    (refusal_now raw i c.cells.made (get_or c.args.starts.now i 0) c.as_slice.result.now (Some c.in_err-cell.field-0.0) (omega arith)
    (c.requires.starts.places i (omega arith)) (c.as_slice.ensures.value ∙ c.cells.invariant.trees_are) (c.in_err-cell.ensures ne)))

pub cells-preserved : goal.cells-preserved
cells-preserved c =
    let raw = c.args.raw.now in
    let i = c.args.header.cells - 1 - c.cells.made in
    let t = c.in_ok-cell.cell in
    let pushed : c.push.new.self.items ≡ c.cells.cells.items ++ t ∷ [] = search rules in
    let here = c.requires.starts.places i (omega arith) in
    let known = c.as_slice.ensures.value ∙ c.cells.invariant.trees_are in
    let place = get_or c.args.starts.now i 0 in
    let more = trees_now raw i c.cells.made place c.as_slice.result.now t (omega arith) here known c.in_ok-cell.ensures.node_is in
    let accepted = refusal_now raw i c.cells.made place c.as_slice.result.now None (omega arith) here known c.in_ok-cell.ensures.accepted in
    record {
      trees_are = pushed ∙ ap (λ (ts : List Tree). ts ++ t ∷ []) c.cells.invariant.trees_are ∙ sym more;
      count = omega (arith, simp length-append at (ap length pushed), c.cells.invariant.count);
      accepted = λ j h k. at_or_above i j (λ (m : ℕ). node_refusal raw m ≡ None) (omega arith) accepted
          (λ (l : i < j). c.cells.invariant.accepted j (omega arith) k);
    }

pub returns : goal.returns
returns c =
    let raw = c.args.raw.now in
    let all : c.cells.made ≡ cells raw = omega arith in
    record {
      accepted = last_before-none (node_refusal raw) (cells raw) (λ j h. c.cells.invariant.accepted j (omega arith) h);
      trees_are = subst (λ (m : ℕ). c.cells.cells.items ≡ trees raw m) all c.cells.invariant.trees_are;
      count = c.cells.invariant.count ∙ all;
    }
