use Rattle.std.proofs.Common.{◌≡◌, ◌++◌, ℕ, List, length, ap, ◌∙◌, arith}
use Rattle.cell_nodes.specs.declared.tree.Tree.{Tree}
use Rattle.hashmap_tree.proofs.Parts.{leaf-built, leaf-full}
use Rattle.hashmap_tree.proofs.planting.leaf.Goals as goal

pub returns-in-Err : goal.returns-in-Err
returns-in-Err c =
    leaf-full c.args.n c.args.label c.args.key.now c.in_ok-cell.cell.bits c.args.content.now c.in-Err.field-0 c.full_at.result c.in_ok-cell.ensures.0 (rw c.content-content.ensures.bits at c.in-Err.ensures.full) c.in-Err.ensures.not_deep c.full_at.ensures

pub returns : goal.returns
returns c =
    leaf-built c.args.n c.args.label c.args.content.now c.push_refs.new.cell c.in_ok-cell.cell.bits c.push_bits.new.self.bits c.push_bits.new.self.refs c.in_ok-cell.ensures.0
    (c.in-Ok.ensures.ok.1 ∙ c.in_ok-cell.ensures.1)
    (c.in-Ok.ensures.ok.0 ∙ ap (λ (t : List ℕ). c.in_ok-cell.cell.bits ++ t) c.content-content.ensures.bits)
    c.in_ok-push_refs.ensures.ok.0
    (c.in_ok-push_refs.ensures.ok.1 ∙ ap (λ (t : List Tree). c.push_bits.new.self.refs ++ t) c.content-content.ensures.refs)
