use Rattle.std.proofs.Common.{◌≡◌, drop}
use Rattle.tlb_syntax.specs.View.{items}
use Rattle.tag_ambiguity.proofs.Names.{found_in}
use Rattle.tag_ambiguity.proofs.inputs.variable_of.Given as goal

abbrev pub invariant-loop-item : goal.invariant-loop-item
invariant-loop-item l = found_in (items l.items) l.name ≡ found_in (items (drop l.item-index l.items)) l.name
