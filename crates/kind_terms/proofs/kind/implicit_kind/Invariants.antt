use Rattle.std.proofs.Common.{◌≡◌, drop}
use Rattle.tlb_syntax.specs.View.{items}
use Rattle.kind_terms.specs.Params.{implicit_kind}
use Rattle.kind_terms.proofs.kind.implicit_kind.Given as goal

abbrev pub invariant-loop-item : goal.invariant-loop-item
invariant-loop-item l = implicit_kind (items (drop l.item-index l.list)) l.name ≡ implicit_kind (items l.list) l.name
