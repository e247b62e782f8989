use Rattle.std.proofs.Common.{◌≡◌, ◌++◌, map, drop}
use Rattle.tlb_syntax.specs.View.{constructor, items}
use Rattle.kind_terms.specs.Scopes.{made_known}
use Rattle.kind_declarations.proofs.endings.known_at_end.Given as goal

abbrev pub invariant-loop-item : goal.invariant-loop-item
invariant-loop-item l =
    map (λ n. n.now) l.known ++ made_known (map constructor l.types) (map (λ n. n.now) l.inputs) (items (drop l.item-index l.items))
    ≡ made_known (map constructor l.types) (map (λ n. n.now) l.inputs) (items l.items)
