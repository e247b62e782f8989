use Rattle.std.proofs.Common.{◌≡◌, ℕ, drop, map}
use Rattle.tlb_syntax.specs.View.{items as items_view}
use Rattle.tlb_guard.specs.Numbering.{views}
use Rattle.schema_core.specs.Names.{Names}
use Rattle.lead_table.specs.Scoping.{names_of}
use Rattle.lead_table.proofs.Firsts.{IsRest}
use Rattle.lead_table.proofs.first.+first.Given as goal

abbrev pub invariant-first_in-loop-item : goal.invariant-first_in-loop-item
invariant-first_in-loop-item l =
    (names : Names) (next place unnamed : ℕ) → map (λ n. n.now) l.initial.scope ≡ names_of names
    → IsRest (views l.types) names next place unnamed (items_view l.items) (map (λ n. n.now) l.scope) (items_view (drop l.item-index l.items))
