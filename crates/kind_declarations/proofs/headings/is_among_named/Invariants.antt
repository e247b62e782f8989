use Rattle.std.proofs.Common.{◌≡◌, Some, map, drop}
use Rattle.std.specs.List.{list_any}
use Rattle.tlb_syntax.specs.View.{constructor as constructor_view}
use Rattle.kind_declarations.specs.Headings.{same_name}
use Rattle.kind_declarations.proofs.headings.is_among_named.Given as goal

abbrev pub invariant-loop-constructor : goal.invariant-loop-constructor
invariant-loop-constructor l =
    list_any (same_name (Some l.name)) (map (λ c. constructor_view c.now) (drop l.constructor-index l.constructors))
    ≡ list_any (same_name (Some l.name)) (map (λ c. constructor_view c.now) l.constructors)
