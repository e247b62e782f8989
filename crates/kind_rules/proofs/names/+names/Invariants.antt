use Rattle.std.proofs.Common.{◌≡◌, ◌++◌, drop, map}
use Rattle.tlb_syntax.specs.View.{exprs, items}
use Rattle.kind_rules.specs.FieldNames.{names_in_all, names_of}
use Rattle.kind_rules.proofs.names.+names.Given as goal

abbrev pub invariant-add_names_in_all-loop-e : goal.invariant-add_names_in_all-loop-e
invariant-add_names_in_all-loop-e l =
    map (λ x. x.now) l.names ++ names_in_all (exprs (drop l.e-index l.es)) ≡ map (λ x. x.now) l.fn.names ++ names_in_all (exprs l.es)

abbrev pub invariant-add_names_of-loop-item : goal.invariant-add_names_of-loop-item
invariant-add_names_of-loop-item l =
    map (λ x. x.now) l.names ++ names_of (items (drop l.item-index l.list)) ≡ map (λ x. x.now) l.fn.names ++ names_of (items l.list)
