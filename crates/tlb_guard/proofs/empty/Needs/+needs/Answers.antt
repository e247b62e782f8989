use Rattle.std.proofs.Common.{◌∙◌, sym, ap, refl, true}
use Rattle.std.specs.Prelude.{◌&&◌}
use Rattle.std.specs.List.{list_all}
use Rattle.kind_terms.specs.SumLaws.{of_sum}
use Rattle.tlb_guard.specs.Empty.{may_be_empty}
use Rattle.tlb_guard.specs.Numbering.{types_in, views}
use Rattle.tlb_guard.specs.Scoping.{names}
use Rattle.tlb_guard.proofs.NeededTypes.{swapped}
use Rattle.tlb_guard.proofs.empty.Needs.+needs.Goals as goal

pub of_expr-returns-in-Sum-clause-needs : goal.of_expr-returns-in-Sum-clause-needs
of_expr-returns-in-Sum-clause-needs n c = λ t.
    let q = types_in (views c.args.self.now.types.now) t in
    let may = of_sum (may_be_empty q (names c.args.self.now.scope)) true (λ a b. refl) _ _ _ _ c.in-Sum.is in
    ap (λ b. list_all t c.args.self.now.needed && b) (sym may) ∙ swapped (list_all t c.args.self.now.needed) true
