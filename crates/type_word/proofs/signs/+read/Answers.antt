use Rattle.std.proofs.Common.{◌∙◌, ◌∷◌, [], ap, true, not}
use Rattle.std.specs.Prelude.{◌||◌}
use Rattle.tlb_syntax.specs.View.{expr}
use Rattle.kind_terms.specs.Params.{is_literal}
use Rattle.type_word.specs.Signs.{refused_signs}
use Rattle.type_word.specs.Scanning.{and_then}
use Rattle.type_word.specs.Views.{scan_by}
use Rattle.type_word.proofs.Scans.{scan_star, scan_sum, scan_turn}
use Rattle.type_word.proofs.signs.+read.Goals as goal

pub read_all-loop-e-preserved : goal.read_all-loop-e-preserved
read_all-loop-e-preserved t c =
    scan_turn (scan_by c.loop-e.reached) (scan_by c.read_signs-reached.result) c.args.es.now c.loop-e.e-index c.e-item.result
    c.loop-e-test.true c.e-item.is c.read_signs-reached.ensures
    ∙ c.loop-e.invariant

pub read_signs-returns-in-Sum : goal.read_signs-returns-in-Sum
read_signs-returns-in-Sum t c =
    let s = scan_by c.args.so_far in
    c.next_sign.ensures
    ∙ ap (λ z. and_then z (true ∷ [])) (c.read_signs.ensures ∙ ap (λ f. and_then s (refused_signs (expr f))) c.get.ensures)
    ∙ scan_sum s _ _ _ _ c.in-Sum.is

pub read_signs-returns-in-Star : goal.read_signs-returns-in-Star
read_signs-returns-in-Star t c =
    let s = scan_by c.args.so_far in
    let before = c.read_signs-before.ensures ∙ ap (λ f. and_then s (refused_signs (expr f))) c.get-in-Star.ensures in
    let product = c.next_sign-product.ensures ∙ ap (λ z. and_then z (c.is_refused_product.result ∷ [])) before in
    c.read_signs-in-Star.ensures
    ∙ (λ i. and_then (product i) (refused_signs (expr (c.get-in-Star-4.ensures i))))
    ∙ scan_star s c.args.e.now c.in-Star.left c.in-Star.right c.is_refused_product.result c.in-Star.is
    (c.is_refused_product.ensures
    ∙ (λ i. not (is_literal (expr (c.get-in-Star-2.ensures i))) || is_literal (expr (c.get-in-Star-3.ensures i))))
