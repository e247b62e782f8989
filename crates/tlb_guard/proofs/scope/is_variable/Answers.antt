use Rattle.std.proofs.Common.{◌≢◌, List, [], length, sym, ap, ◌∙◌}
use Rattle.std.specs.Prelude.{◌&&◌, ◌==◌, not, map}
use Rattle.std.proofs.lemmas.Bool.{false≢true}
use Rattle.tlb_syntax.specs.declared.tree.Expr.{Expr}
use Rattle.kind_terms.specs.Words.{is_among}
use Rattle.tlb_guard.proofs.Numberings.{has_exprs_some}
use Rattle.tlb_guard.proofs.scope.is_variable.Goals as goal

pub returns-else-is_empty : goal.returns-else-is_empty
returns-else-is_empty c =
    let e = sym c.is_empty.ensures ∙ c.if-is_empty.false in
    let some : c.args.args.now ≢ [] = λ h. false≢true (sym e ∙ ap (λ (es : List Expr). length es == 0) h) in
    c.if-is_empty.false
    ∙ sym (ap (λ b. not b && is_among (map (λ n. n.now) c.args.scope.now) c.args.name.now) (has_exprs_some c.args.args.now some))
