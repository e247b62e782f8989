use Rattle.std.proofs.Common.{ℕ, List, ap, subst}
use Rattle.std.proofs.lemmas.Result.{on_ok_weaker}
use Rattle.tlb_syntax.specs.View.{constructor}
use Rattle.tlb_guard.specs.Numbering.{views}
use Rattle.tlb_guard.specs.Views.{term_by}
use Rattle.tlb_guard.specs.Variables.{AddsRules, called}
use Rattle.tlb_guard.proofs.CalledParameters.{variable_exposure}
use Rattle.tlb_guard.proofs.exposed.add_exposure.Goals as goal

pub returns-in-Variable : goal.returns-in-Variable
returns-in-Variable c =
    let s = views c.args.types.now in
    let d = constructor c.args.constructor.now in
    let exposure = c.args.exposure.now in
    let v = c.in-Variable.variable.now in
    on_ok_weaker c.add_called.result
    (λ adds.
    let P : List ℕ → Type 0 = λ z. AddsRules s (called d v z) c.args.rules.now c.add_called.new.rules in
    variable_exposure s d exposure v c.args.rules.now c.add_called.new.rules (ap (term_by s) c.in-Variable.is) (subst P c.as_slice.ensures adds))
    c.add_called.ensures
