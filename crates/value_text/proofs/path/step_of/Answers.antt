use Rattle.std.proofs.Common.{arith, subst, ◌∙◌}
use Rattle.value_text.specs.declared.point.Point.{Point}
use Rattle.value_text.specs.PathPoints.{Holds}
use Rattle.value_text.specs.PathKeptLaws.{zero_text}
use Rattle.value_text.proofs.path.step_of.Goals as goal

pub returns-in-Zero : goal.returns-in-Zero
returns-in-Zero c =
    let P : Point → Type 0 = λ p. Holds p c.args.text.now in
    (omega arith, subst P c.in-Zero.is c.requires.holds ∙ zero_text)
