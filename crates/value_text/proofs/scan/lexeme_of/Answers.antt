use Rattle.std.proofs.Common.{◌≡◌, subst, ⊎_elim}
use Rattle.value_text.specs.declared.spot.Spot.{Spot}
use Rattle.value_text.specs.declared.spot.Spot.TheVariants.{DepthZero, DepthDigits}
use Rattle.value_text.specs.LexemePoints.{Holds, deep_zero, deep_digits}
use Rattle.value_text.specs.HiddenPartsLaws.{length_deep, zero_spells}
use Rattle.value_text.proofs.scan.lexeme_of.Goals as goal

pub returns-in-Zero : goal.returns-in-Zero
returns-in-Zero c =
    let P : Spot → Type 0 = λ p. Holds p c.args.bytes.now in
    zero_spells c.args.bytes.now (subst P c.in-Zero.is c.requires.holds)

pub hidden_of-requires-clause-long : goal.hidden_of-requires-clause-long
hidden_of-requires-clause-long c =
    let P : Spot → Type 0 = λ p. Holds p c.args.bytes.now in
    ⊎_elim
    (λ (e : c.args.spot ≡ DepthZero). length_deep c.args.bytes.now (deep_zero (subst P e c.requires.holds)))
    (λ (e : c.args.spot ≡ DepthDigits). length_deep c.args.bytes.now (deep_digits (subst P e c.requires.holds)))
    c.in-DepthZero.is
