use Rattle.std.proofs.Common.{◌≡◌, List, ℕ, ap, ◌∙◌, Bor}
use Rattle.std.specs.Str.Parse.{digits_value}
use Rattle.std.proofs.lemmas.List.{take_rest}
use Rattle.value_text.specs.HiddenPartsLaws.{number_spells, told_negative, told_positive}
use Rattle.value_text.proofs.scan.number_of.Goals as goal
use Rattle.value_text.proofs.scan.number_of.Goals.{then-negative, else-negative}

pub returns-in-Some : goal.returns-in-Some
returns-in-Some c =
    let same : c.if-negative.digits.now ≡ c.requires.digits = elim c.if-negative.branch [
      | then-negative w ↦ ap (λ (b : Bor (List ℕ)). b.now) w.digits-is ∙ take_rest c.args.bytes.now 1 ∙ told_negative c.args.bytes.now c.requires w.if-negative.true
      | else-negative w ↦ ap (λ (b : Bor (List ℕ)). b.now) w.digits-is ∙ told_positive c.args.bytes.now c.requires w.if-negative.false
    ] in
    number_spells c.args.bytes.now c.requires c.in-Some.size (c.in-Some.ensures.0 ∙ ap (digits_value 10) same) c.in-Some.ensures.1
