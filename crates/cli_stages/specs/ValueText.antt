-- The stage of a value's text.
use Rattle.std.specs.Prelude.{◌≡◌, ℕ, List, Result}
use Rattle.typed_value.specs.Values.{Plain}
use Rattle.value_text.specs.Writes.{TextWrites}
use Rattle.value_grammar.specs.Refused.{TextRefused}
use Rattle.value_grammar.specs.declared.cause.Cause.{Cause}
use Rattle.cli_refusals.specs.Refusal.{Refusal, value_text}
use Rattle.cli_stages.specs.Stage.{stage}

-- the file is refused at a byte
pub record RefusesValueText (file : List ℕ) (refusal : Refusal) : Type 0 where
  pub cause : Cause
  pub byte : ℕ
  pub refused : TextRefused file cause byte
  pub is : refusal ≡ value_text cause byte

-- or it writes a value
abbrev pub ValueText : List ℕ → Result Plain Refusal → Type 0
ValueText file = stage (RefusesValueText file) (λ v. TextWrites file v)
