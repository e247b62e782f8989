-- The stage of a value's text comes to exactly one answer.
use Rattle.std.proofs.Common.{◌≡◌, ◌⊎◌, inl, inr, ◌∙◌, ap, sym, refl, ℕ, List, Ok, Err}
use Rattle.typed_value.specs.Values.{Plain}
use Rattle.typed_value.specs.View.{value}
use Rattle.typed_value.specs.declared.value.Value.{Value}
use Rattle.value_text.specs.Writes.{TextWrites}
use Rattle.value_grammar.specs.Refused.{TextRefused}
use Rattle.value_grammar.specs.declared.cause.Cause.{Cause}
use Rattle.cli_refusals.specs.Refusal.{value_text}
use Rattle.cli_stages.specs.Stage.{Answers, IfRefused, IsAnswered, IsStage}
use Rattle.cli_stages.specs.ValueText.{RefusesValueText, ValueText}
use Rattle.cli_stages.specs.declared.stop.Stop.{Stop}
use Rattle.cli_stages.specs.declared.stop.Stop.TheVariants.{Refused, NoMemory}
use Rattle.cli_stages.proofs.StageFacts.{judged-as, stage-once}

pub record ValueTexts : Type 0 where
  pub value : (file : List ℕ) (v w : Plain) → TextWrites file v → TextWrites file w → v ≡ w
  pub refusal : (file : List ℕ) (cause other : Cause) (byte further : ℕ) → TextRefused file cause byte
      → TextRefused file other further → (cause ≡ other) × (byte ≡ further)
  pub not_both : (file : List ℕ) (v : Plain) (cause : Cause) (byte : ℕ) → TextWrites file v → TextRefused file cause byte → ⊥
  pub some : (file : List ℕ) → ((v : Plain) × TextWrites file v) ⊎ ((cause : Cause) × (byte : ℕ) × TextRefused file cause byte)

value-text-some : (file : List ℕ) → ((v : Plain) × TextWrites file v) ⊎ ((cause : Cause) × (byte : ℕ) × TextRefused file cause byte)
    → IsAnswered (ValueText file)
value-text-some file (inl h) = (Ok h.0, h.1)
value-text-some file (inr h) = (Err _, record { cause = h.0; byte = h.1; refused = h.2; is = refl })

same-text : (cause other : Cause) (byte further : ℕ) → cause ≡ other → byte ≡ further → value_text cause byte ≡ value_text other further
same-text cause other byte further c b = λ i. value_text (c i) (b i)

pub value-text-stage : ValueTexts → (file : List ℕ) → IsStage (ValueText file)
value-text-stage laws file = record {
  once = stage-once (RefusesValueText file) _
      (λ r q a b.
      let same = laws.refusal file a.cause b.cause a.byte b.byte a.refused b.refused in
      a.is ∙ same-text a.cause b.cause a.byte b.byte same.0 same.1 ∙ sym b.is)
      (λ v w a b. laws.value file v w a b)
      (λ r v a b. laws.not_both file v a.cause a.byte b a.refused);
  answered = value-text-some file (laws.some file);
  refuses = λ r given. judged-as r _ given.is tt;
}

-- ---- what is answered

pub text-refused : (file : List ℕ) (cause : Cause) (byte : ℕ) (stop : Stop) → TextRefused file cause byte
    → IfRefused (λ r. r ≡ value_text cause byte) stop → Answers {T = Value} (ValueText file) value (Err stop)
text-refused file cause byte (Refused r) refused is =
    record { answer = record { cause = cause; byte = byte; refused = refused; is = is } }
text-refused file cause byte NoMemory refused is = record { answer = tt }
