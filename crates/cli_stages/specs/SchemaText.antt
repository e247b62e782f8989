-- The stage of a schema's text.
use Rattle.std.specs.Prelude.{◌≡◌, ℕ, List, Result}
use Rattle.tlb_syntax.specs.Tree.{SchemaView}
use Rattle.tlb_syntax.specs.Written.{Writes}
use Rattle.tlb_grammar.specs.Answer.{Refuses}
use Rattle.tlb_grammar.specs.declared.error.GrammarError.{GrammarError}
use Rattle.cli_refusals.specs.Refusal.{Refusal, schema}
use Rattle.cli_stages.specs.Stage.{stage}
use Rattle.cli_refusals.specs.declared.refusal.SchemaCause.TheVariants.{Text}

-- the text is refused
abbrev pub RefusesText : List ℕ → Refusal → Type 0
RefusesText text refusal = (error : GrammarError) × Refuses text error × (refusal ≡ schema (Text error))

-- or it writes a schema
abbrev pub SchemaText : List ℕ → Result SchemaView Refusal → Type 0
SchemaText text = stage (RefusesText text) (Writes text)
