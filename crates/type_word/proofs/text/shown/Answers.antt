use Rattle.std.proofs.Common.{◌∙◌, ap}
use Rattle.tlb_syntax.specs.Text.{expr_text}
use Rattle.type_word.specs.Resolving.{grammar_error}
use Rattle.type_word.proofs.text.shown.Goals as goal

pub returns-in_ok-show-in-Ok-clause-written : goal.returns-in_ok-show-in-Ok-clause-written
returns-in_ok-show-in-Ok-clause-written c =
    λ e w. c.in_ok-show-in-Ok.ensures ∙ ap expr_text (c.in-Ok.ensures.written e w)

pub returns-in-Err-clause-written : goal.returns-in-Err-clause-written
returns-in-Err-clause-written c =
    λ e w known. c.in-Err.ensures.written e w (λ same. known (c.word_error.ensures ∙ ap grammar_error same))
