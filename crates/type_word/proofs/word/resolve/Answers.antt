use Rattle.std.proofs.Common.{◌≡◌, ◌∙◌, subst, List, ℕ}
use Rattle.tlb_lexer.specs.Tokenization.{Tokenizes}
use Rattle.tlb_lexer.specs.declared.Token.{Token}
use Rattle.tlb_syntax.specs.View.{expr}
use Rattle.type_index.specs.Index.{kinds_at}
use Rattle.type_word.specs.Signs.{sign_places}
use Rattle.type_word.proofs.Answering.{in_schema, resolved_word}
use Rattle.type_word.proofs.word.resolve.Goals as goal

pub returns : goal.returns
returns c =
    let w = c.in-Ok.ensures.holds in
    let P : List ℕ → Type 0 =
    λ bytes. (ts : List Token) → Tokenizes bytes ts → c.in_ok-places.places.items ≡ sign_places bytes ts in
    let same = subst P c.as_bytes.ensures.value c.in_ok-places.ensures w.tokens w.tokenized in
    let answer =
    resolved_word c.resolve_expr.result (kinds_at c.args.types.now) c.args.word.now c.as_slice.result.now
    (expr c.in-Ok.e) w (c.as_slice.ensures.value ∙ same) c.resolve_expr.ensures in
    record {
      answer = answer;
      schema = in_schema c.resolve_expr.result c.args.types.now c.args.word.now answer;
    }
