use Rattle.std.proofs.Common.{ℕ, ◌+◌, List, ap, sym, refl, subst, is_ok, arith, drop}
use Rattle.std.proofs.ResultArms.{chosen}
use Rattle.tlb_lexer.specs.declared.Token.{Token}
use Rattle.tlb_lexer.specs.declared.scan.Stretch.TheVariants.{Gap, Spelled, LongName, OpenComment, Nothing}
use Rattle.tlb_lexer.specs.Tokenization.{bad_character, open_comment, too_long_name}
use Rattle.tlb_lexer.specs.Stretch.{IsFirstStretch}
use Rattle.tlb_lexer.proofs.StretchOf.{rest_whole}
use Rattle.tlb_lexer.proofs.OneTokenization.{advances}
use Rattle.tlb_lexer.proofs.Tokenization.{TokenizedBefore, gap_tokenized, gap_refuses, token_tokenized, token_refuses, whole_done, still_within}
use Rattle.tlb_lexer.proofs.tokenize.Goals as goal

pub stretches-preserved-in-Gap : goal.stretches-preserved-in-Gap
stretches-preserved-in-Gap c =
    let text = c.args.text.now in
    let place = c.stretches.place in
    let P : List ℕ → Type 0 = λ xs. IsFirstStretch xs (Gap c.in-Gap.len) in
    let there : IsFirstStretch (drop place text) (Gap c.in-Gap.len) = subst P (rest_whole place text) c.in-Gap.ensures.first in
    record {
      within = still_within text place c.in-Gap.len (drop place text) refl c.stretches.invariant.within (advances (drop place text) (Gap c.in-Gap.len) there).1;
      tokenized = gap_tokenized text place c.in-Gap.len c.stretches.tokens.items there c.stretches.invariant.tokenized;
      refuses = gap_refuses text place c.in-Gap.len there c.stretches.invariant.refuses;
    }

pub stretches-preserved : goal.stretches-preserved
stretches-preserved c =
    let text = c.args.text.now in
    let place = c.stretches.place in
    let kind = c.in-Spelled.kind in
    let n = c.in-Spelled.len in
    let P : List ℕ → Type 0 = λ xs. IsFirstStretch xs (Spelled kind n) in
    let there : IsFirstStretch (drop place text) (Spelled kind n) = subst P (rest_whole place text) c.in-Spelled.ensures.first in
    let pushed = chosen _ _ _ _ c.push.ensures.items (ap is_ok c.in_ok-push-in-Spelled.was) in
    let Q : List Token → Type 0 = λ ts. TokenizedBefore text (place + n) ts in
    record {
      within = still_within text place n (drop place text) refl c.stretches.invariant.within (advances (drop place text) (Spelled kind n) there).1;
      tokenized = subst Q (sym pushed) (token_tokenized text place n kind c.stretches.tokens.items there.0 there.1 c.stretches.invariant.tokenized);
      refuses = token_refuses text place n kind there.0 there.1 c.stretches.invariant.refuses;
    }

pub returns-in-LongName : goal.returns-in-LongName
returns-in-LongName c =
    let text = c.args.text.now in
    let place = c.stretches.place in
    let P : List ℕ → Type 0 = λ xs. IsFirstStretch xs LongName in
    let there : IsFirstStretch (drop place text) LongName = subst P (rest_whole place text) c.in-LongName.ensures.first in
    c.stretches.invariant.refuses _ (too_long_name there.1 there.2)

pub returns-in-OpenComment : goal.returns-in-OpenComment
returns-in-OpenComment c =
    let text = c.args.text.now in
    let place = c.stretches.place in
    let P : List ℕ → Type 0 = λ xs. IsFirstStretch xs OpenComment in
    let there : IsFirstStretch (drop place text) OpenComment = subst P (rest_whole place text) c.in-OpenComment.ensures.first in
    c.stretches.invariant.refuses _ (open_comment there)

pub returns-in-Nothing : goal.returns-in-Nothing
returns-in-Nothing c =
    let text = c.args.text.now in
    let place = c.stretches.place in
    let P : List ℕ → Type 0 = λ xs. IsFirstStretch xs Nothing in
    let there : IsFirstStretch (drop place text) Nothing = subst P (rest_whole place text) c.in-Nothing.ensures.first in
    c.stretches.invariant.refuses _ (bad_character there)

pub returns : goal.returns
returns c = whole_done c.args.text.now c.stretches.place c.stretches.tokens.items (omega arith) c.stretches.invariant.tokenized
