use Rattle.std.proofs.Common.{◌≤◌, ◌-◌, length}
use Rattle.tlb_lexer.proofs.Tokenization.{TokenizedBefore, NotRefusedBefore}
use Rattle.tlb_lexer.proofs.tokenize.Given as goal

abbrev pub invariant-stretches : goal.invariant-stretches
invariant-stretches l = record {
  within : l.place ≤ length l.text;
  tokenized : TokenizedBefore l.text l.place l.tokens.items;
  refuses : NotRefusedBefore l.text l.place;
}

abbrev pub decreases-stretches : goal.decreases-stretches
decreases-stretches l = length l.text - l.place
