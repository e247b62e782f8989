use Rattle.std.proofs.Common.{sym, ◌∙◌, ap, codes, nat_eq}
use Rattle.std.specs.List.{starts_with}
use Rattle.tlb_lexer.proofs.StretchOf.{occurs_if, rest_whole}
use Rattle.tlb_lexer.proofs.scan.comment_end.Goals as goal

pub returns-then-starts_with-clause-first : goal.returns-then-starts_with-clause-first
returns-then-starts_with-clause-first c = record {
  occurs = occurs_if (codes "*/") _ (ap (λ xs. starts_with nat_eq xs (codes "*/")) (sym (rest_whole c.loop-place.place c.args.body.now)) ∙ sym c.starts_with.ensures.value ∙ c.if-starts_with.true);
  first = c.loop-place.invariant;
}
