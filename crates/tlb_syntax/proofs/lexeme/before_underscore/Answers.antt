use Rattle.std.proofs.lemmas.Slice.Eq.{strip_suffix_is}
use Rattle.std.proofs.lemmas.Bool.Decides.{Decides-eqb}
use Rattle.tlb_syntax.proofs.lexeme.before_underscore.Goals as goal

pub returns : goal.returns
returns c = strip_suffix_is Decides-eqb c.args.digits.now _ _ c.strip_suffix.ensures.cases
