use Rattle.tlb_grammar.proofs.CanonicalLaws.{canonical_writes}
use Rattle.tlb_grammar.proofs.canonical_laws.canonical_text.Goals as goal

pub returns : goal.returns
returns c = canonical_writes c.at_most_one.ensures.tokenized c.signs_stand_alone.ensures
