use Rattle.tlb_grammar.proofs.CanonicalLaws.{canonical_once}
use Rattle.tlb_grammar.proofs.canonical_laws.one_of_a_text.Goals as goal

pub returns : goal.returns
returns c = canonical_once c.at_most_one.ensures.tokenized c.signs_stand_alone.ensures
