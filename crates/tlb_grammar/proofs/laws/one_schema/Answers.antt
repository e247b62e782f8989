use Rattle.tlb_grammar.proofs.Completeness.{schema_once}
use Rattle.tlb_grammar.proofs.laws.one_schema.Goals as goal

pub returns : goal.returns
returns c = schema_once
