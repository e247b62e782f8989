use Rattle.tlb_guard.specs.NameLaws.{class_by_test}
use Rattle.tlb_guard.proofs.laws.one_class.Goals as goal

pub returns : goal.returns
returns c = class_by_test
