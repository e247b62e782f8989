use Rattle.std.proofs.Common.{subst, sym}
use Rattle.tlb_syntax.specs.View.{schema}
use Rattle.tlb_kinds.specs.Kept.{IsKept}
use Rattle.tlb_kinds.proofs.Keeping.{whole_is_kept}
use Rattle.tlb_kinds.proofs.check.kind_check.Goals as goal

pub invariant_of-result : goal.invariant_of-result
invariant_of-result c =
    subst IsKept (sym c.in-Ok.ensures.1) (whole_is_kept (schema c.args.schema) c.requires c.in-Ok.ensures.0)
