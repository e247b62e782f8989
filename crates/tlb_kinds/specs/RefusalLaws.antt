-- What follows for a schema that is refused.
use Rattle.std.proofs.Common.{◌≡◌, ◌∙◌, ap, sym, Some}
use Rattle.std.specs.Prelude.{None}
use Rattle.tlb_syntax.specs.Tree.{SchemaView}
use Rattle.kind_declarations.specs.Faults.{first}
use Rattle.tlb_kinds.specs.declared.error.KindError.{KindError}
use Rattle.tlb_kinds.specs.Refusals.{first_refusal, IsKinded}

-- a refused schema has a refusal
pub refused_not_kinded : (s : SchemaView) (e : KindError) → first_refusal s ≡ Some e → IsKinded s → ⊥
refused_not_kinded s e is good = let other : None ≡ Some e = sym (ap first good) ∙ is in cc
