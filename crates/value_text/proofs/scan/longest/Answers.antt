use Rattle.std.proofs.Common.{arith, get_or, refl, sym, ◌∙◌}
use Rattle.value_text.specs.HiddenPartsLaws.{walk_more}
use Rattle.value_text.proofs.scan.longest.Goals as goal

pub bytes-preserved : goal.bytes-preserved
bytes-preserved c =
    walk_more c.args.text.now c.bytes.i c.bytes.spot c.in-Some.next (get_or c.args.text.now c.bytes.i 0) (omega arith) refl c.bytes.invariant
    (sym c.next.ensures ∙ c.in-Some.is)
