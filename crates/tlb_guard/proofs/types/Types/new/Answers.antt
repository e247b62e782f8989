use Rattle.std.proofs.Common.{ℕ, List, sym, ap, ◌∙◌}
use Rattle.std.specs.Prelude.{None, Some, bytes_eq, if◌then◌else◌}
use Rattle.std.specs.HashMap.{get_by}
use Rattle.std.specs.Option.{option_or}
use Rattle.tlb_guard.proofs.Numberings.{place_more}
use Rattle.tlb_guard.proofs.types.Types.new.Goals as goal

pub loop-number-preserved : goal.loop-number-preserved
loop-number-preserved c = λ x.
    let cs = c.args.constructors.now in
    let n = c.loop-number.number in
    let old = get_by (λ k. bytes_eq x k.now) c.loop-number.first in
    c.in_ok-add_first.ensures x
    ∙ ap (λ (z : List ℕ). option_or old (if bytes_eq z x then Some n else None)) c.text.ensures.value
    ∙ ap (λ o. option_or o (if bytes_eq c.index-constructors-number.result.result x then Some n else None)) (c.loop-number.invariant x)
    ∙ sym (place_more cs n c.index-constructors-number.result x c.loop-number-test.true c.index-constructors-number.is)
