use Rattle.std.proofs.Common.{arith, ◌≡◌, ◌∙◌, sym, ◌+◌, ◌-◌, ◌/◌, Some, true}
use Rattle.bit_slice.specs.Bits.{bit_value}
use Rattle.pruned_proof.proofs.Turning.{halved_before, halved_after, none_there, one_there}
use Rattle.pruned_proof.proofs.walking.turn.Goals as goal

pub halves-preserved-then-eq : goal.halves-preserved-then-eq
halves-preserved-then-eq c =
    let low = c.halves.low in
    let high = c.halves.high in
    let middle = low + (high - low) / 2 in
    let less = c.halves-test.true in
    let order = c.halves.invariant.order in
    let within = c.halves.invariant.within in
    let x = c.index-pairs-middle.result in
    let one = sym c.bit.ensures ∙ one_there c.bit.result c.eq.result c.eq.ensures c.if-eq.true in
    record {
      order = omega (arith, less);
      within = omega (arith, less, within);
      aims = λ k most zeros ones. halved_before c.args.pairs.now c.args.place k low middle high x c.slice.result
          c.slice.ensures one (omega (arith, less, within)) zeros ones
          (c.halves.invariant.aims k most zeros ones);
    }

pub halves-preserved : goal.halves-preserved
halves-preserved c =
    let low = c.halves.low in
    let high = c.halves.high in
    let middle = low + (high - low) / 2 in
    let less = c.halves-test.true in
    let order = c.halves.invariant.order in
    let within = c.halves.invariant.within in
    let x = c.index-pairs-middle.result in
    let other : bit_value c.args.place c.slice.result ≡ Some true → ⊥ =
    λ at. none_there c.bit.result c.eq.result c.eq.ensures c.if-eq.false (c.bit.ensures ∙ at) in
    record {
      order = omega (arith, less);
      within = within;
      aims = λ k most zeros ones. halved_after c.args.pairs.now c.args.place k low middle high x c.slice.result
          c.slice.ensures other (omega (arith, less, within)) zeros ones
          (c.halves.invariant.aims k most zeros ones);
    }
