use Rattle.std.proofs.Common.{◌∙◌, arith, ◌-◌}
use Rattle.sample_message.proofs.Drawing.{one-more}
use Rattle.sample_message.proofs.keys.drawn.Goals as goal

pub keys-preserved : goal.keys-preserved
keys-preserved c =
    rw (c.in_ok-push_key.ensures, c.drawn_next-key.ensures)
    (one-more c.keys.key (c.args.count - c.keys._place) _ c.keys.keys.items (omega (arith, c.keys-test.true)) ∙ c.keys.invariant)
