use Rattle.std.proofs.Common.{◌≡◌, ◌++◌, ◌-◌}
use Rattle.sample_message.specs.Keys.{drawn, drawn_after}
use Rattle.sample_message.proofs.keys.drawn.Given as goal

-- those that are drawn, and those that are to come
abbrev pub invariant-keys : goal.invariant-keys
invariant-keys l = l.keys.items ++ drawn_after l.key (l.fn.count - l._place) ≡ drawn l.fn.count
