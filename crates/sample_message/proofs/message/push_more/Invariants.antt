use Rattle.std.proofs.Common.{◌≡◌, ◌++◌, drop}
use Rattle.sample_message.specs.Message.{more_entries}
use Rattle.sample_message.proofs.message.push_more.Given as goal

-- the entries so far, and those of the other keys
abbrev pub invariant-keys : goal.invariant-keys
invariant-keys l = l.text.items ++ more_entries (drop l._place l.fn.keys) ≡ l.fn.text.items ++ more_entries l.fn.keys
