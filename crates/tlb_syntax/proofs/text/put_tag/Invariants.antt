use Rattle.std.proofs.Common.{◌≡◌, ◌+◌, ◌++◌, map, take}
use Rattle.tlb_syntax.proofs.text.put_tag.Given as goal

abbrev pub invariant-bits : goal.invariant-bits
invariant-bits l = l.text.items ≡ l.initial.text.items ++ map (λ d. 48 + d) (take l.i l.bits)
