use Rattle.std.proofs.Common.{◌≡◌, length}
use Rattle.tlb_grammar.specs.Builder as plain
use Rattle.tlb_grammar.specs.Follows.{under}
use Rattle.tlb_grammar.proofs.builder.Builder.given.Given as goal

abbrev pub invariant-frames : goal.invariant-frames
invariant-frames l = plain.given l.e (under l.self) l.self.done ≡ plain.given l.fn.e (under l.initial.self) l.initial.self.done

abbrev pub decreases-frames : goal.decreases-frames
decreases-frames l = length (under l.self)
