use Rattle.std.proofs.Common.{◌≡◌, List, ℕ, take}
use Rattle.std.specs.Prelude.{bytes_eq}
use Rattle.std.specs.HashMap.{get_by}
use Rattle.tlb_guard.specs.Numbering.{place_of, views}
use Rattle.tlb_guard.proofs.types.Types.new.Given as goal

abbrev pub invariant-loop-number : goal.invariant-loop-number
invariant-loop-number l = (x : List ℕ) → get_by (λ k. bytes_eq x k.now) l.first ≡ place_of (views (take l.number l.constructors)) x
