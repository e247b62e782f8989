use Rattle.std.proofs.Common.{◌≡◌, take}
use Rattle.std.specs.Prelude.{All, None, slice_get}
use Rattle.lead_table.specs.Chains.{unseen_at}
use Rattle.lead_table.proofs.chain.first_unseen.Given as goal

abbrev pub invariant-loop-place : goal.invariant-loop-place
invariant-loop-place l = All (λ i. unseen_at l.table (slice_get l.heads i) ≡ None) (take l.place-index l.members)
