use Rattle.std.proofs.Common.{◌≡◌, ◌∙◌, ap, length}
use Rattle.bag_cells.specs.Written.{bag_of}
use Rattle.cell_pool.specs.Listing.{added}
use Rattle.cell_pool.specs.PostLaws.{added-empty}
use Rattle.cli_make.proofs.Same.{at-some}
use Rattle.cli_make.proofs.written.write.Goals as goal

pub returns-clause-written : goal.returns-clause-written
returns-clause-written c = (
  c.count-cells.ensures
      ∙ ap length (c.in_ok-root.ensures.added ∙ ap (λ p. added p c.args.cell) c.in_ok-pool.ensures ∙ added-empty c.args.cell),
  at-some (λ t. c.in_ok-bag.bag.items ≡ bag_of t) _ c.args.cell c.in_ok-root.ensures.meaning c.in_ok-bag.ensures.bytes,
)
