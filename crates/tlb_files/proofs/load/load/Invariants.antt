use Rattle.std.proofs.Common.{◌≡◌, ◌≤◌, ◌+◌, ◌-◌, vec_len, length}
use Rattle.tlb_edge.specs.Causes.{counted}
use Rattle.tlb_edge.specs.Files.{reported_at}
use Rattle.tlb_files.specs.Contents.{Splits}
use Rattle.tlb_files.specs.Counts.{RoseAtMost}
use Rattle.tlb_files.proofs.load.load.Given as goal

abbrev pub invariant-pieces : goal.invariant-pieces
invariant-pieces g l =
    let now = l.shelf in
    let first = l.fn.shelf in
    record {
      held : g.H.Shelf.held now ≡ g.H.Shelf.held first;
      opens : g.H.Shelf.opens now ≡ counted (g.H.Shelf.opens first) 1;
      calm : g.H.Shelf.faults now ≡ g.H.Shelf.faults first;
      given : g.H.Shelf.given now ≡ length l.bytes.items;
      reads : RoseAtMost (length l.bytes.items) (g.H.Shelf.reads first) (g.H.Shelf.reads now);
      within : length l.bytes.items ≤ l.limit + 1;
      splits : Splits (reported_at (g.H.Shelf.held first) l.name) l.bytes.items (g.H.Shelf.rest now);
    }

abbrev pub decreases-pieces : goal.decreases-pieces
decreases-pieces g l = l.limit + 1 - vec_len l.bytes
