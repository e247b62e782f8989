use Rattle.std.proofs.Common.{◌≡◌, ◌<◌, false, sym, arith}
use Rattle.std.proofs.lemmas.Bool.Decides.{nat_tests}
use Rattle.bag_cells.specs.Header.{data_end}
use Rattle.bag_cells.specs.Cells.{has_stored_hashes}
use Rattle.bag_cells.proofs.Laid.{laid, stop_at, well}
use Rattle.bag_cells.proofs.cells.end_of.Goals as goal

pub returns : goal.returns
returns c =
    let raw = c.args.raw.now in
    let place = c.args.place in
    let inside : place < data_end raw = omega arith in
    let stored : has_stored_hashes raw place ≡ false = grind (arith, nat_tests) in
    let malformed = sym c.if-is_malformed.ensures in
    let stop = stop_at raw place c.byte_count.result c.ref_count.result c.args.header.size c.byte_count.ensures.value c.ref_count.ensures.value c.requires.header.size_is in
    record {
      cell = well raw c.args.i place inside stored malformed (sym c.if-goes_back.ensures);
      stop_is = stop;
      within = rw stop (laid raw place malformed).within;
    }
