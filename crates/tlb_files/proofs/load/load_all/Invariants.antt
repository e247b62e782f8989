use Rattle.std.proofs.Common.{◌≡◌, ◌+◌, ◌++◌, ℕ, List, drop}
use Rattle.tlb_files.specs.Contents.{AreShort, IsLoading}
use Rattle.tlb_files.specs.Counts.{Counts, Opens, counts}
use Rattle.tlb_files.specs.Loading.{Loading}
use Rattle.tlb_files.specs.View.{contents_of, files_by}
use Rattle.tlb_files.proofs.Loaded.{after}
use Rattle.tlb_files.proofs.load.load_all.Given as goal

-- what loading the other files makes of the shelf and of the contents, it makes of all
abbrev pub invariant-files : goal.invariant-files
invariant-files g l =
    let now = l.shelf in
    let first = l.fn.shelf in
    let others = files_by (drop l.place l.files) in
    let all = files_by l.files in
    record {
      held : g.H.Shelf.held now ≡ g.H.Shelf.held first;
      calm : g.H.Shelf.faults now ≡ g.H.Shelf.faults first;
      opens : (count : ℕ) (end : Counts)
          → Opens others count (counts (g.H.Shelf.opens now) (g.H.Shelf.given now) (g.H.Shelf.reads now) (g.H.Shelf.faults now)) end
          → Opens all (l.place + count) (counts (g.H.Shelf.opens first) (g.H.Shelf.given first) (g.H.Shelf.reads first) (g.H.Shelf.faults first)) end;
      short : (rest : List (List ℕ)) → AreShort others rest → AreShort all (contents_of l.contents.items ++ rest);
      holds : (rest : Loading) → IsLoading (g.H.Shelf.held first) others rest
          → IsLoading (g.H.Shelf.held first) all (after (contents_of l.contents.items) rest);
    }
