use Rattle.std.proofs.Common.{◌≡◌, None}
use Rattle.cell_nodes.specs.declared.tree.Kind.TheVariants.{Ordinary}
use Rattle.cell_nodes.specs.declared.tree.Tree.{out-Tree}
use Rattle.hashmap_tree.specs.Adds.{slice_of}
use Rattle.hashmap_tree.specs.Dict.{unseen}
use Rattle.hashmap_tree.specs.Entries.{content}
use Rattle.plan_reading.proofs.Walking.{cell_given}
use Rattle.plan_reading.proofs.edges.walk_root.Goals as goal

pub returns-in-Ordinary : goal.returns-in-Ordinary
returns-in-Ordinary c =
    let cell = c.args.cell.now in
    let seen : unseen c.args.mode cell ≡ None = cc in
    let ordinary : (out-Tree cell).kind ≡ Ordinary = cc in
    let same : slice_of c.content.result ≡ content cell = λ i. record { bits = c.content.ensures.bits i; refs = c.content.ensures.refs i } in
    cell_given c.args.mode c.args.n cell (slice_of c.content.result) c.walk.result seen ordinary same c.walk.ensures
