-- Pruning commutes with reading.
use Rattle.std.specs.Prelude.{filter}
use Rattle.std.proofs.Common.{◌≡◌, ◌⊎◌, ◌^◌, ◌<◌, List, sym, ap, subst, arith}
use Rattle.cell_hash.specs.declared.ChildMark.{ChildMark}
use Rattle.cell_nodes.specs.Constructed.{stub}
use Rattle.cell_nodes.specs.PrunesGoodLaws.{prunes-good}
use Rattle.cell_nodes.specs.PrunesLaws.{prunes-keeps}
use Rattle.cell_nodes.specs.Tree.{mask}
use Rattle.cell_nodes.specs.declared.tree.Tree.{Tree}
use Rattle.core_form.specs.Core.{CoreSchema}
use Rattle.core_form.specs.Closed.{Closed}
use Rattle.typed_value.specs.Paths.{Stride}
use Rattle.typed_value.specs.Values.{Plain}
use Rattle.pruning.specs.Blanked.{Blanked}
use Rattle.pruning.specs.Cut.{cut_root}
use Rattle.pruning.specs.SpellsLaid.{LaidRoot, plain_root, IsLaidRoot}
use Rattle.pruning.specs.Names.{NamesFieldsApart}
use Rattle.pruning.specs.Spots.{unless_kept, unkept, spots_of}
use Rattle.pruning.specs.Thinned.{pruned_in, ReadsThinned}
use Rattle.pruning_laws.specs.BlankedLaws.{blanks}
use Rattle.pruning_laws.specs.CleanLaws.{IsClean}
use Rattle.pruning_laws.specs.KnownLaws.{chosen_known}
use Rattle.pruning_laws.specs.Laws.{Commutes, PruningCommutes, PrunedTreeReads}
use Rattle.pruning_laws.specs.NamesLaws.{root_apart}
use Rattle.pruning_laws.specs.RootLaws.{IsSmall, choice_shows}
use Rattle.pruning_laws.specs.ThinLaws.{root_thins}

at_root_commutes : (schema : CoreSchema) → NamesFieldsApart schema → (t : Closed) (c : Tree) (r : LaidRoot)
    → IsClean c → IsSmall (plain_root r) → IsLaidRoot schema t c r → (paths : List (List Stride))
    → Commutes schema t c (cut_root (unless_kept paths) r c) (plain_root r)
    (Blanked (plain_root r) (unkept paths (spots_of r))) paths
at_root_commutes schema names t c r clean small lies paths =
    let p = cut_root (unless_kept paths) r c in
    let x = choice_shows schema t c r (unless_kept paths) clean lies small in
    let e = blanks (unless_kept paths) r (root_apart schema names t c r lies) in
    let level : mask c < 2 ^ 0 = let l = clean.level in omega (arith, l) in
    let k = prunes-keeps c p 0 x.prunes clean.good level in
    let P : Plain → Type 0 = λ w. Commutes schema t c (cut_root (unless_kept paths) r c) (plain_root r) w paths in
    subst P (sym e) (record {
      prunes = x.prunes;
      good = prunes-good c p 0 x.prunes clean.good level (omega arith);
      same_hash = ap (λ (m : ChildMark). m.hash) (k.marks_kept 0 (omega arith));
      same_depth = ap (λ (m : ChildMark). m.depth) (k.marks_kept 0 (omega arith));
      reads = x.reads;
      knows = λ i path at. chosen_known paths i path at r;
    })

pub commutes : PruningCommutes
commutes schema names t c v sound level reading r same lies paths =
    let P : Plain → Type 0 = λ v.
    Commutes schema t c (cut_root (unless_kept paths) r c) v (Blanked v (unkept paths (spots_of r))) paths in
    let Q : Plain → Type 0 = IsSmall in
    let small : IsSmall v = record { deep = reading.deep; large = reading.large } in
    subst P same
    (at_root_commutes schema names t c r (record { good = sound; level = level }) (subst Q (sym same) small) lies paths)

pub thinned : PrunedTreeReads
thinned schema names t c v sound level reading r same lies p prunes =
    let P : Plain → Type 0 = λ v.
    (p ≡ stub c 0) ⊎ ReadsThinned schema t p (Blanked v (filter (pruned_in p) (spots_of r))) in
    let Q : Plain → Type 0 = IsSmall in
    let small : IsSmall v = record { deep = reading.deep; large = reading.large } in
    subst P same
    (root_thins schema t c p r (record { good = sound; level = level }) lies (subst Q (sym same) small)
    (root_apart schema names t c r lies) prunes)
