-- What is proved is read as the value with just the references unknown that no path keeps.
use Rattle.std.proofs.Common.{◌≡◌, ℕ, ◌<◌, List, [], ◌∷◌, Option, refl, sym, ap, subst, arith}
use Rattle.cell_nodes.specs.Constructed.{proof_bits, proof_of}
use Rattle.cell_nodes.specs.Equations.{out-tree_of}
use Rattle.cell_nodes.specs.Good.{IsGood}
use Rattle.cell_nodes.specs.Tree.{mask, hash, depth, IsShallow}
use Rattle.cell_nodes.specs.declared.tree.Kind.TheVariants.{Proof}
use Rattle.cell_nodes.specs.declared.tree.Mode.TheVariants.{Partial}
use Rattle.cell_nodes.specs.declared.tree.Tree.{Tree}
use Rattle.cell_nodes.specs.declared.tree.Tree.TheOpen.{Tree-F}
use Rattle.core_form.specs.Core.{CoreSchema}
use Rattle.core_form.specs.Closed.{Closed}
use Rattle.spelling.specs.Spells.{Reading}
use Rattle.typed_value.specs.Paths.{Stride}
use Rattle.typed_value.specs.Values.{Plain}
use Rattle.pruning.specs.Names.{NamesFieldsApart}
use Rattle.pruning.specs.SpellsLaid.{LaidRoot, plain_root, LaidReading}
use Rattle.pruning.specs.Spots.{unless_kept}
use Rattle.pruning_laws.specs.AbsenceLaws.{named_known}
use Rattle.pruning_laws.specs.CommutesLaws.{commutes}
use Rattle.proof_laws.specs.CellLaws.{pruned_is_low, seals, good-proof_of}
use Rattle.proof_laws.specs.KnownExactLaws.{knows_exactly}
use Rattle.proof_laws.specs.LaidReadsLaws.{laid_reads}
use Rattle.proof_laws.specs.Laws.{IsProofOf, ProveThenView}
use Rattle.proof_laws.specs.Nodes.{here}
use Rattle.proof_laws.specs.Proving.{pruned_for, shown_for, proof_for, CanProve}
use Rattle.proof_laws.specs.Viewing.{IsRoot, viewed, ViewAnswers}
use Rattle.proof_laws.specs.ViewingLaws.{unsort}

-- the proof of a child that is read so answers with the value and the child's hash
pub viewed_so : (schema : CoreSchema) (t : Closed) (p : Tree) (w : Plain) (found : List ℕ) → IsGood p → mask p < 2
    → Reading Partial schema t p w → found ≡ hash p 0 → (root : Option (List ℕ)) → IsRoot root found
    → ViewAnswers schema t (proof_of p) root (viewed w found)
viewed_so schema t p w found sound low reads same root given =
    let o = out-tree_of Proof (proof_bits (hash p 0) (depth p 0)) (p ∷ []) in
    let P : List ℕ → Type 0 = IsRoot root in
    unsort schema t (proof_of p) p root (viewed w found) (ap (λ (n : Tree-F Tree). n.kind) o)
    (ap (λ (n : Tree-F Tree). n.children) o) (seals p sound low, subst P same given, reads, same)

proves_so : (schema : CoreSchema) → NamesFieldsApart schema → (t : Closed) (c : Tree) → IsGood c
    → (paths : List (List Stride)) (r : LaidRoot) → LaidReading schema t c r → CanProve c r paths
    → IsShallow (proof_for paths r c) → IsProofOf schema t c paths (proof_for paths r c) (shown_for paths r)
proves_so schema names t c sound paths r reading can shallow =
    let reads = laid_reads schema t c r reading in
    let x = commutes schema names t c (plain_root r) sound can.whole reads r refl reading.lies paths in
    let low = pruned_is_low c (pruned_for paths r c) sound can.whole x.prunes in
    let level : mask (pruned_for paths r c) < 2 =
    let l = low (pruned_for paths r c) (here (pruned_for paths r c)) in omega (arith, l) in
    record {
      child = pruned_for paths r c;
      over = refl;
      good = good-proof_of (pruned_for paths r c) x.good shallow;
      prunes = x.prunes;
      same_hash = x.same_hash;
      same_depth = x.same_depth;
      low = low;
      laid = r;
      reading = reading;
      shows = refl;
      views = viewed_so schema t (pruned_for paths r c) (shown_for paths r) (hash c 0) x.good level x.reads
          (sym x.same_hash);
      hides = λ path. knows_exactly schema names t c r reading.lies (unless_kept paths) path;
      knows = λ i path at. named_known schema names t c r reading.lies paths i path at (can.named i path at);
    }

pub prove_then_view : ProveThenView
prove_then_view schema names t c sound paths proof shown h =
    let a = h.2 in
    let P : Tree → Type 0 = λ z. IsProofOf schema t c paths z shown in
    let Q : Plain → Type 0 = λ w. IsProofOf schema t c paths (proof_for paths h.0 c) w in
    subst P (sym a.3) (subst Q (sym a.4) (proves_so schema names t c sound paths h.0 h.1 a.0 a.1))
