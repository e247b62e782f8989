-- The answer that there is, by what was read and cut.
use Rattle.std.proofs.Common.{◌≡◌, ◌≢◌, ◌<◌, ◌≤◌, ℕ, List, Ok, Err, sym, ap, ◌∙◌, subst}
use Rattle.accepted_pruning.specs.Laws.{OneProveAnswer, ProveThenView, PruningCommutes}
use Rattle.accepted_schema.specs.Accepted.{IsAccepted, kept_cores}
use Rattle.accepted_spelling.specs.Laws.{ReadOrStuck}
use Rattle.cell_nodes.specs.Constructed.{proof_of}
use Rattle.cell_nodes.specs.Good.{IsGood}
use Rattle.cell_nodes.specs.Tree.{mask, deepest, IsShallow, unfolded}
use Rattle.cell_nodes.specs.declared.tree.Mode.TheVariants.{Whole, Partial}
use Rattle.cell_nodes.specs.declared.tree.Tree.{Tree}
use Rattle.core_form.specs.Closed.{Closed}
use Rattle.spelling.specs.Spells.{Reading}
use Rattle.spelling.specs.Stuck.{Stuck}
use Rattle.spelling.specs.Places.{Place}
use Rattle.tlb_syntax.specs.Tree.{SchemaView}
use Rattle.typed_value.specs.Paths.{Stride}
use Rattle.typed_value.specs.Values.{Plain}
use Rattle.typed_value.specs.View.{value}
use Rattle.field_plan.specs.Placed.{place_view}
use Rattle.pruning.specs.SpellsLaid.{LaidRoot, plain_root, LaidReading}
use Rattle.pruning.specs.Blanked.{Blanked}
use Rattle.pruning.specs.Spots.{unkept, spots_of}
use Rattle.proof_laws.specs.Laws.{LaidIsRead}
use Rattle.proof_laws.specs.Proving.{ProveAnswer, ProveAnswers, CanProve, AllName, IsFirstNameless, pruned_for}
use Rattle.proof_laws.specs.Proving.{shown_for, proof_for, most_cells, proved, stuck_at, no_such_path, not_whole, proof_too_deep}
use Rattle.proof_laws.specs.Proving.{proof_too_large}
use Rattle.pruned_proof.specs.Proved.{Answers, CutsTo, IsTheAnswer, ProvesOver}
use Rattle.pruned_proof.specs.declared.cutting.CutError.{CutError}
use Rattle.pruned_proof.specs.declared.cutting.CutError.TheVariants.{Unread}
use Rattle.field_plan.specs.declared.place.Place.{Place as PlaceOf}
use Rattle.std.specs.Prelude.{Result}
use Rattle.typed_reader.specs.Promise.{Answers as ReadAnswers}
use Rattle.typed_reader.specs.declared.error.ReadError.{ReadError}
use Rattle.typed_reader.specs.declared.error.ReadError.TheVariants as reads
use Rattle.typed_value.specs.declared.value.Value.{Value}
use Rattle.pruned_proof.specs.declared.proving.Proved.{Proved}
use Rattle.pruned_proof.specs.declared.error.ProveError.{ProveError}
use Rattle.pruned_proof.specs.declared.error.ProveError.TheVariants as errors

module _ (one : OneProveAnswer) (then : ProveThenView) (commutes : PruningCommutes) (exact : ReadOrStuck) (laid : LaidIsRead)
    (s : SchemaView) (accepted : IsAccepted s) (t : Closed) (c : Tree) (good : IsGood c) (paths : List (List Stride)) where
  the : (a : ProveAnswer) → ProveAnswers (kept_cores s) t c paths a → IsTheAnswer (kept_cores s) t c paths a
  the a h = record { holds = h; only = λ b k. (one s accepted t c paths).one b a k h }

  stuck_answer : (p : Place) → Stuck Whole (kept_cores s) t c p → IsTheAnswer (kept_cores s) t c paths (stuck_at p)
  stuck_answer p h = the (stuck_at p) h

  pub stuck_read : (a : Result Value ReadError) (e : ReadError) (p q : PlaceOf) → a ≡ Err e → e ≡ reads.Stuck p → p ≡ q
      → ReadAnswers Whole (kept_cores s) t c a → IsTheAnswer (kept_cores s) t c paths (stuck_at (place_view q))
  stuck_read a e p q is stuck same h =
      let R : Result Value ReadError → Type 0 = ReadAnswers Whole (kept_cores s) t c in
      let it = subst R (is ∙ ap Err (stuck ∙ ap reads.Stuck same)) h in
      stuck_answer (place_view q) it.stuck

  -- with a reading
  module _ (v : Plain) (reading : Reading Whole (kept_cores s) t c v) where
    root : LaidRoot
    root = ((laid (kept_cores s) t c).lies v reading).0

    root_is : plain_root root ≡ v
    unfolding root
    root_is = ((laid (kept_cores s) t c).lies v reading).1

    root_reads : LaidReading (kept_cores s) t c root
    unfolding root
    root_reads = ((laid (kept_cores s) t c).lies v reading).2

    pub nameless_answer : (n : ℕ) → IsFirstNameless v paths n → IsTheAnswer (kept_cores s) t c paths (no_such_path n)
    nameless_answer n h =
        let P : Plain → Type 0 = λ z. IsFirstNameless z paths n in
        the (no_such_path n) (root, root_reads, subst P (sym root_is) h)

    -- the walk never stops at a value that is read
    pub never_unread : (a : Result Tree CutError) → a ≡ Err Unread
        → ((r : LaidRoot) → plain_root r ≡ v → LaidReading (kept_cores s) t c r → CutsTo paths r c a) → ⊥
    never_unread a is cuts = subst (CutsTo paths root c) is (cuts root root_is root_reads)

    module _ (named : AllName v paths) where
      all_named : AllName (plain_root root) paths
      all_named = let P : Plain → Type 0 = λ z. AllName z paths in subst P (sym root_is) named

      pub part_answer : (mask c ≢ 0) → IsTheAnswer (kept_cores s) t c paths not_whole
      part_answer h = the not_whole (root, root_reads, (all_named, h))

      module _ (whole : mask c ≡ 0) where
        can : CanProve c root paths
        can = record { named = all_named; whole = whole }

        -- the child, by the laid reading that there is
        pub record IsChild (p : Tree) : Type 0 where
          pub laid_root : LaidRoot
          pub is : plain_root laid_root ≡ v
          pub reads : LaidReading (kept_cores s) t c laid_root
          pub cut : p ≡ pruned_for paths laid_root c

        pub child_of : (p : Tree)
            → ((r : LaidRoot) → plain_root r ≡ v → LaidReading (kept_cores s) t c r → p ≡ pruned_for paths r c) → IsChild p
        child_of p cuts = record { laid_root = root; is = root_is; reads = root_reads; cut = cuts root root_is root_reads }

        pub child_reads : (p : Tree) → IsChild p → (w : Plain) × Reading Partial (kept_cores s) t p w
        child_reads p x =
            let k = commutes s accepted t c v good whole reading x.laid_root x.is x.reads.lies paths in
            let P : Tree → Type 0 = λ z. Reading Partial (kept_cores s) t z (Blanked v (unkept paths (spots_of x.laid_root))) in
            (Blanked v (unkept paths (spots_of x.laid_root)), subst P (sym x.cut) k.reads)

        named_at : (p : Tree) (x : IsChild p) → CanProve c x.laid_root paths
        named_at p x =
            let P : Plain → Type 0 = λ z. AllName z paths in
            record { named = subst P (sym x.is) named; whole = whole }

        shown_is : (p : Tree) (x : IsChild p) (w : Plain) → Reading Partial (kept_cores s) t p w → w ≡ shown_for paths x.laid_root
        unfolding child_reads
        shown_is p x w r =
            let y = child_reads p x in
            (exact Partial s accepted t p).one_reading w y.0 r y.1
            ∙ ap (λ (z : Plain). Blanked z (unkept paths (spots_of x.laid_root))) (sym x.is)

        pub proof_answers : (p : Tree) → IsChild p → (r : Result Proved ProveError) → ProvesOver (kept_cores s) t p r
            → Answers (kept_cores s) t c paths r
        proof_answers p x (Ok y) h =
            let over : proof_of p ≡ proof_for paths x.laid_root c = ap proof_of x.cut in
            let P : Tree → Type 0 = IsShallow in
            let Q : Tree → Type 0 = λ z. unfolded z ≤ most_cells in
            let a : ProveAnswers (kept_cores s) t c paths (proved y.proof (value y.value)) =
            (x.laid_root, x.reads, (named_at p x, subst P over h.1, subst Q over h.2, h.0 ∙ over, shown_is p x (value y.value) h.3)) in
            (the (proved y.proof (value y.value)) a, then s accepted t c good paths y.proof (value y.value) a)
        proof_answers p x (Err (errors.Stuck place)) h = absurd h
        proof_answers p x (Err (errors.NoSuchPath n)) h = absurd h
        proof_answers p x (Err errors.NotWhole) h = absurd h
        proof_answers p x (Err errors.ProofTooDeep) h =
            let P : Tree → Type 0 = λ z. 1024 < deepest z in
            the proof_too_deep (x.laid_root, x.reads, (named_at p x, subst P (ap proof_of x.cut) h))
        proof_answers p x (Err errors.ProofTooLarge) h =
            let P : Tree → Type 0 = IsShallow in
            let Q : Tree → Type 0 = λ z. most_cells < unfolded z in
            let over : proof_of p ≡ proof_for paths x.laid_root c = ap proof_of x.cut in
            the proof_too_large (x.laid_root, x.reads, (named_at p x, subst P over h.0, subst Q over h.1))
        proof_answers p x (Err errors.NoMemory) h = tt
