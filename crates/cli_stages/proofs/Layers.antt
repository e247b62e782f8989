-- What the laws of the layers below say: one answer at most, and some answer.
use Rattle.std.proofs.Common.{◌≡◌, ◌⊎◌, ℕ, List}
use Rattle.bag_cells.specs.Bag.{BagHolds, BagRefused}
use Rattle.bag_cells.specs.declared.error.BagError.{BagError}
use Rattle.cell_nodes.specs.declared.tree.Tree.{Tree}
use Rattle.tlb_grammar.specs.Answer.{Refuses}
use Rattle.tlb_grammar.specs.declared.error.GrammarError.{GrammarError}
use Rattle.accepted_schema.specs.Laws.{AcceptedHasNoRefusal, AcceptedOrRefused}
use Rattle.tlb_kinds.specs.Laws.{KeptStaysWithin, KindedStays, PassedOver}
use Rattle.tlb_syntax.specs.Limits.{IsWithinLimits}
use Rattle.tlb_syntax.specs.Tree.{ExprView, SchemaView}
use Rattle.tlb_syntax.specs.Written.{Writes, WritesWord}
use Rattle.type_word.specs.Laws.{AtLeastOneAnswer, AtMostOneAnswer, NoAnswerOfMemory}

pub record Texts : Type 0 where
  pub written : (text : List ℕ) (s t : SchemaView) → Writes text s → Writes text t → s ≡ t
  pub refused : (text : List ℕ) (e f : GrammarError) → Refuses text e → Refuses text f → e ≡ f
  pub not_both : (text : List ℕ) (s : SchemaView) (e : GrammarError) → Writes text s → Refuses text e → ⊥
  pub some : (text : List ℕ) → ((s : SchemaView) × Writes text s) ⊎ ((e : GrammarError) × Refuses text e)

pub record Schemas : Type 0 where
  pub within : (text : List ℕ) (s : SchemaView) → Writes text s → IsWithinLimits s
  pub stays_within : KeptStaysWithin
  pub stays_kinded : KindedStays
  pub passed_over : PassedOver
  pub accepted_or_refused : AcceptedOrRefused
  pub has_no_refusal : AcceptedHasNoRefusal

pub record Words : Type 0 where
  pub one : AtMostOneAnswer
  pub some : AtLeastOneAnswer
  pub memory : NoAnswerOfMemory
  pub written : (text : List ℕ) (e f : ExprView) → WritesWord text e → WritesWord text f → e ≡ f

pub record Bags : Type 0 where
  pub tree : (file : List ℕ) (t u : Tree) → BagHolds file t → BagHolds file u → t ≡ u
  pub refused : (file : List ℕ) (e f : BagError) → BagRefused file e → BagRefused file f → e ≡ f
  pub not_both : (file : List ℕ) (t : Tree) (e : BagError) → BagHolds file t → BagRefused file e → ⊥
  pub some : (file : List ℕ) → ((t : Tree) × BagHolds file t) ⊎ ((e : BagError) × BagRefused file e)
