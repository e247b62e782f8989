-- What is answered for equal inputs.
use Rattle.std.proofs.Common.{◌≡◌, ℕ, List, Option, Some, Result, subst}
use Rattle.std.specs.Prelude.{IfSome, Vec}
use Rattle.std.specs.declared.alloc.Global.{Global}
use Rattle.cell_nodes.specs.declared.tree.Tree.{Tree}
use Rattle.tlb_edge.specs.Files.{Name}
use Rattle.tlb_syntax.specs.Tree.{SchemaView}
use Rattle.typed_value.specs.Values.{Plain}
use Rattle.cli_refusals.specs.Refusal.{Refusal}
use Rattle.cli_stages.specs.Bag.{Bag as BagStage}
use Rattle.cli_stages.specs.Proof.{Proof, ProofShows}
use Rattle.cli_stages.specs.Schema.{Schema}
use Rattle.cli_stages.specs.Stage.{Answers, Next}
use Rattle.cli_stages.specs.TypeWord.{ShownType}
use Rattle.cli_stages.specs.ValueText.{ValueText}
use Rattle.cli_stages.specs.declared.stop.Stop.{Stop}
use Rattle.cli_make.specs.Make.{MakesProof, MakesTree, MakesValue}
use Rattle.cli_make.specs.View.{text_by}

pub at-some : {X : Type 0} (P : X → Type 0) (found : Option X) (x : X) → found ≡ Some x → IfSome found P → P x
at-some P found x is holds = subst (λ o. IfSome o P) is holds

pub bag-same : {next : Tree → Result (List ℕ) Refusal → Type 0} (file bag : List ℕ) (r : Result (Vec ℕ Global) Stop)
    → file ≡ bag → Answers (Next (BagStage file) next) text_by r → Answers (Next (BagStage bag) next) text_by r
bag-same {next = next} file bag r is given =
    let P : List ℕ → Type 0 = λ x. Answers (Next (BagStage x) next) text_by r in subst P is given

pub schema-same : {next : SchemaView → Result (List ℕ) Refusal → Type 0} (file text : List ℕ)
    (r : Result (Vec ℕ Global) Stop) → file ≡ text → Answers (Next (Schema file) next) text_by r
    → Answers (Next (Schema text) next) text_by r
schema-same {next = next} file text r is given =
    let P : List ℕ → Type 0 = λ x. Answers (Next (Schema x) next) text_by r in subst P is given

pub text-same : {next : Plain → Result (List ℕ) Refusal → Type 0} (file text : List ℕ) (r : Result (Vec ℕ Global) Stop)
    → file ≡ text → Answers (Next (ValueText file) next) text_by r → Answers (Next (ValueText text) next) text_by r
text-same {next = next} file text r is given =
    let P : List ℕ → Type 0 = λ x. Answers (Next (ValueText x) next) text_by r in subst P is given

pub shown-same : {next : ProofShows → Result (List ℕ) Refusal → Type 0} (root hash : List ℕ) (s : SchemaView)
    (type : ShownType) (again : Tree) (r : Result (Vec ℕ Global) Stop) → root ≡ hash
    → Answers (Next (Proof (Some root) s type again) next) text_by r
    → Answers (Next (Proof (Some hash) s type again) next) text_by r
shown-same {next = next} root hash s type again r is given =
    let P : List ℕ → Type 0 = λ x. Answers (Next (Proof (Some x) s type again) next) text_by r in subst P is given

pub proof-same : (w v : Name) (s : SchemaView) (type : ShownType) (t p q : Tree) (r : Result (Vec ℕ Global) Stop) → w ≡ v
    → p ≡ q → Answers (MakesProof w s type t p) text_by r → Answers (MakesProof v s type t q) text_by r
proof-same w v s type t p q r word tree given =
    let P : Tree → Type 0 = λ x. Answers (MakesProof w s type t x) text_by r in
    let Q : Name → Type 0 = λ x. Answers (MakesProof x s type t q) text_by r in
    subst Q word (subst P tree given)

pub tree-same : (w : Name) (s : SchemaView) (type : ShownType) (t u : Tree) (r : Result (Vec ℕ Global) Stop) → t ≡ u
    → Answers (MakesTree w s type t) text_by r → Answers (MakesTree w s type u) text_by r
tree-same w s type t u r is given =
    let P : Tree → Type 0 = λ x. Answers (MakesTree w s type x) text_by r in subst P is given

pub word-same : (w v : Name) (s : SchemaView) (type : ShownType) (x : Plain) (r : Result (Vec ℕ Global) Stop) → w ≡ v
    → Answers (MakesValue w s type x) text_by r → Answers (MakesValue v s type x) text_by r
word-same w v s type x r is given =
    let P : Name → Type 0 = λ z. Answers (MakesValue z s type x) text_by r in subst P is given
