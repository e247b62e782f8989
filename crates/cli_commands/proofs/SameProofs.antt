-- What `prove` answers for equal inputs.
use Rattle.std.proofs.Common.{◌≡◌, ℕ, List, Result, subst}
use Rattle.std.specs.Prelude.{Vec}
use Rattle.std.specs.declared.alloc.Global.{Global}
use Rattle.tlb_edge.specs.Files.{Name}
use Rattle.cli_stages.specs.Stage.{Answers}
use Rattle.cli_stages.specs.declared.stop.Stop.{Stop}
use Rattle.cli_commands.specs.Prove.{Proves}
use Rattle.cli_commands.specs.View.{text_by}

pub proves-same : (ps qs : List Name) (w v : Name) (s t b a : List ℕ) (r : Result (Vec ℕ Global) Stop) → qs ≡ ps → v ≡ w
    → t ≡ s → a ≡ b → Answers (Proves qs v t a) text_by r → Answers (Proves ps w s b) text_by r
proves-same ps qs w v s t b a r paths word schema file given =
    let O : List Name → Type 0 = λ x. Answers (Proves x v t a) text_by r in
    let P : Name → Type 0 = λ x. Answers (Proves ps x t a) text_by r in
    let Q : List ℕ → Type 0 = λ x. Answers (Proves ps w x a) text_by r in
    let R : List ℕ → Type 0 = λ x. Answers (Proves ps w s x) text_by r in
    subst R file (subst Q schema (subst P word (subst O paths given)))
