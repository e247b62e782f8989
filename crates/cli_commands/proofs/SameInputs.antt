-- What `read` answers for equal inputs.
use Rattle.std.proofs.Common.{◌≡◌, ℕ, List, Result, subst}
use Rattle.std.specs.Prelude.{Vec}
use Rattle.std.specs.declared.alloc.Global.{Global}
use Rattle.cell_nodes.specs.declared.tree.Mode.{Mode}
use Rattle.tlb_edge.specs.Files.{Name}
use Rattle.cli_stages.specs.Stage.{Answers}
use Rattle.cli_stages.specs.declared.stop.Stop.{Stop}
use Rattle.cli_commands.specs.Read.{Reads}
use Rattle.cli_commands.specs.View.{text_by}

pub reads-same : (mode : Mode) (w v : Name) (s t b a : List ℕ) (r : Result (Vec ℕ Global) Stop) → v ≡ w → t ≡ s → a ≡ b
    → Answers (Reads mode v t a) text_by r → Answers (Reads mode w s b) text_by r
reads-same mode w v s t b a r word schema bag given =
    let P : Name → Type 0 = λ x. Answers (Reads mode x t a) text_by r in
    let Q : List ℕ → Type 0 = λ x. Answers (Reads mode w x a) text_by r in
    let R : List ℕ → Type 0 = λ x. Answers (Reads mode w s x) text_by r in
    subst R bag (subst Q schema (subst P word given))
