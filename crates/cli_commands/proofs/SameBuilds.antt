-- What `build`, `tidy` and `make` answer for equal inputs.
use Rattle.std.proofs.Common.{◌≡◌, ◌∙◌, ap, ℕ, List, Option, Result, subst}
use Rattle.std.specs.Prelude.{Vec, unwrap_or}
use Rattle.std.specs.declared.alloc.Global.{Global}
use Rattle.tlb_edge.specs.Files.{Name}
use Rattle.cli_stages.specs.Stage.{Answers}
use Rattle.cli_stages.specs.declared.stop.Stop.{Stop}
use Rattle.cli_make.specs.Make.{Makes}
use Rattle.cli_commands.specs.Build.{Builds}
use Rattle.cli_commands.specs.Slots.{count_of}
use Rattle.cli_commands.specs.Tidy.{Tidies}
use Rattle.cli_commands.specs.View.{text_by}

pub builds-same : (w v : Name) (s t b a : List ℕ) (r : Result (Vec ℕ Global) Stop) → v ≡ w → t ≡ s → a ≡ b
    → Answers (Builds v t a) text_by r → Answers (Builds w s b) text_by r
builds-same w v s t b a r word schema file given =
    let P : Name → Type 0 = λ x. Answers (Builds x t a) text_by r in
    let Q : List ℕ → Type 0 = λ x. Answers (Builds w x a) text_by r in
    let R : List ℕ → Type 0 = λ x. Answers (Builds w s x) text_by r in
    subst R file (subst Q schema (subst P word given))

pub tidies-same : (w v : Name) (s t b a : List ℕ) (r : Result (Vec ℕ Global) Stop) → v ≡ w → t ≡ s → a ≡ b
    → Answers (Tidies v t a) text_by r → Answers (Tidies w s b) text_by r
tidies-same w v s t b a r word schema file given =
    let P : Name → Type 0 = λ x. Answers (Tidies x t a) text_by r in
    let Q : List ℕ → Type 0 = λ x. Answers (Tidies w x a) text_by r in
    let R : List ℕ → Type 0 = λ x. Answers (Tidies w s x) text_by r in
    subst R file (subst Q schema (subst P word given))

pub makes-same : (w v : Name) (n : ℕ) (m : Option ℕ) (r : Result (Vec ℕ Global) Stop) → n ≡ unwrap_or m 0 → m ≡ count_of v → v ≡ w
    → Answers (Makes n) text_by r → Answers (Makes (unwrap_or (count_of w) 0)) text_by r
makes-same w v n m r number count word given =
    let same : n ≡ unwrap_or (count_of w) 0 = number ∙ ap (λ o. unwrap_or o 0) (count ∙ ap count_of word) in
    let P : ℕ → Type 0 = λ x. Answers (Makes x) text_by r in
    subst P same given
