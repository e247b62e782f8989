-- What `view` answers for equal inputs.
use Rattle.std.proofs.Common.{◌≡◌, ℕ, List, Option, Result, subst}
use Rattle.std.specs.Prelude.{Vec}
use Rattle.std.specs.declared.alloc.Global.{Global}
use Rattle.tlb_edge.specs.Files.{Name}
use Rattle.cli_stages.specs.Stage.{Answers}
use Rattle.cli_stages.specs.declared.stop.Stop.{Stop}
use Rattle.cli_commands.specs.Slots.{root_hash}
use Rattle.cli_commands.specs.View.{text_by}
use Rattle.cli_commands.specs.Views.{Views}

pub views-same : (w v x y : Name) (h : Option (List ℕ)) (s t b a : List ℕ) (r : Result (Vec ℕ Global) Stop)
    → v ≡ w → y ≡ x → h ≡ root_hash y → t ≡ s → a ≡ b
    → Answers (Views v h t a) text_by r → Answers (Views w (root_hash x) s b) text_by r
views-same w v x y h s t b a r word root hash schema bag given =
    let O : Option (List ℕ) → Type 0 = λ z. Answers (Views v z t a) text_by r in
    let N : Name → Type 0 = λ z. Answers (Views v (root_hash z) t a) text_by r in
    let P : Name → Type 0 = λ z. Answers (Views z (root_hash x) t a) text_by r in
    let Q : List ℕ → Type 0 = λ z. Answers (Views w (root_hash x) z a) text_by r in
    let R : List ℕ → Type 0 = λ z. Answers (Views w (root_hash x) s z) text_by r in
    subst R bag (subst Q schema (subst P word (subst N root (subst O hash given))))
