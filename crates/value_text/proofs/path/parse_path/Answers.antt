use Rattle.std.proofs.Common.{List, ℕ, map, subst, Err}
use Rattle.typed_value.specs.View.{stride}
use Rattle.typed_value.specs.declared.path.Path.{Path}
use Rattle.typed_value.specs.declared.path.Step.{Step}
use Rattle.value_text.specs.PathAnswer.{IfPathAnswered}
use Rattle.value_text.specs.PathText.{IsBadPath, PathWrites}
use Rattle.value_text.proofs.PathUnique.{error_bad, error_path, not_both, one_path}
use Rattle.value_text.proofs.path.parse_path.Goals as goal

pub returns-in-Ok-clause-path : goal.returns-in-Ok-clause-path
returns-in-Ok-clause-path c steps w =
    let P : List ℕ → Type 0 = λ text. PathWrites text (map stride c.in-Ok.steps) in
    one_path c.args.word.now (map stride c.in-Ok.steps) steps (subst P c.as_bytes.ensures.value c.in-Ok.ensures) w

pub returns-in-Ok-clause-bad : goal.returns-in-Ok-clause-bad
returns-in-Ok-clause-bad c place b =
    let P : List ℕ → Type 0 = λ text. PathWrites text (map stride c.in-Ok.steps) in
    not_both c.args.word.now (map stride c.in-Ok.steps) place (subst P c.as_bytes.ensures.value c.in-Ok.ensures) b

pub returns-in-Err-clause-path : goal.returns-in-Err-clause-path
returns-in-Err-clause-path c =
    let P : List ℕ → Type 0 = λ text. IfPathAnswered {X = List Step} (Err c.in-Err.error) (λ steps. PathWrites text (map stride steps)) (λ place. IsBadPath text place) in
    error_path c.args.word.now (λ (steps : List Step). map stride steps) (λ (path : Path). map stride path.steps) c.in-Err.error (subst P c.as_bytes.ensures.value c.in-Err.ensures)

pub returns-in-Err-clause-bad : goal.returns-in-Err-clause-bad
returns-in-Err-clause-bad c =
    let P : List ℕ → Type 0 = λ text. IfPathAnswered {X = List Step} (Err c.in-Err.error) (λ steps. PathWrites text (map stride steps)) (λ place. IsBadPath text place) in
    error_bad Path c.args.word.now (λ (steps : List Step). map stride steps) c.in-Err.error (subst P c.as_bytes.ensures.value c.in-Err.ensures)
