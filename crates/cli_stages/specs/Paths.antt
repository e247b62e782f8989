-- The stage of the words of paths, for a value: each writes a path that names something in it. This project's own.
use Rattle.std.specs.Prelude.{◌≡◌, ◌⊎◌, ℕ, ◌+◌, List, [], ◌∷◌, Result}
use Rattle.pruning.specs.Knowing.{NamesSomething}
use Rattle.tlb_edge.specs.Files.{Name}
use Rattle.typed_value.specs.Paths.{Stride}
use Rattle.typed_value.specs.Values.{Plain}
use Rattle.value_text.specs.PathText.{PathWrites}
use Rattle.cli_refusals.specs.Refusal.{Refusal, path}
use Rattle.cli_stages.specs.Stage.{stage}

-- the word writes this path, which names something in the value
pub record Chooses (v : Plain) (word : Name) (steps : List Stride) : Type 0 where
  pub writes : PathWrites word steps
  pub names : NamesSomething v steps

-- each word does so, in their order
abbrev pub AllChoose : Plain → List Name → List (List Stride) → Type 0
AllChoose v [] [] = Unit {0}
AllChoose v [] (steps ∷ paths) = ⊥
AllChoose v (word ∷ words) [] = ⊥
AllChoose v (word ∷ words) (steps ∷ paths) = Chooses v word steps × AllChoose v words paths

-- this is the number of the first word that doesn't; the first of the words has the number `first`
abbrev pub IsFirstBad : ℕ → Plain → List Name → ℕ → Type 0
IsFirstBad first v [] number = ⊥
IsFirstBad first v (word ∷ words) number =
    ((number ≡ first) × ((steps : List Stride) → Chooses v word steps → ⊥))
    ⊎ (((steps : List Stride) × Chooses v word steps) × IsFirstBad (first + 1) v words number)

-- the first word without a path that names something is refused, by its number from 1
abbrev pub RefusesPath : Plain → List Name → Refusal → Type 0
RefusesPath v words refusal = (number : ℕ) × IsFirstBad 1 v words number × (refusal ≡ path number)

-- or there is none
abbrev pub Paths : Plain → List Name → Result (List (List Stride)) Refusal → Type 0
Paths v words = stage (RefusesPath v words) (AllChoose v words)
